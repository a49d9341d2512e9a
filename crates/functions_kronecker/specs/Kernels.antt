-- The blocks of a Kronecker product and sum, as the code forms them. Only the contracts and proofs of kernels cite it. Definitions only.
use Rattle.std.specs.Prelude.{ℕ, ◌<◌, ◌≡◌, List, Float}
use Rattle.std.specs.Float.{Format}
use Rattle.std.specs.Float.Ieee.{add, mul}
use Rattle.arithmetic_floats.specs.Float.{one}
use Rattle.arithmetic_matrices.specs.Matrix.{at}
use Rattle.arithmetic_matrices.specs.Product.{diagonal_entry}

-- ---- entry (k, l) of block (i, j), which is formed from entry (i, j) of a and all of b

-- of the product: a has n columns, b has q
unfoldable pub kron_entry : Format → ℕ → List Float → ℕ → List Float → ℕ → ℕ → ℕ → ℕ → Float
kron_entry f n a q b i j k l = mul f (at n a i j) (at q b k l)

-- of the sum: a is of order m, b of order p
unfoldable pub kron_sum_entry : Format → ℕ → List Float → ℕ → List Float → ℕ → ℕ → ℕ → ℕ → Float
kron_sum_entry f m a p b i j k l = add f (mul f (at m a i j) (diagonal_entry one k l)) (mul f (diagonal_entry one i j) (at p b k l))

-- row k of row i of blocks is that of e: a number r of which post holds, made from entry (i, j) of a, that of the identity, and entry (k, l) of b, is
-- entry (k, l) of block (i, j); a has n columns, b has q
abbrev pub FormedBy : {T : Type 0} → (T → Float) → ℕ → List Float → ℕ → List Float → ℕ → ℕ → (T → T → T → ℕ → ℕ → T → Type 0) → (ℕ → ℕ → ℕ → ℕ → Float) → Type 0
FormedBy {T} float n a q b i k post e =
    (j l : ℕ) (s d x r : T) → j < n → l < q → float s ≡ at n a i j → float d ≡ diagonal_entry one i j → float x ≡ at q b k l → post s d x k l r → float r ≡ e i j k l
