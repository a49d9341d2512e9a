-- Matrices of floats, row by row in one list: entry (i, j) of a matrix with c columns stands at i * c + j. Definitions only.
use Rattle.std.specs.Prelude.{ℕ, zero, suc, ◌+◌, ◌*◌, ◌≤◌, List, [], ◌∷◌, ◌++◌, ◌⊎◌, get_or, Float}
use Rattle.std.proofs.lemmas.List.Edits.{sets}
use Rattle.std.specs.Float.{nan}

-- g 0, g 1, .., g (k - 1)
unfoldable pub tab : {A : Type 0} → ℕ → (ℕ → A) → List A
tab zero g = []
tab (suc k) g = g zero ∷ tab k (λ i. g (suc i))

-- the r by c matrix whose entry (i, j) is g i j: its rows one after the other
unfoldable pub grid : ℕ → ℕ → (ℕ → ℕ → Float) → List Float
unfolding tab
grid zero c g = []
grid (suc r) c g = tab c (g zero) ++ grid r c (λ i. g (suc i))

-- entry i of a list, and entry (i, j) of a matrix with c columns
abbrev pub item : List Float → ℕ → Float
item x i = get_or x i nan

unfoldable pub at : ℕ → List Float → ℕ → ℕ → Float
at c a i j = item a (i * c + j)

-- column j of a matrix of r rows and c columns
unfoldable pub column : ℕ → ℕ → List Float → ℕ → List Float
unfolding tab at
column r c a j = tab r (λ i. at c a i j)

-- ---- parts of a list

-- the k numbers of w from place o on
unfoldable pub part : List Float → ℕ → ℕ → List Float
unfolding tab
part w o k = tab k (λ i. item w (o + i))

-- w with the numbers of xs in the places from o on
unfoldable pub put : List Float → ℕ → List Float → List Float
put w o xs = sets w o xs

-- the k places from x on and the m places from y on have none in common
abbrev pub Apart : ℕ → ℕ → ℕ → ℕ → Type 0
Apart x k y m = (x + k ≤ y) ⊎ (y + m ≤ x)
