-- A workspace: 32 slots of 256 numbers. A matrix begins at a slot, whatever its order: up to order 16 it stands in one slot, and one of order 64 in
-- the 16 slots from its first on. Definitions only.
use Rattle.std.specs.Prelude.{ℕ, ◌*◌, ◌/◌, ◌≤◌, ◌≡◌, List, [], ◌∷◌, Bool, false, ◌||◌, eqb, length, Float}
use Rattle.arithmetic_floats.specs.Float.{+zero}
use Rattle.arithmetic_matrices.specs.Matrix.{tab, item, part, put}

-- the matrix of order n in slot s
unfoldable pub slot : ℕ → List Float → ℕ → List Float
unfolding part
slot n w s = part w (256 * s) (n * n)

-- w with the matrix x in slot s
unfoldable pub store : List Float → ℕ → List Float → List Float
unfolding put
store w s x = put w (256 * s) x

-- what every function on slots asks of the order and the workspace
pub record Room (n : ℕ) (w : List Float) : Type 0 where
  pub order : n ≤ 16
  pub space : 8192 ≤ length w

-- whether s is in the list
abbrev pub member : List ℕ → ℕ → Bool
member [] s = false
member (t ∷ ts) s = eqb s t || member ts s

-- w' has w's length, and w's numbers in every slot but those that S picks, and past the slots where S picks none there
pub record Only (S : ℕ → Bool) (w w' : List Float) : Type 0 where
  pub long : length w' ≡ length w
  pub kept : (i : ℕ) → S (i / 256) ≡ false → item w' i ≡ item w i

-- w with +0 in every slot
unfoldable pub cleared : List Float → List Float
unfolding put tab
cleared w = put w 0 (tab 8192 (λ i. +zero))
