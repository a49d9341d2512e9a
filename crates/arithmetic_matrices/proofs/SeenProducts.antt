-- Laws of loops of products over any numbers that are seen as floats. Assumes nothing.
use Prim.Native.Nat.{ℕ, ◌+◌, ◌-◌, ◌<◌}
use native.Mathlib.Nat.{zero-add}
use native.Mathlib.Omega.{arith}
use mathlib.Core.Path.{◌≡◌, ◌∙◌, sym, ap}
use mathlib.Core.List.{List}
use lib.ListN.{length, get_or, replicate, take, drop}
use lib.Ieee.{Float, Format, nan, add, mul}
use Rattle.std.proofs.lemmas.List.{get_or-replicate, length-replicate, get_or-take, get_or-drop}
use Rattle.arithmetic_floats.specs.Float.{+zero}
use Rattle.arithmetic_matrices.specs.Matrix.{tab, item}
use Rattle.arithmetic_matrices.specs.Product.{sum, dot}
use Rattle.arithmetic_matrices.proofs.MatrixLaws.{tab_is, get_or-tab}
use Rattle.arithmetic_matrices.proofs.PartLaws.{read_next}
use Rattle.arithmetic_matrices.proofs.ProductLaws.{dot_more}
use Rattle.arithmetic_matrices.proofs.LoopLaws.{Stored}

-- ---- a sum of products

-- it starts at +0
pub dot_started : (f : Format) (a b : ℕ → Float) {s : Float} → s ≡ +zero → s ≡ dot f 0 a b
unfolding dot sum
dot_started f a b e = e

-- t is the sum s of the first k products, and the product p of v and u, which are the next two numbers
pub dot_added : (f : Format) {k : ℕ} (a b : ℕ → Float) {s v u p t : Float} → t ≡ add f s p → p ≡ mul f v u → s ≡ dot f k a b → v ≡ a k → u ≡ b k → t ≡ dot f (k + 1) a b
dot_added f {k} a b d e hs hv hu = d ∙ (λ i. add f (hs i) ((e ∙ (λ j. mul f (hv j) (hu j))) i)) ∙ sym (dot_more f k a b)

-- ---- the rest of a list, from place o on

pub rest_at : {A : Type 0} (l : List A) (o p : ℕ) (v : A) → v ≡ get_or (take (length l - o) (drop o l)) p v → o + p < length l → v ≡ get_or l (o + p) v
rest_at l o p v e h = e ∙ get_or-take (length l - o) (drop o l) p v (omega arith) ∙ get_or-drop o l p v

-- ---- a table

pub item_of_tab : {m : ℕ} (F : ℕ → Float) {x : List Float} (i : ℕ) → x ≡ tab m F → i < m → item x i ≡ F i
item_of_tab {m} F i e h = ap (λ (l : List Float). item l i) e ∙ get_or-tab m F i nan h

-- the next number of a table that is replaced number by number
pub item_to_replace : {m : ℕ} {F : ℕ → Float} (G : ℕ → Float) {w₀ w : List Float} {k : ℕ} → Stored 0 m F w₀ w k → w₀ ≡ tab m G → k < m → item w k ≡ G k
item_to_replace {F = F} G {w₀ = w₀} {k = k} s e h = ap (λ (l : List Float). item l k) s.list ∙ rw zero-add at (read_next w₀ 0 k F) ∙ item_of_tab G k e h

module _ {A : Type 0} (float : A → Float) (floats : List A → List Float) where
  -- one number again and again
  pub seen_replicate : (m : ℕ) (z : A) (F : ℕ → Float) → ((l : List A) → length (floats l) ≡ length l)
      → ((l : List A) (k : ℕ) (v : A) → v ≡ get_or l k v → k < length l → float v ≡ get_or (floats l) k nan) → ((i : ℕ) → float z ≡ F i) → floats (replicate m z) ≡ tab m F
  seen_replicate m z F long at_place e =
      tab_is nan m F (floats (replicate m z)) (long (replicate m z) ∙ length-replicate m z)
      (λ i h. sym (at_place (replicate m z) i z (sym (get_or-replicate m i z z h)) (omega (arith, length-replicate m z))) ∙ e i)
