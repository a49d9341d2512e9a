-- Words of bytes, and numbers stored one by one. Assumes nothing.
use Prim.Native.Nat.{ℕ, zero, suc, ◌+◌, ◌-◌, ◌*◌, ◌^◌, ◌≤◌, ◌<◌}
use mathlib.Core.Path.{◌≡◌, refl, ap, ◌∙◌}
use mathlib.Core.List.{List}
use native.Mathlib.Omega.{arith}
use native.Mathlib.Nat.{pow-succ', pow-le-pow_right}
use lib.ListN.{length, set}
use lib.Ieee.{Float, Format}
use Rattle.arithmetic_matrices.specs.Matrix.{tab, put}
use Rattle.arithmetic_matrices.proofs.MatrixLaws.{length-tab}
use Rattle.arithmetic_matrices.proofs.PartLaws.{put_all, put_store0}
use Rattle.sheet_encoding.specs.Bytes.{byte_at, word_at, number_at, numbers_at}

pub word_at_none : (s : List ℕ) (p : ℕ) → word_at 0 s p ≡ 0
unfolding word_at
word_at_none s p = refl

pub word_at_more : (k : ℕ) (s : List ℕ) (p : ℕ) → 0 < k → word_at k s p ≡ byte_at s p + 256 * word_at (k - 1) s (p + 1)
unfolding word_at
word_at_more zero s p h = absurd (omega arith)
word_at_more (suc k) s p h = let e : suc k - 1 ≡ k = omega arith in rw e

-- a word of k bytes is below 256 ^ k, which fits 64 bits up to k = 8
pub word_lt : (k b r : ℕ) → 0 < k → b < 256 → r < 256 ^ (k - 1) → b + 256 * r < 256 ^ k
word_lt zero b r h p q = absurd (omega arith)
word_lt (suc k) b r h p q = let e : suc k - 1 ≡ k = omega arith in let q' : r < 256 ^ k = rw e at q in omega (arith, pow-succ' 256 k)

pub word_fits : (k : ℕ) → k ≤ 8 → 256 ^ k ≤ 2 ^ 64
word_fits k h = pow-le-pow_right {n = 256} (omega arith) {i = k} {j = 8} h

-- number i from p on
abbrev pub entry_at : Format → List ℕ → ℕ → ℕ → Float
entry_at f s p i = number_at f s (p + 8 * i)

-- one number more is stored, and the last
module _ (f : Format) (s : List ℕ) (p : ℕ) (m₀ m : List Float) (i : ℕ) where
  pub read_more : (v : Float) → m ≡ put m₀ 0 (tab i (entry_at f s p)) → v ≡ number_at f s (p + 8 * i) → set m i v ≡ put m₀ 0 (tab (i + 1) (entry_at f s p))
  read_more v e h = ap (λ (x : List Float). set x i v) e ∙ put_store0 m₀ i (entry_at f s p) v h

  pub read_all : m ≡ put m₀ 0 (tab i (entry_at f s p)) → i ≡ length m₀ → m ≡ numbers_at f s p (length m₀)
  unfolding numbers_at
  read_all e h = e ∙ ap (λ (k : ℕ). put m₀ 0 (tab k (entry_at f s p))) h ∙ put_all m₀ (tab (length m₀) (entry_at f s p)) (length-tab (length m₀) (entry_at f s p))

pub length-numbers_at : (f : Format) (s : List ℕ) (p k : ℕ) → length (numbers_at f s p k) ≡ k
unfolding numbers_at
length-numbers_at f s p k = length-tab k (entry_at f s p)
