-- What the loops of sums and of the largest of numbers keep, as records, each with its laws: start, one turn, end. What the code computed comes as an
-- equation, as the laws of a width say it. Assumes nothing.
use Prim.Native.Nat.{ℕ, ◌+◌, ◌-◌, ◌*◌, ◌<◌, ◌≤◌}
use native.Mathlib.Omega.{arith}
use mathlib.Core.Path.{◌≡◌, subst}
use lib.Ieee.{Float, Format, add}
use Rattle.arithmetic_floats.specs.Float.{+zero, larger}
use Rattle.arithmetic_matrices.specs.Product.{sum}
use Rattle.arithmetic_matrices.specs.Norm.{largest}
use Rattle.arithmetic_matrices.proofs.ProductLaws.{sum_more}
use Rattle.arithmetic_matrices.proofs.NormLaws.{largest_more}

-- s is the sum of the first i of n numbers
pub record PartialSum (f : Format) (n : ℕ) (g : ℕ → Float) (s : Float) (i : ℕ) : Type 0 where
  pub within : i ≤ n
  pub total : s ≡ sum f i g

pub partial_start : {f : Format} {n : ℕ} {g : ℕ → Float} {s : Float} → s ≡ +zero → PartialSum f n g s 0
unfolding sum
partial_start e = record { within = omega arith; total = e }

pub partial_turn : {f : Format} {n : ℕ} {g : ℕ → Float} {s v r : Float} {i : ℕ} → PartialSum f n g s i → i < n → r ≡ add f s v → v ≡ g i → PartialSum f n g r (i + 1)
partial_turn p h q e = record { within = omega arith; total = rw (q, e, p.total, sum_more) }

pub partial_end : {f : Format} {n : ℕ} {g : ℕ → Float} {s : Float} {i : ℕ} → PartialSum f n g s i → n ≤ i → s ≡ sum f n g
partial_end {n = n} {i = i} p h = let e : i ≡ n = omega arith in rw e at p.total

-- s is the largest of +0 and the first i of n numbers
pub record Largest (n : ℕ) (g : ℕ → Float) (s : Float) (i : ℕ) : Type 0 where
  pub within : i ≤ n
  pub most : s ≡ largest i g

pub largest_start : {n : ℕ} {g : ℕ → Float} {s : Float} → s ≡ +zero → Largest n g s 0
unfolding largest
largest_start e = record { within = omega arith; most = e }

pub largest_turn : {n : ℕ} {g : ℕ → Float} {s v r : Float} {i : ℕ} → Largest n g s i → i < n → v ≡ g i → r ≡ larger s v → Largest n g r (i + 1)
largest_turn p h e q = record { within = omega arith; most = rw (q, e, p.most, largest_more) }

-- two numbers at a time
pub largest_two : {n : ℕ} {g : ℕ → Float} {s u v r t : Float} (k : ℕ) → Largest n g s (2 * k) → 2 * k + 1 < n → u ≡ g (2 * k) → v ≡ g (2 * k + 1) → r ≡ larger s u → t ≡ larger r v → Largest n g t (2 * (k + 1))
largest_two {n} {g} {t = t} k p h e d q b =
    let turn : 2 * k + 1 + 1 ≡ 2 * (k + 1) = omega arith in
    subst (Largest n g t) turn (largest_turn (largest_turn p (omega arith) e q) h d b)

pub largest_end : {n : ℕ} {g : ℕ → Float} {s : Float} {i : ℕ} → Largest n g s i → n ≤ i → s ≡ largest n g
largest_end {n} {i = i} p h = let e : i ≡ n = omega arith in rw e at p.most

-- the last number
pub largest_last : {n : ℕ} {g : ℕ → Float} {s v r : Float} {i : ℕ} → Largest n g s i → i + 1 ≡ n → v ≡ g (n - 1) → r ≡ larger s v → r ≡ largest n g
largest_last {n} {g} {v = v} {i = i} p e d q =
    let last : n - 1 ≡ i = omega arith in
    largest_end (largest_turn p (omega arith) (subst (λ (k : ℕ). v ≡ g k) last d) q) (omega arith)
