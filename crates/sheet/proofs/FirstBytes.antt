-- The first 4,709 bytes decide what is written for a sheet: no longer one is accepted, and all are refused as their first 4,709 bytes are. Assumes nothing.
use Prim.Native.Nat.{ℕ, zero, suc, ◌+◌, ◌*◌, ◌≤◌, ◌<◌}
use native.Mathlib.Omega.{arith}
use native.Mathlib.Nat.{mul-le-mul, mul-le-mul_right}
use mathlib.Core.Path.{◌≡◌, refl, ap, subst}
use mathlib.Core.Bool.{Bool, true, false}
use mathlib.Core.List.{List}
use borrow.Author.Tests.{lt-ltb, le-leb, lt-leb, ltb-true, ltb-false}
use lib.Dec.{ltb}
use lib.ListN.{length, take, length-take}
use lib.Seq.{get_or-take, take_all}
use lib.Ieee.{Format}
use Rattle.std.specs.Prelude.{Ok, Err}
use Rattle.sheet_encoding.specs.Bytes.{byte_at}
use Rattle.sheet_encoding.specs.Limits.{task_limit, code_limit}
use Rattle.sheet_encoding.specs.Parse.{Read, Parse, matrix_size, directions_at, exponents_at, tasks_at, sheet_length, byte_in, bytes_after, then_read, section, order, direction_count, exponent_count, task_count, index_limit, task, tasks, parse_end, parse_each, parse_tasks, parse_exponents, parse_directions, parse_sheet}
use Rattle.sheet.specs.Lines.{lines_of, sheet_lines}
use Rattle.sheet_encoding.proofs.ParseLaws.{byte_in_is, section_is, order_is}

-- ---- two sheets that are read alike

abbrev IsRefused : Parse → Type 0
IsRefused (Ok c) = ⊥
IsRefused (Err why) = Unit {0}

-- the same refusal
record Alike (x x' : Parse) : Type 0 where
  same : x ≡ x'
  refused : IsRefused x

read_same : (x x' : Read) (k k' : ℕ → Read) → x ≡ x' → ((v : ℕ) → x ≡ Ok v → k v ≡ k' v) → then_read x k ≡ then_read x' k'
read_same (Ok v) x' k k' e h = subst (λ (z : Read). k v ≡ then_read z k') e (h v refl)
read_same (Err why) x' k k' e h = subst (λ (z : Read). Err why ≡ then_read z k') e refl

parse_same : (x x' : Read) (k k' : ℕ → Parse) → x ≡ x' → ((v : ℕ) → x ≡ Ok v → Alike (k v) (k' v)) → Alike (then_read x k) (then_read x' k')
parse_same (Ok v) x' k k' e h = subst (λ (z : Read). Alike (k v) (then_read z k')) e (h v refl)
parse_same (Err why) x' k k' e h = subst (λ (z : Read). Alike (Err why) (then_read z k')) e record { same = refl; refused = tt }

-- ---- two sheets of at least 4,709 bytes, of which the first 4,709 are the same

module _ (s s' : List ℕ) (l : 4709 ≤ length s) (l' : 4709 ≤ length s') (same : (p : ℕ) → p < 4709 → byte_at s p ≡ byte_at s' p) where
  byte_same : (p lo hi : ℕ) → p < 4709 → byte_in s p lo hi ≡ byte_in s' p lo hi
  unfolding byte_in
  byte_same p lo hi h = rw (lt-ltb p (length s) (omega arith), lt-ltb p (length s') (omega arith), same p h)

  after_same : (p k v : ℕ) → p + k ≤ 4709 → bytes_after s p k v ≡ bytes_after s' p k v
  after_same p k v h = rw (le-leb (p + k) (length s) (omega arith), le-leb (p + k) (length s') (omega arith))

  section_same : (p size : ℕ) → p + 1 + 8 * size ≤ 4709 → section s p size ≡ section s' p size
  unfolding section
  section_same p size h =
      read_same (byte_in s p 0 9) (byte_in s' p 0 9) (λ v. bytes_after s (p + 1) (v * size) v) (λ v. bytes_after s' (p + 1) (v * size) v) (byte_same p 0 9 (omega arith))
      (λ v e. let m : v * size ≤ 8 * size = mul-le-mul_right size (omega (arith, (byte_in_is s p 0 9 v e).below)) in after_same (p + 1) (v * size) v (omega arith))

  order_same : order s ≡ order s'
  unfolding order
  order_same =
      read_same (byte_in s 0 1 9) (byte_in s' 0 1 9) (λ n. bytes_after s 1 (matrix_size n) n) (λ n. bytes_after s' 1 (matrix_size n) n) (byte_same 0 1 9 (omega arith))
      (λ n e. let h : n ≤ 8 = omega (arith, (byte_in_is s 0 1 9 n e).below) in after_same 1 (matrix_size n) n (omega (arith, mul-le-mul h h)))

  task_same : (q d e : ℕ) → q + 1 < 4709 → task s q d e ≡ task s' q d e
  unfolding task
  task_same q d e h =
      read_same (byte_in s q 0 code_limit) (byte_in s' q 0 code_limit) (λ code. byte_in s (q + 1) 0 (index_limit code d e)) (λ code. byte_in s' (q + 1) 0 (index_limit code d e)) (byte_same q 0 code_limit (omega arith))
      (λ code z. byte_same (q + 1) 0 (index_limit code d e) h)

  tasks_same : (d e k q : ℕ) → q + 2 * k ≤ 4709 → tasks s q d e k ≡ tasks s' q d e k
  unfolding tasks
  tasks_same d e zero q h = refl
  tasks_same d e (suc k) q h = read_same (task s q d e) (task s' q d e) (λ _. tasks s (q + 2) d e k) (λ _. tasks s' (q + 2) d e k) (task_same q d e (omega arith)) (λ v z. tasks_same d e k (q + 2) (omega arith))

  end_same : (n d e t : ℕ) → sheet_length n d e t < 4709 → Alike (parse_end s n d e t) (parse_end s' n d e t)
  unfolding parse_end
  end_same n d e t h = rw (lt-leb (length s) (sheet_length n d e t) (omega arith), lt-leb (length s') (sheet_length n d e t) (omega arith)) record { same = refl; refused = tt }

  each_same : (n d e t : ℕ) → sheet_length n d e t < 4709 → Alike (parse_each s n d e t) (parse_each s' n d e t)
  unfolding parse_each
  each_same n d e t h =
      let q : ℕ = tasks_at n d e + 1 in
      parse_same (tasks s q d e t) (tasks s' q d e t) (λ _. parse_end s n d e t) (λ _. parse_end s' n d e t) (tasks_same d e t q (omega arith)) (λ v z. end_same n d e t h)

  parse_tasks_same : (n d e : ℕ) → tasks_at n d e ≤ 4675 → Alike (parse_tasks s n d e) (parse_tasks s' n d e)
  unfolding parse_tasks
  parse_tasks_same n d e h =
      let p : ℕ = tasks_at n d e in
      parse_same (task_count s n d e) (task_count s' n d e) (λ t. parse_each s n d e t) (λ t. parse_each s' n d e t) (byte_same p 1 (suc task_limit) (omega arith))
      (λ t z. each_same n d e t (omega (arith, (byte_in_is s p 1 (suc task_limit) t z).below)))

  exponents_same : (n d : ℕ) → exponents_at n d ≤ 4610 → Alike (parse_exponents s n d) (parse_exponents s' n d)
  unfolding parse_exponents
  exponents_same n d h =
      let p : ℕ = exponents_at n d in
      parse_same (exponent_count s n d) (exponent_count s' n d) (λ e. parse_tasks s n d e) (λ e. parse_tasks s' n d e) (section_same p 8 (omega arith))
      (λ e z. parse_tasks_same n d e (omega (arith, (section_is s p 8 e z).most)))

  directions_same : (n : ℕ) → n ≤ 8 → Alike (parse_directions s n) (parse_directions s' n)
  unfolding parse_directions
  directions_same n h =
      let q = mul-le-mul h h in
      let p : ℕ = directions_at n in
      let size : ℕ = matrix_size n in
      parse_same (direction_count s n) (direction_count s' n) (λ d. parse_exponents s n d) (λ d. parse_exponents s' n d) (section_same p size (omega arith))
      (λ d z. let m : d * size ≤ 8 * 512 = mul-le-mul {n₁ = d} {m₁ = size} {n₂ = 8} {m₂ = 512} (section_is s p size d z).most (omega arith) in exponents_same n d (omega arith))

  sheet_same : Alike (parse_sheet s) (parse_sheet s')
  unfolding parse_sheet
  sheet_same = parse_same (order s) (order s') (λ n. parse_directions s n) (λ n. parse_directions s' n) order_same (λ n z. directions_same n (order_is s n z).most)

  lines_same : (f : Format) → sheet_lines f s ≡ sheet_lines f s'
  unfolding sheet_lines lines_of
  lines_same f = go (parse_sheet s) (parse_sheet s') sheet_same.same sheet_same.refused
    where
      go : (x x' : Parse) → x ≡ x' → IsRefused x → lines_of f s x ≡ lines_of f s' x'
      go (Ok c) x' e h = absurd h
      go (Err why) x' e h = ap (lines_of f s') e

-- ---- the claim

pub first_bytes : (f : Format) (s : List ℕ) (m : ℕ) → 4709 ≤ m → sheet_lines f (take m s) ≡ sheet_lines f s
first_bytes f s m h = go (ltb m (length s)) refl
  where
    go : (b : Bool) → ltb m (length s) ≡ b → sheet_lines f (take m s) ≡ sheet_lines f s
    go true e =
        let long : m < length s = ltb-true m (length s) e in
        lines_same (take m s) s (simp length-take (omega arith)) (omega arith) (λ p k. get_or-take m s p 0 (omega arith)) f
    go false e = ap (sheet_lines f) (take_all m s (ltb-false m (length s) e))
