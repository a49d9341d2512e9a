-- Questions one after the other, and what it means that all of them pass. Assumes nothing.
use Prim.Native.Nat.{ℕ, zero, suc, ◌+◌, ◌-◌, ◌*◌, ◌≤◌, ◌<◌}
use mathlib.Core.Path.{◌≡◌, refl, sym, subst}
use mathlib.Core.List.{List}
use native.Mathlib.Omega.{arith}
use borrow.Author.Tests.{leb-true, eqb-true, lt-ltb, le-leb, eq-eqb}
use lib.Dec.{leb, eqb}
use lib.ListN.{length}
use Rattle.sheet_encoding.specs.declared.parse.SheetRefusal.TheVariants.{WrongLength}
use Rattle.std.specs.Prelude.{Ok}
use Rattle.sheet_encoding.specs.Limits.{task_limit, code_limit}
use Rattle.sheet_encoding.specs.Bytes.{byte_at}
use Rattle.sheet_encoding.specs.Parse.{Read, value_in, then_read, index_limit, directions_at, exponents_at, tasks_at, sheet_length, TaskIs}
use Rattle.sheet_encoding.proofs.ParseLaws.{went, passed, same_value, value_is, value_yes}
use Rattle.sheet_writing.specs.Sections.{Sections}
use Rattle.sheet_writing.specs.Written.{given_in, given_task, given_tasks, task_ranges, ranges, exactly, lengths, questions}
use Rattle.sheet_writing.specs.Kernels.{InRange, SheetRoom}

-- ---- tasks

pub given_tasks_none : (ts : List ℕ) (q d e j : ℕ) → given_tasks ts q d e j 0 ≡ Ok 0
unfolding given_tasks
given_tasks_none ts q d e j = refl

pub given_tasks_more : (ts : List ℕ) (q d e j k : ℕ) → 0 < k → given_tasks ts q d e j k ≡ then_read (given_task ts q d e j) (λ _. given_tasks ts q d e (j + 2) (k - 1))
unfolding given_tasks
given_tasks_more ts q d e j zero h = absurd (omega arith)
given_tasks_more ts q d e j (suc k) h = let i : suc k - 1 ≡ k = omega arith in rw i

-- ---- counts, codes and indices in range

-- a value in range, and what follows it
range_step : (v p lo hi w : ℕ) (k : ℕ → Read) → then_read (value_in v p lo hi) k ≡ Ok w → (lo ≤ v) × (v < hi) × (k v ≡ Ok w)
range_step v p lo hi w k h =
    let g = went (value_in v p lo hi) k w h in
    let i = value_is v p lo hi g.value g.is in
    subst (λ (z : ℕ). (lo ≤ z) × (z < hi) × (k z ≡ Ok w)) (sym i.same) (i.least, i.below, g.rest)

-- a byte of the tasks that is there
given_value : (ts : List ℕ) (j p hi : ℕ) → j < length ts → given_in ts j p hi ≡ value_in (byte_at ts j) p 0 hi
given_value ts j p hi l = rw (lt-ltb j (length ts) l)

given_task_is : (ts : List ℕ) (q d e j v : ℕ) → j + 1 < length ts → given_task ts q d e j ≡ Ok v → TaskIs ts j d e
unfolding given_task
given_task_is ts q d e j v l h =
    let c = range_step (byte_at ts j) (q + j) 0 code_limit v (λ code. given_in ts (j + 1) (q + j + 1) (index_limit code d e)) (rw (← given_value ts j (q + j) code_limit (omega arith)) h) in
    let i = value_is (byte_at ts (j + 1)) (q + j + 1) 0 (index_limit (byte_at ts j) d e) v (rw (← given_value ts (j + 1) (q + j + 1) (index_limit (byte_at ts j) d e) l) c.2) in
    record { code = c.1; index = rw i.same i.below }

given_each : (ts : List ℕ) (q d e k j v : ℕ) → j + 2 * k ≤ length ts → given_tasks ts q d e j k ≡ Ok v → (i : ℕ) → i < k → TaskIs ts (j + 2 * i) d e
unfolding given_tasks
given_each ts q d e zero j v l h i m = absurd (omega arith)
given_each ts q d e (suc k) j v l h zero m =
    let g = went (given_task ts q d e j) (λ _. given_tasks ts q d e (j + 2) k) v h in
    subst (λ (p : ℕ). TaskIs ts p d e) (omega arith) (given_task_is ts q d e j g.value (omega arith) g.is)
given_each ts q d e (suc k) j v l h (suc i) m =
    let g = went (given_task ts q d e j) (λ _. given_tasks ts q d e (j + 2) k) v h in
    subst (λ (p : ℕ). TaskIs ts p d e) (omega arith) (given_each ts q d e k (j + 2) v (omega arith) g.rest i (omega arith))

-- what 16 passes: the counts, and each task that the slice reaches
pub record Ranged (x : Sections) : Type 0 where
  pub counts : InRange x
  pub each : 2 * x.tasks ≤ length x.task → (i : ℕ) → i < x.tasks → TaskIs x.task (2 * i) x.directions x.exponents

pub ranges_is : (x : Sections) (v : ℕ) → ranges x ≡ Ok v → Ranged x
unfolding ranges task_ranges
ranges_is x v h =
    let n : ℕ = x.order in
    let d : ℕ = x.directions in
    let e : ℕ = x.exponents in
    let t : ℕ = x.tasks in
    let a = range_step n 0 1 9 v _ h in
    let b = range_step d (directions_at n) 0 9 v _ a.2 in
    let c = range_step e (exponents_at n d) 0 9 v _ b.2 in
    let g = range_step t (tasks_at n d e) 1 (suc task_limit) v _ c.2 in
    record {
      counts = record { least = a.0; most = omega (arith, a.1); directions = omega (arith, b.1); exponents = omega (arith, c.1); some = g.0; count = omega (arith, g.1) };
      each = λ l i m. subst (λ (p : ℕ). TaskIs x.task p d e) (omega arith) (given_each x.task (tasks_at n d e + 1) d e t 0 v (omega arith) g.2 i m);
    }

-- ---- lengths

-- a length that was the one wanted, and what follows it
exact_step : (wanted found v : ℕ) (k : ℕ → Read) → then_read (exactly wanted found) k ≡ Ok v → (found ≡ wanted) × (k found ≡ Ok v)
exact_step wanted found v k h =
    let g = went (exactly wanted found) k v h in
    let p = passed (eqb found wanted) (Ok found) (WrongLength found wanted) g.value g.is in
    (eqb-true found wanted p.0, subst (λ (z : ℕ). k z ≡ Ok v) (sym (same_value found g.value p.1)) g.rest)

lengths_is : (x : Sections) (room v : ℕ) → InRange x → lengths x room ≡ Ok v → SheetRoom x room
unfolding lengths
lengths_is x room v r h =
    let a = exact_step (x.order * x.order) (length x.matrix) v _ h in
    let b = exact_step (x.directions * (x.order * x.order)) (length x.direction) v _ a.1 in
    let c = exact_step x.exponents (length x.exponent) v _ b.1 in
    let g = exact_step (2 * x.tasks) (length x.task) v _ c.1 in
    let size : ℕ = sheet_length x.order x.directions x.exponents x.tasks in
    let o = passed (leb size room) (Ok room) (WrongLength room size) v g.1 in
    record { range = r; matrix = a.0; direction = b.0; exponent = c.0; task = g.0; output = leb-true size room o.0 }

-- ---- all questions pass exactly where the sections are as `Accepted` says

pub record Accepted (x : Sections) (room : ℕ) : Type 0 where
  pub room_is : SheetRoom x room
  pub each : (i : ℕ) → i < x.tasks → TaskIs x.task (2 * i) x.directions x.exponents

pub questions_is : (x : Sections) (room v : ℕ) → questions x room ≡ Ok v → Accepted x room
unfolding questions
questions_is x room v h =
    let g = went (ranges x) (λ _. lengths x room) v h in
    let r = ranges_is x g.value g.is in
    let l = lengths_is x room v r.counts g.rest in
    record { room_is = l; each = r.each (omega (arith, l.task)) }

given_task_yes : (ts : List ℕ) (q d e j : ℕ) → j + 1 < length ts → TaskIs ts j d e → given_task ts q d e j ≡ Ok (byte_at ts (j + 1))
unfolding given_task
given_task_yes ts q d e j l t =
    rw (lt-ltb j (length ts) (omega arith), lt-ltb (j + 1) (length ts) l, value_yes (byte_at ts j) (q + j) 0 code_limit (omega arith) t.code, value_yes (byte_at ts (j + 1)) (q + j + 1) 0 (index_limit (byte_at ts j) d e) (omega arith) t.index)

given_tasks_yes : (ts : List ℕ) (q d e k j : ℕ) → j + 2 * k ≤ length ts → ((i : ℕ) → i < k → TaskIs ts (j + 2 * i) d e) → given_tasks ts q d e j k ≡ Ok 0
unfolding given_tasks
given_tasks_yes ts q d e zero j l h = refl
given_tasks_yes ts q d e (suc k) j l h =
    let first : TaskIs ts j d e = subst (λ (p : ℕ). TaskIs ts p d e) (omega arith) (h 0 (omega arith)) in
    let others : (i : ℕ) → i < k → TaskIs ts (j + 2 + 2 * i) d e = λ i m. subst (λ (p : ℕ). TaskIs ts p d e) (omega arith) (h (suc i) (omega arith)) in
    rw (given_task_yes ts q d e j (omega arith) first) (given_tasks_yes ts q d e k (j + 2) (omega arith) others)

pub questions_yes : (x : Sections) (room : ℕ) → Accepted x room → questions x room ≡ Ok room
unfolding questions ranges task_ranges lengths
questions_yes x room a =
    let n : ℕ = x.order in
    let d : ℕ = x.directions in
    let e : ℕ = x.exponents in
    let t : ℕ = x.tasks in
    let m = a.room_is in
    let r = m.range in
    let tasks = given_tasks_yes x.task (tasks_at n d e + 1) d e t 0 (omega (arith, m.task)) (λ i l. subst (λ (p : ℕ). TaskIs x.task p d e) (omega arith) (a.each i l)) in
    rw (value_yes n 0 1 9 r.least (omega (arith, r.most)), value_yes d (directions_at n) 0 9 (omega arith) (omega (arith, r.directions)), value_yes e (exponents_at n d) 0 9 (omega arith) (omega (arith, r.exponents)), value_yes t (tasks_at n d e) 1 (suc task_limit) r.some (omega (arith, r.count)), tasks, eq-eqb _ _ m.matrix, eq-eqb _ _ m.direction, eq-eqb _ _ m.exponent, eq-eqb _ _ m.task, le-leb _ _ m.output)
