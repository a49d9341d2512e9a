-- Tasks one after the other, and the sheets that are accepted: those that `SheetIs` describes, and no others. Assumes nothing.
use Prim.Native.Nat.{ℕ, zero, suc, ◌+◌, ◌-◌, ◌*◌, ◌≤◌, ◌<◌}
use mathlib.Core.Bool.{Bool, true, false, cond}
use mathlib.Core.Path.{◌≡◌, refl, ap, subst}
use mathlib.Core.List.{List}
use native.Mathlib.Omega.{arith}
use borrow.Author.Tests.{ltb-true, leb-true, lt-ltb, le-leb}
use lib.Dec.{ltb, leb}
use lib.ListN.{length}
use Rattle.sheet_encoding.specs.declared.parse.SheetRefusal.{SheetRefusal}
use Rattle.sheet_encoding.specs.declared.parse.SheetRefusal.TheVariants.{ByteMissingOrExtra, OutOfRange}
use Rattle.std.specs.Prelude.{Result, Ok, Err}
use Rattle.sheet_encoding.specs.declared.parse.Counts.{Counts}
use Rattle.sheet_encoding.specs.Limits.{task_limit, code_limit}
use Rattle.sheet_encoding.specs.Bytes.{byte_at}
use Rattle.sheet_encoding.specs.Parse.{Read, counts_of, matrix_size, directions_at, exponents_at, tasks_at, sheet_length, value_in, byte_in, then_read, bytes_after, section, order, direction_count, exponent_count, task_count, index_limit, task, tasks, parse_end, parse_each, parse_tasks, parse_exponents, parse_directions, parse_sheet, TaskIs, SheetIs}

-- ---- tasks

pub tasks_none : (s : List ℕ) (q d e : ℕ) → tasks s q d e 0 ≡ Ok 0
unfolding tasks
tasks_none s q d e = refl

pub tasks_more : (s : List ℕ) (q d e k : ℕ) → 0 < k → tasks s q d e k ≡ then_read (task s q d e) (λ _. tasks s (q + 2) d e (k - 1))
unfolding tasks
tasks_more s q d e zero h = absurd (omega arith)
tasks_more s q d e (suc k) h = let i : suc k - 1 ≡ k = omega arith in rw i

-- ---- an accepted sheet is as `SheetIs` says

-- what goes on had a value
pub record Went {A : Type 0} (x : Read) (k : ℕ → Result A SheetRefusal) (a : A) : Type 0 where
  pub value : ℕ
  pub is : x ≡ Ok value
  pub rest : k value ≡ Ok a

pub went : {A : Type 0} (x : Read) (k : ℕ → Result A SheetRefusal) (a : A) → then_read x k ≡ Ok a → Went x k a
went (Ok v) k a h = record { value = v; is = refl; rest = h }
went (Err why) k a h = let z : ◌≡◌ {A = ℕ} 0 1 = cc in absurd (omega arith)

-- a test that stands before a value passed
pub passed : {A : Type 0} (b : Bool) (x : Result A SheetRefusal) (why : SheetRefusal) (a : A) → cond b x (Err why) ≡ Ok a → (b ≡ true) × (x ≡ Ok a)
passed true x why a h = (refl, h)
passed false x why a h = let z : ◌≡◌ {A = ℕ} 0 1 = cc in absurd (omega arith)

pub same_value : {A : Type 0} (v u : A) → ◌≡◌ {A = Result A SheetRefusal} (Ok v) (Ok u) → v ≡ u
same_value v u h = cc

-- a value in range
pub record ValueIs (v lo hi w : ℕ) : Type 0 where
  pub same : v ≡ w
  pub least : lo ≤ w
  pub below : w < hi

pub value_is : (v p lo hi w : ℕ) → value_in v p lo hi ≡ Ok w → ValueIs v lo hi w
value_is v p lo hi w h =
    let a = passed (leb lo v) (cond (ltb v hi) (Ok v) (Err (OutOfRange p))) (OutOfRange p) w h in
    let b = passed (ltb v hi) (Ok v) (OutOfRange p) w a.1 in
    let e : v ≡ w = same_value v w b.1 in
    record { same = e; least = rw e at (leb-true lo v a.0); below = rw e at (ltb-true v hi b.0) }

-- a byte in range
pub record ByteIs (s : List ℕ) (p lo hi v : ℕ) : Type 0 where
  pub there : p < length s
  pub byte : byte_at s p ≡ v
  pub least : lo ≤ v
  pub below : v < hi

pub byte_in_is : (s : List ℕ) (p lo hi v : ℕ) → byte_in s p lo hi ≡ Ok v → ByteIs s p lo hi v
unfolding byte_in
byte_in_is s p lo hi v h =
    let a = passed (ltb p (length s)) (value_in (byte_at s p) p lo hi) (ByteMissingOrExtra p) v h in
    let b = value_is (byte_at s p) p lo hi v a.1 in
    record { there = ltb-true p (length s) a.0; byte = b.same; least = b.least; below = b.below }

-- a count with its items, of which the last ends at the position given
pub record CountIs (s : List ℕ) (p lo v end : ℕ) : Type 0 where
  pub byte : byte_at s p ≡ v
  pub least : lo ≤ v
  pub most : v ≤ 8
  pub items : end ≤ length s

counted : (s : List ℕ) (p lo v : ℕ) (first size : ℕ → ℕ) → then_read (byte_in s p lo 9) (λ u. bytes_after s (first u) (size u) u) ≡ Ok v → CountIs s p lo v (first v + size v)
counted s p lo v first size h =
    let g = went (byte_in s p lo 9) (λ u. bytes_after s (first u) (size u) u) v h in
    let u : ℕ = g.value in
    let k = passed (leb (first u + size u) (length s)) (Ok u) (ByteMissingOrExtra (length s)) v g.rest in
    let b = byte_in_is s p lo 9 u g.is in
    subst (λ (m : ℕ). CountIs s p lo m (first m + size m)) (same_value u v k.1) record { byte = b.byte; least = b.least; most = omega (arith, b.below); items = leb-true _ _ k.0 }

pub section_is : (s : List ℕ) (p size v : ℕ) → section s p size ≡ Ok v → CountIs s p 0 v (p + 1 + v * size)
unfolding section
section_is s p size v h = counted s p 0 v (λ _. p + 1) (λ u. u * size) h

pub order_is : (s : List ℕ) (n : ℕ) → order s ≡ Ok n → CountIs s 0 1 n (directions_at n)
unfolding order
order_is s n h = counted s 0 1 n (λ _. 1) matrix_size h

-- a task that is read is there, and in range
task_is : (s : List ℕ) (q d e v : ℕ) → task s q d e ≡ Ok v → (q + 1 < length s) × TaskIs s q d e
unfolding task
task_is s q d e v h =
    let g = went (byte_in s q 0 code_limit) (λ code. byte_in s (q + 1) 0 (index_limit code d e)) v h in
    let code : ℕ = g.value in
    let c = byte_in_is s q 0 code_limit code g.is in
    let i = byte_in_is s (q + 1) 0 (index_limit code d e) v g.rest in
    let b : byte_at s q ≡ code = c.byte in
    let u : byte_at s (q + 1) ≡ v = i.byte in
    (i.there, record { code = rw b c.below; index = rw (b, u) i.below })

tasks_each : (s : List ℕ) (d e : ℕ) (k q v : ℕ) → tasks s q d e k ≡ Ok v → (i : ℕ) → i < k → (q + 2 * i + 1 < length s) × TaskIs s (q + 2 * i) d e
unfolding tasks
tasks_each s d e zero q v h i l = absurd (omega arith)
tasks_each s d e (suc k) q v h zero l =
    let g = went (task s q d e) (λ _. tasks s (q + 2) d e k) v h in
    let z : q ≡ q + 2 * 0 = omega arith in
    subst (λ (p : ℕ). (p + 1 < length s) × TaskIs s p d e) z (task_is s q d e g.value g.is)
tasks_each s d e (suc k) q v h (suc i) l =
    let g = went (task s q d e) (λ _. tasks s (q + 2) d e k) v h in
    let z : q + 2 + 2 * i ≡ q + 2 * suc i = omega arith in
    subst (λ (p : ℕ). (p + 1 < length s) × TaskIs s p d e) z (tasks_each s d e k (q + 2) v g.rest i (omega arith))

-- the last task is there, so that the sheet is at least as long as it is counted
tasks_long : (s : List ℕ) (d e k q v : ℕ) → 1 ≤ k → tasks s q d e k ≡ Ok v → q + 2 * k ≤ length s
tasks_long s d e k q v l h = let last = (tasks_each s d e k q v h (k - 1) (omega arith)).0 in omega (arith, last)

-- the end: the counts are those that were read, and nothing follows
end_is : (s : List ℕ) (n d e t n' d' e' t' : ℕ) → parse_end s n d e t ≡ Ok (counts_of n' d' e' t') → (length s ≤ sheet_length n d e t) × (n ≡ n') × (d ≡ d') × (e ≡ e') × (t ≡ t')
unfolding parse_end
end_is s n d e t n' d' e' t' h =
    let x = passed (leb (length s) (sheet_length n d e t)) (Ok (counts_of n d e t)) (ByteMissingOrExtra (sheet_length n d e t)) (counts_of n' d' e' t') h in
    let g = same_value (counts_of n d e t) (counts_of n' d' e' t') x.1 in
    (leb-true _ _ x.0, ap (λ (c : Counts). c.order) g, ap (λ (c : Counts). c.directions) g, ap (λ (c : Counts). c.exponents) g, ap (λ (c : Counts). c.tasks) g)

sheet_as : (s : List ℕ) (m i j k n d e t : ℕ) → m ≡ n → i ≡ d → j ≡ e → k ≡ t → SheetIs s m i j k → SheetIs s n d e t
sheet_as s m i j k n d e t p q r u x = rw (← p, ← q, ← r, ← u) x

pub sheet_is : (s : List ℕ) (n d e t : ℕ) → parse_sheet s ≡ Ok (counts_of n d e t) → SheetIs s n d e t
unfolding parse_sheet parse_directions parse_exponents parse_tasks parse_each
sheet_is s n d e t h =
    let a = went (order s) (λ m. parse_directions s m) (counts_of n d e t) h in
    let m : ℕ = a.value in
    let b = went (direction_count s m) (λ i. parse_exponents s m i) (counts_of n d e t) a.rest in
    let i : ℕ = b.value in
    let c = went (exponent_count s m i) (λ j. parse_tasks s m i j) (counts_of n d e t) b.rest in
    let j : ℕ = c.value in
    let f = went (task_count s m i j) (λ k. parse_each s m i j k) (counts_of n d e t) c.rest in
    let k : ℕ = f.value in
    let g = went (tasks s (tasks_at m i j + 1) i j k) (λ _. parse_end s m i j k) (counts_of n d e t) f.rest in
    let z = end_is s m i j k n d e t g.rest in
    let o = order_is s m a.is in
    let ds = section_is s (directions_at m) (matrix_size m) i b.is in
    let es = section_is s (exponents_at m i) 8 j c.is in
    let ts = byte_in_is s (tasks_at m i j) 1 (suc task_limit) k f.is in
    let least : sheet_length m i j k ≤ length s = tasks_long s i j k (tasks_at m i j + 1) g.value ts.least g.is in
    sheet_as s m i j k n d e t z.1 z.2 z.3 z.4 record {
      order_byte = o.byte;
      least = o.least;
      most = o.most;
      directions_byte = ds.byte;
      directions = ds.most;
      exponents_byte = es.byte;
      exponents = es.most;
      tasks_byte = ts.byte;
      some = ts.least;
      count = omega (arith, ts.below);
      each = λ r l. (tasks_each s i j k (tasks_at m i j + 1) g.value g.is r l).1;
      long = omega (arith, least, z.0);
    }

-- ---- what `SheetIs` describes is accepted

pub value_yes : (v p lo hi : ℕ) → lo ≤ v → v < hi → value_in v p lo hi ≡ Ok v
value_yes v p lo hi a b = rw (le-leb lo v a, lt-ltb v hi b)

byte_in_value : (s : List ℕ) (p lo hi v : ℕ) → p < length s → byte_at s p ≡ v → lo ≤ v → v < hi → byte_in s p lo hi ≡ Ok v
unfolding byte_in
byte_in_value s p lo hi v l b m h = rw (lt-ltb p (length s) l, b) (value_yes v p lo hi m h)

bytes_after_value : (s : List ℕ) (p k v : ℕ) → p + k ≤ length s → bytes_after s p k v ≡ Ok v
bytes_after_value s p k v l = rw (le-leb (p + k) (length s) l)

section_value : (s : List ℕ) (p size v : ℕ) → byte_at s p ≡ v → v ≤ 8 → p + 1 + v * size ≤ length s → section s p size ≡ Ok v
unfolding section
section_value s p size v b m l = rw (byte_in_value s p 0 9 v (omega arith) b (omega arith) (omega arith), bytes_after_value s (p + 1) (v * size) v l)

order_value : (s : List ℕ) (n : ℕ) → byte_at s 0 ≡ n → 1 ≤ n → n ≤ 8 → directions_at n ≤ length s → order s ≡ Ok n
unfolding order
order_value s n b least m l = rw (byte_in_value s 0 1 9 n (omega arith) b least (omega arith), bytes_after_value s 1 (matrix_size n) n l)

task_value : (s : List ℕ) (q d e : ℕ) → q + 1 < length s → TaskIs s q d e → task s q d e ≡ Ok (byte_at s (q + 1))
unfolding task
task_value s q d e l t =
    rw (byte_in_value s q 0 code_limit (byte_at s q) (omega arith) refl (omega arith) t.code, byte_in_value s (q + 1) 0 (index_limit (byte_at s q) d e) (byte_at s (q + 1)) l refl (omega arith) t.index)

tasks_value : (s : List ℕ) (d e k q : ℕ) → q + 2 * k ≤ length s → ((i : ℕ) → i < k → TaskIs s (q + 2 * i) d e) → tasks s q d e k ≡ Ok 0
unfolding tasks
tasks_value s d e zero q l h = refl
tasks_value s d e (suc k) q l h =
    let first : TaskIs s q d e = subst (λ (p : ℕ). TaskIs s p d e) (omega arith) (h 0 (omega arith)) in
    let others : (i : ℕ) → i < k → TaskIs s (q + 2 + 2 * i) d e = λ i m. subst (λ (p : ℕ). TaskIs s p d e) (omega arith) (h (suc i) (omega arith)) in
    rw (task_value s q d e (omega arith) first) (tasks_value s d e k (q + 2) (omega arith) others)

pub is_sheet : (s : List ℕ) (n d e t : ℕ) → SheetIs s n d e t → parse_sheet s ≡ Ok (counts_of n d e t)
unfolding parse_sheet parse_directions parse_exponents parse_tasks parse_each parse_end
is_sheet s n d e t h =
    let o = order_value s n h.order_byte h.least h.most (omega (arith, h.long)) in
    let ds = section_value s (directions_at n) (matrix_size n) d h.directions_byte h.directions (omega (arith, h.long)) in
    let es = section_value s (exponents_at n d) 8 e h.exponents_byte h.exponents (omega (arith, h.long)) in
    let ts = byte_in_value s (tasks_at n d e) 1 (suc task_limit) t (omega (arith, h.long)) h.tasks_byte h.some (omega (arith, h.count)) in
    let each = tasks_value s d e t (tasks_at n d e + 1) (omega (arith, h.long)) h.each in
    rw (o, ds, es, ts, each, le-leb (length s) (sheet_length n d e t) (omega (arith, h.long)))
