-- Lines one after the other, and the tasks of an accepted sheet. Assumes nothing.
use Prim.Native.Nat.{ℕ, ◌+◌, ◌*◌, ◌≤◌, ◌<◌}
use native.Mathlib.Omega.{arith}
use native.Mathlib.Numerals.{add-one}
use native.Mathlib.Nat.{mul-le-mul_right, suc-mul}
use mathlib.Core.Path.{◌≡◌, refl, sym, ap, ◌∙◌, subst}
use mathlib.Core.Bool.{true, true≢false}
use mathlib.Core.List.{List, [], ◌++◌}
use borrow.Author.Tests.{eq-eqb, ne_eqb}
use lib.ListN.{length}
use lib.Ieee.{Format}
use Rattle.sheet_encoding.specs.declared.parse.SheetRefusal.{SheetRefusal}
use Rattle.sheet_encoding.specs.declared.parse.Counts.{Counts}
use Rattle.std.specs.Prelude.{Ok, Err}
use Rattle.sheet_encoding.specs.Bytes.{byte_at}
use Rattle.sheet_encoding.specs.Text.{result_line, carrying}
use Rattle.sheet_encoding.specs.Parse.{Parse, sheet_numbered, matrix_size, directions_at, exponents_at, task_at, takes_direction, index_limit, parse_sheet, SheetIs}
use Rattle.sheet_tasks.specs.Tasks.{task_line}
use Rattle.sheet_tasks.specs.Kernels.{TaskReady}
use Rattle.sheet.specs.Lines.{task_lines, counted_lines, lines_of, sheet_lines}

-- ---- the lines

pub lines_none : (f : Format) (s : List ℕ) (n d q : ℕ) → task_lines f s n d q 0 ≡ []
unfolding task_lines
lines_none f s n d q = refl

pub lines_more : (f : Format) (s : List ℕ) (n d q k : ℕ) → task_lines f s n d q (k + 1) ≡ task_lines f s n d q k ++ task_line f s n d q k
unfolding task_lines
lines_more f s n d q k = subst (λ (m : ℕ). task_lines f s n d q m ≡ task_lines f s n d q k ++ task_line f s n d q k) (sym (add-one k)) refl

pub lines_refused : (f : Format) (s : List ℕ) (x : Parse) (why : SheetRefusal) → x ≡ parse_sheet s → x ≡ Err why → result_line f 0 (carrying [] (sheet_numbered why)) ≡ sheet_lines f s
unfolding sheet_lines lines_of
lines_refused f s x why e h = rw (← e, h)

pub lines_accepted : (f : Format) (s : List ℕ) (x : Parse) (c : Counts) → x ≡ parse_sheet s → x ≡ Ok c → counted_lines f s c ≡ sheet_lines f s
unfolding sheet_lines lines_of
lines_accepted f s x c q h = rw (← q, h)

-- ---- the tasks

-- item i of c items of a size, the first at p
item-within : (p size i c l : ℕ) → i < c → p + c * size ≤ l → p + i * size + size ≤ l
item-within p size i c l h k = let m : (i + 1) * size ≤ c * size = mul-le-mul_right size (omega arith) in let e : (i + 1) * size ≡ i * size + size = rw (add-one i) (suc-mul i size) in omega (arith, m, e)

limit_exponent : (code d e i : ℕ) → code ≡ 3 → i < index_limit code d e → i < e
limit_exponent code d e i h l = subst (λ (k : ℕ). i < k) (simp (eq-eqb code 3 h)) l

limit_direction : (code d e i : ℕ) → takes_direction code ≡ true → i < index_limit code d e → i < d
limit_direction code d e i h l = subst (λ (m : ℕ). i < m) (simp (ne_eqb code 3 (λ z. true≢false (sym h ∙ ap takes_direction z)), h)) l

pub task_ready : (s : List ℕ) (n d e t k : ℕ) → SheetIs s n d e t → k < t → TaskReady s (task_at n d e k) n d
task_ready s n d e t k z h =
    let q : ℕ = task_at n d e k in
    let task = z.each k h in
    record {
      there = omega (arith, z.long);
      directions = z.directions;
      exponent = λ c. item-within (exponents_at n d + 1) 8 (byte_at s (q + 1)) e (length s) (limit_exponent (byte_at s q) d e (byte_at s (q + 1)) c task.index) (omega (arith, z.long));
      direction = λ c. item-within (directions_at n + 1) (matrix_size n) (byte_at s (q + 1)) d (length s) (limit_direction (byte_at s q) d e (byte_at s (q + 1)) c task.index) (omega (arith, z.long));
      index = λ c. let l = limit_direction (byte_at s q) d e (byte_at s (q + 1)) c task.index in omega (arith, z.directions);
    }
