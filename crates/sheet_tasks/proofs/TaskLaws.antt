-- The result of a task from what its call leaves, and the function of each code. Assumes nothing.
use Prim.Native.Nat.{ℕ, ◌*◌, ◌≤◌, ◌<◌}
use mathlib.Core.Path.{◌≡◌, refl, ap, sym, subst, ◌∙◌}
use mathlib.Core.Bool.{true, false}
use mathlib.Core.List.{List, [], ◌∷◌, ◌++◌, append-nil}
use borrow.Author.Tests.{lt-ltb, le-ltb}
use lib.Dec.{lit<, lit≤}
use lib.ListN.{length}
use lib.Ieee.{Float, Format, binary64}
use Rattle.arithmetic_questions.specs.Result.{Result, refused, done, exit, outcome}
use Rattle.arithmetic_questions.specs.Answers.{Outcome, reported}
use Rattle.arithmetic_questions.specs.Outputs.{Both, OneOutputWith, TwoOutputsWith}
use Rattle.arithmetic_questions.specs.Reports.{report_at}
use Rattle.arithmetic_questions.specs.declared.answer.Report.{Report}
use Rattle.arithmetic_questions.proofs.ReportLaws.{report_as}
use Rattle.functions_definitions.specs.Derivatives.{Condition}
use Rattle.functions_definitions.specs.Conditions.{Conditioned}
use Rattle.functions_definitions.specs.Calls.{cond_expm}
use Rattle.functions_definitions.specs.Reports.{cond_exp_report}
use Rattle.sheet_encoding.specs.Bytes.{numbers_at}
use Rattle.sheet_encoding.specs.Text.{result_line, carrying}
use Rattle.sheet_encoding.specs.Parse.{direction_at, exponent_at, takes_direction}
use Rattle.sheet_encoding.specs.Kernels.{Lined}
use Rattle.sheet_tasks.specs.Tasks.{workspace_length, value_for, value_report, derivative_for, derivative_report, both, ratio, exponent_for, task_result, task_report, ending, task_numbers}
use Rattle.sheet_tasks.specs.Functions.{value_code, derivative_code}
use Rattle.sheet_tasks.specs.Kernels.{SheetMatrix, value_numbers, derivative_numbers, condition_numbers}
use Rattle.sheet_tasks.specs.declared.task.Sheet.{Sheet}
use Rattle.sheet_tasks.specs.declared.function.Value.{Value}
use Rattle.sheet_tasks.specs.declared.function.Value.TheVariants.{Expm, Logm, Sqrtm, Powm, Cosm, Sinm}
use Rattle.sheet_tasks.specs.declared.function.Derivative.{Derivative}
use Rattle.sheet_tasks.specs.declared.function.Derivative.TheVariants.{FrechetExpm, FrechetLogm, FrechetSqrtm, FrechetSqrtmSylvester}

-- ---- an outcome with the outputs that the call left is the definition's result

pub carried_one : (x : Result (List Float)) (o : Outcome) (before after : List Float) → reported o ≡ outcome x → after ≡ exit (λ v. v) x before → carrying (after ++ []) (reported o) ≡ x
unfolding carrying outcome exit
carried_one (refused k i j) o before after e v = ap (carrying (after ++ [])) e
carried_one (done s m) o before after e v = ap (carrying (after ++ [])) e ∙ ap (done s) (append-nil after ∙ v)

pub carried_both : (x : Result Both) (o : Outcome) (first first' second second' : List Float) → reported o ≡ outcome x → first' ≡ exit (λ (b : Both). b.value) x first
    → second' ≡ exit (λ (b : Both). b.derivative) x second → carrying (first' ++ second') (reported o) ≡ both x
unfolding carrying outcome exit both
carried_both (refused k i j) o first first' second second' e v d = ap (carrying (first' ++ second')) e
carried_both (done s b) o first first' second second' e v d = ap (carrying (first' ++ second')) e ∙ rw (v, d)

pub carried_ratio : (x : Result Condition) (o : Outcome) (c : Condition) → Conditioned x o c → carrying ((c.ratio ∷ []) ++ []) (reported o) ≡ ratio x
unfolding carrying outcome exit ratio
carried_ratio (refused k i j) o c v = ap (carrying ((c.ratio ∷ []) ++ [])) v.outcome
carried_ratio (done s d) o c v = ap (carrying ((c.ratio ∷ []) ++ [])) v.outcome ∙ rw v.condition

-- the smallest pivot after the numbers: y is what the definition gives, r what it reports, ρ the answer's report
pub carried_ending : {A : Type 0} (y : Result A) (o : Outcome) (m : List Float) {x : Result (List Float)} (r ρ : Report) → reported o ≡ outcome y → ρ ≡ report_at y r → carrying m (reported o) ≡ x
    → carrying (m ++ (ρ.smallest ∷ [])) (reported o) ≡ ending r x
unfolding carrying ending report_at exit
carried_ending y o m {x} r ρ h k e = go (reported o) (k ∙ sym (report_as y r o h)) ∙ ap (ending r) e
  where
    go : (q : Result (Unit {0})) → ρ ≡ report_at q r → carrying (m ++ (ρ.smallest ∷ [])) q ≡ ending r (carrying m q)
    go (refused k i j) l = refl
    go (done s a) l = ap (λ (z : Report). done s (m ++ (z.smallest ∷ []))) l

-- the same line, of a result that is given in another way
pub lined_as : (f : Format) (task : ℕ) {x y : Result (List Float)} {o : List ℕ} {at : ℕ} {o' : List ℕ} {r : ℕ} → x ≡ y → Lined o at (result_line f task x) o' r → Lined o at (result_line f task y) o' r
lined_as f task {x} {y} {o} {at} {o'} {r} e l = subst (λ (z : Result (List Float)). Lined o at (result_line f task z) o' r) e l

-- ---- a call whose outputs have n * n numbers, and whose workspace is the sheet's

pub chosen_one : (n : ℕ) (g : ℕ → ℕ → Result (List Float)) (r : Report) {ρ : Report} {o : Outcome} {x x' w w' : List Float} → length x ≡ n * n → length w ≡ workspace_length
    → OneOutputWith false (g (length x) (length w)) o x x' w w' × (ρ ≡ report_at (g (length x) (length w)) r)
    → OneOutputWith false (g (n * n) workspace_length) o x x' w w' × (ρ ≡ report_at (g (n * n) workspace_length) r)
chosen_one n g r {ρ} {o} {x} {x'} {w} {w'} h k d =
    let d1 = subst (λ (l : ℕ). OneOutputWith false (g l (length w)) o x x' w w' × (ρ ≡ report_at (g l (length w)) r)) h d in
    subst (λ (l : ℕ). OneOutputWith false (g (n * n) l) o x x' w w' × (ρ ≡ report_at (g (n * n) l) r)) k d1

pub chosen_two : (n : ℕ) (g : ℕ → ℕ → ℕ → Result Both) (r : Report) {ρ : Report} {o : Outcome} {x x' y y' w w' : List Float} → length x ≡ n * n → length y ≡ n * n → length w ≡ workspace_length
    → TwoOutputsWith false (g (length x) (length y) (length w)) o x x' y y' w w' × (ρ ≡ report_at (g (length x) (length y) (length w)) r)
    → TwoOutputsWith false (g (n * n) (n * n) workspace_length) o x x' y y' w w' × (ρ ≡ report_at (g (n * n) (n * n) workspace_length) r)
chosen_two n g r {ρ} {o} {x} {x'} {y} {y'} {w} {w'} h i k d =
    let d1 = subst (λ (l : ℕ). TwoOutputsWith false (g l (length y) (length w)) o x x' y y' w w' × (ρ ≡ report_at (g l (length y) (length w)) r)) h d in
    let d2 = subst (λ (l : ℕ). TwoOutputsWith false (g (n * n) l (length w)) o x x' y y' w w' × (ρ ≡ report_at (g (n * n) l (length w)) r)) i d1 in
    subst (λ (l : ℕ). TwoOutputsWith false (g (n * n) (n * n) l) o x x' y y' w w' × (ρ ≡ report_at (g (n * n) (n * n) l) r)) k d2

-- ---- the kinds of functions

value_lt : (v : Value) → value_code v < 6
value_lt Expm = lit< tt
value_lt Logm = lit< tt
value_lt Sqrtm = lit< tt
value_lt Powm = lit< tt
value_lt Cosm = lit< tt
value_lt Sinm = lit< tt

derivative_is : (d : Derivative) → (6 ≤ derivative_code d) × (takes_direction (derivative_code d) ≡ true)
derivative_is FrechetExpm = (lit≤ tt, refl)
derivative_is FrechetLogm = (lit≤ tt, refl)
derivative_is FrechetSqrtm = (lit≤ tt, refl)
derivative_is FrechetSqrtmSylvester = (lit≤ tt, refl)

-- the numbers of a task by the kind of its code, in any format; a is the sheet's matrix
module _ (f : Format) (s : List ℕ) (n d code i : ℕ) (a : List Float) (h : a ≡ numbers_at f s 1 (n * n)) where
  pub task_value : code < 6 → ending (value_report f n a (exponent_for f s code (exponent_at n d i)) code) (value_for f n a (exponent_for f s code (exponent_at n d i)) code) ≡ task_numbers f s n d code i
  unfolding task_result task_report
  task_value l = rw (h, lt-ltb code 6 l)

  pub task_derivative : 6 ≤ code → takes_direction code ≡ true → ending (derivative_report f n a (numbers_at f s (direction_at n i) (n * n)) code) (both (derivative_for f n a (numbers_at f s (direction_at n i) (n * n)) code)) ≡ task_numbers f s n d code i
  unfolding task_result task_report
  task_derivative l k = rw (h, le-ltb code 6 l, k)

  pub task_condition : 6 ≤ code → takes_direction code ≡ false → ending (cond_exp_report f n a) (ratio (cond_expm f n n a workspace_length)) ≡ task_numbers f s n d code i
  unfolding task_result task_report
  task_condition l k = rw (h, le-ltb code 6 l, k)

-- what the task with this code and index gives, from the sheet and its matrix
module _ (x : Sheet) (code i : ℕ) (h : SheetMatrix x) where
  abbrev numbers : Result (List Float)
  numbers = task_numbers binary64 x.bytes.now x.counts.order x.counts.directions code i

  pub value_task : (v : Value) → code ≡ value_code v → value_numbers x (value_code v) i ≡ numbers
  value_task v e = rw e (task_value binary64 x.bytes.now x.counts.order x.counts.directions (value_code v) i x.matrix.now h (value_lt v))

  pub derivative_task : (d : Derivative) → code ≡ derivative_code d → derivative_numbers x (derivative_code d) i ≡ numbers
  derivative_task d e =
      let k = derivative_is d in
      rw e (task_derivative binary64 x.bytes.now x.counts.order x.counts.directions (derivative_code d) i x.matrix.now h k.0 k.1)

  pub condition_task : (6 ≤ code) × (takes_direction code ≡ false) → condition_numbers x ≡ numbers
  condition_task (l, k) = task_condition binary64 x.bytes.now x.counts.order x.counts.directions code i x.matrix.now h l k
