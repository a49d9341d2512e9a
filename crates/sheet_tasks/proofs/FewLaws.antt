-- No task has more than 64 halvings. Assumes nothing.
use Prim.Native.Nat.{ℕ, ◌+◌}
use mathlib.Core.Path.{◌≡◌, sym, subst}
use mathlib.Core.Bool.{Bool, true, false, cond}
use mathlib.Core.List.{List}
use lib.IntN.{ℤ, pos, negsuc}
use lib.Dec.{lit≤, eqb}
use lib.Ieee.{Float, Format, binary64, add}
use Rattle.arithmetic_floats.specs.Float.{integer_of, one}
use Rattle.arithmetic_matrices.specs.Product.{times_m, transpose_m}
use Rattle.arithmetic_matrices.specs.Norm.{norm1}
use Rattle.arithmetic_questions.specs.Result.{Result, refused, done, ◌>>=◌, outcome}
use Rattle.arithmetic_questions.specs.Questions.{Call, Profile, asked, answer}
use Rattle.arithmetic_questions.specs.Answers.{Outcome, reported}
use Rattle.arithmetic_questions.specs.Outputs.{Both}
use Rattle.functions_definitions.specs.Roots.{square_root}
use Rattle.functions_definitions.specs.Logarithm.{logarithm}
use Rattle.functions_definitions.specs.Powers.{halvings_for, exp_m, whole_power, fractional_power, is_whole, power_m}
use Rattle.functions_definitions.specs.Trigonometric.{trigonometric_halvings, cos_m, sin_m}
use Rattle.functions_definitions.specs.Derivatives.{block_quarters, frechet_exp_m, second_logarithm, frechet_log_m, root_derivative, root_with_derivative, frechet_sqrt_m, frechet_sqrt_sylvester_m, unit_direction, conditioned, cond_exp_m}
use Rattle.functions_definitions.specs.Exponential.{block}
use Rattle.functions_definitions.specs.Calls.{expm, logm, sqrtm, powm, cosm, sinm, frechet_expm, frechet_logm, frechet_sqrtm, frechet_sqrtm_sylvester, cond_expm}
use Rattle.functions_definitions.proofs.HalvingLaws.{Limited, halvings_limited}
use Rattle.sheet_encoding.specs.Kernels.{Few}
use Rattle.sheet_tasks.specs.Tasks.{value_for, derivative_for}

-- ---- halvings that a norm sets

few-halvings : {A : Type 0} (x : Float) (g : ℕ → A) → Few (halvings_for x >>= λ s. done s (g s))
unfolding ◌>>=◌
few-halvings {A} x g = go (halvings_for x) (halvings_limited x)
  where
    go : (q : Result ℕ) → Limited q → Few {A = A} (q >>= λ s. done s (g s))
    go (refused k i j) h = tt
    go (done t s) h = h

-- ---- one step after the other

few_bind : {A B : Type 0} (q : Result A) (g : A → Result B) → ((a : A) → Few (g a)) → Few (q >>= g)
unfolding ◌>>=◌
few_bind (refused k x y) g h = tt
few_bind (done s a) g h = h a

few_cond : {A : Type 0} (b : Bool) (x y : Result A) → Few x → Few y → Few (cond b x y)
few_cond true x y h i = h
few_cond false x y h i = i

few-answer : {A : Type 0} (p : Profile) (c : Call) (r : Result A) → Few r → Few (answer p c r)
unfolding answer
few-answer p c r h = few_bind (asked p c) (λ _. r) (λ _. h)

-- ---- the functions

few-exp_m : (f : Format) (n : ℕ) (a : List Float) → Few (exp_m f n a)
unfolding exp_m
few-exp_m f n a = few-halvings (norm1 f n a) _

few-cos_m : (f : Format) (n : ℕ) (a : List Float) → Few (cos_m f n a)
unfolding cos_m trigonometric_halvings
few-cos_m f n a = few-halvings (add f (norm1 f n a) one) _

few-sin_m : (f : Format) (n : ℕ) (a : List Float) → Few (sin_m f n a)
unfolding sin_m trigonometric_halvings
few-sin_m f n a = few-halvings (add f (norm1 f n a) one) _

few_log : (f : Format) (n : ℕ) (a : List Float) → Few (logarithm f n a)
unfolding logarithm
few_log f n a = few_bind _ _ (λ r. few_bind _ _ (λ s. lit≤ tt))

few-root : (f : Format) (n : ℕ) (a : List Float) → Few (square_root f n a)
unfolding square_root
few-root f n a = few_cond (eqb n 1) _ _ (lit≤ tt) (few_bind _ _ (λ p. lit≤ tt))

few_whole : (f : Format) (n : ℕ) (a : List Float) (z : ℤ) → Few (whole_power f n a z)
unfolding whole_power
few_whole f n a (pos e) = lit≤ tt
few_whole f n a (negsuc e) = few_bind _ _ (λ b. lit≤ tt)

few-power : (f : Format) (n : ℕ) (a : List Float) (p : Float) → Few (power_m f n a p)
unfolding power_m fractional_power
few-power f n a p = few_cond (is_whole p) _ _ (few_whole f n a (integer_of binary64 p)) (few_bind (logarithm f n a) _ (λ l. few_bind (exp_m f n (times_m f n p l)) _ (λ x. lit≤ tt)))

few_quarters : (n : ℕ) (r : Result (List Float)) → Few r → Few (block_quarters n r)
unfolding block_quarters
few_quarters n (refused k x y) h = tt
few_quarters n (done s b) h = h

few-frechet_exp_m : (f : Format) (n : ℕ) (a e : List Float) → Few (frechet_exp_m f n a e)
unfolding frechet_exp_m
few-frechet_exp_m f n a e = few_quarters n (exp_m f (n + n) (block n a e)) (few-exp_m f (n + n) (block n a e))

few-frechet_log_m : (f : Format) (n : ℕ) (a e : List Float) → Few (frechet_log_m f n a e)
unfolding frechet_log_m second_logarithm
few-frechet_log_m f n a e = few_bind _ _ (λ l. few_bind _ _ (λ m. lit≤ tt))

few-root_derivative : (f : Format) (n : ℕ) (second : List Float → List Float) (a e : List Float) → Few (root_with_derivative f n second a e)
unfolding root_with_derivative
few-root_derivative f n second a e = few_bind _ _ (λ s. few_bind (root_derivative f n s (second s) e) _ (λ x. lit≤ tt))

few-conditioned : (f : Format) (n : ℕ) (r : Result Both) → Few r → Few (conditioned f n r)
unfolding conditioned
few-conditioned f n (refused k x y) h = tt
few-conditioned f n (done s b) h = h

few-cond_exp_m : (f : Format) (n : ℕ) (a : List Float) → Few (cond_exp_m f n a)
unfolding cond_exp_m
few-cond_exp_m f n a = few-conditioned f n (frechet_exp_m f n a (unit_direction f n)) (few-frechet_exp_m f n a (unit_direction f n))

-- ---- the tasks

pub few-value : (f : Format) (n : ℕ) (a : List Float) (p : Float) (code : ℕ) → Few (value_for f n a p code)
unfolding value_for expm logm sqrtm powm cosm sinm
few-value f n a p code =
    few_cond (eqb code 0) _ _ (few-answer _ _ (exp_m f n a) (few-exp_m f n a))
    (few_cond (eqb code 1) _ _ (few-answer _ _ (logarithm f n a) (few_log f n a))
    (few_cond (eqb code 2) _ _ (few-answer _ _ (square_root f n a) (few-root f n a))
    (few_cond (eqb code 3) _ _ (few-answer _ _ (power_m f n a p) (few-power f n a p))
    (few_cond (eqb code 4) _ _ (few-answer _ _ (cos_m f n a) (few-cos_m f n a)) (few-answer _ _ (sin_m f n a) (few-sin_m f n a))))))

pub few-derivative : (f : Format) (n : ℕ) (a e : List Float) (code : ℕ) → Few (derivative_for f n a e code)
unfolding derivative_for frechet_expm frechet_logm frechet_sqrtm frechet_sqrtm_sylvester frechet_sqrt_m frechet_sqrt_sylvester_m
few-derivative f n a e code =
    few_cond (eqb code 6) _ _ (few-answer _ _ (frechet_exp_m f n a e) (few-frechet_exp_m f n a e))
    (few_cond (eqb code 7) _ _ (few-answer _ _ (frechet_log_m f n a e) (few-frechet_log_m f n a e))
    (few_cond (eqb code 8) _ _ (few-answer _ _ _ (few-root_derivative f n (λ s. s) a e)) (few-answer _ _ _ (few-root_derivative f n (transpose_m n) a e))))

pub few-condition : (f : Format) (n : ℕ) (a : List Float) (w : ℕ) → Few (cond_expm f n n a w)
unfolding cond_expm
few-condition f n a w = few-answer _ _ (cond_exp_m f n a) (few-cond_exp_m f n a)

-- what is reported has as few
pub few-reported : {A : Type 0} (x : Result A) (o : Outcome) → Few x → reported o ≡ outcome x → Few (reported o)
unfolding outcome
few-reported (refused k i j) o h e = subst (λ (q : Result (Unit {0})). Few q) (sym e) tt
few-reported (done s a) o h e = subst (λ (q : Result (Unit {0})). Few q) (sym e) h
