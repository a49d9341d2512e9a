-- The refusals that the functions meet on the way are late ones: 12, 13 or 17, after which the workspace is cleared. Assumes nothing.
use mathlib.Core.List.{List, [], ◌∷◌}
use Prim.Native.Nat.{ℕ, ◌+◌, ◌*◌}
use lib.Ieee.{Float, Format, binary64}
use Rattle.arithmetic_matrices.specs.Norm.{norm1}
use Rattle.arithmetic_questions.proofs.OutputLaws.{Late, late_bind}
use Rattle.functions_definitions.specs.Powers.{exp_m, whole_power, fractional_power, is_whole, power_m}
use Rattle.functions_definitions.proofs.HalvingLaws.{halvings_late}
use Rattle.functions_definitions.specs.Exponential.{exponential, block}
use Rattle.arithmetic_questions.specs.Result.{Result, refused, done, ◌>>=◌}
use Rattle.functions_definitions.specs.Derivatives.{frechet_exp_m, block_quarters, unit_direction, conditioned, cond_exp_m, log_step, second_logarithm, frechet_log_m, sylvester_matrix, column_division, sylvester, scalar_derivative, root_derivative, root_with_derivative}
use Rattle.arithmetic_questions.specs.Outputs.{Both}
use native.Mathlib.Omega.{arith}
use mathlib.Core.Bool.{Bool, true, false, cond}
use mathlib.Core.Option.{Option, none, some}
use lib.Dec.{eqb}
use Rattle.arithmetic_floats.specs.Root.{sqrt_of}
use Rattle.arithmetic_matrices.specs.Matrix.{item}
use Rattle.arithmetic_matrices.specs.Product.{add_multiple_m, transpose_m, times_m}
use Rattle.lu_factoring.specs.Solve.{inverse}
use Rattle.functions_definitions.specs.Iterate.{Step, running, stopped, failed, ended}
use Rattle.functions_definitions.specs.Roots.{or_not_converged, pass_limit, denman_beavers, square_root}
use Rattle.functions_definitions.specs.Logarithm.{root_limit, rooting, further_terms, series, logarithm}
use lib.IntN.{ℤ, pos, negsuc}
use Rattle.arithmetic_floats.specs.Float.{integer_of}

pub late-exp_m : (f : Format) (n : ℕ) (a : List Float) → Late (exp_m f n a)
unfolding exp_m
late-exp_m f n a = halvings_late (norm1 f n a) (λ s. exponential f n s a)

pub late-frechet_exp_m : (f : Format) (n : ℕ) (a e : List Float) → Late (frechet_exp_m f n a e)
unfolding frechet_exp_m block_quarters
late-frechet_exp_m f n a e = go (exp_m f (n + n) (block n a e)) (late-exp_m f (n + n) (block n a e))
  where
    go : (x : Result (List Float)) → Late x → Late (block_quarters n x)
    go (refused k i j) l = l
    go (done s x) l = tt

pub late-cond_exp_m : (f : Format) (n : ℕ) (a : List Float) → Late (cond_exp_m f n a)
unfolding cond_exp_m conditioned
late-cond_exp_m f n a = go (frechet_exp_m f n a (unit_direction f n)) (late-frechet_exp_m f n a (unit_direction f n))
  where
    go : (z : Result Both) → Late z → Late (conditioned f n z)
    go (refused k i j) l = l
    go (done s b) l = tt

late-ended : {S : Type 0} (q : Step S) → Late (ended q)
late-ended (running x) = tt
late-ended (stopped x) = tt
late-ended failed = omega arith

-- the solution of a system
pub late-solution : {A : Type 0} (x : Option A) → Late (or_not_converged x)
late-solution none = omega arith
late-solution (some x) = tt

pub late-root : (f : Format) (n : ℕ) (a : List Float) → Late (square_root f n a)
unfolding square_root
late-root f n a = go (eqb n 1)
  where
    go : (b : Bool) → Late (cond b (done 0 (sqrt_of f (item a 0) ∷ [])) (ended (denman_beavers f n a pass_limit) >>= λ p. done 0 p.y))
    go true = tt
    go false = late_bind (ended (denman_beavers f n a pass_limit)) (λ p. done 0 p.y) (late-ended (denman_beavers f n a pass_limit)) (λ p. tt)

pub late-logarithm : (f : Format) (n : ℕ) (a : List Float) → Late (logarithm f n a)
unfolding logarithm
late-logarithm f n a =
    late_bind (ended (rooting f n a root_limit)) _ (late-ended (rooting f n a root_limit)) (λ r. late_bind (ended (series f n _ further_terms)) _ (late-ended (series f n _ further_terms)) (λ s. tt))

pub late_frechet_logarithm : (f : Format) (n : ℕ) (a e : List Float) → Late (frechet_log_m f n a e)
unfolding frechet_log_m second_logarithm
late_frechet_logarithm f n a e =
    late_bind (logarithm f n a) _ (late-logarithm f n a) (λ l. late_bind (logarithm f n (add_multiple_m f n (log_step f) e a)) _ (late-logarithm f n (add_multiple_m f n (log_step f) e a)) (λ m. tt))

late-sylvester : (f : Format) (n : ℕ) (s t e : List Float) → Late (sylvester f n s t e)
unfolding sylvester
late-sylvester f n s t e =
    let x = column_division f (n * n) (sylvester_matrix f n s t) (transpose_m n e) in
    late_bind (or_not_converged x) (λ v. done 0 (transpose_m n v)) (late-solution x) (λ v. tt)

late-derivative : (f : Format) (n : ℕ) (s t e : List Float) → Late (root_derivative f n s t e)
unfolding root_derivative
late-derivative f n s t e = go (eqb n 1)
  where
    go : (b : Bool) → Late (cond b (done 0 (scalar_derivative f (item s 0) (item e 0) ∷ [])) (sylvester f n s t e))
    go true = tt
    go false = late-sylvester f n s t e

pub late-root_derivative : (f : Format) (n : ℕ) (second : List Float → List Float) (a e : List Float) → Late (root_with_derivative f n second a e)
unfolding root_with_derivative
late-root_derivative f n second a e =
    late_bind (square_root f n a) _ (late-root f n a) (λ s. late_bind (root_derivative f n s (second s) e) _ (late-derivative f n s (second s) e) (λ x. tt))

late_whole : (f : Format) (n : ℕ) (a : List Float) (e : ℤ) → Late (whole_power f n a e)
unfolding whole_power
late_whole f n a (pos e) = tt
late_whole f n a (negsuc e) = late_bind (or_not_converged (inverse f n a)) _ (late-solution (inverse f n a)) (λ b. tt)

late_fractional : (f : Format) (n : ℕ) (a : List Float) (p : Float) → Late (fractional_power f n a p)
unfolding fractional_power
late_fractional f n a p =
    late_bind (logarithm f n a) _ (late-logarithm f n a) (λ l. late_bind (exp_m f n (times_m f n p l)) _ (late-exp_m f n (times_m f n p l)) (λ x. tt))

pub late-power : (f : Format) (n : ℕ) (a : List Float) (p : Float) → Late (power_m f n a p)
unfolding power_m
late-power f n a p = go (is_whole p)
  where
    go : (b : Bool) → Late (cond b (whole_power f n a (integer_of binary64 p)) (fractional_power f n a p))
    go true = late_whole f n a (integer_of binary64 p)
    go false = late_fractional f n a p
