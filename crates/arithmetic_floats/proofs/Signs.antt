-- Magnitude and finiteness, by the tests that a program makes. Assumes nothing.
use Rattle.std.proofs.Common.{◌≡◌, ℕ, zero, suc, true, false, not, T, ℤ, pos, refl}
use lib.Ieee.{Float, nan, inf, fin, is_nan, lt}
use lib.Ieee.Scale.{finite}
use Rattle.arithmetic_floats.specs.Float.{magnitude}

-- ---- finite: between the infinities

pub finite_above : (x : Float) → T (lt (inf true) x) → lt x (inf false) ≡ finite x
unfolding lt
finite_above nan h = refl
finite_above (inf true) h = absurd h
finite_above (inf false) h = refl
finite_above (fin s m e) h = refl

pub finite_below : (x : Float) → (T (lt (inf true) x) → ⊥) → false ≡ finite x
unfolding lt
finite_below nan h = refl
finite_below (inf s) h = refl
finite_below (fin s m e) h = absurd (h tt)

-- ---- what a magnitude is

pub plain_magnitude : (x : Float) → T (finite x) → (m : ℕ) × (e : ℤ) × (magnitude x ≡ fin false m e)
unfolding magnitude
plain_magnitude nan h = absurd h
plain_magnitude (inf s) h = absurd h
plain_magnitude (fin s zero e) h = (0, pos 0, refl)
plain_magnitude (fin s (suc m) e) h = (suc m, e, refl)

pub magnitude_number : (x : Float) → T (not (is_nan x)) → T (not (is_nan (magnitude x)))
unfolding is_nan magnitude
magnitude_number nan h = h
magnitude_number (inf s) h = tt
magnitude_number (fin s zero e) h = tt
magnitude_number (fin s (suc m) e) h = tt
