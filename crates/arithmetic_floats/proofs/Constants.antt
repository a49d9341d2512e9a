-- Constants of the code by their bit patterns, over the format. Assumes nothing.
use Rattle.std.proofs.Common.{◌≡◌, ◌+◌, ◌-◌, ◌*◌, refl}
use lib.Ieee.{Format, binary32, binary64, prec, emax, hid, of_bits, of_fields, odd}
use Rattle.arithmetic_floats.specs.Float.{+zero, half, epsilon}

pub +zero_bits : (f : Format) → of_bits f 0 ≡ +zero
unfolding of_bits of_fields odd
+zero_bits binary32 = refl
+zero_bits binary64 = refl

pub half_bits : (f : Format) → of_bits f ((emax f - 1) * hid f) ≡ half
unfolding of_bits of_fields odd
half_bits binary32 = refl
half_bits binary64 = refl

pub epsilon_bits : (f : Format) → of_bits f ((emax f + 1 - prec f) * hid f) ≡ epsilon f
unfolding of_bits of_fields odd
epsilon_bits binary32 = refl
epsilon_bits binary64 = refl
