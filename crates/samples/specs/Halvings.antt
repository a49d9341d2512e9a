-- Question 17 at numbers: at most 64 halvings. One table over the format, one claim; the claim at binary32 is that of samples_single.
use Rattle.std.specs.Prelude.{ℕ, ◌+◌, ◌-◌, ◌^◌, ◌≡◌, refl, true, false, List, [], ◌∷◌, Float}
use Rattle.std.specs.Float.{Format, binary64, nan, inf}
use Rattle.std.specs.Float.Ieee.{of_bits, to_bits, round}
use Rattle.arithmetic_floats.specs.Float.{+zero}
use Rattle.functions_definitions.specs.Powers.{halvings_for}
use Rattle.functions_definitions.specs.Calls.{expm, cosm, sinm, frechet_expm, cond_expm}
use Rattle.samples.specs.Shown.{Line, hold, shown, bits, both, condition}
use Rattle.samples.specs.Starred.{Numbers, double}
use Rattle.samples.specs.Opened.{all}

module _ (f : Format) (v : Numbers) where
  -- 2 ^ 64 and its neighbours
  abbrev limit : Float
  limit = round f false (2 ^ 64) 1

  abbrev below : Float
  below = of_bits f (to_bits f limit - 1)

  abbrev above : Float
  above = of_bits f (to_bits f limit + 1)

  -- the matrix [[0, x], [0, 0]], whose norm is x
  abbrev upper : Float → List Float
  upper x = +zero ∷ x ∷ +zero ∷ +zero ∷ []

  abbrev halvings_at : Float → List ℕ
  halvings_at x = shown (λ (s : ℕ). s ∷ []) (halvings_for x)

  unfoldable pub halvings_table : List Line
  halvings_table =
      -- 64 halvings pass, 65 and the most that the format has do not
      (1 ∷ 0 ∷ 64 ∷ [], halvings_at below)
      ∷ (1 ∷ 0 ∷ 64 ∷ [], halvings_at limit)
      ∷ (0 ∷ 17 ∷ 65 ∷ 0 ∷ [], halvings_at above)
      ∷ (0 ∷ 17 ∷ v.most ∷ 0 ∷ [], halvings_at (of_bits f v.largest))
      -- of a norm that is not finite 12 is asked first
      ∷ (0 ∷ 12 ∷ 0 ∷ 0 ∷ [], halvings_at (inf false))
      ∷ (0 ∷ 12 ∷ 0 ∷ 0 ∷ [], halvings_at nan)
      -- the functions that halve, a fractional power apart: its logarithm takes too many steps to compute here
      ∷ (0 ∷ 17 ∷ 65 ∷ 0 ∷ [], shown (bits f) (expm f 2 2 (upper above) 4 8192))
      ∷ (0 ∷ 17 ∷ 65 ∷ 0 ∷ [], shown (bits f) (cosm f 2 2 (upper above) 4 8192))
      ∷ (0 ∷ 17 ∷ 65 ∷ 0 ∷ [], shown (bits f) (sinm f 2 2 (upper above) 4 8192))
      ∷ (0 ∷ 17 ∷ 65 ∷ 0 ∷ [], shown (both f) (frechet_expm f 2 2 (upper +zero) 2 2 (upper above) 4 4 8192))
      ∷ (0 ∷ 17 ∷ 65 ∷ 0 ∷ [], shown (condition f) (cond_expm f 2 2 (upper above) 8192))
      ∷ []

pub halvings_hold : hold (halvings_table binary64 double) ≡ true
unfolding halvings_table all
halvings_hold = refl
