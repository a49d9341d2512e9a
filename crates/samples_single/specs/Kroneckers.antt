-- The definitions of kron and kron_sum at numbers of binary32, against the source run in Rust with T = f32.
use Rattle.std.specs.Prelude.{◌≡◌, refl, true, List, [], ◌∷◌}
use Rattle.std.specs.Float.{binary32}
use Rattle.functions_definitions.specs.Calls.{kron, kron_sum}
use Rattle.samples.specs.Shown.{Line, hold, numbers, shown, bits}
use Rattle.samples.specs.Opened.{all}

unfoldable pub kron_table : List Line
kron_table = (
  1 ∷ 0 ∷ 0x35399999 ∷ 0x33455325 ∷ 0x00000000 ∷ 0x00000000 ∷ 0x00000000 ∷ 0x00000000 ∷ 0x32af1a9f ∷ 0x33bc0ebe ∷ 0x00000000 ∷ 0x00000000 ∷ 0x00000000 ∷ 0x00000000 ∷ 0x00000000 ∷ 0x00000000 ∷ 0x00000000 ∷ 0x00000000 ∷ 0x4039999a ∷ 0x3e455326 ∷ 0x00000000 ∷ 0x00000000 ∷ 0x00000000 ∷ 0x00000000 ∷ 0x3daf1aa0 ∷ 0x3ebc0ebf ∷ [],
  shown (bits binary32) (kron binary32 2 3 (numbers binary32 (0x347fffff ∷ 0x00000000 ∷ 0x00000000 ∷ 0x00000000 ∷ 0x00000000 ∷ 0x3f800000 ∷ [])) 2 2 (numbers binary32 (0x4039999a ∷ 0x3e455326 ∷ 0x3daf1aa0 ∷ 0x3ebc0ebf ∷ [])) 24),
)
    -- with products below the least normal number
    ∷ (
      1 ∷ 0 ∷ 0x00000000 ∷ 0x80000000 ∷ 0x0020aac7 ∷ 0xaedbe6ff ∷ 0x0d92088a ∷ 0xbcf5c290 ∷ [],
      shown (bits binary32) (kron binary32 1 2 (numbers binary32 (0x0e736390 ∷ 0xbdcccccd ∷ [])) 3 1 (numbers binary32 (0x00000000 ∷ 0x3089705f ∷ 0x3e99999a ∷ [])) 6),
    )
    ∷ []

pub kron_holds : hold kron_table ≡ true
unfolding kron_table all
kron_holds = refl

unfoldable pub kron_sum_table : List Line
kron_sum_table = (
  1 ∷ 0 ∷ 0x3f84e076 ∷ 0xbd037b4a ∷ 0xbf7fd220 ∷ 0x80000000 ∷ 0x00000000 ∷ 0x3d1e1b09 ∷ 0x00000000 ∷ 0xbf7fd220 ∷ 0x00000000 ∷ 0x00000000 ∷ 0x3f7fdf3b ∷ 0xbd037b4a ∷ 0x00000000 ∷ 0x00000000 ∷ 0x00000000 ∷ 0x00000000 ∷ [],
  shown (bits binary32) (kron_sum binary32 2 2 (numbers binary32 (0x3d1e1b09 ∷ 0xbf7fd220 ∷ 0x00000000 ∷ 0x00000000 ∷ [])) 2 2 (numbers binary32 (0x3f7fdf3b ∷ 0xbd037b4a ∷ 0x00000000 ∷ 0x00000000 ∷ [])) 16),
)
    ∷ []

pub kron_sum_holds : hold kron_sum_table ≡ true
unfolding kron_sum_table all
kron_sum_holds = refl
