-- The definitions of powm, cosm and sinm at numbers, against the source run in Rust.
use Rattle.std.specs.Prelude.{◌≡◌, refl, true, List, [], ◌∷◌}
use Rattle.std.specs.Float.{binary64}
use Rattle.std.specs.Float.Ieee.{of_bits}
use Rattle.functions_definitions.specs.Calls.{cosm, powm, sinm}
use Rattle.samples.specs.Shown.{Line, hold, numbers, shown, bits}
use Rattle.samples.specs.Opened.{all}

unfoldable pub powm_table : List Line
powm_table = (
  1 ∷ 0 ∷ 0xbf80000000000000 ∷ 0xbf9c000000000000 ∷ 0x0000000000000000 ∷ 0xbf80000000000000 ∷ [],
  shown (bits binary64) (powm binary64 2 2 (numbers binary64 (0xc000000000000000 ∷ 0x3ff0000000000000 ∷ 0x0000000000000000 ∷ 0xc000000000000000 ∷ [])) 4 8192 (of_bits binary64 0xc01c000000000000)),
)
    ∷ (
      1 ∷ 0 ∷ 0x3ff0000000000000 ∷ 0x0000000000000000 ∷ 0x0000000000000000 ∷ 0x3ff0000000000000 ∷ [],
      shown (bits binary64) (powm binary64 2 2 (numbers binary64 (0x3ff0000000000000 ∷ 0x0000000000000000 ∷ 0x0000000000000000 ∷ 0x3ff0000000000000 ∷ [])) 4 8192 (of_bits binary64 0xbd0ee4c0f93cc89e)),
    )
    ∷ (
      0 ∷ 13 ∷ 0 ∷ 0 ∷ [],
      shown (bits binary64) (powm binary64 2 2 (numbers binary64 (0x3fe0000000000000 ∷ 0x3fd5555555555555 ∷ 0x3fd5555555555555 ∷ 0x3fd0000000000000 ∷ [])) 4 8192 (of_bits binary64 0xc010a3ab2a605d02)),
    )
    ∷ []

pub powm_holds : hold powm_table ≡ true
unfolding powm_table all
powm_holds = refl

unfoldable pub cosm_table : List Line
cosm_table = (
  1 ∷ 1 ∷ 0x3fee6215326fdeca ∷ 0xbfa50846c9105d70 ∷ 0xbfa50846c9105d70 ∷ 0x3feeee4c5fac4be2 ∷ [],
  shown (bits binary64) (cosm binary64 2 2 (numbers binary64 (0x3fd0000000000000 ∷ 0x3fc999999999999a ∷ 0x3fc999999999999a ∷ 0x3fc5555555555555 ∷ [])) 4 8192),
)
    ∷ (
      1 ∷ 2 ∷ 0x3feaadea96f9fcc4 ∷ 0xbfefa50ccd18ea51 ∷ 0x3fefa50ccd18ea51 ∷ 0x3feaadea96f9fcc4 ∷ [],
      shown (bits binary64) (cosm binary64 2 2 (numbers binary64 (0x3ff0000000000000 ∷ 0x3ff0000000000000 ∷ 0xbff0000000000000 ∷ 0x3ff0000000000000 ∷ [])) 4 8192),
    )
    ∷ (
      0 ∷ 12 ∷ 0 ∷ 0 ∷ [],
      shown (bits binary64) (cosm binary64 2 2 (numbers binary64 (0xffef6a05d405454b ∷ 0xffe60eb62d377ac7 ∷ 0x7fc992433af4fa3f ∷ 0xffed7fe81a62dd65 ∷ [])) 4 8192),
    )
    ∷ []

pub cosm_holds : hold cosm_table ≡ true
unfolding cosm_table all
cosm_holds = refl

unfoldable pub sinm_table : List Line
sinm_table = (
  1 ∷ 2 ∷ 0x3fea881da842c66d ∷ 0xbf9ac07ceb41ed52 ∷ 0x3f9ed0fe7bf626a8 ∷ 0x3feffb5eb5ed27d0 ∷ [],
  shown (bits binary64) (sinm binary64 2 2 (numbers binary64 (0x40016818b2af69b3 ∷ 0x3fbc9af50a0446f0 ∷ 0xbfc079c675c88534 ∷ 0x3ff7285b1aeb8996 ∷ [])) 4 8192),
)
    ∷ (
      1 ∷ 2 ∷ 0xbfeb447acd7a09e4 ∷ 0xbfc5b1e7d73da19c ∷ 0x3fc5b1e7d73da19c ∷ 0xbfeb447acd7a09e4 ∷ [],
      shown (bits binary64) (sinm binary64 2 2 (numbers binary64 (0xbfee9f8a6b45a31f ∷ 0xbfd2922440ddf3c3 ∷ 0x3fd2922440ddf3c3 ∷ 0xbfee9f8a6b45a31f ∷ [])) 4 8192),
    )
    ∷ []

pub sinm_holds : hold sinm_table ≡ true
unfolding sinm_table all
sinm_holds = refl
