-- The definitions of powm, cosm and sinm at numbers of binary32, against the source run in Rust with T = f32.
use Rattle.std.specs.Prelude.{◌≡◌, refl, true, List, [], ◌∷◌}
use Rattle.std.specs.Float.{binary32}
use Rattle.std.specs.Float.Ieee.{of_bits}
use Rattle.functions_definitions.specs.Calls.{cosm, powm, sinm}
use Rattle.samples.specs.Shown.{Line, hold, numbers, shown, bits}
use Rattle.samples.specs.Opened.{all}

unfoldable pub powm_table : List Line
powm_table =
    -- whole exponents: 3, -7, -2, 2^24, 0, and -1 of a singular matrix
    (
      1 ∷ 0 ∷ 0x3f800000 ∷ 0x40400000 ∷ 0x00000000 ∷ 0x3f800000 ∷ [],
      shown (bits binary32) (powm binary32 2 2 (numbers binary32 (0x3f800000 ∷ 0x3f800000 ∷ 0x00000000 ∷ 0x3f800000 ∷ [])) 4 8192 (of_bits binary32 0x40400000)),
    )
    ∷ (
      1 ∷ 0 ∷ 0xbc000000 ∷ 0xbce00000 ∷ 0x00000000 ∷ 0xbc000000 ∷ [],
      shown (bits binary32) (powm binary32 2 2 (numbers binary32 (0xc0000000 ∷ 0x3f800000 ∷ 0x00000000 ∷ 0xc0000000 ∷ [])) 4 8192 (of_bits binary32 0xc0e00000)),
    )
    ∷ (
      1 ∷ 0 ∷ 0x4049c8dc ∷ 0x4147e18a ∷ 0xbfe46f7a ∷ 0x3ef3aa20 ∷ [],
      shown (bits binary32) (powm binary32 2 2 (numbers binary32 (0x3e99999a ∷ 0xbf333333 ∷ 0x3dcccccd ∷ 0x3ee66666 ∷ [])) 4 8192 (of_bits binary32 0xc0000000)),
    )
    ∷ (
      1 ∷ 0 ∷ 0x3f800000 ∷ 0x4b800000 ∷ 0x00000000 ∷ 0x3f800000 ∷ [],
      shown (bits binary32) (powm binary32 2 2 (numbers binary32 (0x3f800000 ∷ 0x3f800000 ∷ 0x00000000 ∷ 0x3f800000 ∷ [])) 4 8192 (of_bits binary32 0x4b800000)),
    )
    ∷ (
      1 ∷ 0 ∷ 0x3f800000 ∷ 0x00000000 ∷ 0x00000000 ∷ 0x3f800000 ∷ [],
      shown (bits binary32) (powm binary32 2 2 (numbers binary32 (0x00000000 ∷ 0x00000000 ∷ 0x00000000 ∷ 0x00000000 ∷ [])) 4 8192 (of_bits binary32 0x00000000)),
    )
    ∷ (
      0 ∷ 13 ∷ 0 ∷ 0 ∷ [],
      shown (bits binary32) (powm binary32 2 2 (numbers binary32 (0x00000000 ∷ 0x00000000 ∷ 0x00000000 ∷ 0x00000000 ∷ [])) 4 8192 (of_bits binary32 0xbf800000)),
    )
    -- 1e-14 rounds below 1e-14, so that it is taken for 0; the next number above it is not
    ∷ (
      1 ∷ 0 ∷ 0x3f800000 ∷ 0x00000000 ∷ 0x00000000 ∷ 0x3f800000 ∷ [],
      shown (bits binary32) (powm binary32 2 2 (numbers binary32 (0x3f866666 ∷ 0x3ca3d70a ∷ 0xbc23d70a ∷ 0x3f7851ec ∷ [])) 4 8192 (of_bits binary32 0x283424dc)),
    )
    ∷ (
      1 ∷ 0 ∷ 0x3f800000 ∷ 0x256467e5 ∷ 0xa4e467e5 ∷ 0x3f800000 ∷ [],
      shown (bits binary32) (powm binary32 2 2 (numbers binary32 (0x3f866666 ∷ 0x3ca3d70a ∷ 0xbc23d70a ∷ 0x3f7851ec ∷ [])) 4 8192 (of_bits binary32 0x283424dd)),
    )
    -- fractional exponents: 0.1, -2.5, and 0.5 where the logarithm is refused
    ∷ (
      1 ∷ 0 ∷ 0x3f80a08c ∷ 0x3b01f44e ∷ 0xba81f44d ∷ 0x3f7f394a ∷ [],
      shown (bits binary32) (powm binary32 2 2 (numbers binary32 (0x3f866666 ∷ 0x3ca3d70a ∷ 0xbc23d70a ∷ 0x3f7851ec ∷ [])) 4 8192 (of_bits binary32 0x3dcccccd)),
    )
    ∷ (
      1 ∷ 0 ∷ 0x3f6266a0 ∷ 0xbd468133 ∷ 0x3cc68134 ∷ 0x3f8a0374 ∷ [],
      shown (bits binary32) (powm binary32 2 2 (numbers binary32 (0x3f866666 ∷ 0x3ca3d70a ∷ 0xbc23d70a ∷ 0x3f7851ec ∷ [])) 4 8192 (of_bits binary32 0xc0200000)),
    )
    ∷ (
      0 ∷ 13 ∷ 0 ∷ 0 ∷ [],
      shown (bits binary32) (powm binary32 2 2 (numbers binary32 (0x40800000 ∷ 0x00000000 ∷ 0x40000000 ∷ 0x00000000 ∷ [])) 4 8192 (of_bits binary32 0x3f000000)),
    )
    ∷ []

pub powm_holds : hold powm_table ≡ true
unfolding powm_table all
powm_holds = refl

unfoldable pub cosm_table : List Line
cosm_table = (
  1 ∷ 1 ∷ 0x3f7310aa ∷ 0xbd284236 ∷ 0xbd284236 ∷ 0x3f777264 ∷ [],
  shown (bits binary32) (cosm binary32 2 2 (numbers binary32 (0x3e800000 ∷ 0x3e4ccccd ∷ 0x3e4ccccd ∷ 0x3e2aaaab ∷ [])) 4 8192),
)
    ∷ (
      1 ∷ 2 ∷ 0x3ee57458 ∷ 0xbf9f6f3f ∷ 0x3f90f0c6 ∷ 0x3f0fb71a ∷ [],
      shown (bits binary32) (cosm binary32 2 2 (numbers binary32 (0x3fa66666 ∷ 0x3f8ccccd ∷ 0xbf800000 ∷ 0x3f99999a ∷ [])) 4 8192),
    )
    -- the norm is 1 + 2^-23, and the rounded norm + 1 is 2
    ∷ (
      1 ∷ 1 ∷ 0x3f0a5144 ∷ 0x00000000 ∷ 0x00000000 ∷ 0x3f60a940 ∷ [],
      shown (bits binary32) (cosm binary32 2 2 (numbers binary32 (0x3f800001 ∷ 0x00000000 ∷ 0x00000000 ∷ 0x3f000000 ∷ [])) 4 8192),
    )
    -- a norm past the largest number
    ∷ (
      0 ∷ 12 ∷ 0 ∷ 0 ∷ [],
      shown (bits binary32) (cosm binary32 2 2 (numbers binary32 (0xff61b1e6 ∷ 0xff61b1e6 ∷ 0x7db48e52 ∷ 0xff167699 ∷ [])) 4 8192),
    )
    ∷ []

pub cosm_holds : hold cosm_table ≡ true
unfolding cosm_table all
cosm_holds = refl

unfoldable pub sinm_table : List Line
sinm_table = (
  1 ∷ 2 ∷ 0x3f5441c8 ∷ 0xbcd5f2ea ∷ 0x3cf682a4 ∷ 0x3f7fdb1b ∷ [],
  shown (bits binary32) (sinm binary32 2 2 (numbers binary32 (0x400b404f ∷ 0x3de4c2f8 ∷ 0xbe03c9ef ∷ 0x3fb94467 ∷ [])) 4 8192),
)
    ∷ (
      1 ∷ 2 ∷ 0xbf5a2223 ∷ 0xbe2d72f6 ∷ 0x3e2d72f6 ∷ 0xbf5a2223 ∷ [],
      shown (bits binary32) (sinm binary32 2 2 (numbers binary32 (0xbf74fdf4 ∷ 0xbe947ae1 ∷ 0x3e947ae1 ∷ 0xbf74fdf4 ∷ [])) 4 8192),
    )
    ∷ []

pub sinm_holds : hold sinm_table ≡ true
unfolding sinm_table all
sinm_holds = refl
