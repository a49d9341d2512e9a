-- The definitions of expm, frechet_expm and cond_expm at numbers of binary32, against the source run in Rust with T = f32.
use Rattle.std.specs.Prelude.{◌≡◌, refl, true, List, [], ◌∷◌}
use Rattle.std.specs.Float.{binary32}
use Rattle.functions_definitions.specs.Calls.{cond_expm, expm, frechet_expm}
use Rattle.samples.specs.Shown.{Line, hold, numbers, shown, bits, both, condition}
use Rattle.samples.specs.Opened.{all}

unfoldable pub expm_table : List Line
expm_table =
    -- the second has order 3
    (
      1 ∷ 1 ∷ 0x3fa67535 ∷ 0xbf80f914 ∷ 0x3e1365cf ∷ 0x3fc2184d ∷ [],
      shown (bits binary32) (expm binary32 2 2 (numbers binary32 (0x3e99999a ∷ 0xbf333333 ∷ 0x3dcccccd ∷ 0x3ee66666 ∷ [])) 4 8192),
    )
    ∷ (
      1 ∷ 1 ∷ 0x3f90026e ∷ 0xbea0020e ∷ 0x3e23359f ∷ 0x3f306c0d ∷ 0x3f83fb90 ∷ 0xbeb829d3 ∷ 0x3e8b4974 ∷ 0x3f2d741c ∷ 0x3f3cfb50 ∷ [],
      shown (bits binary32) (expm binary32 3 3 (numbers binary32 (0x3e4ccccd ∷ 0xbe99999a ∷ 0x3dcccccd ∷ 0x3f19999a ∷ 0x3e800000 ∷ 0xbecccccd ∷ 0x3d4ccccd ∷ 0x3f333333 ∷ 0xbe19999a ∷ [])) 9 8192),
    )
    ∷ (
      1 ∷ 2 ∷ 0x416cf50e ∷ 0x4082169e ∷ 0x3eb0eb8e ∷ 0x40d5bcd5 ∷ [],
      shown (bits binary32) (expm binary32 2 2 (numbers binary32 (0x402c28f6 ∷ 0x3ecccccd ∷ 0x3d0b4396 ∷ 0x3ff1eb85 ∷ [])) 4 8192),
    )
    -- as many halvings as there can be are refused
    ∷ (
      0 ∷ 17 ∷ 128 ∷ 0 ∷ [],
      shown (bits binary32) (expm binary32 2 2 (numbers binary32 (0xff400000 ∷ 0x00000000 ∷ 0x00000000 ∷ 0xc0400001 ∷ [])) 4 8192),
    )
    -- a norm past the largest number
    ∷ (
      0 ∷ 12 ∷ 0 ∷ 0 ∷ [],
      shown (bits binary32) (expm binary32 2 2 (numbers binary32 (0x7f7fffff ∷ 0x7f7fffff ∷ 0x7f7fffff ∷ 0x00000000 ∷ [])) 4 8192),
    )
    -- the refusals of document 01 alone: a NaN, an infinity, order 1
    ∷ (
      0 ∷ 6 ∷ 1 ∷ 1 ∷ [],
      shown (bits binary32) (expm binary32 2 2 (numbers binary32 (0x3f206037 ∷ 0x3e7c38e9 ∷ 0x3f1ca16e ∷ 0x7f800001 ∷ [])) 4 8192),
    )
    ∷ (
      0 ∷ 6 ∷ 1 ∷ 0 ∷ [],
      shown (bits binary32) (expm binary32 2 2 (numbers binary32 (0x3f206037 ∷ 0x7f7fffff ∷ 0xff800000 ∷ 0x3f800000 ∷ [])) 4 8192),
    )
    ∷ (0 ∷ 11 ∷ 0 ∷ 0 ∷ [], shown (bits binary32) (expm binary32 1 1 (numbers binary32 (0xc3ffffff ∷ [])) 1 8192))
    ∷ []

pub expm_holds : hold expm_table ≡ true
unfolding expm_table all
expm_holds = refl

unfoldable pub frechet_expm_table : List Line
frechet_expm_table = (
  1 ∷ 2 ∷ 0x402df855 ∷ 0x40ae67ad ∷ [],
  shown (both binary32) (frechet_expm binary32 1 1 (numbers binary32 (0x3f800000 ∷ [])) 1 1 (numbers binary32 (0x400051ec ∷ [])) 1 1 8192),
)
    ∷ (
      1 ∷ 3 ∷ 0xc0ac732a ∷ 0x40cc732e ∷ 0xc14c732d ∷ 0x415c7334 ∷ 0xc0800004 ∷ 0x40c6399b ∷ 0xc146399a ∷ 0x418e399a ∷ [],
      shown (both binary32) (frechet_expm binary32 2 2 (numbers binary32 (0xc0000000 ∷ 0x40000000 ∷ 0xc0800000 ∷ 0x40800000 ∷ [])) 2 2 (numbers binary32 (0x347fffff ∷ 0x00000000 ∷ 0x00000000 ∷ 0x3f800000 ∷ [])) 4 4 8192),
    )
    ∷ (
      1 ∷ 1 ∷ 0x3f92301f ∷ 0x3e854cb1 ∷ 0x3ec7f30a ∷ 0x3fc42ce2 ∷ 0x3ed198e5 ∷ 0xbd79ce84 ∷ 0x3f81ebce ∷ 0x3ec41558 ∷ [],
      shown (both binary32) (frechet_expm binary32 2 2 (numbers binary32 (0x3dcccccd ∷ 0x3e4ccccd ∷ 0x3e99999a ∷ 0x3ecccccd ∷ [])) 2 2 (numbers binary32 (0x3e99999a ∷ 0xbdcccccd ∷ 0x3f333333 ∷ 0x3e4ccccd ∷ [])) 4 4 8192),
    )
    ∷ []

pub frechet_expm_holds : hold frechet_expm_table ≡ true
unfolding frechet_expm_table all
frechet_expm_holds = refl

unfoldable pub cond_expm_table : List Line
cond_expm_table = (
  1 ∷ 1 ∷ 0x3f800000 ∷ 0x3fe5dfad ∷ 0x3fe5dfad ∷ [],
  shown (condition binary32) (cond_expm binary32 1 1 (numbers binary32 (0x3f15e354 ∷ [])) 8192),
)
    ∷ (
      1 ∷ 3 ∷ 0x3f3504f3 ∷ 0x418f922a ∷ 0x41cb0a3d ∷ [],
      shown (condition binary32) (cond_expm binary32 2 2 (numbers binary32 (0x40290625 ∷ 0xbedfbe77 ∷ 0x3d31c433 ∷ 0x4040068e ∷ [])) 8192),
    )
    ∷ []

pub cond_expm_holds : hold cond_expm_table ≡ true
unfolding cond_expm_table all
cond_expm_holds = refl
