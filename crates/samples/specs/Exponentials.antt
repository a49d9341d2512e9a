-- The definitions of expm, frechet_expm and cond_expm at numbers, against the source run in Rust.
use Rattle.std.specs.Prelude.{◌≡◌, refl, true, List, [], ◌∷◌}
use Rattle.std.specs.Float.{binary64}
use Rattle.functions_definitions.specs.Calls.{cond_expm, expm, frechet_expm}
use Rattle.samples.specs.Shown.{Line, hold, numbers, shown, bits, both, condition}
use Rattle.samples.specs.Opened.{all}

unfoldable pub expm_table : List Line
expm_table = (
  1 ∷ 1 ∷ 0x400c5f322df5feb5 ∷ 0x3ff5e48d5ba6e3af ∷ 0x3ff5e48d5ba6e3b0 ∷ 0x3fe9ea93493c6c0c ∷ [],
  shown (bits binary64) (expm binary64 2 2 (numbers binary64 (0x3ff0000000000000 ∷ 0x3ff0000000000000 ∷ 0x3ff0000000000000 ∷ 0xbff0000000000000 ∷ [])) 4 8192),
)
    ∷ (
      1 ∷ 2 ∷ 0x402dbcfd0f630021 ∷ 0x40103fcc565c346e ∷ 0x3fd62d1841b7097f ∷ 0x401ab7b87c8666a2 ∷ [],
      shown (bits binary64) (expm binary64 2 2 (numbers binary64 (0x40058d58419fffd4 ∷ 0x3fd985ed97d62810 ∷ 0x3fa16a98e04b52a0 ∷ 0x3ffe3d8c98cadb22 ∷ [])) 4 8192),
    )
    ∷ (
      0 ∷ 12 ∷ 0 ∷ 0 ∷ [],
      shown (bits binary64) (expm binary64 2 2 (numbers binary64 (0x7fefffffffffffff ∷ 0x7fefffffffffffff ∷ 0x7fefffffffffffff ∷ 0x0000000000000000 ∷ [])) 4 8192),
    )
    ∷ (
      0 ∷ 6 ∷ 1 ∷ 1 ∷ [],
      shown (bits binary64) (expm binary64 2 2 (numbers binary64 (0x3fe40c06d5020df0 ∷ 0x3fcf871d2237d850 ∷ 0x3fe3942db5d11ff4 ∷ 0x7ff0000000000001 ∷ [])) 4 8192),
    )
    ∷ (
      0 ∷ 11 ∷ 0 ∷ 0 ∷ [],
      shown (bits binary64) (expm binary64 1 1 (numbers binary64 (0xc07ffffffffffffc ∷ [])) 1 8192),
    )
    ∷ []

pub expm_holds : hold expm_table ≡ true
unfolding expm_table all
expm_holds = refl

unfoldable pub frechet_expm_table : List Line
frechet_expm_table = (
  1 ∷ 2 ∷ 0x4005bf0a8b14576b ∷ 0x4015cd6393138d8a ∷ [],
  shown (both binary64) (frechet_expm binary64 1 1 (numbers binary64 (0x3ff0000000000000 ∷ [])) 1 1 (numbers binary64 (0x40000a8e7721bb5b ∷ [])) 1 1 8192),
)
    ∷ (
      1 ∷ 3 ∷ 0xc0158e64b8d4ddb3 ∷ 0x40198e64b8d4ddaf ∷ 0xc0298e64b8d4ddaf ∷ 0x402b8e64b8d4dda8 ∷ 0xc010000000000003 ∷ 0x4018c7325c6a6ed8 ∷ 0xc028c7325c6a6ed8 ∷ 0x4031c7325c6a6ed4 ∷ [],
      shown (both binary64) (frechet_expm binary64 2 2 (numbers binary64 (0xc000000000000000 ∷ 0x4000000000000000 ∷ 0xc010000000000000 ∷ 0x4010000000000000 ∷ [])) 2 2 (numbers binary64 (0x3cafffffffffffff ∷ 0x0000000000000000 ∷ 0x0000000000000000 ∷ 0x3ff0000000000000 ∷ [])) 4 4 8192),
    )
    ∷ []

pub frechet_expm_holds : hold frechet_expm_table ≡ true
unfolding frechet_expm_table all
frechet_expm_holds = refl

unfoldable pub cond_expm_table : List Line
cond_expm_table = (
  1 ∷ 1 ∷ 0x3ff0000000000000 ∷ 0x3ffcbcc31c546c68 ∷ 0x3ffcbcc31c546c68 ∷ [],
  shown (condition binary64) (cond_expm binary64 1 1 (numbers binary64 (0x3fe2bd4f224b562c ∷ [])) 8192),
)
    ∷ (
      1 ∷ 3 ∷ 0x3fe6a09e667f3bcb ∷ 0x4031f21c420bcef5 ∷ 0x4039610d9f31e7d4 ∷ [],
      shown (condition binary64) (cond_expm binary64 2 2 (numbers binary64 (0x4005207c994b4b84 ∷ 0xbfdbf7be04cc5bfc ∷ 0x3fa6351fb2565d90 ∷ 0x400800d88b91e1bc ∷ [])) 8192),
    )
    ∷ []

pub cond_expm_holds : hold cond_expm_table ≡ true
unfolding cond_expm_table all
cond_expm_holds = refl
