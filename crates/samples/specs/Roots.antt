-- The definitions of sqrtm, logm and their derivatives at numbers, against the source run in Rust; frechet_sqrtm_sylvester, which the source does not have,
-- against its system solved with the source's LU.
use Rattle.std.specs.Prelude.{◌≡◌, refl, true, List, [], ◌∷◌}
use Rattle.std.specs.Float.{binary64}
use Rattle.functions_definitions.specs.Calls.{frechet_logm, frechet_sqrtm, frechet_sqrtm_sylvester, logm, sqrtm}
use Rattle.samples.specs.Shown.{Line, hold, numbers, shown, bits, both}
use Rattle.samples.specs.Opened.{all}

unfoldable pub sqrtm_table : List Line
sqrtm_table = (
  1 ∷ 0 ∷ 0x46d423205b599cad ∷ [],
  shown (bits binary64) (sqrtm binary64 1 1 (numbers binary64 (0x4db9581e02311f2e ∷ [])) 1 8192),
)
    ∷ (
      1 ∷ 0 ∷ 0x3fe3ea034027c092 ∷ 0x3fd57ccca61000b2 ∷ 0x3fd57ccca61000b0 ∷ 0x3fd7b66d03c380a0 ∷ [],
      shown (bits binary64) (sqrtm binary64 2 2 (numbers binary64 (0x3fe0000000000000 ∷ 0x3fd5555555555555 ∷ 0x3fd5555555555555 ∷ 0x3fd0000000000000 ∷ [])) 4 8192),
    )
    ∷ (
      0 ∷ 13 ∷ 0 ∷ 0 ∷ [],
      shown (bits binary64) (sqrtm binary64 2 2 (numbers binary64 (0xc000000000000000 ∷ 0xc000000000000000 ∷ 0x0000000000000000 ∷ 0x0000000000000000 ∷ [])) 4 8192),
    )
    ∷ (
      0 ∷ 10 ∷ 0 ∷ 0 ∷ [],
      shown (bits binary64) (sqrtm binary64 1 1 (numbers binary64 (0x83b203e9aa603a6d ∷ [])) 1 8192),
    )
    ∷ []

pub sqrtm_holds : hold sqrtm_table ≡ true
unfolding sqrtm_table all
sqrtm_holds = refl

unfoldable pub logm_table : List Line
logm_table = (
  1 ∷ 0 ∷ 0xbe3eea60a2715a4a ∷ 0x3e22d757cd76af44 ∷ 0x3e3f4eb6de4a5bdf ∷ 0xbe178d15229333a5 ∷ [],
  shown (bits binary64) (logm binary64 2 2 (numbers binary64 (0x3feffffffc22b3ec ∷ 0x3e22d757cc1bf9c4 ∷ 0x3e3f4eb6dc0a3fda ∷ 0x3fefffffff439757 ∷ [])) 4 8192),
)
    ∷ (
      0 ∷ 13 ∷ 0 ∷ 0 ∷ [],
      shown (bits binary64) (logm binary64 2 2 (numbers binary64 (0x4010000000000000 ∷ 0x0000000000000000 ∷ 0x4000000000000000 ∷ 0x0000000000000000 ∷ [])) 4 8192),
    )
    ∷ (
      1 ∷ 0 ∷ 0x3ff193ea7aad0315 ∷ 0x0000000000000000 ∷ 0x3fe269621134db92 ∷ 0x3ff62e42fefa3a01 ∷ [],
      shown (bits binary64) (logm binary64 2 2 (numbers binary64 (0x4008000000000000 ∷ 0x0000000000000000 ∷ 0x4000000000000000 ∷ 0x4010000000000000 ∷ [])) 4 8192),
    )
    ∷ []

pub logm_holds : hold logm_table ≡ true
unfolding logm_table all
logm_holds = refl

unfoldable pub frechet_sqrtm_table : List Line
frechet_sqrtm_table = (
  1 ∷ 0 ∷ 0x3ff0000000000000 ∷ 0x3fd32e344c94fb4a ∷ [],
  shown (both binary64) (frechet_sqrtm binary64 1 1 (numbers binary64 (0x3ff0000000000000 ∷ [])) 1 1 (numbers binary64 (0x3fe32e344c94fb4a ∷ [])) 1 1 8192),
)
    ∷ (
      1 ∷ 0 ∷ 0x3fe311e93febc6a0 ∷ 0xbfe9b26f5f6abfc0 ∷ 0x3fe9b26f5f6abfc0 ∷ 0x3fe311e93febc6a1 ∷ 0x3feb8067a99b1bba ∷ 0x3f8f049aaf9f174f ∷ 0x3f8f049aaf9f1751 ∷ 0x3fd097c473d8f348 ∷ [],
      shown (both binary64) (frechet_sqrtm binary64 2 2 (numbers binary64 (0xbfd28ac3f67fb912 ∷ 0xbfeea0a874c344f2 ∷ 0x3feea0a874c344f2 ∷ 0xbfd28ac3f67fb912 ∷ [])) 2 2 (numbers binary64 (0x3ff0000000000000 ∷ 0x3fe0000000000000 ∷ 0x3fe0000000000000 ∷ 0x3fd5555555555555 ∷ [])) 4 4 8192),
    )
    ∷ (
      0 ∷ 13 ∷ 0 ∷ 0 ∷ [],
      shown (both binary64) (frechet_sqrtm binary64 2 2 (numbers binary64 (0x3ff0000000000000 ∷ 0xc000000000000000 ∷ 0x0000000000000000 ∷ 0x0000000000000000 ∷ [])) 2 2 (numbers binary64 (0x3fe7667c51320880 ∷ 0x3ffa467dbf135c9e ∷ 0x0000000000000000 ∷ 0x40097c45c18a55e6 ∷ [])) 4 4 8192),
    )
    ∷ []

pub frechet_sqrtm_holds : hold frechet_sqrtm_table ≡ true
unfolding frechet_sqrtm_table all
frechet_sqrtm_holds = refl

unfoldable pub frechet_sqrtm_sylvester_table : List Line
frechet_sqrtm_sylvester_table =
    -- order 1, as frechet_sqrtm
    (1 ∷ 0 ∷ 0x3ff0000000000000 ∷ 0x3fd32e344c94fb4a ∷ [], shown (both binary64) (frechet_sqrtm_sylvester binary64 1 1 (numbers binary64 (0x3ff0000000000000 ∷ [])) 1 1 (numbers binary64 (0x3fe32e344c94fb4a ∷ [])) 1 1 8192))
    -- [[3, 0], [2, 4]] in the direction [[1/2, 0], [1, 1/4]]
    ∷ (1 ∷ 0 ∷ 0x3ffbb67ae8584cab ∷ 0x0000000000000000 ∷ 0x3fe126145e9ecd57 ∷ 0x4000000000000000 ∷ 0x3fc279a74590331c ∷ 0x0000000000000000 ∷ 0x3fce7eee90bc01ca ∷ 0x3fb0000000000000 ∷ [], shown (both binary64) (frechet_sqrtm_sylvester binary64 2 2 (numbers binary64 (0x4008000000000000 ∷ 0x0000000000000000 ∷ 0x4000000000000000 ∷ 0x4010000000000000 ∷ [])) 2 2 (numbers binary64 (0x3fe0000000000000 ∷ 0x0000000000000000 ∷ 0x3ff0000000000000 ∷ 0x3fd0000000000000 ∷ [])) 4 4 8192))
    -- [[0, 3/2], [-3/2, 0]]
    ∷ (1 ∷ 0 ∷ 0x3febb67ae8584cab ∷ 0x3febb67ae8584caa ∷ 0xbfebb67ae8584caa ∷ 0x3febb67ae8584cab ∷ 0xbfd279a74590331c ∷ 0x3fe279a74590331b ∷ 0x400279a74590331c ∷ 0x3ff7181116f43fe4 ∷ [], shown (both binary64) (frechet_sqrtm_sylvester binary64 2 2 (numbers binary64 (0x0000000000000000 ∷ 0x3ff8000000000000 ∷ 0xbff8000000000000 ∷ 0x0000000000000000 ∷ [])) 2 2 (numbers binary64 (0x3ff0000000000000 ∷ 0x4000000000000000 ∷ 0x4008000000000000 ∷ 0x4010000000000000 ∷ [])) 4 4 8192))
    -- diag(2, 3), whose root is symmetric: both functions alike
    ∷ (1 ∷ 0 ∷ 0x3ff6a09e667f3bcc ∷ 0x0000000000000000 ∷ 0x0000000000000000 ∷ 0x3ffbb67ae8584cab ∷ 0x3fd6a09e667f3bcd ∷ 0x3fe4577207644377 ∷ 0x3fee832b0b166533 ∷ 0x3ff279a74590331c ∷ [], shown (both binary64) (frechet_sqrtm_sylvester binary64 2 2 (numbers binary64 (0x4000000000000000 ∷ 0x0000000000000000 ∷ 0x0000000000000000 ∷ 0x4008000000000000 ∷ [])) 2 2 (numbers binary64 (0x3ff0000000000000 ∷ 0x4000000000000000 ∷ 0x4008000000000000 ∷ 0x4010000000000000 ∷ [])) 4 4 8192))
    ∷ (1 ∷ 0 ∷ 0x3ff6a09e667f3bcc ∷ 0x0000000000000000 ∷ 0x0000000000000000 ∷ 0x3ffbb67ae8584cab ∷ 0x3fd6a09e667f3bcd ∷ 0x3fe4577207644377 ∷ 0x3fee832b0b166533 ∷ 0x3ff279a74590331c ∷ [], shown (both binary64) (frechet_sqrtm binary64 2 2 (numbers binary64 (0x4000000000000000 ∷ 0x0000000000000000 ∷ 0x0000000000000000 ∷ 0x4008000000000000 ∷ [])) 2 2 (numbers binary64 (0x3ff0000000000000 ∷ 0x4000000000000000 ∷ 0x4008000000000000 ∷ 0x4010000000000000 ∷ [])) 4 4 8192))
    -- [[1, 2 ^ 53], [0, 1]]: the root is found, and LU refuses the system
    ∷ (0 ∷ 13 ∷ 0 ∷ 0 ∷ [], shown (both binary64) (frechet_sqrtm_sylvester binary64 2 2 (numbers binary64 (0x3ff0000000000000 ∷ 0x4340000000000000 ∷ 0x0000000000000000 ∷ 0x3ff0000000000000 ∷ [])) 2 2 (numbers binary64 (0x3ff0000000000000 ∷ 0x4000000000000000 ∷ 0x4008000000000000 ∷ 0x4010000000000000 ∷ [])) 4 4 8192))
    ∷ []

pub frechet_sqrtm_sylvester_holds : hold frechet_sqrtm_sylvester_table ≡ true
unfolding frechet_sqrtm_sylvester_table all
frechet_sqrtm_sylvester_holds = refl

unfoldable pub frechet_logm_table : List Line
frechet_logm_table = (
  1 ∷ 0 ∷ 0x3e6b2d0e82ad62da ∷ 0x3e531b9f1fe636a0 ∷ 0x3e69579c244595f3 ∷ 0x3e5a4130530c70d3 ∷ 0x3fefffffe0d2f198 ∷ 0xbe531b9f0c000000 ∷ 0xbe69579c0c000000 ∷ 0x3fefffffeedf67e2 ∷ [],
  shown (both binary64) (frechet_logm binary64 2 2 (numbers binary64 (0x3ff000000d968749 ∷ 0x3e531b9f2beea918 ∷ 0x3e69579c343b16f8 ∷ 0x3ff0000006904c18 ∷ [])) 2 2 (numbers binary64 (0x3ff0000000000000 ∷ 0x0000000000000000 ∷ 0x0000000000000000 ∷ 0x3ff0000000000000 ∷ [])) 4 4 8192),
)
    ∷ (
      0 ∷ 13 ∷ 0 ∷ 0 ∷ [],
      shown (both binary64) (frechet_logm binary64 2 2 (numbers binary64 (0x3ffabbc0c745160e ∷ 0xbfd78fc0cd2108f6 ∷ 0x3fd41914e0db1302 ∷ 0x3ffadea309c252b3 ∷ [])) 2 2 (numbers binary64 (0x82db14b5a2202245 ∷ 0xc9baa0c67830424c ∷ 0xf5611f20b53805fb ∷ 0x24e40dda99ef1f75 ∷ [])) 4 4 8192),
    )
    ∷ []

pub frechet_logm_holds : hold frechet_logm_table ≡ true
unfolding frechet_logm_table all
frechet_logm_holds = refl
