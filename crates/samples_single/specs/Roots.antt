-- The definitions of sqrtm, logm and their derivatives at numbers of binary32, against the source run in Rust with T = f32; frechet_sqrtm_sylvester, which
-- the source does not have, against its system solved with the source's LU.
use Rattle.std.specs.Prelude.{◌≡◌, refl, true, List, [], ◌∷◌}
use Rattle.std.specs.Float.{binary32}
use Rattle.functions_definitions.specs.Calls.{frechet_logm, frechet_sqrtm, frechet_sqrtm_sylvester, logm, sqrtm}
use Rattle.samples.specs.Shown.{Line, hold, numbers, shown, bits, both}
use Rattle.samples.specs.Opened.{all}

unfoldable pub sqrtm_table : List Line
sqrtm_table =
    -- order 1: 2, the smallest number, a subnormal one, the largest, one below zero
    (1 ∷ 0 ∷ 0x3fb504f3 ∷ [], shown (bits binary32) (sqrtm binary32 1 1 (numbers binary32 (0x40000000 ∷ [])) 1 8192))
    ∷ (1 ∷ 0 ∷ 0x1a3504f3 ∷ [], shown (bits binary32) (sqrtm binary32 1 1 (numbers binary32 (0x00000001 ∷ [])) 1 8192))
    ∷ (1 ∷ 0 ∷ 0x1eb5ac52 ∷ [], shown (bits binary32) (sqrtm binary32 1 1 (numbers binary32 (0x00040769 ∷ [])) 1 8192))
    ∷ (1 ∷ 0 ∷ 0x5f7fffff ∷ [], shown (bits binary32) (sqrtm binary32 1 1 (numbers binary32 (0x7f7fffff ∷ [])) 1 8192))
    ∷ (0 ∷ 10 ∷ 0 ∷ 0 ∷ [], shown (bits binary32) (sqrtm binary32 1 1 (numbers binary32 (0x8da24260 ∷ [])) 1 8192))
    -- order 2
    ∷ (
      1 ∷ 0 ∷ 0x3f1f5017 ∷ 0x3eabe662 ∷ 0x3eabe662 ∷ 0x3ebdb364 ∷ [],
      shown (bits binary32) (sqrtm binary32 2 2 (numbers binary32 (0x3f000000 ∷ 0x3eaaaaab ∷ 0x3eaaaaab ∷ 0x3e800000 ∷ [])) 4 8192),
    )
    ∷ (
      1 ∷ 0 ∷ 0x3fb68b68 ∷ 0xbe8fe17c ∷ 0x3df6a720 ∷ 0x3f884c11 ∷ [],
      shown (bits binary32) (sqrtm binary32 2 2 (numbers binary32 (0x40000000 ∷ 0xbf333333 ∷ 0x3e99999a ∷ 0x3f8ccccd ∷ [])) 4 8192),
    )
    ∷ (
      0 ∷ 13 ∷ 0 ∷ 0 ∷ [],
      shown (bits binary32) (sqrtm binary32 2 2 (numbers binary32 (0xc0000000 ∷ 0xc0000000 ∷ 0x00000000 ∷ 0x00000000 ∷ [])) 4 8192),
    )
    -- 100 passes that do not settle
    ∷ (
      1 ∷ 0 ∷ 0x3d27c3d0 ∷ 0x3e04e1dd ∷ 0x3db12d24 ∷ 0x3f2583c2 ∷ [],
      shown (bits binary32) (sqrtm binary32 2 2 (numbers binary32 (0xbf800000 ∷ 0x3e99999a ∷ 0x3e4ccccd ∷ 0x3ecccccd ∷ [])) 4 8192),
    )
    -- order 3
    ∷ (
      1 ∷ 0 ∷ 0x3fb95c92 ∷ 0xbe66aaae ∷ 0x3de7c407 ∷ 0x3eb16cc2 ∷ 0x3fe0373c ∷ 0x3d5747fd ∷ 0xbe2c4e57 ∷ 0x3e3c2778 ∷ 0x3fa75a02 ∷ [],
      shown (bits binary32) (sqrtm binary32 3 3 (numbers binary32 (0x40000000 ∷ 0xbf333333 ∷ 0x3e99999a ∷ 0x3f8ccccd ∷ 0x40400000 ∷ 0x3e4ccccd ∷ 0xbecccccd ∷ 0x3f19999a ∷ 0x3fd9999a ∷ [])) 9 8192),
    )
    ∷ []

pub sqrtm_holds : hold sqrtm_table ≡ true
unfolding sqrtm_table all
sqrtm_holds = refl

unfoldable pub logm_table : List Line
logm_table = (
  1 ∷ 0 ∷ 0xb6f6014e ∷ 0x3727c5f4 ∷ 0x37d1b771 ∷ 0xb6c00137 ∷ [],
  shown (bits binary32) (logm binary32 2 2 (numbers binary32 (0x3f7fff85 ∷ 0x3727c5ac ∷ 0x37d1b717 ∷ 0x3f7fffa0 ∷ [])) 4 8192),
)
    ∷ (
      1 ∷ 0 ∷ 0x3d483c5e ∷ 0x3ca24ac7 ∷ 0xbc224ac7 ∷ 0xbcf8b234 ∷ [],
      shown (bits binary32) (logm binary32 2 2 (numbers binary32 (0x3f866666 ∷ 0x3ca3d70a ∷ 0xbc23d70a ∷ 0x3f7851ec ∷ [])) 4 8192),
    )
    ∷ (
      1 ∷ 0 ∷ 0x3f8c9f4a ∷ 0x00000000 ∷ 0x3f134b0e ∷ 0x3fb1722a ∷ [],
      shown (bits binary32) (logm binary32 2 2 (numbers binary32 (0x40400000 ∷ 0x00000000 ∷ 0x40000000 ∷ 0x40800000 ∷ [])) 4 8192),
    )
    ∷ (
      0 ∷ 13 ∷ 0 ∷ 0 ∷ [],
      shown (bits binary32) (logm binary32 2 2 (numbers binary32 (0x40800000 ∷ 0x00000000 ∷ 0x40000000 ∷ 0x00000000 ∷ [])) 4 8192),
    )
    -- 2^-46 I and 2^-45 I: the iteration starts from I where the root of trace / n is at most 2^-23, and else LU refuses the start
    ∷ (
      1 ∷ 0 ∷ 0xc1bc88e3 ∷ 0x00000000 ∷ 0x00000000 ∷ 0xc1bc88e3 ∷ [],
      shown (bits binary32) (logm binary32 2 2 (numbers binary32 (0x28800000 ∷ 0x00000000 ∷ 0x00000000 ∷ 0x28800000 ∷ [])) 4 8192),
    )
    ∷ (
      0 ∷ 13 ∷ 0 ∷ 0 ∷ [],
      shown (bits binary32) (logm binary32 2 2 (numbers binary32 (0x29000000 ∷ 0x00000000 ∷ 0x00000000 ∷ 0x29000000 ∷ [])) 4 8192),
    )
    -- order 3
    ∷ (
      1 ∷ 0 ∷ 0x3d1fa870 ∷ 0x3ca4570a ∷ 0xbc20b8f2 ∷ 0x3c764f1a ∷ 0xbcfc0e13 ∷ 0x3c25f2a1 ∷ 0xbca0ec67 ∷ 0x3cf8b87e ∷ 0x3ca0338e ∷ [],
      shown (bits binary32) (logm binary32 3 3 (numbers binary32 (0x3f851eb8 ∷ 0x3ca3d70a ∷ 0xbc23d70a ∷ 0x3c75c28f ∷ 0x3f7851ec ∷ 0x3c23d70a ∷ 0xbca3d70a ∷ 0x3cf5c28f ∷ 0x3f828f5c ∷ [])) 9 8192),
    )
    ∷ []

pub logm_holds : hold logm_table ≡ true
unfolding logm_table all
logm_holds = refl

unfoldable pub frechet_sqrtm_table : List Line
frechet_sqrtm_table =
    -- order 1: 1, and three times the smallest number
    (
      1 ∷ 0 ∷ 0x3f800000 ∷ 0x3e995810 ∷ [],
      shown (both binary32) (frechet_sqrtm binary32 1 1 (numbers binary32 (0x3f800000 ∷ [])) 1 1 (numbers binary32 (0x3f195810 ∷ [])) 1 1 8192),
    )
    ∷ (
      1 ∷ 0 ∷ 0x1a9cc471 ∷ 0x637a68e1 ∷ [],
      shown (both binary32) (frechet_sqrtm binary32 1 1 (numbers binary32 (0x00000003 ∷ [])) 1 1 (numbers binary32 (0x3f195810 ∷ [])) 1 1 8192),
    )
    -- order 2
    ∷ (
      1 ∷ 0 ∷ 0x3f188cba ∷ 0xbf4d90ca ∷ 0x3f4d90c8 ∷ 0x3f188cbc ∷ 0x3f5c06c4 ∷ 0x3c781fc6 ∷ 0x3c781fc8 ∷ 0x3e84c0b7 ∷ [],
      shown (both binary32) (frechet_sqrtm binary32 2 2 (numbers binary32 (0xbe94538f ∷ 0xbf74fdf4 ∷ 0x3f74fdf4 ∷ 0xbe94538f ∷ [])) 2 2 (numbers binary32 (0x3f800000 ∷ 0x3f000000 ∷ 0x3f000000 ∷ 0x3eaaaaab ∷ [])) 4 4 8192),
    )
    ∷ (
      1 ∷ 0 ∷ 0x3fb68b68 ∷ 0xbe8fe17c ∷ 0x3df6a720 ∷ 0x3f884c11 ∷ 0x3dde34d4 ∷ 0x3d9dd37b ∷ 0xbd31a749 ∷ 0x3ebf5b72 ∷ [],
      shown (both binary32) (frechet_sqrtm binary32 2 2 (numbers binary32 (0x40000000 ∷ 0xbf333333 ∷ 0x3e99999a ∷ 0x3f8ccccd ∷ [])) 2 2 (numbers binary32 (0x3e99999a ∷ 0x3dcccccd ∷ 0xbe4ccccd ∷ 0x3f4ccccd ∷ [])) 4 4 8192),
    )
    ∷ (
      0 ∷ 13 ∷ 0 ∷ 0 ∷ [],
      shown (both binary32) (frechet_sqrtm binary32 2 2 (numbers binary32 (0x3f800000 ∷ 0xc0000000 ∷ 0x00000000 ∷ 0x00000000 ∷ [])) 2 2 (numbers binary32 (0x3f333333 ∷ 0x3fcccccd ∷ 0x00000000 ∷ 0x404ccccd ∷ [])) 4 4 8192),
    )
    ∷ []

pub frechet_sqrtm_holds : hold frechet_sqrtm_table ≡ true
unfolding frechet_sqrtm_table all
frechet_sqrtm_holds = refl

unfoldable pub frechet_sqrtm_sylvester_table : List Line
frechet_sqrtm_sylvester_table =
    -- order 1, as frechet_sqrtm
    (1 ∷ 0 ∷ 0x3f800000 ∷ 0x3e995810 ∷ [], shown (both binary32) (frechet_sqrtm_sylvester binary32 1 1 (numbers binary32 (0x3f800000 ∷ [])) 1 1 (numbers binary32 (0x3f195810 ∷ [])) 1 1 8192))
    -- [[3, 0], [2, 4]], [[0, 3/2], [-3/2, 0]]
    ∷ (1 ∷ 0 ∷ 0x3fddb3d6 ∷ 0x00000000 ∷ 0x3f0930a2 ∷ 0x40000000 ∷ 0x3e52b5bd ∷ 0x3f0930a3 ∷ 0x3f2419a3 ∷ 0x3f6d9eba ∷ [], shown (both binary32) (frechet_sqrtm_sylvester binary32 2 2 (numbers binary32 (0x40400000 ∷ 0x00000000 ∷ 0x40000000 ∷ 0x40800000 ∷ [])) 2 2 (numbers binary32 (0x3f800000 ∷ 0x40000000 ∷ 0x40400000 ∷ 0x40800000 ∷ [])) 4 4 8192))
    ∷ (1 ∷ 0 ∷ 0x3f5db3d6 ∷ 0x3f5db3d8 ∷ 0xbf5db3d7 ∷ 0x3f5db3d8 ∷ 0xbe93cd3b ∷ 0x3f13cd39 ∷ 0x4013cd3a ∷ 0x3fb8c08a ∷ [], shown (both binary32) (frechet_sqrtm_sylvester binary32 2 2 (numbers binary32 (0x00000000 ∷ 0x3fc00000 ∷ 0xbfc00000 ∷ 0x00000000 ∷ [])) 2 2 (numbers binary32 (0x3f800000 ∷ 0x40000000 ∷ 0x40400000 ∷ 0x40800000 ∷ [])) 4 4 8192))
    -- [[1/2, 1/3], [1/3, 1/4]], whose root is symmetric: both functions alike
    ∷ (1 ∷ 0 ∷ 0x3f1f5017 ∷ 0x3eabe662 ∷ 0x3eabe662 ∷ 0x3ebdb364 ∷ 0x3eb7e072 ∷ 0x3ea3d08e ∷ 0x3fa9e0f3 ∷ 0x4094daa9 ∷ [], shown (both binary32) (frechet_sqrtm_sylvester binary32 2 2 (numbers binary32 (0x3f000000 ∷ 0x3eaaaaab ∷ 0x3eaaaaab ∷ 0x3e800000 ∷ [])) 2 2 (numbers binary32 (0x3f800000 ∷ 0x40000000 ∷ 0x40400000 ∷ 0x40800000 ∷ [])) 4 4 8192))
    ∷ (1 ∷ 0 ∷ 0x3f1f5017 ∷ 0x3eabe662 ∷ 0x3eabe662 ∷ 0x3ebdb364 ∷ 0x3eb7e072 ∷ 0x3ea3d08e ∷ 0x3fa9e0f3 ∷ 0x4094daa9 ∷ [], shown (both binary32) (frechet_sqrtm binary32 2 2 (numbers binary32 (0x3f000000 ∷ 0x3eaaaaab ∷ 0x3eaaaaab ∷ 0x3e800000 ∷ [])) 2 2 (numbers binary32 (0x3f800000 ∷ 0x40000000 ∷ 0x40400000 ∷ 0x40800000 ∷ [])) 4 4 8192))
    -- [[1, 2 ^ 24], [0, 1]]: the root is found, and LU refuses the system
    ∷ (0 ∷ 13 ∷ 0 ∷ 0 ∷ [], shown (both binary32) (frechet_sqrtm_sylvester binary32 2 2 (numbers binary32 (0x3f800000 ∷ 0x4b800000 ∷ 0x00000000 ∷ 0x3f800000 ∷ [])) 2 2 (numbers binary32 (0x3f800000 ∷ 0x40000000 ∷ 0x40400000 ∷ 0x40800000 ∷ [])) 4 4 8192))
    ∷ []

pub frechet_sqrtm_sylvester_holds : hold frechet_sqrtm_sylvester_table ≡ true
unfolding frechet_sqrtm_sylvester_table all
frechet_sqrtm_sylvester_holds = refl

unfoldable pub frechet_logm_table : List Line
frechet_logm_table =
    -- in the last the second logarithm is refused
    (
      1 ∷ 0 ∷ 0x37d9fe4f ∷ 0x3796fdf6 ∷ 0x3851b60e ∷ 0x3751fdbb ∷ 0x3f7febfe ∷ 0xb796ec51 ∷ 0xb851919b ∷ 0x3f7fece0 ∷ [],
      shown (both binary32) (frechet_logm binary32 2 2 (numbers binary32 (0x3f8000da ∷ 0x3796feb5 ∷ 0x3851b717 ∷ 0x3f800069 ∷ [])) 2 2 (numbers binary32 (0x3f800000 ∷ 0x00000000 ∷ 0x00000000 ∷ 0x3f800000 ∷ [])) 4 4 8192),
    )
    ∷ (
      1 ∷ 0 ∷ 0x3d483c5e ∷ 0x3ca24ac7 ∷ 0xbc224ac7 ∷ 0xbcf8b234 ∷ 0x3e9379d9 ∷ 0x3db45e13 ∷ 0xbe4536b8 ∷ 0x3f53b652 ∷ [],
      shown (both binary32) (frechet_logm binary32 2 2 (numbers binary32 (0x3f866666 ∷ 0x3ca3d70a ∷ 0xbc23d70a ∷ 0x3f7851ec ∷ [])) 2 2 (numbers binary32 (0x3e99999a ∷ 0x3dcccccd ∷ 0xbe4ccccd ∷ 0x3f4ccccd ∷ [])) 4 4 8192),
    )
    ∷ (
      0 ∷ 13 ∷ 0 ∷ 0 ∷ [],
      shown (both binary32) (frechet_logm binary32 2 2 (numbers binary32 (0x3f800000 ∷ 0x00000000 ∷ 0x00000000 ∷ 0x3f800000 ∷ [])) 2 2 (numbers binary32 (0x60ad78ec ∷ 0x60ad78ec ∷ 0x60ad78ec ∷ 0x60ad78ec ∷ [])) 4 4 8192),
    )
    ∷ []

pub frechet_logm_holds : hold frechet_logm_table ≡ true
unfolding frechet_logm_table all
frechet_logm_holds = refl
