-- The definitions of compute, solve and determinant at numbers of binary32, against the source run in Rust with T = f32.
use Rattle.std.specs.Prelude.{◌≡◌, refl, true, List, [], ◌∷◌}
use Rattle.std.specs.Float.{binary32}
use Rattle.lu.specs.Calls.{compute, determinant, solve}
use Rattle.samples.specs.Shown.{Line, hold, numbers, shown, bits, factors_and_pivots, number}
use Rattle.samples.specs.Opened.{all}

unfoldable pub compute_table : List Line
compute_table =
    (1 ∷ 0 ∷ [], shown (factors_and_pivots binary32) (compute binary32 0 0 [] [] 0 8192))
    ∷ (
      1 ∷ 0 ∷ 0x7f800000 ∷ 0x3d2acd9f ∷ 0x00000000 ∷ 0x3f547ae1 ∷ 1 ∷ 1 ∷ [],
      shown (factors_and_pivots binary32) (compute binary32 2 2 (numbers binary32 (0x3f4ccccd ∷ 0x3f547ae1 ∷ 0x7f800000 ∷ 0x3d2acd9f ∷ [])) (9 ∷ 9 ∷ []) 4 8192),
    )
    ∷ (
      1 ∷ 0 ∷ 0xbf1c28f6 ∷ 0x3e947ae1 ∷ 0xbefbcda4 ∷ 0x3f57b623 ∷ 1 ∷ 1 ∷ [],
      shown (factors_and_pivots binary32) (compute binary32 2 2 (numbers binary32 (0x3e99999a ∷ 0x3f333333 ∷ 0xbf1c28f6 ∷ 0x3e947ae1 ∷ [])) (9 ∷ 9 ∷ []) 4 8192),
    )
    -- the pivot's reciprocal is subnormal
    ∷ (
      1 ∷ 0 ∷ 0x7f61b1e6 ∷ 0x7f167699 ∷ 0x00244bfa ∷ 0x408aaaab ∷ 1 ∷ 1 ∷ [],
      shown (factors_and_pivots binary32) (compute binary32 2 2 (numbers binary32 (0x3f800000 ∷ 0x40a00000 ∷ 0x7f61b1e6 ∷ 0x7f167699 ∷ [])) (9 ∷ 9 ∷ []) 4 8192),
    )
    ∷ (
      1 ∷ 0 ∷ 0x5bb1a2bc ∷ 0xbe38d4fe ∷ 0xbf19fbe7 ∷ 0x231a07c2 ∷ 0xbe3c6a7f ∷ 0xbeb7ced9 ∷ 0x233202d6 ∷ 0xbec2c859 ∷ 0xbf668c28 ∷ 2 ∷ 1 ∷ 2 ∷ [],
      shown (factors_and_pivots binary32) (compute binary32 3 3 (numbers binary32 (0x3f770a3d ∷ 0x3d8f5c29 ∷ 0xbf439581 ∷ 0x3f55c28f ∷ 0xbe3c6a7f ∷ 0xbeb7ced9 ∷ 0x5bb1a2bc ∷ 0xbe38d4fe ∷ 0xbf19fbe7 ∷ [])) (9 ∷ 9 ∷ 9 ∷ []) 9 8192),
    )
    ∷ (
      1 ∷ 0 ∷ 0x3f19999a ∷ 0x3e800000 ∷ 0xbecccccd ∷ 0x3daaaaab ∷ 0x3f2dddde ∷ 0xbdeeeef0 ∷ 0x3eaaaaab ∷ 0xbf107da6 ∷ 0x3e2b811a ∷ 1 ∷ 2 ∷ 2 ∷ [],
      shown (factors_and_pivots binary32) (compute binary32 3 3 (numbers binary32 (0x3e4ccccd ∷ 0xbe99999a ∷ 0x3dcccccd ∷ 0x3f19999a ∷ 0x3e800000 ∷ 0xbecccccd ∷ 0x3d4ccccd ∷ 0x3f333333 ∷ 0xbe19999a ∷ [])) (9 ∷ 9 ∷ 9 ∷ []) 9 8192),
    )
    ∷ (
      0 ∷ 14 ∷ 2 ∷ 0 ∷ [],
      shown (factors_and_pivots binary32) (compute binary32 3 3 (numbers binary32 (0xc0000000 ∷ 0x00000000 ∷ 0x40800000 ∷ 0x3f800000 ∷ 0xc0000000 ∷ 0x40000000 ∷ 0xbf800000 ∷ 0x00000000 ∷ 0x40000000 ∷ [])) (9 ∷ 9 ∷ 9 ∷ []) 9 8192),
    )
    ∷ []

pub compute_holds : hold compute_table ≡ true
unfolding compute_table all
compute_holds = refl

unfoldable pub solve_table : List Line
solve_table =
    (1 ∷ 0 ∷ [], shown (bits binary32) (solve binary32 0 0 [] [] 0 2 [] 0))
    ∷ (
      1 ∷ 0 ∷ 0xbeb44bb5 ∷ 0xbf2857a8 ∷ 0x3e966996 ∷ 0xbb7f00fb ∷ [],
      shown (bits binary32) (solve binary32 2 2 (numbers binary32 (0xbf1c28f6 ∷ 0x3e947ae1 ∷ 0xbefbcda4 ∷ 0x3f57b623 ∷ [])) (1 ∷ 1 ∷ []) 2 2 (numbers binary32 (0x3dcccccd ∷ 0xbe4ccccd ∷ 0x3e99999a ∷ 0x3ecccccd ∷ [])) 4),
    )
    ∷ (
      1 ∷ 0 ∷ 0x3ead4ad4 ∷ 0xbbfc0fb1 ∷ [],
      shown (bits binary32) (solve binary32 2 2 (numbers binary32 (0x7f61b1e6 ∷ 0x7f167699 ∷ 0x00244bfa ∷ 0x408aaaab ∷ [])) (1 ∷ 1 ∷ []) 2 1 (numbers binary32 (0x3e99999a ∷ 0x7e967699 ∷ [])) 2),
    )
    ∷ (
      1 ∷ 0 ∷ 0xbf80780d ∷ 0xc0b96f97 ∷ 0xc0ac12c3 ∷ [],
      shown (bits binary32) (solve binary32 3 3 (numbers binary32 (0x3f19999a ∷ 0x3e800000 ∷ 0xbecccccd ∷ 0x3daaaaab ∷ 0x3f2dddde ∷ 0xbdeeeef0 ∷ 0x3eaaaaab ∷ 0xbf107da6 ∷ 0x3e2b811a ∷ [])) (1 ∷ 2 ∷ 2 ∷ []) 3 1 (numbers binary32 (0x3f800000 ∷ 0x3dcccccd ∷ 0xc0533333 ∷ [])) 3),
    )
    -- a pivot that names no row from its own on
    ∷ (
      0 ∷ 9 ∷ 0 ∷ 4 ∷ [],
      shown (bits binary32) (solve binary32 3 3 (numbers binary32 (0x3f19999a ∷ 0x3e800000 ∷ 0xbecccccd ∷ 0x3daaaaab ∷ 0x3f2dddde ∷ 0xbdeeeef0 ∷ 0x3eaaaaab ∷ 0xbf107da6 ∷ 0x3e2b811a ∷ [])) (4 ∷ 2 ∷ 2 ∷ []) 3 1 (numbers binary32 (0x3f800000 ∷ 0x3dcccccd ∷ 0xc0533333 ∷ [])) 3),
    )
    ∷ []

pub solve_holds : hold solve_table ≡ true
unfolding solve_table all
solve_holds = refl

unfoldable pub determinant_table : List Line
determinant_table =
    (1 ∷ 0 ∷ 0x3f800000 ∷ [], shown (number binary32) (determinant binary32 0 0 [] []))
    ∷ (
      1 ∷ 0 ∷ 0xff800000 ∷ [],
      shown (number binary32) (determinant binary32 2 2 (numbers binary32 (0x7f800000 ∷ 0x3d2acd9f ∷ 0x00000000 ∷ 0x3f547ae1 ∷ [])) (1 ∷ 1 ∷ [])),
    )
    ∷ (
      1 ∷ 0 ∷ 0x3f039581 ∷ [],
      shown (number binary32) (determinant binary32 2 2 (numbers binary32 (0xbf1c28f6 ∷ 0x3e947ae1 ∷ 0xbefbcda4 ∷ 0x3f57b623 ∷ [])) (1 ∷ 1 ∷ [])),
    )
    ∷ (
      1 ∷ 0 ∷ 0xff800000 ∷ [],
      shown (number binary32) (determinant binary32 2 2 (numbers binary32 (0x7f61b1e6 ∷ 0x7f167699 ∷ 0x00244bfa ∷ 0x408aaaab ∷ [])) (1 ∷ 1 ∷ [])),
    )
    ∷ (
      1 ∷ 0 ∷ 0xda6b7b7f ∷ [],
      shown (number binary32) (determinant binary32 3 3 (numbers binary32 (0x5bb1a2bc ∷ 0xbe38d4fe ∷ 0xbf19fbe7 ∷ 0x231a07c2 ∷ 0xbe3c6a7f ∷ 0xbeb7ced9 ∷ 0x233202d6 ∷ 0xbec2c859 ∷ 0xbf668c28 ∷ [])) (2 ∷ 1 ∷ 2 ∷ [])),
    )
    ∷ (
      1 ∷ 0 ∷ 0x3d8bc6a9 ∷ [],
      shown (number binary32) (determinant binary32 3 3 (numbers binary32 (0x3f19999a ∷ 0x3e800000 ∷ 0xbecccccd ∷ 0x3daaaaab ∷ 0x3f2dddde ∷ 0xbdeeeef0 ∷ 0x3eaaaaab ∷ 0xbf107da6 ∷ 0x3e2b811a ∷ [])) (1 ∷ 2 ∷ 2 ∷ [])),
    )
    -- a pivot that names no row from its own on
    ∷ (
      0 ∷ 9 ∷ 2 ∷ 1 ∷ [],
      shown (number binary32) (determinant binary32 3 3 (numbers binary32 (0x3f19999a ∷ 0x3e800000 ∷ 0xbecccccd ∷ 0x3daaaaab ∷ 0x3f2dddde ∷ 0xbdeeeef0 ∷ 0x3eaaaaab ∷ 0xbf107da6 ∷ 0x3e2b811a ∷ [])) (1 ∷ 2 ∷ 1 ∷ [])),
    )
    ∷ []

pub determinant_holds : hold determinant_table ≡ true
unfolding determinant_table all
determinant_holds = refl
