-- The definitions of compute, solve and determinant at numbers, against the source run in Rust.
use Rattle.std.specs.Prelude.{◌≡◌, refl, true, List, [], ◌∷◌}
use Rattle.std.specs.Float.{binary64}
use Rattle.lu.specs.Calls.{compute, determinant, solve}
use Rattle.samples.specs.Shown.{Line, hold, numbers, shown, bits, factors_and_pivots, number}
use Rattle.samples.specs.Opened.{all}

unfoldable pub compute_table : List Line
compute_table = (
  1 ∷ 0 ∷ [],
  shown (factors_and_pivots binary64) (compute binary64 0 0 [] [] 0 8192),
)
    ∷ (
      1 ∷ 0 ∷ 0x7ff0000000000000 ∷ 0x3fa5597016f99540 ∷ 0x0000000000000000 ∷ 0x3fea83980cb50a6a ∷ 1 ∷ 1 ∷ [],
      shown (factors_and_pivots binary64) (compute binary64 2 2 (numbers binary64 (0x3fe99aba79019610 ∷ 0x3fea83980cb50a6a ∷ 0x7ff0000000000000 ∷ 0x3fa5597016f99540 ∷ [])) (9 ∷ 9 ∷ []) 4 8192),
    )
    ∷ (
      1 ∷ 0 ∷ 0x798fe40efe8e4e72 ∷ 0xbfc7199c4ef2e4f0 ∷ 0xbfe33f9ce1a91bf0 ∷ 0x064ad2d2f74d9849 ∷ 0xbfc78b728d60a368 ∷ 0xbfd70111e1b2e554 ∷ 0x064efebf202b0f5a ∷ 0xbfd8592e4e6980fe ∷ 0xbfecd590c58c61cc ∷ 2 ∷ 1 ∷ 2 ∷ [],
      shown (factors_and_pivots binary64) (compute binary64 3 3 (numbers binary64 (0x3feee3aebef26b3a ∷ 0x3fb1ea33d2c7e240 ∷ 0xbfe875565a51de58 ∷ 0x3feabb671052346a ∷ 0xbfc78b728d60a368 ∷ 0xbfd70111e1b2e554 ∷ 0x798fe40efe8e4e72 ∷ 0xbfc7199c4ef2e4f0 ∷ 0xbfe33f9ce1a91bf0 ∷ [])) (9 ∷ 9 ∷ 9 ∷ []) 9 8192),
    )
    ∷ (
      0 ∷ 14 ∷ 2 ∷ 0 ∷ [],
      shown (factors_and_pivots binary64) (compute binary64 3 3 (numbers binary64 (0xc000000000000000 ∷ 0x0000000000000000 ∷ 0x4010000000000000 ∷ 0x3ff0000000000000 ∷ 0xc000000000000000 ∷ 0x4000000000000000 ∷ 0xbff0000000000000 ∷ 0x0000000000000000 ∷ 0x4000000000000000 ∷ [])) (9 ∷ 9 ∷ 9 ∷ []) 9 8192),
    )
    ∷ []

pub compute_holds : hold compute_table ≡ true
unfolding compute_table all
compute_holds = refl

unfoldable pub solve_table : List Line
solve_table = (
  1 ∷ 0 ∷ 0x7fc4f8cbfe395070 ∷ 0xffc634c82ea2a8d3 ∷ 0x7fd68a1eb338602b ∷ 0xffd33eb8c1e3c180 ∷ [],
  shown (bits binary64) (solve binary64 2 2 (numbers binary64 (0x3fe3a00b3b90055c ∷ 0xbfd877b82f7c8004 ∷ 0xbfe3760850e6112c ∷ 0xbfd248939b310812 ∷ [])) (1 ∷ 1 ∷ []) 2 2 (numbers binary64 (0xffb4703255c75998 ∷ 0x7fb4a88292438480 ∷ 0xffa17d37b2fdd758 ∷ 0x7f818a4059d5e770 ∷ [])) 4),
)
    ∷ (
      1 ∷ 0 ∷ 0xc098bcd77f1230b5 ∷ 0x405c5d6f967039fa ∷ 0x40c74674d18d7f33 ∷ [],
      shown (bits binary64) (solve binary64 3 3 (numbers binary64 (0x3fcb17f5fe53fb1a ∷ 0x0000000000000000 ∷ 0xbf998d53fcf3c150 ∷ 0x3fefca5548bbccf1 ∷ 0x4030000000000002 ∷ 0xbf900c814059382d ∷ 0xbfdf6088c5a15056 ∷ 0x0000000000000000 ∷ 0xbfb72fd6dbc9904f ∷ [])) (0 ∷ 1 ∷ 2 ∷ []) 3 1 (numbers binary64 (0xc083c3d942dab9b8 ∷ 0x408f42024fcbc1f0 ∷ 0xc0880a3232fa6ce4 ∷ [])) 3),
    )
    ∷ (
      1 ∷ 0 ∷ [],
      shown (bits binary64) (solve binary64 0 0 [] [] 0 2 [] 0),
    )
    ∷ (
      0 ∷ 9 ∷ 0 ∷ 4 ∷ [],
      shown (bits binary64) (solve binary64 3 3 (numbers binary64 (0x3ffae1b7b0a6f0d5 ∷ 0x3fe8a342ed23a592 ∷ 0x3fcd89a1f0bc77fa ∷ 0x3fdd542acb17660b ∷ 0x3fe08298e565d072 ∷ 0x3fa9692f4b9a82b6 ∷ 0x3fc194af839d113a ∷ 0x3fb8a02e7f07627c ∷ 0x3f94e6a0a842ed12 ∷ [])) (4 ∷ 1 ∷ 2 ∷ []) 3 2 (numbers binary64 (0xbfefe1cf0e8202d6 ∷ 0x3fb5f555f2604e6f ∷ 0x0000000000000000 ∷ 0xbfb5f555f2604e6f ∷ 0xbfefe1cf0e8202d6 ∷ 0x0000000000000000 ∷ [])) 6),
    )
    ∷ []

pub solve_holds : hold solve_table ≡ true
unfolding solve_table all
solve_holds = refl

unfoldable pub determinant_table : List Line
determinant_table = (
  1 ∷ 0 ∷ 0x3ff0000000000000 ∷ [],
  shown (number binary64) (determinant binary64 0 0 [] []),
)
    ∷ (
      1 ∷ 0 ∷ 0xfff0000000000000 ∷ [],
      shown (number binary64) (determinant binary64 2 2 (numbers binary64 (0x7ff0000000000000 ∷ 0x3fa5597016f99540 ∷ 0x0000000000000000 ∷ 0x3fea83980cb50a6a ∷ [])) (1 ∷ 1 ∷ [])),
    )
    ∷ (
      1 ∷ 0 ∷ 0xf96524a0a1df54ee ∷ [],
      shown (number binary64) (determinant binary64 3 3 (numbers binary64 (0x798fe40efe8e4e72 ∷ 0xbfc7199c4ef2e4f0 ∷ 0xbfe33f9ce1a91bf0 ∷ 0x064ad2d2f74d9849 ∷ 0xbfc78b728d60a368 ∷ 0xbfd70111e1b2e554 ∷ 0x064efebf202b0f5a ∷ 0xbfd8592e4e6980fe ∷ 0xbfecd590c58c61cc ∷ [])) (2 ∷ 1 ∷ 2 ∷ [])),
    )
    ∷ (
      0 ∷ 9 ∷ 2 ∷ 1 ∷ [],
      shown (number binary64) (determinant binary64 3 3 (numbers binary64 (0x798fe40efe8e4e72 ∷ 0xbfc7199c4ef2e4f0 ∷ 0xbfe33f9ce1a91bf0 ∷ 0x064ad2d2f74d9849 ∷ 0xbfc78b728d60a368 ∷ 0xbfd70111e1b2e554 ∷ 0x064efebf202b0f5a ∷ 0xbfd8592e4e6980fe ∷ 0xbfecd590c58c61cc ∷ [])) (2 ∷ 1 ∷ 1 ∷ [])),
    )
    ∷ []

pub determinant_holds : hold determinant_table ≡ true
unfolding determinant_table all
determinant_holds = refl
