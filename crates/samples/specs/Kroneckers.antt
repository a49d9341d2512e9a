-- The definitions of kron and kron_sum at numbers, against the source run in Rust.
use Rattle.std.specs.Prelude.{◌≡◌, refl, true, List, [], ◌∷◌}
use Rattle.std.specs.Float.{binary64}
use Rattle.functions_definitions.specs.Calls.{kron, kron_sum}
use Rattle.samples.specs.Shown.{Line, hold, numbers, shown, bits}
use Rattle.samples.specs.Opened.{all}

unfoldable pub kron_table : List Line
kron_table = (
  1 ∷ 0 ∷ 0x3ce7339305d79062 ∷ 0x3ca8aad10db6d57f ∷ 0x0000000000000000 ∷ 0x0000000000000000 ∷ 0x0000000000000000 ∷ 0x0000000000000000 ∷ 0x3c95e15966fec897 ∷ 0x3cb782cf1135e69f ∷ 0x0000000000000000 ∷ 0x0000000000000000 ∷ 0x0000000000000000 ∷ 0x0000000000000000 ∷ 0x0000000000000000 ∷ 0x0000000000000000 ∷ 0x0000000000000000 ∷ 0x0000000000000000 ∷ 0x4007339305d79063 ∷ 0x3fc8aad10db6d580 ∷ 0x0000000000000000 ∷ 0x0000000000000000 ∷ 0x0000000000000000 ∷ 0x0000000000000000 ∷ 0x3fb5e15966fec898 ∷ 0x3fd782cf1135e6a0 ∷ [],
  shown (bits binary64) (kron binary64 2 3 (numbers binary64 (0x3ccfffffffffffff ∷ 0x0000000000000000 ∷ 0x0000000000000000 ∷ 0x0000000000000000 ∷ 0x0000000000000000 ∷ 0x3ff0000000000000 ∷ [])) 2 2 (numbers binary64 (0x4007339305d79063 ∷ 0x3fc8aad10db6d580 ∷ 0x3fb5e15966fec898 ∷ 0x3fd782cf1135e6a0 ∷ [])) 24),
)
    ∷ (
      1 ∷ 0 ∷ 0x0000000000000000 ∷ 0x8000000000000000 ∷ 0x0000000000000000 ∷ 0x8000000000000000 ∷ 0x0000000000000000 ∷ 0x8000000000000000 ∷ [],
      shown (bits binary64) (kron binary64 1 2 (numbers binary64 (0x2a5a10771d30dcb0 ∷ 0xaa3e53119c0a2ee0 ∷ [])) 3 1 (numbers binary64 (0x0000000000000000 ∷ 0x0000000000000000 ∷ 0x0000000000000000 ∷ [])) 6),
    )
    ∷ []

pub kron_holds : hold kron_table ≡ true
unfolding kron_table all
kron_holds = refl

unfoldable pub kron_sum_table : List Line
kron_sum_table = (
  1 ∷ 0 ∷ 0x3ff09c0d9bd25a15 ∷ 0xbfa075a205a62f99 ∷ 0xbfeff9e3cd82b66d ∷ 0x8000000000000000 ∷ 0x0000000000000000 ∷ 0x3fa3c572893c7bbc ∷ 0x0000000000000000 ∷ 0xbfeff9e3cd82b66d ∷ 0x0000000000000000 ∷ 0x0000000000000000 ∷ 0x3feffbc40f10ec6e ∷ 0xbfa075a205a62f99 ∷ 0x0000000000000000 ∷ 0x0000000000000000 ∷ 0x0000000000000000 ∷ 0x0000000000000000 ∷ [],
  shown (bits binary64) (kron_sum binary64 2 2 (numbers binary64 (0x3fa3c572893c7bbc ∷ 0xbfeff9e3cd82b66d ∷ 0x0000000000000000 ∷ 0x0000000000000000 ∷ [])) 2 2 (numbers binary64 (0x3feffbc40f10ec6e ∷ 0xbfa075a205a62f99 ∷ 0x0000000000000000 ∷ 0x0000000000000000 ∷ [])) 16),
)
    ∷ []

pub kron_sum_holds : hold kron_sum_table ≡ true
unfolding kron_sum_table all
kron_sum_holds = refl
