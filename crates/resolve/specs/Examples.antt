-- The Core Specification's sample of ah (Vol 3, Part H, appendix D.7), computed. Assumes nothing.
use Rattle.std.specs.Prelude.{ℕ, List, [], ◌∷◌}

-- keys as a condition has them, the least octet first: the sample's, that with its least bit changed, that in the
-- other order
unfoldable pub sample_key : List ℕ
sample_key =
    0x9b ∷ 0x7d ∷ 0x39 ∷ 0x0a ∷ 0xa6 ∷ 0x10 ∷ 0x10 ∷ 0x34
    ∷ 0x05 ∷ 0xad ∷ 0xc8 ∷ 0x57 ∷ 0xa3 ∷ 0x34 ∷ 0x02 ∷ 0xec ∷ []
