-- The octets of a block that is kept by columns, and the next round key by columns. Assumes nothing.
use Rattle.std.specs.Prelude.{ℕ, List, [], ◌∷◌, ◌++◌}
use Rattle.fips197.specs.Field.{substitute}
use Rattle.fips197.specs.Words.{octet, octets}
use Rattle.aes.specs.declared.Block.{Block}

-- the octets of a block, in[0] first
unfoldable pub block_octets : Block → List ℕ
block_octets s = octets s.a ++ octets s.b ++ octets s.c ++ octets s.d

-- the substitutes of a column, row by row, each row from a column of its own
abbrev pub sub_column : ℕ → ℕ → ℕ → ℕ → List ℕ
sub_column a b c d =
    substitute (octet 0 a) ∷ substitute (octet 1 b) ∷ substitute (octet 2 c) ∷ substitute (octet 3 d) ∷ []
