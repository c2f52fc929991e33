-- The editions that a block of any octets holds, one by one, as the code reads them. Document 02, T-12. Assumes
-- nothing.
use Rattle.std.specs.Prelude.{ℕ, List, drop, get_or}
use Rattle.laws.specs.Rows.{row}
use Rattle.octets.specs.Numbers.{at_most}
use Rattle.editions.specs.Editions.{Edition, edition_in, most_editions}
use Rattle.editions.specs.Block.{edition_size, editions_of}
use Rattle.wholes.specs.Layout.{editions_at, editions_count_at}

unfoldable pub listed : List ℕ → List Edition
listed s = editions_of (drop editions_at s)

unfoldable pub edition_count : List ℕ → ℕ
edition_count s = at_most (get_or s editions_count_at 0) most_editions

unfoldable pub row_in : List ℕ → ℕ → List ℕ
row_in s i = row edition_size i (drop editions_at s)

unfoldable pub edition_at : List ℕ → ℕ → Edition
edition_at s i = edition_in (row_in s i)
