-- The marks of devices: which were seen among the entries of a table, so that a device that has none is told without
-- a search. Document 02, T-02. Assumes nothing.
use Rattle.std.specs.Prelude.{ℕ, ◌/◌, ◌%◌, ◌^◌, ◌≡◌, List, get_or}
use Rattle.octets.specs.Little.{value}
use Rattle.rule.specs.Base.{All}
use Rattle.wholes.specs.Index.{IndexEntry}
use Rattle.index.specs.Table.{Tabled}

abbrev pub marks : ℕ
marks = 256

-- the mark of a device's number: its address' lowest octet
unfoldable pub mark_of : ℕ → ℕ
mark_of dev = dev / 256 % marks

-- the marks that were seen are bits, 64 to a number
abbrev pub words : ℕ
words = 4

abbrev pub bit_in : List ℕ → ℕ → ℕ
bit_in seen m = get_or seen (m / 64) 0 / 2 ^ (m % 64) % 2

-- a mark that was seen; that of each entry
unfoldable pub Marked : List ℕ → ℕ → Type 0
Marked seen m = bit_in seen m ≡ 0 → ⊥

unfoldable pub Seen : List IndexEntry → List ℕ → Type 0
Seen es seen = All (λ e. Marked seen (mark_of (value e.device))) es

-- a table and the marks of its devices
pub record Kept (es : List IndexEntry) (k : ℕ) (t seen : List ℕ) : Type 0 where
  pub tabled : Tabled es k t
  pub marked : Seen es seen
