-- What stands behind the core of a block: the places of the index by device (document 02, T-02) and of the editions
-- of the prefix (T-12). `Whole` in the crate index has the same numbers for the code. All of these unfold everywhere:
-- arithmetic sees the numbers.
use Rattle.std.specs.Prelude.{ℕ, ◌+◌, ◌*◌}
use Rattle.model.specs.Layout.{block_size, address_size, most_pairs}
use Rattle.editions.specs.Block.{edition_count_at, editions_size}

-- An entry's row: address type, address, mask (2).
abbrev pub device_size : ℕ
device_size = 1 + address_size

abbrev pub mask_at : ℕ
mask_at = device_size

abbrev pub entry_size : ℕ
entry_size = mask_at + 2

-- The index: rows for as many entries as there may be pairs, the number of entries.
abbrev pub entries_size : ℕ
entries_size = entry_size * most_pairs

abbrev pub index_size : ℕ
index_size = entries_size + 1

-- The whole block: the core, the index, the editions and their number.
abbrev pub index_at : ℕ
index_at = block_size

abbrev pub entry_count_at : ℕ
entry_count_at = index_at + entries_size

abbrev pub editions_at : ℕ
editions_at = index_at + index_size

abbrev pub editions_count_at : ℕ
editions_count_at = editions_at + edition_count_at

abbrev pub whole_size : ℕ
whole_size = editions_at + editions_size
