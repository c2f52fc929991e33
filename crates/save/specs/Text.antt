-- The text that save writes of a block of 5,225 octets, whatever its octets, line by line. Document 01, The image.
-- Lengths that stand in rows are cut to what the row has, so no octet outside a row is read and the text is never
-- over 10,698 characters. That it is the image's text where the block is that of a sound state is the law of Image.
-- Assumes nothing.
use Rattle.std.specs.Prelude.{ℕ, ◌+◌, Bool, ◌&&◌, List, [], ◌∷◌, ◌++◌, leb, eqb, length, take, drop, get_or}
use Rattle.laws.specs.Tests.{pick}
use Rattle.laws.specs.Loops.{when, only, up_to}
use Rattle.laws.specs.Rows.{row}
use Rattle.octets.specs.Numbers.{at_most}
use Rattle.lines.specs.Hex.{text_of}
use Rattle.model.specs.Block.{in_use}
use Rattle.blocks.specs.Added.{added_in}
use Rattle.model.specs.Layout.{monitor_lines, pair_lines, end_line}
use Rattle.sessions.specs.Machine.{core_room}
use Rattle.model.specs.Layout.{block_size, condition_at, condition_length_at, count_at, data_at, extra_at, length_at, monitor_size, monitors_at, most_condition, most_data, most_monitors, most_pairs, most_prefix, pair_size, pairs_at, prefix_at, prefix_length_at}

-- "A0 line: position (4), filter, opcode (2), prefix length, prefix", from the start of the block
unfoldable pub head_text : List ℕ → List ℕ
head_text s = text_of (0xA0 ∷ take (prefix_at + at_most (get_or s prefix_length_at 0) most_prefix) s)

-- "A1 per monitor"; T-13: an A5 line, with what version 2 adds, where Monitor_options is not 0
abbrev pub fields_of : List ℕ → List ℕ
fields_of r = take (condition_at + at_most (get_or r condition_length_at 0) most_condition) r

unfoldable pub line_of : List ℕ → List ℕ
line_of r = pick (eqb (get_or r extra_at 0) 0) (0xA1 ∷ fields_of r) (0xA5 ∷ (fields_of r ++ added_in r))

-- the line of a monitor row in use, nothing of one that is not
unfoldable pub monitor_text : List ℕ → List ℕ
monitor_text r = when (in_use r) (text_of (line_of r))

-- "A3 per pair": the line of a pair row
unfoldable pub pair_text : List ℕ → List ℕ
pair_text r = text_of (0xA3 ∷ take (data_at + at_most (get_or r length_at 0) most_data) r)

-- "AF: number of monitors, number of pairs"
unfoldable pub end_text : ℕ → ℕ → List ℕ
end_text mons pairs = text_of (0xAF ∷ mons ∷ pairs ∷ [])

-- the row of handle h, the row of pair i
unfoldable pub monitor_at : List ℕ → ℕ → List ℕ
monitor_at s h = row monitor_size h (drop monitors_at s)

unfoldable pub pair_at : List ℕ → ℕ → List ℕ
pair_at s i = row pair_size i (drop pairs_at s)

-- the handles below n whose rows are in use
unfoldable pub live_below : List ℕ → ℕ → List ℕ
live_below s n = up_to (λ h. only (in_use (monitor_at s h)) h) n

-- the lines of the first n monitor rows, "by handle", and of the first n pair rows, "in start order"
unfoldable pub monitors_text : List ℕ → ℕ → List ℕ
monitors_text s n = up_to (λ h. monitor_text (monitor_at s h)) n

unfoldable pub pairs_text : List ℕ → ℕ → List ℕ
pairs_text s n = up_to (λ i. pair_text (pair_at s i)) n

-- the number of pairs that a block holds
unfoldable pub pairs_in : List ℕ → ℕ
pairs_in s = at_most (get_or s count_at 0) most_pairs

-- the text of a block: its first line, and the rest
unfoldable pub rest_text : List ℕ → List ℕ
rest_text s = monitors_text s most_monitors ++ pairs_text s (pairs_in s)
    ++ end_text (length (live_below s most_monitors)) (pairs_in s)

unfoldable pub saved_text : List ℕ → List ℕ
saved_text s = head_text s ++ rest_text s

-- whether save writes: the block has its size, and 10,698 octets are lent
unfoldable pub saves : List ℕ → ℕ → Bool
saves s room = eqb (length s) block_size && leb core_room room

-- the same of a part of the text: room for the longest is lent
abbrev pub rest_room : ℕ
rest_room = monitor_lines + (pair_lines + end_line)

unfoldable pub saves_in : ℕ → List ℕ → ℕ → Bool
saves_in need s room = eqb (length s) block_size && leb need room
