-- Soundness of a block, clause by clause on its octets. Document 01, The image ("Sound: settings in range, filter 0
-- or 1; monitors held in rising handle order .. every unused octet and place of the state 0; pairs distinct, at most
-- 64, of live handles ..").
use Rattle.std.specs.Prelude.{ℕ, ◌+◌, ◌-◌, ◌*◌, Bool, true, ◌&&◌, not, List, leb, ltb, eqb, length, take, drop, get_or}
use Rattle.std.proofs.Math.Option.{Option, none, some}
use Rattle.laws.specs.Tests.{pick}
use Rattle.laws.specs.Loops.{every}
use Rattle.laws.specs.Rows.{row}
use Rattle.octets.specs.Little.{little}
use Rattle.parts.specs.Parts.{is_zero}
use Rattle.model.specs.Types.{Monitor}
use Rattle.model.specs.Image.{monitor_in, pair_in}
use Rattle.model.specs.Monitors.{accepts}
use Rattle.model.specs.Sound.{sound_of}
use Rattle.soundness.specs.Below.{all_below}
use Rattle.model.specs.Layout.{block_size, condition_at, condition_length_at, count_at, data_at, extra_at, filter_at, handle_at, head_size, interval_at, length_at, monitor_size, monitors_at, most_condition, most_data, most_monitors, most_pairs, most_prefix, opcode_at, pair_size, pairs_at, position_at, prefix_at, prefix_length_at}

-- the monitor row of a handle, the pair row at a place
unfoldable pub monitor_row_at : List ℕ → ℕ → List ℕ
monitor_row_at s h = row monitor_size h (drop monitors_at s)

unfoldable pub pair_row_at : List ℕ → ℕ → List ℕ
pair_row_at s i = row pair_size i (drop pairs_at s)

-- "settings in range, filter 0 or 1", the octets behind the prefix 0
unfoldable pub head_test : List ℕ → Bool
head_test r =
    leb (get_or r filter_at 0) 1 && leb 0xFC00 (little 2 r opcode_at) && leb (get_or r prefix_length_at 0) most_prefix
    && every is_zero (drop (prefix_at + get_or r prefix_length_at 0) r)

-- the monitor that a row holds: one where its interval is not 0
unfoldable pub monitor_of_row : List ℕ → Option Monitor
monitor_of_row r = pick (eqb (get_or r interval_at 0) 0) none (some (monitor_in r).1)

-- a row without what version 2 adds has zeros there
unfoldable pub bare_test : List ℕ → Bool
bare_test r = pick (eqb (get_or r extra_at 0) 0) (every is_zero (drop extra_at r)) true

-- a row in use: its handle is its place, "every monitor as 0x03 would accept it" (or 0x0F), the octets behind the
-- condition 0
unfoldable pub held_test : ℕ → List ℕ → Bool
held_test h r =
    eqb (get_or r handle_at 0) h && leb (get_or r condition_length_at 0) most_condition
    && every is_zero (drop (condition_at + get_or r condition_length_at 0) (take extra_at r)) && bare_test r
    && accepts (monitor_in r).1

unfoldable pub monitor_test : ℕ → List ℕ → Bool
monitor_test h r = pick (eqb (get_or r interval_at 0) 0) (every is_zero r) (held_test h r)

-- the monitor of a handle, where it is live
unfoldable pub live_at : List ℕ → ℕ → Option Monitor
live_at s h = pick (ltb h most_monitors) (monitor_of_row (monitor_row_at s h)) none

-- a pair's row: what soundness asks of a pair, and the octets behind its data 0
unfoldable pub pair_test : ℕ → Option Monitor → List ℕ → Bool
pair_test position o r =
    sound_of position o (pair_in r) && leb (get_or r length_at 0) most_data
    && every is_zero (drop (data_at + get_or r length_at 0) r)

-- the pair at a place, with its monitor if its handle is live
unfoldable pub place_test : List ℕ → ℕ → Bool
place_test s i = pair_test (little 4 s position_at) (live_at s (get_or (pair_row_at s i) handle_at 0)) (pair_row_at s i)

-- handle, address type and address of the pair at a place, as one number
unfoldable pub key_at : List ℕ → ℕ → ℕ
key_at s i = little 8 s (pairs_at + pair_size * i)

-- another pair than each one before it
unfoldable pub other_test : List ℕ → ℕ → Bool
other_test s i = all_below (λ (j : ℕ). not (eqb (key_at s i) (key_at s j))) i

-- the places behind the pairs
unfoldable pub free_test : List ℕ → ℕ → Bool
free_test s c = every is_zero (take (count_at - (pairs_at + pair_size * c)) (drop (pairs_at + pair_size * c) s))

-- the monitors, the pairs, and the whole block
unfoldable pub monitors_test : List ℕ → Bool
monitors_test s = all_below (λ (h : ℕ). monitor_test h (monitor_row_at s h)) most_monitors

unfoldable pub loose_pairs_test : List ℕ → ℕ → Bool
loose_pairs_test s c = leb c most_pairs && free_test s c && all_below (place_test s) c

-- .. but that a pair may be held twice
unfoldable pub loose : List ℕ → Bool
loose s = eqb (length s) block_size && head_test (take head_size s) && monitors_test s
    && loose_pairs_test s (get_or s count_at 0)

-- .. and each pair another than those before it
unfoldable pub others_test : List ℕ → Bool
others_test s = all_below (other_test s) (get_or s count_at 0)
