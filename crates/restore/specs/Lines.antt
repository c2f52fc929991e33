-- What restore stores of one line, whatever the line holds, in a block of 5,225 octets; and of the lines of a text
-- one after another. Document 01, The image. Nothing is tested here but that each row lies within the block: what was
-- stored is tested afterwards, by the block's soundness and by saving it again. Assumes nothing.
use Rattle.std.specs.Prelude.{ℕ, ◌+◌, ◌-◌, ◌*◌, ◌&&◌, List, [], ◌∷◌, ltb, eqb, length, take, drop, get_or, replicate}
use Rattle.laws.specs.Tests.{pick}
use Rattle.laws.specs.Put.{put}
use Rattle.octets.specs.Numbers.{at_most}
use Rattle.model.specs.Layout.{block_size, condition_at, condition_length_at, count_at, extra_at, extra_size, handle_at, head_size, line_row, monitor_size, monitors_at, most_condition, most_monitors, most_pairs, pair_size, pairs_at}

-- A1: the row of its handle, where that is one
unfoldable pub stored_monitor : List ℕ → List ℕ → List ℕ
stored_monitor s r =
    pick (ltb (get_or r handle_at 0) most_monitors) (put s (monitors_at + monitor_size * get_or r handle_at 0) r) s

-- A3: the row behind the pairs, and one pair more, where there is room
unfoldable pub stored_pair : List ℕ → List ℕ → List ℕ
stored_pair s r =
    pick (ltb (get_or s count_at 0) most_pairs)
    (put (put s (pairs_at + pair_size * get_or s count_at 0) r) count_at ((get_or s count_at 0 + 1) ∷ [])) s

-- A5: the row of its line, what version 2 adds behind the room of the condition
abbrev pub second_end : List ℕ → ℕ
second_end l = 1 + condition_at + at_most (get_or l (1 + condition_length_at) 0) most_condition

unfoldable pub spread_of : List ℕ → List ℕ
spread_of l =
    put (put (replicate monitor_size 0) 0 (take (second_end l - 1) (drop 1 l))) extra_at
    (take extra_size (drop (second_end l) l))

-- a line by its name: A0 the head, A1 and A5 a monitor, A3 a pair, of every other nothing
unfoldable pub stored : List ℕ → List ℕ → List ℕ
stored s l =
    pick (eqb (get_or l 0 0) 0xA0) (put s 0 (take head_size (drop 1 l))) (
    pick (eqb (get_or l 0 0) 0xA1) (stored_monitor s (take monitor_size (drop 1 l))) (
    pick (eqb (get_or l 0 0) 0xA5) (stored_monitor s (spread_of l)) (
    pick (eqb (get_or l 0 0) 0xA3) (stored_pair s (take pair_size (drop 1 l))) s)))

-- .. of a block and a line of their lengths; of others nothing
unfoldable pub stored_in : List ℕ → List ℕ → List ℕ
stored_in s l = pick (eqb (length s) block_size && eqb (length l) line_row) (stored s l) s
