-- The state as a block of octets: rows as the image has them before hexadecimal, unused octets and rows 0. Document
-- 01, The image ("every unused octet and place of the state 0"). A0's fields stand at 0 (40 octets, the prefix
-- padded), the 16 monitor rows of 96 octets at 40, the row of handle h at place h, the 64 pair rows of 57 octets at
-- 1576 in start order, the number of pairs at 5224.
use Rattle.std.specs.Prelude.{ℕ, zero, suc, ◌+◌, ◌-◌, ◌*◌, Bool, true, false, ◌&&◌, not, List, [], ◌∷◌, ◌++◌, map, leb, ltb, eqb, length, take, drop, get_or, replicate}
use Rattle.std.proofs.Math.Option.{Option, none, some}
use Rattle.laws.specs.Tests.{pick, sames}
use Rattle.laws.specs.Loops.{keep, up_to}
use Rattle.laws.specs.Rows.{rows, flat}
use Rattle.laws.specs.Put.{put_if}
use Rattle.octets.specs.Little.{little, octets_of}
use Rattle.rule.specs.Engine.{find}
use Rattle.sessions.specs.Machine.{answer_room, last_number}
use Rattle.model.specs.Types.{Model, Monitor, Pair}
use Rattle.model.specs.Image.{head_row, monitor_row, pair_row, monitor_in, pair_in}
use Rattle.model.specs.Sound.{sound_model}
use Rattle.model.specs.Layout.{block_size, extra_at, extra_size, monitor_size, pair_size, head_size, count_at, monitors_at, pairs_at, filter_at, interval_at, most_monitors, most_pairs, opcode_at, position_at, prefix_at, prefix_length_at}

-- a row with zeros behind it, up to n octets
unfoldable pub pad_to : ℕ → List ℕ → List ℕ
pad_to n r = r ++ replicate (n - length r) 0

-- the added parameters in a monitor's row: zeros in version 1
unfoldable pub extra_row : Option (List ℕ) → List ℕ
extra_row none = replicate extra_size 0
extra_row (some l) = l

-- the row of a handle: its monitor's, or zeros
unfoldable pub monitor_place : ℕ → Option Monitor → List ℕ
monitor_place h none = replicate monitor_size 0
monitor_place h (some m) = pad_to extra_at (monitor_row (h, m)) ++ extra_row m.extra

unfoldable pub monitor_block : List (ℕ × Monitor) → List ℕ
monitor_block mons = up_to (λ h. monitor_place h (find mons h)) most_monitors

unfoldable pub pair_block : List Pair → List ℕ
pair_block pairs =
    flat (map (λ (q : Pair). pad_to pair_size (pair_row q)) pairs) ++ replicate (pair_size * (most_pairs - length pairs)) 0

-- the block of a state
unfoldable pub padded : Model → List ℕ
padded m = pad_to head_size (head_row m) ++ (monitor_block m.mons ++ (pair_block m.pairs ++ (length m.pairs ∷ [])))

-- a monitor row is in use where its interval is not 0
unfoldable pub in_use : List ℕ → Bool
in_use r = not (eqb (get_or r interval_at 0) 0)

-- the tables of a block
unfoldable pub monitor_table : List ℕ → List (List ℕ)
monitor_table s = rows monitor_size most_monitors (drop monitors_at s)

unfoldable pub pair_table : List ℕ → List (List ℕ)
pair_table s = rows pair_size most_pairs (drop pairs_at s)

-- the state that a block holds, whatever its octets
unfoldable pub model_of : List ℕ → Model
model_of s =
    record {
      position = little 4 s position_at;
      filter = get_or s filter_at 0;
      opcode = little 2 s opcode_at;
      prefix = take (get_or s prefix_length_at 0) (drop prefix_at s);
      mons = map monitor_in (keep in_use (monitor_table s));
      pairs = map pair_in (take (get_or s count_at 0) (pair_table s));
    }

-- a block is sound where the state that it holds is, and it is that state's block
unfoldable pub sound : List ℕ → Bool
sound s = sound_model (model_of s) && sames (padded (model_of s)) s

-- one frame further: the position of a block is 1 more, and 0 behind the last number; a block too short to have one
-- stays as it is
unfoldable pub advanced : List ℕ → List ℕ
advanced s = put_if (leb 4 (length s)) s position_at (octets_of 4 (little 4 s position_at + 1))

-- a frame may be taken: the block has its size, the output room for the longest answer, and a frame number is left
unfoldable pub ready : List ℕ → List ℕ → Bool
ready s out = eqb (length s) block_size && (leb answer_room (length out) && ltb (little 4 s position_at) last_number)
