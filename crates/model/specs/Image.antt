-- The image's text, and what text is an image. Document 01, The image; a text is an image exactly if saving a sound
-- state writes it.
use Rattle.std.specs.Prelude.{ℕ, ◌+◌, Bool, true, false, ◌&&◌, ◌||◌, List, [], ◌∷◌, ◌++◌, map, eqb, length, take, drop, get_or}
use Rattle.std.proofs.Math.Option.{Option, none, some}
use Rattle.laws.specs.Tests.{pick, sames}
use Rattle.laws.specs.Loops.{each, keep}
use Rattle.octets.specs.Little.{little, octets_of}
use Rattle.lines.specs.Hex.{text_of, octets_in}
use Rattle.sessions.specs.Saved.{cut}
use Rattle.model.specs.Types.{Model, Monitor, Pair}
use Rattle.model.specs.Sound.{sound_model}
use Rattle.model.specs.Layout.{address_type_at, address_size, filter_at, opcode_at, position_at, prefix_at, prefix_length_at, address_at, condition_at, condition_length_at, data_at, event_at, extra_at, extra_size, handle_at, high_at, interval_at, length_at, low_at, options_in, packets_at, rssi_at, sampling_at, since_good_at, sum_at, ticks_at, condition_type_at}

-- "A0 line: position (4), filter, opcode (2), prefix length, prefix"
unfoldable pub head_row : Model → List ℕ
head_row m = octets_of 4 m.position ++ (m.filter ∷ (octets_of 2 m.opcode ++ (length m.prefix ∷ m.prefix)))

-- "A1 per monitor, by handle: handle, high, low, interval, sampling, type, condition length, condition"
unfoldable pub monitor_row : ℕ × Monitor → List ℕ
monitor_row x =
    x.0 ∷ x.1.high ∷ x.1.low ∷ x.1.interval ∷ x.1.sampling ∷ x.1.condition_type ∷ length x.1.condition
    ∷ x.1.condition

-- T-13: "A version 2 monitor is an A5 line among the A1 lines, by handle: A1's fields, then the added parameters as
-- printed"
unfoldable pub extra_text : Option (List ℕ) → List ℕ
extra_text none = []
extra_text (some l) = l

unfoldable pub name_of : Option (List ℕ) → ℕ
name_of none = 0xA1
name_of (some l) = 0xA5

unfoldable pub monitor_text : ℕ × Monitor → List ℕ
monitor_text x = name_of x.1.extra ∷ (monitor_row x ++ extra_text x.1.extra)

-- "A2 per pair, in start order: handle, address type, address, ticks since a good packet (2), ticks in the window
-- (1), packets (4), sum (8), event type, n, data of the latest packet in the window"; T-05: "The A2 line becomes an
-- A3 line, which has that octet" (the kept RSSI) "before the event type"
unfoldable pub pair_row : Pair → List ℕ
pair_row q =
    q.handle ∷ q.address_type ∷ (q.address
    ++ (octets_of 2 q.since_good ++ (q.ticks ∷ (octets_of 4 q.packets ++ (octets_of 8 q.sum
    ++ (q.kept ∷ q.event ∷ length q.adv ∷ q.adv))))))

-- "AF: number of monitors, number of pairs"
unfoldable pub end_row : Model → List ℕ
end_row m = length m.mons ∷ length m.pairs ∷ []

-- the lines before hexadecimal, each with the octet that names it
unfoldable pub records : Model → List (List ℕ)
records m =
    (0xA0 ∷ head_row m) ∷ (map monitor_text m.mons
    ++ (map (λ (q : Pair). 0xA3 ∷ pair_row q) m.pairs ++ ((0xAF ∷ end_row m) ∷ [])))

-- the image's text
unfoldable pub image_text : Model → List ℕ
image_text m = each text_of (records m)

-- what rows hold: a monitor, a pair. Monitor_options 0, which version 2 forbids, says that there are no added
-- parameters.
unfoldable pub extra_in : List ℕ → Option (List ℕ)
extra_in a = pick (eqb (get_or a options_in 0) 0) none (some a)

-- a monitor with A1's fields in one list and what is added in another
unfoldable pub monitor_from : List ℕ → List ℕ → ℕ × Monitor
monitor_from r a = (
  get_or r handle_at 0,
  record {
    high = get_or r high_at 0;
    low = get_or r low_at 0;
    interval = get_or r interval_at 0;
    sampling = get_or r sampling_at 0;
    condition_type = get_or r condition_type_at 0;
    condition = take (get_or r condition_length_at 0) (drop condition_at r);
    extra = extra_in a;
  },
)

-- in a row of the block the added parameters stand behind the room of the condition, in a line behind the condition
unfoldable pub monitor_in : List ℕ → ℕ × Monitor
monitor_in r = monitor_from r (take extra_size (drop extra_at r))

unfoldable pub monitor_on : List ℕ → ℕ × Monitor
monitor_on l = monitor_from l (drop (condition_at + get_or l condition_length_at 0) l)

unfoldable pub pair_in : List ℕ → Pair
pair_in r =
    record {
      handle = get_or r handle_at 0;
      address_type = get_or r address_type_at 0;
      address = take address_size (drop address_at r);
      since_good = little 2 r since_good_at;
      ticks = get_or r ticks_at 0;
      packets = little 4 r packets_at;
      sum = little 8 r sum_at;
      kept = get_or r rssi_at 0;
      event = get_or r event_at 0;
      adv = take (get_or r length_at 0) (drop data_at r);
    }

-- whether a line has a name; the lines of a name, without it
unfoldable pub has_name : ℕ → List ℕ → Bool
has_name n r = eqb (get_or r 0 0) n

unfoldable pub rows_named : ℕ → List (List ℕ) → List (List ℕ)
rows_named n rs = map (drop 1) (keep (has_name n) rs)

-- the monitors' lines, of either version
unfoldable pub is_monitor : List ℕ → Bool
is_monitor r = has_name 0xA1 r || has_name 0xA5 r

unfoldable pub monitors_on : List (List ℕ) → List (ℕ × Monitor)
monitors_on rs = map (λ (r : List ℕ). monitor_on (drop 1 r)) (keep is_monitor rs)

-- the first line
unfoldable pub first_of : List (List ℕ) → List ℕ
first_of [] = []
first_of (r ∷ rs) = drop 1 r

-- the state that lines hold, whatever they are
unfoldable pub model_in : List (List ℕ) → Model
model_in rs =
    record {
      position = little 4 (first_of rs) position_at;
      filter = get_or (first_of rs) filter_at 0;
      opcode = little 2 (first_of rs) opcode_at;
      prefix = take (get_or (first_of rs) prefix_length_at 0) (drop prefix_at (first_of rs));
      mons = monitors_on rs;
      pairs = map pair_in (rows_named 0xA3 rs);
    }

unfoldable pub held_in : List ℕ → Model
held_in t = model_in (map octets_in (cut t))

-- "not an image of a sound state" is refusal 10: a text is an image where what it holds is sound and is saved as that
-- very text
unfoldable pub is_image : List ℕ → Bool
is_image t = sound_model (held_in t) && sames (image_text (held_in t)) t

unfoldable pub read_image : List ℕ → Option Model
read_image t = pick (is_image t) (some (held_in t)) none
