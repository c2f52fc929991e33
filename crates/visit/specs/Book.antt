-- The book of open visits: what an event, a cancelled monitor and a packet do to it. Assumes nothing.
use Rattle.std.specs.Prelude.{ℕ, suc, ◌+◌, ◌-◌, ◌/◌, ◌%◌, Bool, false, ◌&&◌, List, [], ◌∷◌, Option, None, Some, is_none, map, length, ◌==◌, nat_le, nat_lt, slice_index_or, slice_set}
use Rattle.laws.specs.Tests.{pick}
use Rattle.octets.specs.Numbers.{number_at}
use Rattle.visit.specs.declared.Visit.{Visit}
use Rattle.visit.specs.declared.News.{News}
use Rattle.visit.specs.declared.News.TheVariants.{Start, Stop, Other}

-- above every device's number: 7 octets, address type and address. A key is a device's number and, in its last octet,
-- a handle
abbrev pub devices : ℕ
devices = 72057594037927936

-- no key of 8 octets is greater
abbrev pub last_key : ℕ
last_key = 18446744073709551615

-- "Event: 0xFF, length, prefix, 0x02, address type, address, handle, 1 or 0": the key is the address type, the
-- address and the handle, the 8 octets before the last
unfoldable pub told_of : List ℕ → News
told_of e =
    pick (nat_lt (length e) 12) Other (pick (number_at 1 e 0 == 255) (
    pick (number_at 1 e (length e - 1) == 0) (Stop (number_at 8 e (length e - 9)))
    (Start (number_at 8 e (length e - 9)))) Other)

-- whether a row is an open visit with a key from one number to another
unfoldable pub is_in : ℕ → ℕ → Option Visit → Bool
is_in low high None = false
is_in low high (Some v) = nat_le low v.key && nat_le v.key high

-- the place of the first row that passes; as many as there are where none does
unfoldable pub place_of : (Option Visit → Bool) → List (Option Visit) → ℕ
place_of f [] = 0
place_of f (v ∷ vs) = pick (f v) 0 (suc (place_of f vs))

unfoldable pub place_in : ℕ → ℕ → List (Option Visit) → ℕ
place_in low high rows = place_of (is_in low high) rows

abbrev pub is_free : Option Visit → Bool
is_free v = is_none v

unfoldable pub free_in : List (Option Visit) → ℕ
free_in rows = place_of is_free rows

-- a visit begun, in the first free row; a full book stays as it is
unfoldable pub begun_at : ℕ → ℕ → ℕ → Visit
begun_at key frame tick = record { key = key; frame = frame; tick = tick; packets = 0; sum = 0 }

unfoldable pub started_in : List (Option Visit) → ℕ → ℕ → ℕ → List (Option Visit)
started_in rows key frame tick =
    pick (nat_lt (free_in rows) 64) (slice_set rows (free_in rows) (Some (begun_at key frame tick))) rows

-- the first open visit with a key from one number to another closed: whether there is one, the rows without it, and
-- the visit
unfoldable pub is_found : ℕ → ℕ → List (Option Visit) → Bool
is_found low high rows = nat_lt (place_in low high rows) 64

unfoldable pub rows_without : ℕ → ℕ → List (Option Visit) → List (Option Visit)
rows_without low high rows = pick (is_found low high rows) (slice_set rows (place_in low high rows) None) rows

unfoldable pub visit_out : ℕ → ℕ → List (Option Visit) → Option Visit
visit_out low high rows = pick (is_found low high rows) (slice_index_or rows (place_in low high rows) None) None

-- a packet of a device heard: counted by the open visits of that device, whose number is the key without the handle
unfoldable pub heard_by : ℕ → ℕ → Visit → Visit
heard_by device level v =
    pick (v.key % devices == device)
    (record {
      key = v.key;
      frame = v.frame;
      tick = v.tick;
      packets = (v.packets + 1) % 18446744073709551616;
      sum = (v.sum + level) % 18446744073709551616;
    }) v

unfoldable pub heard_row : ℕ → ℕ → Option Visit → Option Visit
heard_row device level None = None
heard_row device level (Some v) = Some (heard_by device level v)

unfoldable pub heard_in : ℕ → ℕ → List (Option Visit) → List (Option Visit)
heard_in device level rows = map (heard_row device level) rows

-- what an event does: a start begins a visit, a stop closes the visit of its key
unfoldable pub change_rows : News → List (Option Visit) → ℕ → ℕ → List (Option Visit)
change_rows (Start key) rows frame tick = started_in rows key frame tick
change_rows (Stop key) rows frame tick = rows_without key key rows
change_rows Other rows frame tick = rows

unfoldable pub change_visit : News → List (Option Visit) → Option Visit
change_visit (Start key) rows = None
change_visit (Stop key) rows = visit_out key key rows
change_visit Other rows = None

-- the mean of levels, "the greatest whole number not above sum / count"
unfoldable pub mean_of : ℕ → ℕ → Option ℕ
mean_of packets sum = pick (packets == 0) None (Some (sum / packets % 256))
