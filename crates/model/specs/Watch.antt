-- Watching, by stored timers: what a packet and a tick do to the pairs held, and what they write. Document 01,
-- Watching, by history.
use Rattle.std.specs.Prelude.{ℕ, zero, suc, ◌+◌, Bool, true, false, ◌&&◌, ◌||◌, not, List, [], ◌∷◌, ◌++◌, map, leb, ltb, eqb, length}
use Rattle.std.proofs.Math.Option.{Option, none, some}
use Rattle.std.specs.Int.Signed.{le_z, lt_z}
use Rattle.laws.specs.Tests.{pick, sames}
use Rattle.laws.specs.Loops.{some as some_of, each, when}
use Rattle.rule.specs.Engine.{find}
use Rattle.rule.specs.Base.{map_some as move_each}
use Rattle.model.specs.Types.{Model, Monitor, Packet, Pair, device_of, watched, with_lists}
use Rattle.model.specs.Level.{d_bm, add_rssi}
use Rattle.model.specs.Monitors.{allows, matches, good, sifts, strong, run_of, windowed}
use Rattle.model.specs.Events.{start_event, stop_event, packet_reports, window_report}
use Rattle.model.specs.Layout.{most_monitors, most_pairs}

-- A pair with other ticks since a good packet, with one packet more in its window, with another number of ticks in
-- its window, with an empty window.
unfoldable pub with_since_good : Pair → ℕ → Pair
with_since_good q n =
    record {
      handle = q.handle;
      address_type = q.address_type;
      address = q.address;
      since_good = n;
      ticks = q.ticks;
      packets = q.packets;
      sum = q.sum;
      kept = q.kept;
      event = q.event;
      adv = q.adv;
    }

unfoldable pub gathered : Packet → Pair → Pair
gathered p q =
    record {
      handle = q.handle;
      address_type = q.address_type;
      address = q.address;
      since_good = q.since_good;
      ticks = q.ticks;
      packets = q.packets + 1;
      sum = add_rssi q.sum p.rssi;
      kept = p.rssi;
      event = p.event;
      adv = p.adv;
    }

unfoldable pub with_ticks : Pair → ℕ → Pair
with_ticks q n =
    record {
      handle = q.handle;
      address_type = q.address_type;
      address = q.address;
      since_good = q.since_good;
      ticks = n;
      packets = q.packets;
      sum = q.sum;
      kept = q.kept;
      event = q.event;
      adv = q.adv;
    }

unfoldable pub emptied : Pair → Pair
emptied q =
    record {
      handle = q.handle;
      address_type = q.address_type;
      address = q.address;
      since_good = q.since_good;
      ticks = 0;
      packets = 0;
      sum = 0;
      kept = q.kept;
      event = 0;
      adv = [];
    }

-- a pair that keeps a packet for duplicates: its event type and data
unfoldable pub with_latest : ℕ → List ℕ → Pair → Pair
with_latest event adv q =
    record {
      handle = q.handle;
      address_type = q.address_type;
      address = q.address;
      since_good = q.since_good;
      ticks = q.ticks;
      packets = q.packets;
      sum = q.sum;
      kept = q.kept;
      event = event;
      adv = adv;
    }

-- a pair that keeps another RSSI
unfoldable pub with_kept : Pair → ℕ → Pair
with_kept q o =
    record {
      handle = q.handle;
      address_type = q.address_type;
      address = q.address;
      since_good = q.since_good;
      ticks = q.ticks;
      packets = q.packets;
      sum = q.sum;
      kept = o;
      event = q.event;
      adv = q.adv;
    }

-- the packet is of the pair's device and matches its monitor's condition: "only packets that match its condition count"
unfoldable pub counts : Monitor → Packet → Pair → Bool
counts m p q = sames (device_of p) (watched q) && matches m p

-- the count of ticks starts anew at a good packet; the window takes the packet
unfoldable pub refreshed : Monitor → Packet → Pair → Pair
refreshed m p q = pick (good m p) (with_since_good q 0) q

unfoldable pub window_takes : Monitor → Packet → Pair → Pair
window_takes m p q = pick (windowed m) (gathered p q) q

-- T-13: "A duplicate has the event type and advertisement data of the last packet that was a reason for a report for
-- that pair"
unfoldable pub duplicate : Monitor → Packet → Pair → Bool
duplicate m p q = sifts m && (eqb q.event p.event && sames q.adv p.adv)

-- the packet that was a reason is kept, for a monitor that filters duplicates; keeping a duplicate changes nothing,
-- so it need not be told apart (`duplicate-kept`)
unfoldable pub remembered : Monitor → Packet → Pair → Pair
remembered m p q = pick (sifts m && allows m p.event) (with_latest p.event p.adv q) q

-- T-05: "Each pair keeps its latest matching RSSI", good or not
unfoldable pub at_packet : Option Monitor → Packet → Pair → Pair
at_packet none p q = q
at_packet (some m) p q = pick (counts m p q) (remembered m p (window_takes m p (refreshed m p (with_kept q p.rssi)))) q

unfoldable pub packet_move : List (ℕ × Monitor) → Packet → Pair → Pair
packet_move mons p q = at_packet (find mons q.handle) p q

-- the pair of a handle and a device is held
unfoldable pub is_pair : ℕ → List ℕ → Pair → Bool
is_pair h d q = eqb q.handle h && sames (watched q) d

unfoldable pub holds : List Pair → ℕ → List ℕ → Bool
holds qs h d = some_of (is_pair h d) qs

-- the smallest RSSI that a pair keeps, where it is below r, else r
unfoldable pub smaller : ℕ → ℕ → ℕ
smaller a b = pick (lt_z (d_bm a) (d_bm b)) a b

unfoldable pub least : ℕ → List Pair → ℕ
least r [] = r
least r (q ∷ qs) = smaller q.kept (least r qs)

-- the pair keeps this RSSI
unfoldable pub keeps : ℕ → Pair → Bool
keeps k q = le_z (d_bm q.kept) (d_bm k) && le_z (d_bm k) (d_bm q.kept)

-- the first of the pairs that keep an RSSI ("the earliest started if several"), and the pairs without it
unfoldable pub first_keeping : ℕ → List Pair → List Pair
first_keeping k [] = []
first_keeping k (q ∷ qs) = pick (keeps k q) (q ∷ []) (first_keeping k qs)

unfoldable pub without : ℕ → List Pair → List Pair
without k [] = []
without k (q ∷ qs) = pick (keeps k q) qs (q ∷ without k qs)

-- "fewer than 64 pairs are"; T-05: or, "64 are under watch, and its RSSI is above the smallest kept one"
unfoldable pub has_room : List Pair → Bool
has_room qs = ltb (length qs) most_pairs

unfoldable pub fits : ℕ → List Pair → Bool
fits r qs = has_room qs || lt_z (d_bm (least r qs)) (d_bm r)

-- "It is a start if its RSSI is at least high, the pair is not under watch just before", and there is room for it
unfoldable pub begins : Monitor → Packet → ℕ → List Pair → Bool
begins m p h qs = matches m p && (strong m p && (not (holds qs h (device_of p)) && fits p.rssi qs))

-- a pair at its start: "The start packet is in no window". T-01: "A start packet now counts as good even when its
-- RSSI is not above low": no ticks have passed since a good packet. T-13: "looking no further back than its latest
-- start", "event type 0xFF, n 0 while there is none"
unfoldable pub start_like : Bool → Bool → ℕ → Packet → Pair
start_like sifting reason h p =
    record {
      handle = h;
      address_type = p.address_type;
      address = p.address;
      since_good = 0;
      ticks = 0;
      packets = 0;
      sum = 0;
      kept = p.rssi;
      event = pick sifting (pick reason p.event 0xFF) 0;
      adv = when (sifting && reason) p.adv;
    }

-- "a start packet is never a duplicate": it is kept where it is a reason
unfoldable pub start_pair : Monitor → ℕ → Packet → Pair
start_pair m h p = start_like (sifts m) (allows m p.event) h p

-- one handle's turn gives its start, if it has one
unfoldable pub start_of : Option Monitor → Packet → ℕ → List Pair → List Pair
start_of none p h qs = []
start_of (some m) p h qs = when (begins m p h qs) (start_pair m h p ∷ [])

-- T-05: "that pair (the earliest started if several) gets its stop event": the pair that goes for a start at an RSSI
-- where there is no room, and those that stay
unfoldable pub goes_for : ℕ → List Pair → List Pair
goes_for r qs = pick (has_room qs) [] (first_keeping (least r qs) qs)

unfoldable pub stays_for : ℕ → List Pair → List Pair
stays_for r qs = pick (has_room qs) qs (without (least r qs) qs)

-- one handle's turn ends the watch of these
unfoldable pub stop_of : Option Monitor → Packet → ℕ → List Pair → List Pair
stop_of none p h qs = []
stop_of (some m) p h qs = when (begins m p h qs) (goes_for p.rssi qs)

-- the pairs after it: "monitors take one packet in handle order, and a start takes its room at once"
unfoldable pub turn : Option Monitor → Packet → ℕ → List Pair → List Pair
turn none p h qs = qs
turn (some m) p h qs = pick (begins m p h qs) (stays_for p.rssi qs ++ (start_pair m h p ∷ [])) qs

-- the turns of the handles below n, and the starts that they give, by handle
unfoldable pub turns : List (ℕ × Monitor) → Packet → ℕ → List Pair → List Pair
turns mons p zero qs = qs
turns mons p (suc n) qs = turn (find mons n) p n (turns mons p n qs)

unfoldable pub starts_below : List (ℕ × Monitor) → Packet → ℕ → List Pair → List Pair
starts_below mons p zero qs = []
starts_below mons p (suc n) qs = starts_below mons p n qs ++ start_of (find mons n) p n (turns mons p n qs)

-- what a turn writes, "its stop event and the new one starts", and what the turns of the handles below n do
unfoldable pub turn_answer : List ℕ → Option Monitor → Packet → ℕ → List Pair → List ℕ
turn_answer prefix o p h qs = each (stop_event prefix) (stop_of o p h qs) ++ each (start_event prefix) (start_of o p h qs)

unfoldable pub turns_answer : List ℕ → List (ℕ × Monitor) → Packet → ℕ → List Pair → List ℕ
turns_answer prefix mons p zero qs = []
turns_answer prefix mons p (suc n) qs =
    turns_answer prefix mons p n qs ++ turn_answer prefix (find mons n) p n (turns mons p n qs)

-- the pairs after a packet: those held, moved ("updated for the present packet first"), and then the turns by handle
unfoldable pub packet_pairs : Model → Packet → List Pair
packet_pairs m p = turns m.mons p most_monitors (map (packet_move m.mons p) m.pairs)

-- the starts of a packet
unfoldable pub starts_of : Model → Packet → List Pair
starts_of m p = starts_below m.mons p most_monitors (map (packet_move m.mons p) m.pairs)

-- "some matching monitor has sampling 0 and the pair under watch"; T-13: it is a reason where its report filtering
-- lets the packet through and it is no duplicate
unfoldable pub reason_for : Option Monitor → Packet → Pair → Bool
reason_for none p q = false
reason_for (some m) p q = counts m p q && (eqb m.sampling 0 && (allows m p.event && not (duplicate m p q)))

unfoldable pub is_reason : List (ℕ × Monitor) → Packet → Pair → Bool
is_reason mons p q = reason_for (find mons q.handle) p q

-- "or the packet is a start"; T-13: where the report filtering of its monitor lets it through
unfoldable pub allows_by : Option Monitor → ℕ → Bool
allows_by none event = false
allows_by (some m) event = allows m event

unfoldable pub start_told : List (ℕ × Monitor) → Packet → Pair → Bool
start_told mons p q = allows_by (find mons q.handle) p.event

-- "one report .. if the filter is off, or some matching monitor has sampling 0 and the pair under watch, or the
-- packet is a start"
unfoldable pub reported : Model → Packet → Bool
reported m p =
    eqb m.filter 0 || (some_of (is_reason m.mons p) m.pairs || some_of (start_told m.mons p) (starts_of m p))

-- "Packet, handles ascending: a start event for each start", behind the stop event of the pair that goes for it.
-- "Then one report with the packet's RSSI"; with kind 04 a second one
unfoldable pub packet_answer : Model → Packet → List ℕ
packet_answer m p =
    turns_answer m.prefix m.mons p most_monitors (map (packet_move m.mons p) m.pairs)
    ++ when (reported m p) (packet_reports p)

-- the watch goes on over one tick more: "The tick that completes such a run ends the watch. Silence counts as low (H)."
unfoldable pub goes_on : Monitor → Pair → Bool
goes_on m q = ltb (q.since_good + 1) (run_of m)

-- "each P-th tick since the start closes a window"
unfoldable pub closes : Monitor → Pair → Bool
closes m q = windowed m && leb m.sampling (q.ticks + 1)

-- the window over one tick: closed and empty, or one tick longer
unfoldable pub window_tick : Monitor → Pair → Pair
window_tick m q = pick (windowed m) (pick (closes m q) (emptied q) (with_ticks q (q.ticks + 1))) q

unfoldable pub at_tick : Option Monitor → Pair → Option Pair
at_tick none q = none
at_tick (some m) q = pick (goes_on m q) (some (window_tick m (with_since_good q (q.since_good + 1)))) none

unfoldable pub tick_pairs : Model → List Pair
tick_pairs m = move_each (λ q. at_tick (find m.mons q.handle) q) m.pairs

-- "if the filter is on and the window had matching packets, one report"; T-13: where the report filtering lets the
-- packet through that it reports
unfoldable pub window_says : ℕ → Monitor → Pair → Bool
window_says filter m q = eqb filter 1 && (closes m q && (leb 1 q.packets && allows m q.event))

-- "if the watch ends, a stop event and no report. Otherwise .. one report"
unfoldable pub tick_octets : ℕ → List ℕ → Option Monitor → Pair → List ℕ
tick_octets filter prefix none q = stop_event prefix q
tick_octets filter prefix (some m) q =
    pick (goes_on m q) (when (window_says filter m q) (window_report q)) (stop_event prefix q)

-- "Tick, pairs in the order they started"
unfoldable pub tick_answer : Model → List ℕ
tick_answer m = each (λ q. tick_octets m.filter m.prefix (find m.mons q.handle) q) m.pairs
