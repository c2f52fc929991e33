-- What past frames say of one pair under watch: document 01, Watching, by history; document 02, T-05 (the kept RSSI)
-- and T-13 (duplicates). A past is the list of executed frames, the newest first; `after` are the frames after a
-- pair's start. Nothing of the engine is used: no timer, sum or mark is stored, each answer is worked out by looking
-- back. Definitions alone.
use Rattle.std.specs.Prelude.{ℕ, zero, suc, ◌+◌, ◌%◌, Bool, true, false, ◌&&◌, not, List, [], ◌∷◌, ◌++◌, ltb, eqb, length, get_or}
use Rattle.std.proofs.Math.Option.{Option, none, some}
use Rattle.laws.specs.Tests.{pick, sames}
use Rattle.laws.specs.Loops.{some as some_of, when}
use Rattle.model.specs.Types.{Monitor, Packet, Pair, device_of}
use Rattle.model.specs.Level.{add_rssi}
use Rattle.model.specs.Frames.{Typed, command, packet, tick, bad}
use Rattle.model.specs.Commands.{sub_of, params_in, table}
use Rattle.model.specs.Monitors.{allows, matches, good, sifts, run_of, windowed}

-- A start: the number of its packet's frame, the handle, the monitor as it was added, and the packet, whose device is
-- the pair's.
pub record Start : Type 0 where
  pub number : ℕ
  pub handle : ℕ
  pub mon : Monitor
  pub packet : Packet

-- one more, if the frame is a tick; the ticks among frames
unfoldable pub count : Typed → ℕ → ℕ
count (command o l) n = n
count (packet p) n = n
count tick n = n + 1
count bad n = n

unfoldable pub ticks_among : List Typed → ℕ
ticks_among [] = 0
ticks_among (f ∷ l) = count f (ticks_among l)

-- "only packets that match its condition count": those of the pair's device that match, the newest first
unfoldable pub matching_at : Start → Typed → List Packet
matching_at s (command o l) = []
matching_at s (packet p) = when (sames (device_of p) (device_of s.packet) && matches s.mon p) (p ∷ [])
matching_at s tick = []
matching_at s bad = []

unfoldable pub matching_packets : Start → List Typed → List Packet
matching_packets s [] = []
matching_packets s (f ∷ l) = matching_at s f ++ matching_packets s l

-- the ticks since a good packet, or since the start, which counts as good (T-01)
unfoldable pub silent_in : Start → List Typed → ℕ
silent_in s [] = 0
silent_in s (f ∷ l) = pick (some_of (good s.mon) (matching_at s f)) 0 (count f (silent_in s l))

-- "no run of 10 × interval ticks has passed without a good packet"; "The tick that completes such a run ends the
-- watch": at no tick since the start was it complete
unfoldable pub unbroken : Start → List Typed → Bool
unbroken s [] = true
unbroken s (command o c ∷ l) = unbroken s l
unbroken s (packet p ∷ l) = unbroken s l
unbroken s (tick ∷ l) = ltb (silent_in s (tick ∷ l)) (run_of s.mon) && unbroken s l
unbroken s (bad ∷ l) = unbroken s l

-- the frame cancels the handle's monitor, if it is live: "04: handle"
unfoldable pub cancels : ℕ → Typed → Bool
cancels h (command o l) = eqb (sub_of l) 0x04 && (eqb (length l) (params_in table 0x04) && eqb (get_or l 1 0) h)
cancels h (packet p) = false
cancels h tick = false
cancels h bad = false

-- the newest frames, back to the tick before the last k ones, which is not among them
unfoldable pub stretch : ℕ → List Typed → List Typed
stretch k [] = []
stretch k (command o c ∷ l) = command o c ∷ stretch k l
stretch k (packet p ∷ l) = packet p ∷ stretch k l
stretch zero (tick ∷ l) = []
stretch (suc k) (tick ∷ l) = tick ∷ stretch k l
stretch k (bad ∷ l) = bad ∷ stretch k l

-- "for sampling P from 0x01 to 0xFE, each P-th tick since the start closes a window": the ticks since the last one
-- that did, and the matching packets since; "The start packet is in no window"
unfoldable pub window_ticks : Start → List Typed → ℕ
window_ticks s after = pick (windowed s.mon) (ticks_among after % s.mon.sampling) 0

unfoldable pub window : Start → List Typed → List Packet
window s after = when (windowed s.mon) (matching_packets s (stretch (ticks_among after % s.mon.sampling) after))

-- the sum of RSSI, as 8 octets of two's complement
unfoldable pub sum_of : List Packet → ℕ
sum_of [] = 0
sum_of (p ∷ l) = add_rssi (sum_of l) p.rssi

-- T-05: "Each pair keeps its latest matching RSSI", the start's where no packet matched since
unfoldable pub newest_or : Packet → List Packet → Packet
newest_or p [] = p
newest_or p (q ∷ l) = q

unfoldable pub kept_in : Start → List Typed → ℕ
kept_in s after = (newest_or s.packet (matching_packets s after)).rssi

-- T-13: "A duplicate has the event type and advertisement data of the last packet that was a reason for a report for
-- that pair, .. looking no further back than its latest start (H), and is itself no reason for one; a start packet is
-- never a duplicate". A monitor that filters duplicates has sampling 0, so a matching packet is a reason where report
-- filtering lets it through and it is no duplicate.
unfoldable pub alike : Packet → Option Packet → Bool
alike p none = false
alike p (some r) = eqb r.event p.event && sames r.adv p.adv

unfoldable pub last_reason : Start → List Packet → Option Packet
last_reason s [] = pick (allows s.mon s.packet.event) (some s.packet) none
last_reason s (p ∷ l) = pick (allows s.mon p.event && not (alike p (last_reason s l))) (some p) (last_reason s l)

-- the packet that the A3 line's last fields tell of: the last reason, for a monitor that filters duplicates; else the
-- latest in the window
unfoldable pub newest : List Packet → Option Packet
newest [] = none
newest (p ∷ l) = some p

unfoldable pub kept_packet : Start → List Typed → Option Packet
kept_packet s after = pick (sifts s.mon) (last_reason s (matching_packets s after)) (newest (window s after))

-- its event type and data: "(event type 0xFF, n 0 while there is none)" for a monitor that filters duplicates, else 0
unfoldable pub event_or : ℕ → Option Packet → ℕ
event_or o none = o
event_or o (some p) = p.event

unfoldable pub adv_of : Option Packet → List ℕ
adv_of none = []
adv_of (some p) = p.adv

-- what the image tells of a pair (A3)
unfoldable pub pair_of : Start → List Typed → Pair
pair_of s after =
    record {
      handle = s.handle;
      address_type = s.packet.address_type;
      address = s.packet.address;
      since_good = silent_in s after;
      ticks = window_ticks s after;
      packets = length (window s after);
      sum = sum_of (window s after);
      kept = kept_in s after;
      event = event_or (pick (sifts s.mon) 0xFF 0) (kept_packet s after);
      adv = adv_of (kept_packet s after);
    }
