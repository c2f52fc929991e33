-- One pair, one handle and one report over a packet, by the handle's octet. Document 01, Watching, by history.
-- Assumes nothing.
use Rattle.std.specs.Prelude.{ℕ, Bool, not, ◌&&◌, List, [], ◌∷◌, ◌++◌, ◌==◌}
use Rattle.laws.specs.Tests.{pick, sames}
use Rattle.laws.specs.Loops.{each, when}
use Rattle.model.specs.Types.{Packet, Pair, device_of}
use Rattle.model.specs.Events.{event, start_event, stop_event}
use Rattle.model.specs.Watch.{with_since_good, with_kept, with_latest, gathered, holds}
use Rattle.model.specs.Watch.{fits, goes_for, stays_for, start_like}
use Rattle.marks.specs.Marks.{refreshes, takes, opens, tells, sifted, allowed, keeps}

-- a pair of the packet's device over the packet, by its handle's octet
unfoldable pub freshened : ℕ → Pair → Pair
freshened a q = pick (refreshes a) (with_since_good q 0) q

unfoldable pub collected : ℕ → Packet → Pair → Pair
collected a p q = pick (takes a) (gathered p q) q

unfoldable pub strengthened : ℕ → ℕ → Pair → Pair
strengthened a o q = pick (keeps a) (with_kept q o) q

unfoldable pub counted : ℕ → Packet → Pair → Pair
counted a p q = collected a p (freshened a q)

-- T-13: the packet kept for duplicates
unfoldable pub recalled : ℕ → Packet → Pair → Pair
recalled a p q = pick (sifted a && allowed a) (with_latest p.event p.adv q) q

unfoldable pub changed : ℕ → Packet → Pair → Pair
changed a p q = recalled a p (counted a p (strengthened a p.rssi q))

-- a pair at its start, by its handle's octet
unfoldable pub started : ℕ → ℕ → Packet → Pair
started a h p = start_like (sifted a) (allowed a) h p

-- one handle's turn, by its octet: whether it starts a pair, the pairs after it, what it writes
unfoldable pub starts : ℕ → ℕ → Packet → List Pair → Bool
starts a h p qs = opens a && (not (holds qs h (device_of p)) && fits p.rssi qs)

unfoldable pub after : ℕ → ℕ → Packet → List Pair → List Pair
after a h p qs = pick (starts a h p qs) (stays_for p.rssi qs ++ (started a h p ∷ [])) qs

unfoldable pub start_events : List ℕ → ℕ → ℕ → Packet → List Pair → List ℕ
start_events prefix a h p qs =
    when (starts a h p qs) (each (stop_event prefix) (goes_for p.rssi qs) ++ start_event prefix (started a h p))

-- T-13: the packet has the event type and the data that the pair keeps
unfoldable pub alike_to : Packet → Pair → Bool
alike_to p q = q.event == p.event && sames q.adv p.adv

-- a held pair of the packet's device is a reason for a report, by its handle's octet
unfoldable pub reason_by : ℕ → Packet → Pair → Bool
reason_by a p q = tells a && not (sifted a && alike_to p q)
