-- The octets that a kept frame writes for a pair: an event of a start, the report of a window. Document 01, Watching,
-- by history (Event, Report). Assumes nothing.
use Rattle.std.specs.Prelude.{ℕ, ◌+◌, ◌-◌, List, [], ◌∷◌, ◌++◌, length}
use Rattle.laws.specs.Loops.{each, when}
use Rattle.model.specs.Types.{Packet}
use Rattle.model.specs.Events.{window_report}
use Rattle.pasts.specs.Pair
use Rattle.pasts.specs.Pair.{newest, pair_of, window}
use Rattle.model.specs.Frames.{Typed, packet_of}
use Rattle.pasts.specs.Says.{has_told}
use Rattle.twin.specs.declared.watch.Begun.{Begun}
use Rattle.twin.specs.Table.{payload_at}

-- "Event: 0xFF, length, prefix, 0x02, address type, address, handle, 1 or 0", of a handle and a packet's device
unfoldable pub event_of : List ℕ → ℕ → Packet → ℕ → List ℕ
event_of prefix h p state =
    0xFF ∷ (10 + length prefix) ∷ (prefix ++ (0x02 ∷ p.address_type ∷ (p.address ++ (h ∷ state ∷ []))))

-- the stop events of starts that go
unfoldable pub gone_says : List ℕ → List Pair.Start → List ℕ
gone_says prefix l = each (λ (s : Pair.Start). event_of prefix s.handle s.packet 0) l

-- the report of a window, where it had packets and report filtering lets the latest of them through
unfoldable pub window_says : Pair.Start → List Typed → List ℕ
window_says s l = when (has_told [] [] s (newest (window s l))) (window_report (pair_of s l))

-- the stop event of a kept start
abbrev pub stop_of : List ℕ → List ℕ → Begun → List ℕ
stop_of t prefix b = event_of prefix b.handle (packet_of (payload_at t (b.packet - 1))) 0
