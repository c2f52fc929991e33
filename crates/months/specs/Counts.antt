-- What one executed frame counts for a handle. Document 02, T-09: "give per handle: matching packets, reports caused,
-- ticks with at least one device under watch, and the RSSI sum". Definitions alone.
use Rattle.std.specs.Prelude.{ℕ, ◌+◌, Bool, true, false, ◌&&◌, ◌||◌, List, [], ◌∷◌, eqb, ℤ, pos, length}
use Rattle.std.proofs.Math.Option.{Option, none, some}
use Rattle.laws.specs.Tests.{pick}
use Rattle.laws.specs.Loops.{some as some_of, keep, up_to}
use Rattle.rule.specs.Engine.{find}
use Rattle.totals.specs.declared.Row.{Row}
use Rattle.model.specs.Types.{Model, Monitor, Packet, Pair}
use Rattle.model.specs.Level.{d_bm}
use Rattle.model.specs.Layout.{most_monitors}
use Rattle.model.specs.Monitors.{matches}
use Rattle.model.specs.Frames.{Body, Typed, command, packet, tick, bad, typed}
use Rattle.model.specs.Watch.{is_reason, start_told, starts_of, tick_pairs, goes_on, window_says}

-- a test as a number
unfoldable pub one : Bool → ℕ
one b = pick b 1 0

-- a pair is of a handle
unfoldable pub of_handle : ℕ → Pair → Bool
of_handle h q = eqb q.handle h

-- "matching packets": every packet that matches while the monitor is live, under watch or not (T-13: by its options
-- too)
unfoldable pub matched_by : Option Monitor → Packet → Bool
matched_by none p = false
matched_by (some m) p = matches m p

unfoldable pub matching : Model → Packet → ℕ → Bool
matching m p h = matched_by (find m.mons h) p

-- "reports caused": the handle is a reason for the packet's report, filter on or off: a pair of it wants the packet
-- reported at once, or the packet starts a pair of it and its report is let through. "A report caused by several
-- monitors counts for each; one sent only because the filter is off counts for none."
unfoldable pub causes : Model → Packet → ℕ → Bool
causes m p h =
    some_of (λ q. of_handle h q && is_reason m.mons p q) m.pairs
    || some_of (λ q. of_handle h q && start_told m.mons p q) (starts_of m p)

-- "A scan response's report counts as its packet's does": with kind 04 there are two
unfoldable pub reports_by : Option (List ℕ) → ℕ
reports_by none = 1
reports_by (some l) = 2

unfoldable pub reports_of : Packet → ℕ
reports_of p = reports_by p.scan

-- a window's report counts for its pair's monitor
unfoldable pub closed_by : ℕ → Option Monitor → Pair → Bool
closed_by filter none q = false
closed_by filter (some m) q = goes_on m q && window_says filter m q

unfoldable pub windows : Model → ℕ → ℕ
windows m h = length (keep (λ q. of_handle h q && closed_by m.filter (find m.mons q.handle) q) m.pairs)

-- "ticks with at least one device under watch"; "A tick is judged after it is done"
unfoldable pub watching : Model → ℕ → Bool
watching m h = some_of (of_handle h) (tick_pairs m)

-- what a frame counts for a handle, total by total
unfoldable pub packets_in : ℕ → Model → Typed → ℕ
packets_in h m (command opcode l) = 0
packets_in h m (packet p) = one (matching m p h)
packets_in h m tick = 0
packets_in h m bad = 0

unfoldable pub reports_in : ℕ → Model → Typed → ℕ
reports_in h m (command opcode l) = 0
reports_in h m (packet p) = pick (causes m p h) (reports_of p) 0
reports_in h m tick = windows m h
reports_in h m bad = 0

unfoldable pub ticks_in : ℕ → Model → Typed → ℕ
ticks_in h m (command opcode l) = 0
ticks_in h m (packet p) = 0
ticks_in h m tick = one (watching m h)
ticks_in h m bad = 0

unfoldable pub sum_in : ℕ → Model → Typed → ℤ
sum_in h m (command opcode l) = pos 0
sum_in h m (packet p) = pick (matching m p h) (d_bm p.rssi) (pos 0)
sum_in h m tick = pos 0
sum_in h m bad = pos 0

-- the row that a frame adds to a handle's, and those of all handles
unfoldable pub row_in : Model → Typed → ℕ → Row
row_in m f h = record { packets = packets_in h m f; reports = reports_in h m f; ticks = ticks_in h m f; sum = sum_in h m f }

unfoldable pub rows_added : Model → Body → List Row
rows_added m b = up_to (λ h. row_in m (typed b) h ∷ []) most_monitors
