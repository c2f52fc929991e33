-- What a frame writes, worked out from its past frames alone. Document 01, Watching, by history; document 02, T-05,
-- T-06, T-13. Definitions alone.
use Rattle.std.specs.Prelude.{ℕ, zero, suc, ◌%◌, Bool, false, ◌&&◌, ◌||◌, not, List, [], ◌∷◌, ◌++◌, leb, eqb}
use Rattle.std.proofs.Math.Option.{Option, none, some}
use Rattle.laws.specs.Tests.{pick}
use Rattle.laws.specs.Loops.{some as some_of, each, when}
use Rattle.model.specs.Types.{Monitor, Packet}
use Rattle.model.specs.Frames.{Typed, command, packet, tick, bad}
use Rattle.model.specs.Commands.{returned}
use Rattle.model.specs.Events.{complete, start_event, stop_event, packet_reports, window_report}
use Rattle.model.specs.Monitors.{allows, run_of, sifts, windowed}
use Rattle.model.specs.Layout.{most_monitors}
use Rattle.pasts.specs.Pair.{Start, matching_packets, matching_at, ticks_among, silent_in, window, newest, alike, last_reason, pair_of}
use Rattle.pasts.specs.Past.{filter_after, goes_for, is_start, monitor_after, pair_after, since_start, start_of, history_state, turns_by, watch}

module _ (prefix : List ℕ) (past : List Typed) where
  -- "a start event for each start", behind the stop event of the pair that goes for it, handle by handle
  unfoldable pub turn_says : Packet → Option Monitor → ℕ → List Start → List ℕ
  turn_says p none h w = []
  turn_says p (some m) h w =
      when (is_start past p m h w)
      (each (λ (s : Start). stop_event prefix (pair_after past s)) (goes_for past p w)
      ++ start_event prefix (pair_of (start_of past p m h) []))

  unfoldable pub turns_say : Packet → ℕ → List ℕ
  turns_say p zero = []
  turns_say p (suc n) = turns_say p n ++ turn_says p (monitor_after past n) n (turns_by past p (watch past) n).watch

  -- "some matching monitor has sampling 0 and the pair under watch", lets the packet through, and it is no duplicate
  unfoldable pub reason_by : Packet → Start → Bool
  reason_by p s =
      some_of (λ (q : Packet). eqb s.mon.sampling 0 && (allows s.mon q.event
      && not (sifts s.mon && alike q (last_reason s (matching_packets s (since_start s past))))))
      (matching_at s (packet p))

  -- "or the packet is a start", that its monitor lets through
  unfoldable pub tells_start : Packet → Start → Bool
  tells_start p s = allows s.mon p.event

  -- "one report .. if the filter is off, or .."
  unfoldable pub is_reported : Packet → Bool
  is_reported p =
      eqb (filter_after past) 0
      || (some_of (reason_by p) (watch past)
      || some_of (tells_start p) (turns_by past p (watch past) most_monitors).starts)

  unfoldable pub packet_says : Packet → List ℕ
  packet_says p = turns_say p most_monitors ++ when (is_reported p) (packet_reports p)

  -- "if the watch ends, a stop event and no report. Otherwise, for sampling P from 0x01 to 0xFE, each P-th tick since
  -- the start closes a window; if the filter is on and the window had matching packets, one report"; T-13: where
  -- report filtering lets the latest of them through
  unfoldable pub ends : Start → Bool
  ends s = leb (run_of s.mon) (silent_in s (tick ∷ since_start s past))

  unfoldable pub closes : Start → Bool
  closes s = windowed s.mon && eqb (ticks_among (tick ∷ since_start s past) % s.mon.sampling) 0

  unfoldable pub has_told : Start → Option Packet → Bool
  has_told s none = false
  has_told s (some q) = allows s.mon q.event

  unfoldable pub tells_window : Start → Bool
  tells_window s = eqb (filter_after past) 1 && (closes s && has_told s (newest (window s (since_start s past))))

  unfoldable pub tick_says_of : Start → List ℕ
  tick_says_of s =
      pick (ends s) (stop_event prefix (pair_after past s)) (when (tells_window s) (window_report (pair_after past s)))

  -- "Tick, pairs in the order they started"
  unfoldable pub tick_says : List ℕ
  tick_says = each tick_says_of (watch past)

-- what a frame writes behind a past
unfoldable pub answer_for : ℕ → List ℕ → List Typed → Typed → List ℕ
answer_for opcode prefix past (command o l) = complete opcode (returned (history_state opcode prefix past) l)
answer_for opcode prefix past (packet p) = packet_says prefix past p
answer_for opcode prefix past tick = tick_says prefix past
answer_for opcode prefix past bad = []
