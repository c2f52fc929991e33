-- What past frames say of the next answer is what document 01's engine writes, for every past. Assumes nothing.
use Prim.Native.Nat.{ℕ, zero, suc, ◌+◌, ◌%◌, ◌≤◌}
use Rattle.std.specs.Prelude.{◌≡◌, Bool, ◌&&◌, ◌||◌, leb, length}
use Rattle.std.proofs.Math.Path.{refl, sym}
use Rattle.std.proofs.Common.{ap, ◌∙◌, arith}
use Rattle.std.proofs.Math.Bool.{true, false, not}
use mathlib.Core.List.{List, [], ◌∷◌, ◌++◌, map, append-nil}
use Rattle.std.proofs.Math.Option.{Option, none, some}
use borrow.Author.Tests.{ne_eqb, le-leb, lt-leb, le-ltb, lt-ltb}
use Rattle.std.proofs.Math.Dec.{eqb}
use Rattle.laws.specs.Tests.{pick, sames}
use Rattle.laws.specs.TestsLaws.{and_left, cases-le}
use Rattle.laws.specs.Loops.{some as some_of, each, when}
use Rattle.rule.specs.Base.{All, Ordered}
use Rattle.rule.specs.Engine.{find}
use Rattle.steps.specs.ListsLaws.{all-weaken}
use Rattle.model.specs.Types.{Model, Monitor, Packet, Pair, device_of}
use Rattle.model.specs.Events.{event, start_event, stop_event, window_report}
use Rattle.model.specs.Frames.{Typed, command, packet, tick, bad}
use Rattle.model.specs.Monitors.{accepts, allows, matches, run_of, sifts, windowed}
use Rattle.model.specs.Step.{answer_typed}
use Rattle.model.specs.Watch
use Rattle.model.specs.Layout.{most_monitors}
use Rattle.pasts.specs.ListsLaws.{some-agree, some-map}
use Rattle.pasts.specs.Pair.{Start, alike, count, event_or, adv_of, matching_packets, matching_at, kept_packet, last_reason, newest, pair_of, silent_in, ticks_among, window}
use Rattle.pasts.specs.Past
use Rattle.pasts.specs.Past.{Turned, filter_after, monitor_after, monitors_after, pair_after, since_start, history_state, turns_by, watch}
use Rattle.pasts.specs.Says.{closes, ends, has_told, is_reported, packet_says, reason_by, answer_for, tells_start, tells_window, tick_says, tick_says_of, turn_says, turns_say}
use Rattle.pasts.proofs.PairsLaws
use Rattle.pasts.proofs.TicksLaws.{closes-tick}
use Rattle.pasts.proofs.MonitorsLaws.{live}
use Rattle.pasts.proofs.DeedsLaws.{Apart, New}
use Rattle.pasts.proofs.MovesLaws.{Watched, begins-is, first-is, found-by, goes-for, starts_is, turns-is, watched-all, well-at, apart-at}

-- an executed frame's packet has an event type of 0 to 3
abbrev pub Plain : Typed → Type 0
Plain (command o l) = Unit {0}
Plain (packet p) = p.event ≤ 3
Plain tick = Unit {0}
Plain bad = Unit {0}

module _ (opcode : ℕ) (prefix : List ℕ) (past : List Typed) where
  abbrev S : Model
  S = history_state opcode prefix past

  -- a tick, pair by pair
  ends_is : (s : Start) → not (Watch.goes_on s.mon (pair_after past s)) ≡ ends prefix past s
  unfolding Watch.goes_on ends pair_after pair_of silent_in matching_at some_of count pick
  ends_is s =
      cases-le (run_of s.mon) (silent_in s (since_start s past) + 1)
      (λ h. rw (
        le-ltb (silent_in s (since_start s past) + 1) (run_of s.mon) h,
        le-leb (run_of s.mon)
            (silent_in s (since_start s past) + 1) h,
      ))
      (λ h. rw (
        lt-ltb (silent_in s (since_start s past) + 1) (run_of s.mon) h,
        lt-leb (run_of s.mon)
            (silent_in s (since_start s past) + 1) h,
      ))

  closes-is : (s : Start) → Watch.closes s.mon (pair_after past s) ≡ closes prefix past s
  unfolding closes pair_after
  closes-is s = closes-tick s (since_start s past)

  told_is : (s : Start) → windowed s.mon ≡ true → accepts s.mon ≡ true
      → (leb 1 (pair_after past s).packets && allows s.mon (pair_after past s).event)
      ≡ has_told prefix past s (newest (window s (since_start s past)))
  unfolding pair_after pair_of kept_packet pick has_told newest event_or
  told_is s w a = rw (PairsLaws.apart s.mon a w) (go (window s (since_start s past)))
    where
      go : (l : List Packet)
          → (leb 1 (length l) && allows s.mon (event_or 0 (newest l))) ≡ has_told prefix past s (newest l)
      go [] = refl
      go (q ∷ l) = rw (le-leb 1 (suc (length l)) (omega arith))

  closes-windowed : (s : Start) → closes prefix past s ≡ true → windowed s.mon ≡ true
  unfolding closes
  closes-windowed s e = and_left (windowed s.mon)
      (eqb (ticks_among (tick ∷ since_start s past) % s.mon.sampling) 0) e

  says-window : (s : Start) → Watched past s
      → Watch.window_says (filter_after past) s.mon (pair_after past s) ≡ tells_window prefix past s
  unfolding Watch.window_says tells_window
  says-window s v = rw (closes-is s) (go (closes prefix past s) refl)
    where
      go : (b : Bool) → closes prefix past s ≡ b
          → (eqb (filter_after past) 1
          && (b && (leb 1 (pair_after past s).packets && allows s.mon (pair_after past s).event)))
          ≡ (eqb (filter_after past) 1 && (b && has_told prefix past s (newest (window s (since_start s past)))))
      go false e = refl
      go true e = rw (told_is s (closes-windowed s e) v.accepted)

  tick-octets : (s : Start) → Watched past s
      → Watch.tick_octets (filter_after past) prefix (find (monitors_after past) (pair_after past s).handle)
      (pair_after past s) ≡ tick_says_of prefix past s
  unfolding Watch.tick_octets tick_says_of pick
  tick-octets s v = rw (found-by past s v, says-window s v, ← ends_is s)
      (go (Watch.goes_on s.mon (pair_after past s)))
    where
      go : (b : Bool) → pick b (when (tells_window prefix past s) (window_report (pair_after past s)))
          (stop_event prefix (pair_after past s))
          ≡ pick (not b) (stop_event prefix (pair_after past s))
          (when (tells_window prefix past s) (window_report (pair_after past s)))
      go true = refl
      go false = refl

  pub tick-says : tick_says prefix past ≡ Watch.tick_answer S
  unfolding tick_says Watch.tick_answer history_state each
  tick-says = sym (go (watch past) (watched-all past))
    where
      go : (l : List Start) → All (Watched past) l
          → each (λ q. Watch.tick_octets (filter_after past) prefix (find (monitors_after past) q.handle) q)
          (map (pair_after past) l) ≡ each (tick_says_of prefix past) l
      go [] a = refl
      go (s ∷ l) a = rw (tick-octets s a.0, go l a.1)

  -- a packet: what the turns write
  module _ (p : Packet) where
    abbrev v : Start → Pair
    v = pair_after (packet p ∷ past)

    stops-is : (l : List Start)
        → each (stop_event prefix) (map v l) ≡ each (λ (s : Start). stop_event prefix (pair_after past s)) l
    unfolding each stop_event event pair_after pair_of
    stops-is [] = refl
    stops-is (s ∷ l) = rw (stops-is l)

    turn-says : (o : Option Monitor) (n : ℕ) (t : Turned) → Ordered Apart t.watch
        → Watch.turn_answer prefix o p n (map v t.watch) ≡ turn_says prefix past p o n t.watch
    unfolding Watch.turn_answer Watch.stop_of Watch.start_of turn_says each when Past.start_of
    turn-says none n t a = refl
    turn-says (some m) n t a = rw (begins-is past p m n t.watch) (go (Past.is_start past p m n t.watch) refl)
      where
        go : (b : Bool) → Past.is_start past p m n t.watch ≡ b
            → each (stop_event prefix) (when b (Watch.goes_for p.rssi (map v t.watch)))
            ++ each (start_event prefix) (when b (Watch.start_pair m n p ∷ []))
            ≡ when b (each (λ (s : Start). stop_event prefix (pair_after past s)) (Past.goes_for past p t.watch)
            ++ start_event prefix (pair_of (Past.start_of past p m n) []))
        go true e =
            rw (
              goes-for past p m n t.watch a e,
              stops-is (Past.goes_for past p t.watch),
              append-nil
                  (start_event prefix (Watch.start_pair m n p)),
              PairsLaws.pair-start (Past.start_of past p m n),
            )
        go false e = refl

    turns-say : (n : ℕ)
        → Watch.turns_answer prefix (monitors_after past) p n (map v (watch past)) ≡ turns_say prefix past p n
    unfolding Watch.turns_answer turns_say
    turns-say zero = refl
    turns-say (suc n) =
        rw (turns-say n, turns-is past p n, ← (live past).same n)
        (ap (λ (l : List ℕ). turns_say prefix past p n ++ l)
        (turn-says (monitor_after past n) n (turns_by past p (watch past) n) (apart-at past p n)))

    -- whether it is reported
    told : (s : Start) → New past p most_monitors s
        → Watch.start_told (monitors_after past) p (v s) ≡ tells_start prefix past p s
    unfolding Watch.start_told Watch.allows_by tells_start pair_after pair_of
    told s n = rw (sym ((live past).same s.handle) ∙ n.mon)

    starts-told : some_of (Watch.start_told (monitors_after past) p)
        (map v (turns_by past p (watch past) most_monitors).starts)
        ≡ some_of (tells_start prefix past p) (turns_by past p (watch past) most_monitors).starts
    starts-told =
        let l : List Start = (turns_by past p (watch past) most_monitors).starts in
        some-map v (Watch.start_told (monitors_after past) p) l
        ∙ some-agree (λ s. Watch.start_told (monitors_after past) p (v s)) (tells_start prefix past p) l
        (all-weaken (New past p most_monitors)
        (λ s. Watch.start_told (monitors_after past) p (v s) ≡ tells_start prefix past p s) told l
        (well-at past p most_monitors).starts)

    duplicate-is : p.event ≤ 3 → (s : Start)
        → Watch.duplicate s.mon p (pair_after past s)
        ≡ (sifts s.mon && alike p (last_reason s (matching_packets s (since_start s past))))
    unfolding Watch.duplicate pair_after pair_of kept_packet pick event_or adv_of alike
    duplicate-is h s =
        go (sifts s.mon) (last_reason s (matching_packets s (since_start s past)))
        (newest (window s (since_start s past)))
      where
        go : (f : Bool) (r q : Option Packet)
            → (f && (eqb (event_or (pick f 0xFF 0) (pick f r q)) p.event && sames (adv_of (pick f r q)) p.adv))
            ≡ (f && alike p r)
        go false r q = refl
        go true none q = rw (ne_eqb 255 p.event (λ e. omega arith))
        go true (some r) q = refl

    counts-is : (s : Start)
        → Watch.counts s.mon p (pair_after past s) ≡
        (sames (device_of p) (device_of s.packet) && matches s.mon p)
    unfolding pair_after
    counts-is s = PairsLaws.counts-by s p (since_start s past)

    reason-is : p.event ≤ 3 → (s : Start) → Watched past s
        → Watch.is_reason (monitors_after past) p (pair_after past s) ≡ reason_by prefix past p s
    unfolding Watch.is_reason Watch.reason_for reason_by matching_at some_of when
    reason-is h s w =
        rw (found-by past s w, duplicate-is h s, counts-is s)
        (go (sames (device_of p) (device_of s.packet) && matches s.mon p))
      where
        go : (c : Bool)
            → (c && (eqb s.mon.sampling 0
            && (allows s.mon p.event
            && not (sifts s.mon && alike p (last_reason s (matching_packets s (since_start s past)))))))
            ≡ some_of (λ (q : Packet). eqb s.mon.sampling 0 && (allows s.mon q.event
            && not (sifts s.mon && alike q (last_reason s (matching_packets s (since_start s past))))))
            (when c (p ∷ []))
        go true = none_more
            (eqb s.mon.sampling 0
            && (allows s.mon p.event
            && not (sifts s.mon && alike p (last_reason s (matching_packets s (since_start s past))))))
          where
            none_more : (b : Bool) → b ≡ (b || false)
            none_more true = refl
            none_more false = refl
        go false = refl

    reported-is : p.event ≤ 3 → Watch.reported S p ≡ is_reported prefix past p
    unfolding Watch.reported is_reported Watch.starts_of history_state
    reported-is h =
        rw (
          first-is past p,
          starts_is past p most_monitors,
          starts-told,
          some-map (pair_after past) (Watch.is_reason (monitors_after past) p) (watch past),
          some-agree (λ s. Watch.is_reason (monitors_after past) p (pair_after past s)) (reason_by prefix past p)
              (watch past)
              (all-weaken (Watched past)
              (λ s. Watch.is_reason (monitors_after past) p (pair_after past s) ≡ reason_by prefix past p s)
              (reason-is h) (watch past) (watched-all past)),
        )

    pub packet-says : p.event ≤ 3 → packet_says prefix past p ≡ Watch.packet_answer S p
    unfolding packet_says Watch.packet_answer history_state
    packet-says h = rw (first-is past p, turns-say most_monitors, reported-is h)

  pub says_is : (f : Typed) → Plain f → answer_for opcode prefix past f ≡ answer_typed S f
  unfolding answer_for answer_typed history_state
  says_is (command o l) h = refl
  says_is (packet p) h = packet-says p h
  says_is tick h = tick-says
  says_is bad h = refl
