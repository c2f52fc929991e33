-- A host reads back from an answer's octets the starts and stops that the core engine says: `reads-back`. Document
-- 02, T-14; T-05 (a stop before the start that displaces), T-06 (a second report), T-13 (both versions of monitors).
-- Assumes nothing.
use Prim.Native.Nat.{ℕ, zero, suc, ◌+◌, ◌≤◌, ◌<◌}
use Rattle.std.proofs.Common.{arith, ap, ◌∙◌}
use Rattle.std.specs.Prelude.{◌≡◌, refl, Bool, cond, ltb, eqb, length, get_or}
use Rattle.std.proofs.Math.Path.{sym, subst}
use Rattle.std.proofs.Math.Bool.{true, false}
use Rattle.std.proofs.Math.Option.{Option, none, some}
use mathlib.Core.List.{List, [], ◌∷◌, ◌++◌, map, append_assoc, append-nil}
use Rattle.laws.specs.Tests.{pick}
use Rattle.laws.specs.Loops.{when}
use Rattle.laws.specs.Loops
use Rattle.octets.specs.LittleLaws.{length-octets}
use Rattle.rule.specs.Base.{All, map_some}
use Rattle.rule.specs.Radio.{Frame, add, cancel, packet, other}
use Rattle.rule.specs.Engine.{find, move, turns}
use Rattle.rule.specs.Engine
use Rattle.steps.proofs.DropsLaws.{keeps-level}
use Rattle.steps.specs.ListsLaws.{all-weaken}
use Rattle.steps.proofs.NamedTurns.{Named, held-named, named-moved, turns-named, stop-named, starts-named}
use Rattle.steps.specs.Typed.{Sent}
use Rattle.steps.specs.TypedLaws.{Formed, pick-both}
use Rattle.steps.specs.WholeLaws.{Held, Sound}
use Rattle.steps.proofs.WholeLaws.{sound-of}
use Rattle.model.specs.Types.{Model, Monitor, Packet, Pair, watched, device_of}
use Rattle.model.specs.Frames.{Typed, command, packet as packet_frame, tick as tick_frame, bad}
use Rattle.model.specs.Layout.{most_monitors, most_pairs}
use Rattle.model.specs.Level.{level}
use Rattle.model.specs.Monitors.{monitor_of}
use Rattle.model.specs.Commands.{adds_monitor, sub_of, params_in, table, returned}
use Rattle.model.specs.Watch
use Rattle.model.specs.Watch.{tick_answer, packet_move, packet_answer, reported, turn_answer, turns_answer}
use Rattle.model.specs.Step.{answer_typed}
use Rattle.model.specs.Sound.{sound_model}
use Rattle.model.specs.Events.{complete, start_event, stop_event, packet_report, scan_report, packet_reports}
use Rattle.model.proofs.Radio.{radio, core_typed, core_command}
use Rattle.failover.specs.View.{view_pair}
use Rattle.failover.specs.View.{view}
use Rattle.failover.specs.ViewLaws.{length-view, least-view, begins-view, all-turns-view, map_each, packet-view}
use Rattle.chains.specs.Told.{Event}
use Rattle.chains.specs.CoreLaws.{start_of, stop_of, first_of, goes_for, gone_at, new_at, turn_says, turns_say, says}
use Rattle.chains.specs.Hear.{events_read}
use Rattle.chains.proofs.HearsLaws.{Hears, hears-nil, hears-report, hears-complete, hears-starts, hears-stops, hears-tick}

-- The pair that goes and the pair that starts at a turn, as the core has them.
first-view : (k : ℕ) (qs : List Pair)
    → map view_pair (Watch.first_keeping k qs) ≡ first_of radio (level k) (map view_pair qs)
unfolding Watch.first_keeping pick view_pair
first-view k [] = refl
first-view k (q ∷ qs) = rw (keeps-level k q) (go (eqb (level q.kept) (level k)) (first-view k qs))
  where
    go : (t : Bool) → map view_pair (Watch.first_keeping k qs) ≡ first_of radio (level k) (map view_pair qs)
        → map view_pair (pick t (q ∷ []) (Watch.first_keeping k qs))
        ≡ cond t (view_pair q ∷ []) (first_of radio (level k) (map view_pair qs))
    go true e = refl
    go false e = e

goes-view : (r : ℕ) (qs : List Pair) → map view_pair (Watch.goes_for r qs) ≡ goes_for radio (level r) (map view_pair qs)
unfolding Watch.goes_for Watch.has_room pick
goes-view r qs = rw (length-view qs, least-view r qs) (go (ltb (length qs) most_pairs))
  where
    go : (t : Bool) → map view_pair (pick t [] (Watch.first_keeping (Watch.least r qs) qs))
        ≡ cond t [] (first_of radio (level (Watch.least r qs)) (map view_pair qs))
    go true = refl
    go false = first-view (Watch.least r qs) qs

gone-view : (o : Option Monitor) (p : Packet) (h : ℕ) (qs : List Pair)
    → map view_pair (Watch.stop_of o p h qs) ≡ gone_at radio o p h (map view_pair qs)
unfolding Watch.stop_of when
gone-view none p h qs = refl
gone-view (some m) p h qs = rw (begins-view m p h qs) (go (Watch.begins m p h qs))
  where
    go : (t : Bool) → map view_pair (when t (Watch.goes_for p.rssi qs))
        ≡ cond t (goes_for radio (level p.rssi) (map view_pair qs)) []
    go true = goes-view p.rssi qs
    go false = refl

new-view : (o : Option Monitor) (p : Packet) (h : ℕ) (qs : List Pair)
    → map view_pair (Watch.start_of o p h qs) ≡ new_at radio o p h (map view_pair qs)
unfolding Watch.start_of when view_pair Watch.start_pair Watch.start_like watched device_of
new-view none p h qs = refl
new-view (some m) p h qs = rw (begins-view m p h qs) (go (Watch.begins m p h qs))
  where
    go : (t : Bool) → map view_pair (when t (Watch.start_pair m h p ∷ []))
        ≡ cond t ((h, device_of p, zero, level p.rssi) ∷ []) []
    go true = refl
    go false = refl

module _ (prefix : List ℕ) (mons : List (ℕ × Monitor)) (p : Packet) (t : Sent p) where
  -- One turn, and the turns below n.
  hears-turn : (o : Option Monitor) (h : ℕ) (qs : List Pair) (rest : List ℕ) (xs : List (Event radio))
      → h < most_monitors → All Named qs
      → Hears prefix rest xs
      → Hears prefix (turn_answer prefix o p h qs ++ rest) (turn_says radio o p h (map view_pair qs) ++ xs)
  unfolding turn_answer
  hears-turn o h qs rest xs b a H =
      let stops : List Pair = Watch.stop_of o p h qs in
      let starts : List Pair = Watch.start_of o p h qs in
      let said : List (Event radio) = map (start_of radio) (map view_pair starts) in
      let w : Hears prefix (Loops.each (stop_event prefix) stops ++ (Loops.each (start_event prefix) starts ++ rest))
      (map (stop_of radio) (map view_pair stops) ++ (said ++ xs)) =
      hears-stops prefix stops (Loops.each (start_event prefix) starts ++ rest) (said ++ xs) (stop-named o p h qs a).1
      (hears-starts prefix starts rest xs (starts-named o p h qs t b).1 H) in
      let u : map (stop_of radio) (map view_pair stops) ++ (said ++ xs) ≡ turn_says radio o p h (map view_pair qs) ++ xs =
      sym (append_assoc (map (stop_of radio) (map view_pair stops)) said xs)
      ∙ rw (gone-view o p h qs, new-view o p h qs) in
      subst (λ l. Hears prefix l (turn_says radio o p h (map view_pair qs) ++ xs))
      (sym (append_assoc (Loops.each (stop_event prefix) stops) (Loops.each (start_event prefix) starts) rest))
      (subst (Hears prefix (Loops.each (stop_event prefix) stops ++ (Loops.each (start_event prefix) starts ++ rest))) u
      w)

  hears-turns : (n : ℕ) (qs : List Pair) (rest : List ℕ) (xs : List (Event radio)) → n ≤ most_monitors → All Named qs
      → Hears prefix rest xs
      → Hears prefix (turns_answer prefix mons p n qs ++ rest) (turns_say radio mons p n (map view_pair qs) ++ xs)
  unfolding turns_answer
  hears-turns zero qs rest xs b a H = H
  hears-turns (suc n) qs rest xs b a H =
      let l : List Pair = Watch.turns mons p n qs in
      let one : List ℕ = turn_answer prefix (find mons n) p n l in
      let said : List (Event radio) = turn_says radio (find mons n) p n (map view_pair l) in
      let here : Hears prefix (one ++ rest) (said ++ xs) =
      hears-turn (find mons n) n l rest xs (omega arith) (turns-named mons p n qs t (omega arith) a) H in
      let w : Hears prefix (turns_answer prefix mons p n qs ++ (one ++ rest))
      (turns_say radio mons p n (map view_pair qs) ++ (said ++ xs)) =
      hears-turns n qs (one ++ rest) (said ++ xs) (omega arith) a here in
      let u : turns_say radio mons p n (map view_pair qs) ++ (said ++ xs)
      ≡ (turns_say radio mons p n (map view_pair qs)
      ++ turn_says radio (find mons n) p n (turns radio mons p n (map view_pair qs))) ++ xs =
      sym (append_assoc (turns_say radio mons p n (map view_pair qs)) said xs) ∙ rw (all-turns-view mons p n qs) in
      subst (λ k. Hears prefix k (turns_say radio mons p (suc n) (map view_pair qs) ++ xs))
      (sym (append_assoc (turns_answer prefix mons p n qs) one rest))
      (subst (Hears prefix (turns_answer prefix mons p n qs ++ (one ++ rest))) u w)

  -- The reports behind them.
  hears-reports : (b : Bool) → Hears prefix (when b (packet_reports p)) []
  unfolding when packet_reports packet_report scan_report
  hears-reports true =
      hears-report prefix p.event p.address_type p.address p.adv p.rssi (scan_report p p.scan) []
      t.address-six (scan p.scan)
    where
      scan : (o : Option (List ℕ)) → Hears prefix (scan_report p o) []
      scan none = hears-nil prefix
      scan (some l) = subst (λ k. Hears prefix k []) (append-nil (scan_report p (some l)))
          (hears-report prefix 4 p.address_type p.address l p.rssi [] [] t.address-six (hears-nil prefix))
  hears-reports false = hears-nil prefix

-- A packet moves the pairs as the core does.
base-view : (m : Model) (p : Packet)
    → map view_pair (map (packet_move m.mons p) m.pairs)
    ≡ map_some (move radio m.mons (packet p)) (map view_pair m.pairs)
unfolding packet_move view_pair
base-view m p =
    map_each view_pair (packet_move m.mons p) (λ q. Engine.at_packet radio (find m.mons q.0) p q) m.pairs
    (λ q. packet-view (find m.mons q.handle) p q)

-- A command says nothing of pairs.
command-says : (m : Model) (l : List ℕ) → says radio (view m) (core_command l) ≡ []
unfolding core_command
command-says m l =
    let P : Frame radio → Type 0 = λ f. says radio (view m) f ≡ [] in
    pick-both P (adds_monitor l) _ _
    (λ a. pick-both P (ltb (length l) (params_in table (sub_of l))) other (add (monitor_of l)) (λ b. refl) (λ b. refl))
    (λ a. pick-both P (eqb (sub_of l) 0x04) _ _
    (λ b. pick-both P (eqb (length l) (params_in table 0x04)) (cancel (get_or l 1 0)) other (λ c. refl) (λ c. refl))
    (λ b. refl))

all_named : (m : Model) → sound_model m ≡ true → All Named m.pairs
all_named m s =
    let w : Sound m = sound-of m s in
    all-weaken (Held m.position m.mons) Named (λ q h. held-named m w q h) m.pairs w.pairs.held

-- The events in the octets of an executed frame's answer are those that the core engine says.
pub reads-back : (m : Model) (f : Typed) → sound_model m ≡ true → Formed f
    → events_read m.prefix (answer_typed m f) ≡ says radio (view m) (core_typed f)
unfolding events_read answer_typed core_typed packet_answer tick_answer view
reads-back m (command o l) s g =
    hears-complete m.prefix m.opcode (returned m l) (length-octets 2 m.opcode)
    (length (complete m.opcode (returned m l))) (omega arith)
    ∙ sym (command-says m l)
reads-back m (packet_frame p) s g =
    let qs : List Pair = map (packet_move m.mons p) m.pairs in
    let w = hears-turns m.prefix m.mons p g most_monitors qs (when (reported m p) (packet_reports p)) []
    (omega arith)
    (named-moved m.mons p m.pairs (all_named m s)) (hears-reports m.prefix m.mons p g (reported m p)) in
    w (length (packet_answer m p)) (omega arith)
    ∙ append-nil (turns_say radio m.mons p most_monitors (map view_pair qs))
    ∙ ap (turns_say radio m.mons p most_monitors) (base-view m p)
reads-back m tick_frame s g =
    hears-tick m.prefix m.filter m.mons m.pairs (all_named m s) (length (tick_answer m)) (omega arith)
reads-back m bad s g = hears-nil m.prefix zero (omega arith)
