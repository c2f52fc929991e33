-- What a host reads from the octets of one event, one report and one command's answer, of starts or stops one after
-- another, and of a tick. Document 01, Watching, by history. Assumes nothing.
use Prim.Native.Nat.{ℕ, zero, suc, ◌+◌, ◌≤◌}
use Rattle.std.proofs.Common.{arith, add-one, sym}
use Rattle.std.specs.Prelude.{◌≡◌, Bool, cond, leb, ltb, get_or}
use Rattle.std.proofs.Math.Path.{refl, subst}
use Rattle.std.proofs.Math.Bool.{true, false}
use Rattle.std.proofs.Math.Option.{Option, none, some}
use mathlib.Core.List.{List, [], ◌∷◌, ◌++◌, map, append_assoc, append-nil}
use Rattle.std.proofs.Math.Dec.{eqb}
use Rattle.std.proofs.Math.ListN.{length, length-append}
use Rattle.std.proofs.Math.Seq.{take_at, drop_at}
use borrow.Author.Tests.{eq-eqb}
use Rattle.laws.specs.Tests.{pick}
use Rattle.laws.specs.TestsLaws.{sames-refl}
use Rattle.laws.specs.Loops.{when}
use Rattle.laws.specs.Loops
use Rattle.octets.specs.Little.{octets_of}
use Rattle.rule.specs.Base.{All}
use Rattle.rule.specs.Engine.{find, at_tick, Pair as CorePair}
use Rattle.steps.proofs.NamedTurns.{Named}
use Rattle.model.specs.Types.{Monitor, Pair, watched, device}
use Rattle.model.specs.Level.{level, mean}
use Rattle.model.specs.Monitors.{run_of}
use Rattle.model.specs.Watch.{goes_on, window_says, tick_octets}
use Rattle.model.specs.Events.{complete, event, start_event, stop_event, report, window_report}
use Rattle.model.proofs.Radio.{radio}
use Rattle.failover.specs.View.{view_pair}
use Rattle.chains.specs.Told.{Event}
use Rattle.chains.specs.CoreLaws.{start_of, stop_of, ended, stops_by}
use Rattle.chains.specs.Hear.{is_event, event_of, event_in, events_read_up_to}

module _ (prefix : List ℕ) where
  -- Whatever bound is large enough, these events are read.
  abbrev pub Hears : List ℕ → List (Event radio) → Type 0
  Hears l xs = (n : ℕ) → length l ≤ n → events_read_up_to prefix n l ≡ xs

  pub hears-nil : Hears [] []
  unfolding events_read_up_to
  hears-nil zero h = refl
  hears-nil (suc n) h = refl

  hears-one : (code k : ℕ) (body rest : List ℕ) (xs : List (Event radio)) → length body ≡ k → Hears rest xs
      → Hears ((code ∷ k ∷ body) ++ rest) (event_in prefix code body ++ xs)
  unfolding events_read_up_to
  hears-one code k body rest xs e H zero h = absurd (omega arith)
  hears-one code k body rest xs e H (suc n) h =
      let z : length (body ++ rest) ≡ length body + length rest = length-append body rest in
      rw (take_at body rest k e, drop_at body rest k e, H n (omega arith))

  -- An event reads back.
  event-of : (kind handle state : ℕ) (address : List ℕ) → length address ≡ 6
      → (length (0x02 ∷ kind ∷ (address ++ (handle ∷ state ∷ []))) ≡ 10)
      × (get_or (0x02 ∷ kind ∷ (address ++ (handle ∷ state ∷ []))) 9 0 ≡ state)
      × (event_of (0x02 ∷ kind ∷ (address ++ (handle ∷ state ∷ [])))
      ≡ record { handle = handle; device = kind ∷ address; starts = eqb state 1 })
  unfolding event_of
  event-of kind handle state ([]) h = absurd (omega arith)
  event-of kind handle state (a ∷ []) h = absurd (omega arith)
  event-of kind handle state (a ∷ b ∷ []) h = absurd (omega arith)
  event-of kind handle state (a ∷ b ∷ c ∷ []) h = absurd (omega arith)
  event-of kind handle state (a ∷ b ∷ c ∷ d ∷ []) h = absurd (omega arith)
  event-of kind handle state (a ∷ b ∷ c ∷ d ∷ e ∷ []) h = absurd (omega arith)
  event-of kind handle state (a ∷ b ∷ c ∷ d ∷ e ∷ f ∷ []) h = (refl, refl, refl)
  event-of kind handle state (a ∷ b ∷ c ∷ d ∷ e ∷ f ∷ g ∷ l) h = absurd (omega arith)

  event-body : (kind handle state : ℕ) (address : List ℕ) → length address ≡ 6 → leb state 1 ≡ true
      → (length (prefix ++ (0x02 ∷ kind ∷ (address ++ (handle ∷ state ∷ [])))) ≡ 10 + length prefix)
      × (event_in prefix 0xFF (prefix ++ (0x02 ∷ kind ∷ (address ++ (handle ∷ state ∷ []))))
      ≡ record { handle = handle; device = kind ∷ address; starts = eqb state 1 } ∷ [])
  unfolding event_in is_event when
  event-body kind handle state address h t =
      let r : List ℕ = 0x02 ∷ kind ∷ (address ++ (handle ∷ state ∷ [])) in
      let w = event-of kind handle state address h in
      let z : length (prefix ++ r) ≡ length prefix + length r = length-append prefix r in
      let n : length (prefix ++ r) ≡ 10 + length prefix = omega (arith, z, w.0) in (
        n,
        rw (
          eq-eqb (length (prefix ++ r)) (10 + length prefix) n,
          take_at prefix r (length prefix) refl,
          drop_at prefix r (length prefix) refl,
          sames-refl prefix,
          w.1,
          t,
          w.2,
        ),
      )

  hears-event : (q : Pair) (state : ℕ) (rest : List ℕ) (xs : List (Event radio)) → length q.address ≡ 6
      → leb state 1 ≡ true
      → Hears rest xs
      → Hears (event prefix q state ++ rest)
      (record { handle = q.handle; device = watched q; starts = eqb state 1 } ∷ xs)
  unfolding event watched device
  hears-event q state rest xs h t H =
      let w = event-body q.address_type q.handle state q.address h t in
      subst (λ l. Hears (event prefix q state ++ rest) (l ++ xs)) w.1
      (hears-one 0xFF (10 + length prefix)
      (prefix ++ (0x02 ∷ q.address_type ∷ (q.address ++ (q.handle ∷ state ∷ []))))
      rest xs w.0 H)

  -- A report and a command's answer are no events.
  pub hears-report : (e kind : ℕ) (address adv : List ℕ) (rssi : ℕ) (rest : List ℕ) (xs : List (Event radio))
      → length address ≡ 6 → Hears rest xs → Hears (report e kind address adv rssi ++ rest) xs
  unfolding report event_in is_event when
  hears-report e kind address adv rssi rest xs h H =
      let body : List ℕ = 0x02 ∷ 0x01 ∷ e ∷ kind ∷ (address ++ (length adv ∷ (adv ++ (rssi ∷ [])))) in
      let a : length (address ++ (length adv ∷ (adv ++ (rssi ∷ []))))
      ≡ length address + suc (length (adv ++ (rssi ∷ [])))
      = length-append address (length adv ∷ (adv ++ (rssi ∷ []))) in
      let b : length (adv ++ (rssi ∷ [])) ≡ length adv + 1 = length-append adv (rssi ∷ []) in
      hears-one 0x3E (12 + length adv) body rest xs (omega (arith, a, b, h)) H

  pub hears-complete : (opcode : ℕ) (ret : List ℕ) → length (octets_of 2 opcode) ≡ 2 → Hears (complete opcode ret) []
  unfolding complete event_in is_event when
  hears-complete opcode ret t =
      let a : length (octets_of 2 opcode ++ ret) ≡ length (octets_of 2 opcode) + length ret =
      length-append (octets_of 2 opcode) ret in
      let body : List ℕ = 0x01 ∷ (octets_of 2 opcode ++ ret) in
      let w : Hears ((0x0E ∷ (3 + length ret) ∷ body) ++ []) [] =
      hears-one 0x0E (3 + length ret) body [] [] (omega (arith, a, t)) hears-nil in
      subst (λ l. Hears l []) (append-nil (0x0E ∷ (3 + length ret) ∷ body)) w

  -- The events of pairs, one after another: all starts, or all stops.
  hears-all : (state : ℕ) → leb state 1 ≡ true → (qs : List Pair) (rest : List ℕ) (xs : List (Event radio))
      → All Named qs → Hears rest xs
      → Hears (Loops.each (λ q. event prefix q state) qs ++ rest)
      (map (λ (c : CorePair radio). record { handle = c.0; device = c.1; starts = eqb state 1 }) (map view_pair qs)
      ++ xs)
  unfolding Loops.each view_pair
  hears-all state t [] rest xs a H = H
  hears-all state t (q ∷ qs) rest xs a H =
      subst (λ l. Hears l
      (map (λ (c : CorePair radio). record { handle = c.0; device = c.1; starts = eqb state 1 })
      (map view_pair (q ∷ qs)) ++ xs))
      (sym (append_assoc (event prefix q state) (Loops.each (λ r. event prefix r state) qs) rest))
      (hears-event q state (Loops.each (λ r. event prefix r state) qs ++ rest) _ a.0.address-six t
      (hears-all state t qs rest xs a.1 H))

  pub hears-starts : (qs : List Pair) (rest : List ℕ) (xs : List (Event radio)) → All Named qs → Hears rest xs
      → Hears (Loops.each (start_event prefix) qs ++ rest) (map (start_of radio) (map view_pair qs) ++ xs)
  unfolding start_event
  hears-starts qs rest xs a H = hears-all 1 refl qs rest xs a H

  pub hears-stops : (qs : List Pair) (rest : List ℕ) (xs : List (Event radio)) → All Named qs → Hears rest xs
      → Hears (Loops.each (stop_event prefix) qs ++ rest) (map (stop_of radio) (map view_pair qs) ++ xs)
  unfolding stop_event
  hears-stops qs rest xs a H = hears-all 0 refl qs rest xs a H

  -- What a tick writes of one pair, and of all.
  hears-pair : (filter : ℕ) (o : Option Monitor) (q : Pair) (rest : List ℕ) (xs : List (Event radio))
      → length q.address ≡ 6
      → Hears rest xs
      → Hears (tick_octets filter prefix o q ++ rest) (ended radio (at_tick radio o (view_pair q)) (view_pair q) ++ xs)
  unfolding tick_octets stop_event view_pair goes_on pick when window_report
  hears-pair filter none q rest xs h H = hears-event q 0 rest xs h refl H
  hears-pair filter (some m) q rest xs h H =
      rw (add-one q.since_good) (go (ltb (suc q.since_good) (run_of m)) (window_says filter m q))
    where
      go : (b c : Bool)
          → Hears (pick b (when c (window_report q)) (stop_event prefix q) ++ rest)
          (ended radio (cond {A = Option (CorePair radio)} b
          (some (q.handle, watched q, suc q.since_good, level q.kept)) none) (view_pair q) ++ xs)
      go true true = hears-report q.event q.address_type q.address q.adv
          (mean q.sum q.packets) rest xs h H
      go true false = H
      go false c = hears-event q 0 rest xs h refl H

  pub hears-tick : (filter : ℕ) (mons : List (ℕ × Monitor)) (qs : List Pair) → All Named qs
      → Hears (Loops.each (λ q. tick_octets filter prefix (find mons q.handle) q) qs)
      (stops_by radio mons (map view_pair qs))
  unfolding Loops.each view_pair
  hears-tick filter mons [] a = hears-nil
  hears-tick filter mons (q ∷ qs) a =
      hears-pair filter (find mons q.handle) q _ _ a.0.address-six (hears-tick filter mons qs a.1)
