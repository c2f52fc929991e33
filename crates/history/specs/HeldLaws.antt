-- The invariant: after every past the engine holds a pair with the count i and the RSSI k exactly when the rule puts it
-- under watch with i ticks since its last good packet, and k is the RSSI of its latest matching one. One step of the
-- induction over the past, which needs the order of the pairs held. Assumes nothing.
use Rattle.std.specs.Prelude.{ℕ, zero, suc, ◌<◌, ◌≡◌, refl, ◌⊎◌, true, List, [], ◌∷◌, take}
use Rattle.std.proofs.Common.{arith, sym, ap, ◌∙◌, subst, inl, inr}
use Rattle.std.proofs.Math.Option.{some}
use Rattle.rule.specs.Base.{In, Distinct, Ordered, map_some}
use Rattle.rule.specs.BaseLaws.{in-each, each_in, each-distinct, in_map, map-in, ordered-each}
use Rattle.rule.specs.Radio.{Radio, Frame, add, cancel, packet, tick, other, most_monitors}
use Rattle.rule.specs.Rule.{older, live_after, JustBefore, StartAt, DisplacedAt, DoneAt, UnderWatch, LatestStart, InOrder}
use Rattle.rule.specs.Rule.{ticks_since_good, kept, last_of, last_rssi, Deed, starts, displaces, Deeds}
use Rattle.rule.proofs.ReadingLaws.{kept-now, turn-stays}
use Rattle.rule.specs.Engine.{find, Mons, Pair, key, keys, at_packet, move, turns, run}
use Rattle.rule.proofs.FindsLaws.{find-all}
use Rattle.rule.proofs.MovesTurns.{move-key, turns-in, begun-in, Begun}
use Rattle.rule.proofs.FitsLaws.{Stored, run_fits}
use Rattle.history.specs.RunsLaws.{norun-nil}
use Rattle.history.specs.LiveLaws.{known, known-alive, mons-are}
use Rattle.history.specs.OldLaws.{Watch, Earlier, earlier-was, earlier-moves, moved-earlier}
use Rattle.history.specs.LatestLaws.{watch-latest, PairOrder}
use Rattle.history.specs.GroundTurns.{Agrees, Ground, begins-takes, takes-begins}
use Rattle.history.specs.NewTurns.{turn_agree, old-in}
use Rattle.history.specs.CasesLaws.{watch-under, under-watch, earlier-watch, Cases, watch-cases}

module _ (R : Radio) where
  pub record Holds (past : List (Frame R)) (ps : List (Pair R)) : Type 0 where
    pub to : (q : Pair R) → In q ps → Watch R past q.0 q.1 q.2 q.3
    pub from : (h : ℕ) (e : R.Dev) (i k : ℕ) → Watch R past h e i k → In (h, e, i, k) ps

  -- The keys held are the pairs under watch.
  pub holds_agree : (past : List (Frame R)) (ps : List (Pair R)) → Holds past ps → Agrees R ps (UnderWatch R past)
  holds_agree past ps H h e = (
    (λ i. let r = map-in (key R) ps (h, e) i in
        let w = watch-under R past r.0.0 r.0.1 r.0.2 r.0.3 (H.to r.0 r.1) in
        subst (λ x. UnderWatch R past x.0 x.1) (sym r.2) w),
    λ w. let r = under-watch R past h e w in in_map (key R) ps (h, e, r.0, r.1) (H.from h e r.0 r.1 r.2),
  )

  module _ (past : List (Frame R)) (l : Mons R) (same : (g : ℕ) → find l g ≡ known R (live_after R past g))
      (ps : List (Pair R)) (H : Holds past ps) where
    pub base-to : (f : Frame R) (q : Pair R) → In q (map_some (move R l f) ps)
        → Earlier R f past q.0 q.1 q.2 q.3
    base-to f q i =
        let r = each_in (move R l f) ps q i in
        let w = H.to r.was r.place in
        moved-earlier R f past l same r.was.0 r.was.1 r.was.2 r.was.3 q w r.moved

    pub base-from : (f : Frame R) (h : ℕ) (e : R.Dev) (i k : ℕ) → Earlier R f past h e i k
        → In (h, e, i, k) (map_some (move R l f) ps)
    base-from f h e i k w =
        let r = earlier-moves R f past l same h e i k w in
        in-each (move R l f) ps (h, e, r.0, r.1) (h, e, i, k) (H.from h e r.0 r.1 r.2) r.3

    -- A frame that starts and displaces nothing.
    kept_on : (f : Frame R) → ((d : Deed R) (h : ℕ) (e : R.Dev) → DoneAt R (f ∷ past) d zero h e → ⊥)
        → Holds (f ∷ past) (map_some (move R l f) ps)
    kept_on f idle = record {
      to = λ q i. earlier-watch R f past q.0 q.1 q.2 q.3 (base-to f q i) (idle displaces q.0 q.1);
      from = λ h e i k w. go h e i k (watch-cases R f past h e i k w);
    }
      where
        go : (h : ℕ) (e : R.Dev) (i k : ℕ) → Cases R f past h e i k → In (h, e, i, k) (map_some (move R l f) ps)
        go h e i k (inl s) = absurd (idle starts h e s.0)
        go h e i k (inr w) = base-from f h e i k w.0

    -- A packet drops no pair: before its starts the pairs are those of before.
    pub base-agree : (p : R.Pkt) → Agrees R (map_some (move R l (packet p)) ps) (UnderWatch R past)
    base-agree p h e = (there, back)
      where
        there : In (h, e) (keys R (map_some (move R l (packet p)) ps)) → UnderWatch R past h e
        there i =
            let r = map-in (key R) (map_some (move R l (packet p)) ps) (h, e) i in
            let s = each_in (move R l (packet p)) ps r.0 r.1 in
            let k : (h, e) ≡ key R s.was = r.2 ∙ move-key R l (packet p) s.was r.0 s.moved in
            subst (λ x. UnderWatch R past x.0 x.1) (sym k)
            ((holds_agree past ps H s.was.0 s.was.1).0 (in_map (key R) ps s.was s.place))

        back : UnderWatch R past h e → In (h, e) (keys R (map_some (move R l (packet p)) ps))
        back w =
            let r = map-in (key R) ps (h, e) ((holds_agree past ps H h e).1 w) in
            let q : Pair R = at_packet R (find l r.0.0) p r.0 in
            let k : key R q ≡ (h, e) = move-key R l (packet p) r.0 q refl ∙ sym r.2 in
            rw k at (in_map (key R) (map_some (move R l (packet p)) ps) q
            (in-each (move R l (packet p)) ps r.0 q r.1 refl))

    module _ (p : R.Pkt) (stored : (h : ℕ) (m : R.Mon) → find l h ≡ some m → (h < most_monitors) × (R.okay m ≡ true))
        (once : Distinct (keys R ps)) (order : Ordered (PairOrder R past) ps) where
      abbrev base : List (Pair R)
      base = map_some (move R l (packet p)) ps

      abbrev D : Deeds R
      D = λ b k x y. DoneAt R past b k x y

      base-once : Distinct (keys R base)
      base-once = each-distinct (key R) (move R l (packet p)) ps (λ x y. move-key R l (packet p) x y) once

      -- What the pairs keep, their order, and their latest starts, after the packet has moved them.
      levels : (q : Pair R) → In q base → kept R (packet p ∷ past) q.0 q.1 ≡ q.3
      levels q i =
          let w = base-to (packet p) q i in
          ap (λ x. last_of R x q.1 (packet p ∷ past)) w.live ∙ w.level

      sorted : Ordered (PairOrder R past) base
      sorted = ordered-each (PairOrder R past) (PairOrder R past) (move R l (packet p)) ps one order
        where
          one : (x y x' y' : Pair R) → In x ps → In y ps → PairOrder R past x y
              → move R l (packet p) x ≡ some x' → move R l (packet p) y ≡ some y' → PairOrder R past x' y'
          one x y x' y' i j o u v =
              let a = sym (move-key R l (packet p) x x' u) in
              let b = sym (move-key R l (packet p) y y' v) in
              subst (λ z. InOrder R past (key R x') z) b (subst (λ z. InOrder R past z (key R y)) a o)

      firsts : (q : Pair R) → In q base → (k : ℕ) × LatestStart R past k q.0 q.1
      firsts q i =
          let v = base-to (packet p) q i in
          let w = earlier-was R (packet p) past q.0 q.1 q.2 q.3 v in (
            w.back,
            watch-latest R past q.0 q.1 (ticks_since_good R v.mon q.1 (take v.back past))
                (last_rssi R v.mon q.1 past) w,
          )

      pub ground : Ground R past D p l base (UnderWatch R past)
      ground = record {
        same = same;
        once = base-once;
        levels = levels;
        sorted = sorted;
        firsts = firsts;
        agree = base-agree p;
      }

      pub agree_at : (n : ℕ) → Agrees R (turns R l p n base) (JustBefore R past D p (UnderWatch R past) n)
      agree_at n =
          turn_agree R past D p l base (UnderWatch R past) ground n

      -- A start of the engine at this packet is a start of the rule.
      pub begun-start : (n : ℕ) (q : Pair R) (b : Begun R l p n base q)
          → StartAt R (packet p ∷ past) zero b.handle (R.dev p)
      begun-start n q b = (
        refl,
        begins-takes R past D p l base (UnderWatch R past) ground b.handle b.mon
            (agree_at b.handle) b.stored b.begin,
      )

      begun-watch : (q : Pair R) → Begun R l p most_monitors base q
          → Watch R (packet p ∷ past) q.0 q.1 q.2 q.3
      begun-watch q b =
          let v = known-alive R (live_after R past b.handle) b.mon (sym (same b.handle) ∙ b.stored) in
          let ok = (stored b.handle b.mon b.stored).1 in
          let t = b.begin.match in
          let w : Watch R (packet p ∷ past) b.handle (R.dev p) zero (R.rssi p) = record {
            mon = b.mon;
            age = suc v.0;
            back = zero;
            live = ap (older R) v.1;
            since = omega arith;
            start = begun-start most_monitors q b;
            unbroken = norun-nil R b.mon (R.dev p)
                (R.okay-run b.mon ok);
            stays = λ j z. absurd (omega arith);
            stored = refl;
            level = rw (R.same_refl (R.dev p), t);
          } in
          subst (λ x. Watch R (packet p ∷ past) x.0 x.1 x.2 x.3) (sym b.is) w

      -- What was held and is held after the turns was not displaced.
      not-displaced : (q : Pair R) → In q base → In q (turns R l p most_monitors base)
          → DisplacedAt R (packet p ∷ past) zero q.0 q.1 → ⊥
      not-displaced q i j d =
          let was = (base-agree p q.0 q.1).0 (in_map (key R) base q i) in
          let is = (agree_at most_monitors q.0 q.1).0 (in_map (key R) (turns R l p most_monitors base) q j) in
          let m = d.1.would in
          let n = (stored d.0 m.mon (same d.0 ∙ ap (known R) m.live)).0 in
          turn-stays R past D p (UnderWatch R past) most_monitors q.0 q.1 is was d.0 n d.1

      started-to : (q : Pair R) → In q (turns R l p most_monitors base) → In q base ⊎ Begun R l p most_monitors base q
          → Watch R (packet p ∷ past) q.0 q.1 q.2 q.3
      started-to q j (inl i) =
          earlier-watch R (packet p) past q.0 q.1 q.2 q.3 (base-to (packet p) q i) (not-displaced q i j)
      started-to q j (inr b) = begun-watch q b

      start-in : (h : ℕ) (e : R.Dev) (i k : ℕ) → StartAt R (packet p ∷ past) zero h e → zero ≡ i
          → kept R (packet p ∷ past) h e ≡ k → In (h, e, i, k) (turns R l p most_monitors base)
      start-in h e i k s z v =
          let w = takes-begins R past D p l base (UnderWatch R past) ground h (agree_at h)
          s.1 in
          let t = s.1.would in
          let ok = (stored h t.mon w.0).0 in
          let m = kept-now R past p h t.mon t.age t.live t.match in
          let r : R.rssi p ≡ k = sym m ∙ ap (kept R (packet p ∷ past) h) (sym s.0) ∙ v in
          rw (s.0, ← z, ← r) (begun-in R l p h most_monitors base t.mon ok w.0 w.1)

      started : Holds (packet p ∷ past) (turns R l p most_monitors base)
      started = record {
        to = λ q i. started-to q i (turns-in R l p most_monitors base q i);
        from = λ h e i k w. go h e i k (watch-cases R (packet p) past h e i k w);
      }
        where
          go : (h : ℕ) (e : R.Dev) (i k : ℕ) → Cases R (packet p) past h e i k
              → In (h, e, i, k) (turns R l p most_monitors base)
          go h e i k (inl s) = start-in h e i k s.0 s.1 s.2
          go h e i k (inr w) =
              old-in R past D p l base (UnderWatch R past) ground most_monitors
              (h, e, i, k) (base-from (packet p) h e i k w.0) (λ n d. w.1 (n, d))

  -- What is stored after a past has a handle and accepted settings.
  pub run-stored : (past : List (Frame R)) (h : ℕ) (m : R.Mon) → find (run R past).mons h ≡ some m
      → (h < most_monitors) × (R.okay m ≡ true)
  run-stored past h m e = find-all (Stored R) (run R past).mons h m (run_fits R past).stored e

  -- One frame more: the pairs held, where they stand in the order of their latest starts.
  pub holds-one : (f : Frame R) (past : List (Frame R)) → Holds past (run R past).pairs
      → Ordered (PairOrder R past) (run R past).pairs → Holds (f ∷ past) (run R (f ∷ past)).pairs
  holds-one (add m) past H o =
      kept_on past (run R past).mons (mons-are R past) (run R past).pairs H (add m) (λ d h e s. s)
  holds-one (cancel g) past H o =
      kept_on past (run R past).mons (mons-are R past) (run R past).pairs H (cancel g) (λ d h e s. s)
  holds-one (packet p) past H o =
      started past (run R past).mons (mons-are R past) (run R past).pairs H p (run-stored past)
      (run_fits R past).once o
  holds-one tick past H o =
      kept_on past (run R past).mons (mons-are R past) (run R past).pairs H tick (λ d h e s. s)
  holds-one other past H o =
      kept_on past (run R past).mons (mons-are R past) (run R past).pairs H other (λ d h e s. s)

  pub holds-none : Holds [] (run R []).pairs
  holds-none = record { to = λ q i. absurd i; from = λ h e i k w. absurd w.start }
