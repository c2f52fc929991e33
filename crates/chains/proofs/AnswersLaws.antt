-- What the core engine says at a frame is what the history rule has there: `answer`. Document 02, T-14. Assumes
-- nothing.
use Prim.Native.Nat.{ℕ, zero, suc, ◌<◌}
use Rattle.std.proofs.Common.{arith, sym, ◌∙◌, subst, ltb-true, ltb-false, eqb-true}
use Rattle.std.specs.Prelude.{◌≡◌, ◌⊎◌, Bool, true, false, List, [], ◌∷◌, take, eqb, ltb}
use Rattle.std.proofs.Math.Path.{refl, ap}
use Rattle.std.proofs.Math.Logic.{inl, inr}
use Rattle.std.proofs.lemmas.Bool.{false≢true, eqb-false}
use Rattle.std.proofs.Math.Option.{none, some}
use Rattle.rule.specs.Base.{In, Distinct, map_some}
use Rattle.rule.specs.BaseLaws.{both, in_left, in_right, in-append, in_map, map-in}
use Rattle.rule.specs.Radio.{Radio, Frame, add, cancel, packet, tick, other, most_monitors}
use Rattle.rule.specs.Rule.{Live, live_since, Deeds, JustBefore, StartAt, DisplacedAt, DoneAt, UnderWatch, LatestStart, Displaces}
use Rattle.rule.specs.Engine.{find, Mons, Pair, key, keys, at_tick, move, turns, run, new_pair}
use Rattle.rule.proofs.MovesTurns.{Begins, turns-once, Begun}
use Rattle.rule.proofs.FitsLaws.{run_fits}
use Rattle.history.specs.RunsLaws.{norun-silent}
use Rattle.history.specs.LiveLaws.{known, mons-are}
use Rattle.history.specs.OldLaws.{Watch}
use Rattle.history.specs.LatestLaws.{watch-latest}
use Rattle.history.specs.GroundTurns.{Agrees, Ground, takes-begins}
use Rattle.history.specs.NewTurns.{stays, gone}
use Rattle.history.specs.CasesLaws.{watch-under, under-watch}
use Rattle.history.specs.HeldLaws.{run-stored, ground, agree_at, begun-start}
use Rattle.history.specs.OrderLaws.{holds, order}
use Rattle.chains.specs.Told.{Event, start, stop, Due, Answer}
use Rattle.chains.specs.CoreLaws.{turn_says, turns_say, says}
use Rattle.chains.proofs.CoreLaws.{stop≢start, start-turn, turn-starts, stop-turn, turn-stops, stop-of, of-stop, tick-none, none-tick}

module _ (R : Radio) where
  -- A start said is a start made, and the other way round.
  start-begun : (l : Mons R) (p : R.Pkt) (n : ℕ) (ps : List (Pair R)) (h : ℕ) (e : R.Dev)
      → In (start R h e) (turns_say R l p n ps)
      → Begun R l p n ps (new_pair R p h) × (e ≡ R.dev p)
  start-begun l p zero ps h e i = absurd i
  start-begun l p (suc n) ps h e i =
      go (in-append (start R h e) (turns_say R l p n ps) (turn_says R (find l n) p n (turns R l p n ps)) i)
      (λ j. start-begun l p n ps h e j)
    where
      go : In (start R h e) (turns_say R l p n ps) ⊎ In (start R h e) (turn_says R (find l n) p n (turns R l p n ps))
          → (In (start R h e) (turns_say R l p n ps) → Begun R l p n ps (new_pair R p h) × (e ≡ R.dev p))
          → Begun R l p (suc n) ps (new_pair R p h) × (e ≡ R.dev p)
      go (inl j) ih =
          let b = (ih j).0 in (
            record {
              handle = b.handle;
              mon = b.mon;
              below = omega (arith, b.below);
              stored = b.stored;
              begin = b.begin;
              is = b.is;
            },
            (ih j).1,
          )
      go (inr j) ih =
          let r = start-turn R p n (turns R l p n ps) (find l n) h e j in
          let w : h ≡ n = ap (λ (x : Event R). x.handle) r.3 in (
            record {
              handle = n;
              mon = r.0;
              below = omega arith;
              stored = r.1;
              begin = r.2;
              is = ap (new_pair R p) w;
            },
            ap (λ (x : Event R). x.device) r.3,
          )

  begun-starts : (l : Mons R) (p : R.Pkt) (h n : ℕ) (ps : List (Pair R)) (m : R.Mon) → h < n → find l h ≡ some m
      → Begins R m p h (turns R l p h ps) → In (start R h (R.dev p)) (turns_say R l p n ps)
  begun-starts l p h zero ps m t e b = absurd (omega arith)
  begun-starts l p h (suc n) ps m t e b = go (both (eqb h n)) (λ u. begun-starts l p h n ps m u e b)
    where
      here : h ≡ n → In (start R h (R.dev p)) (turns_say R l p (suc n) ps)
      here w = subst (λ k. In (start R h (R.dev p)) (turns_say R l p (suc k) ps)) w
          (in_right (start R h (R.dev p)) (turns_say R l p h ps) (turn_says R (find l h) p h (turns R l p h ps))
          (subst (λ o. In (start R h (R.dev p)) (turn_says R o p h (turns R l p h ps))) (sym e)
          (turn-starts R p h (turns R l p h ps) m b)))

      go : (eqb h n ≡ true) ⊎ (eqb h n ≡ false) → (h < n → In (start R h (R.dev p)) (turns_say R l p n ps))
          → In (start R h (R.dev p)) (turns_say R l p (suc n) ps)
      go (inl w) ih = here (eqb-true h n w)
      go (inr w) ih = let x = eqb-false h n w in
          in_left (start R h (R.dev p)) (turns_say R l p n ps) (turn_says R (find l n) p n (turns R l p n ps))
          (ih (omega (arith, x)))

  -- A pair that is held before the turn of a handle and not after it.
  record Leaves (l : Mons R) (p : R.Pkt) (n : ℕ) (ps : List (Pair R)) (h : ℕ) (e : R.Dev) : Type 0 where
    turn : ℕ
    below : turn < n
    was : In (h, e) (keys R (turns R l p turn ps))
    not : In (h, e) (keys R (turns R l p (suc turn) ps)) → ⊥

  -- A stop said at a packet is of such a pair, and the other way round.
  stop-leaves : (l : Mons R) (p : R.Pkt) (n : ℕ) (ps : List (Pair R)) (h : ℕ) (e : R.Dev) → Distinct (keys R ps)
      → In (stop R h e) (turns_say R l p n ps) → Leaves l p n ps h e
  stop-leaves l p zero ps h e d i = absurd i
  stop-leaves l p (suc n) ps h e d i =
      go (in-append (stop R h e) (turns_say R l p n ps) (turn_says R (find l n) p n (turns R l p n ps)) i)
      (λ j. stop-leaves l p n ps h e d j)
    where
      go : In (stop R h e) (turns_say R l p n ps) ⊎ In (stop R h e) (turn_says R (find l n) p n (turns R l p n ps))
          → (In (stop R h e) (turns_say R l p n ps) → Leaves l p n ps h e) → Leaves l p (suc n) ps h e
      go (inl j) ih = let v =
          ih j in record { turn = v.turn; below = omega (arith, v.below); was = v.was; not = v.not }
      go (inr j) ih =
          let v = stop-turn R p n (turns R l p n ps) (turns-once R l p n ps d) h e (find l n) j in
          record { turn = n; below = omega arith; was = v.0; not = v.1 }

  leaves-stop : (l : Mons R) (p : R.Pkt) (k n : ℕ) (ps : List (Pair R)) (h : ℕ) (e : R.Dev) → Distinct (keys R ps)
      → k < n
      → In (h, e) (keys R (turns R l p k ps)) → (In (h, e) (keys R (turns R l p (suc k) ps)) → ⊥)
      → In (stop R h e) (turns_say R l p n ps)
  leaves-stop l p k zero ps h e d t was not = absurd (omega arith)
  leaves-stop l p k (suc n) ps h e d t was not = go (both (eqb k n)) (λ u. leaves-stop l p k n ps h e d u was not)
    where
      here : k ≡ n → In (stop R h e) (turns_say R l p (suc n) ps)
      here w = subst (λ j. In (stop R h e) (turns_say R l p (suc j) ps)) w
          (in_right (stop R h e) (turns_say R l p k ps) (turn_says R (find l k) p k (turns R l p k ps))
          (turn-stops R p k (turns R l p k ps) (turns-once R l p k ps d) h e (find l k) (was, not)))

      go : (eqb k n ≡ true) ⊎ (eqb k n ≡ false) → (k < n → In (stop R h e) (turns_say R l p n ps))
          → In (stop R h e) (turns_say R l p (suc n) ps)
      go (inl w) ih = here (eqb-true k n w)
      go (inr w) ih = let x = eqb-false k n w in
          in_left (stop R h e) (turns_say R l p n ps) (turn_says R (find l n) p n (turns R l p n ps))
          (ih (omega (arith, x)))

  module _ (past : List (Frame R)) where
    -- A stop at a tick is due, and what is due stops.
    stop-due : (h : ℕ) (e : R.Dev) → In (stop R h e) (says R (run R past) tick) → Due R past h e
    stop-due h e i =
        let r = stop-of R (run R past).mons (run R past).pairs (stop R h e) i in
        let q : Pair R = r.0 in
        let w : Watch R past q.0 q.1 q.2 q.3 = (holds R past).to q r.1 in
        let at : find (run R past).mons q.0 ≡ some w.mon = mons-are R past q.0 ∙ ap (known R) w.live in
        let low : q.2 < R.run w.mon =
        rw w.stored at (norun-silent R w.mon q.1 (take w.back past) w.unbroken) in
        let n : at_tick R (some w.mon) q ≡ none = subst (λ o. at_tick R o q ≡ none) at r.2 in
        let d : Due R past q.0 q.1 = record {
          mon = w.mon;
          age = w.age;
          back = w.back;
          live = w.live;
          since = w.since;
          latest = watch-latest R past q.0 q.1 q.2 q.3 w;
          under = watch-under R past q.0 q.1 q.2 q.3 w;
          full = ap suc w.stored ∙ tick-none R w.mon q low n;
        } in
        let a : q.0 ≡ h = ap (λ (x : Event R). x.handle) (sym r.3) in
        let b : q.1 ≡ e = ap (λ (x : Event R). x.device) (sym r.3) in
        subst (λ y. Due R past h y) b (subst (λ g. Due R past g q.1) a d)

    due-stop : (h : ℕ) (e : R.Dev) → Due R past h e → In (stop R h e) (says R (run R past) tick)
    due-stop h e d =
        let v = under-watch R past h e d.under in
        let i : ℕ = v.0 in
        let k : ℕ = v.1 in
        let w : Watch R past h e i k = v.2 in
        let l : LatestStart R past w.back h e = watch-latest R past h e i k w in
        let b : w.back ≡ d.back = latest-same w.back d.back l d.latest in
        let m : w.mon ≡ d.mon = alive-mon (sym w.live ∙ d.live) in
        let s : suc i ≡ R.run d.mon = ap suc (sym w.stored) ∙ rw (m, b) d.full in
        of-stop R (run R past).mons (run R past).pairs (h, e, i, k) ((holds R past).from h e i k w)
        (rw (mons-are R past h ∙ ap (known R) d.live) (none-tick R d.mon (h, e, i, k) s))
      where
        alive-mon : {m n : R.Mon} {a b : ℕ} → ◌≡◌ {A = Live R} (live_since m a) (live_since n b) → m ≡ n
        alive-mon q = cc

        latest-same : (j k : ℕ) → LatestStart R past j h e → LatestStart R past k h e → j ≡ k
        latest-same j k s t = go (both (ltb j k)) (both (ltb k j))
          where
            go : (ltb j k ≡ true) ⊎ (ltb j k ≡ false) → (ltb k j ≡ true) ⊎ (ltb k j ≡ false) → j ≡ k
            go (inl x) y = absurd (t.last j (ltb-true j k x) s.start)
            go (inr x) (inl y) = absurd (s.last k (ltb-true k j y) t.start)
            go (inr x) (inr y) = let a = ltb-false j k x in let b = ltb-false k j y in omega (arith, a, b)

    module _ (p : R.Pkt) where
      abbrev base : List (Pair R)
      base = map_some (move R (run R past).mons (packet p)) (run R past).pairs

      abbrev D : Deeds R
      D = λ b k x y. DoneAt R past b k x y

      B : Ground R past D p (run R past).mons base (UnderWatch R past)
      B = ground R past (run R past).mons (mons-are R past) (run R past).pairs (holds R past) p (run-stored R past)
          (run_fits R past).once (order R past)

      agrees : (n : ℕ) → Agrees R (turns R (run R past).mons p n base) (JustBefore R past D p (UnderWatch R past) n)
      agrees n = agree_at R past (run R past).mons (mons-are R past) (run R past).pairs (holds R past) p
          (run-stored R past)
          (run_fits R past).once (order R past) n

      -- A start at a packet is one of the rule, and the other way round.
      start-said : (h : ℕ) (e : R.Dev) → In (start R h e) (says R (run R past) (packet p))
          → StartAt R (packet p ∷ past) zero h e
      start-said h e i =
          let r = start-begun (run R past).mons p most_monitors base h e i in
          let b = r.0 in
          let s : StartAt R (packet p ∷ past) zero b.handle (R.dev p) =
          begun-start R past (run R past).mons (mons-are R past) (run R past).pairs (holds R past) p
          (run-stored R past)
          (run_fits R past).once (order R past) most_monitors (new_pair R p h) b in
          let x : b.handle ≡ h = ap (λ (y : Pair R). y.0) (sym b.is) in
          subst (λ d. StartAt R (packet p ∷ past) zero h d) (sym r.1)
          (subst (λ g. StartAt R (packet p ∷ past) zero g (R.dev p)) x s)

      said-start : (h : ℕ) (e : R.Dev) → StartAt R (packet p ∷ past) zero h e
          → In (start R h e) (says R (run R past) (packet p))
      said-start h e s =
          let w = takes-begins R past D p (run R past).mons base (UnderWatch R past) B h (agrees h) s.1 in
          let ok = (run-stored R past h s.1.would.mon w.0).0 in
          subst (λ d. In (start R h d) (says R (run R past) (packet p))) (sym s.0)
          (begun-starts (run R past).mons p h most_monitors base s.1.would.mon ok w.0 w.1)

      -- A stop at a packet is of a pair that it displaces, and the other way round.
      stop-said : (h : ℕ) (e : R.Dev) → In (stop R h e) (says R (run R past) (packet p))
          → DisplacedAt R (packet p ∷ past) zero h e
      stop-said h e i =
          let v = stop-leaves (run R past).mons p most_monitors base h e B.once i in
          let r = map-in (key R) (turns R (run R past).mons p v.turn base) (h, e) v.was in (
            v.turn,
            go v r.0 r.2
                (stays R past D p (run R past).mons base (UnderWatch R past) B v.turn (agrees v.turn) r.0
                r.1),
          )
        where
          go : (v : Leaves (run R past).mons p most_monitors base h e) (q : Pair R) → (h, e) ≡ key R q
              → In q (turns R (run R past).mons p (suc v.turn) base)
              ⊎ Displaces R past D p v.turn (JustBefore R past D p (UnderWatch R past) v.turn) q.0 q.1
              → Displaces R past D p v.turn (JustBefore R past D p (UnderWatch R past) v.turn) h e
          go v q z (inl j) =
              absurd (v.not (rw z (in_map (key R) (turns R (run R past).mons p (suc v.turn) base) q j)))
          go v q z (inr d) =
              subst (λ x. Displaces R past D p v.turn (JustBefore R past D p (UnderWatch R past) v.turn) x.0
              x.1) (sym z) d

      said-stop : (h : ℕ) (e : R.Dev) → DisplacedAt R (packet p ∷ past) zero h e
          → In (stop R h e) (says R (run R past) (packet p))
      said-stop h e d =
          let n : ℕ = d.0 in
          let w = d.1.would in
          let ok = (run-stored R past n w.mon (mons-are R past n ∙ ap (known R) w.live)).0 in
          leaves-stop (run R past).mons p n most_monitors base h e B.once ok ((agrees n h e).1 d.1.within)
          (gone R past D p (run R past).mons base (UnderWatch R past) B n (agrees n) h e d.1)

  is_tick : Frame R → Bool
  is_tick (add m) = false
  is_tick (cancel h) = false
  is_tick (packet p) = false
  is_tick tick = true
  is_tick other = false

  no_start : (past : List (Frame R)) (h : ℕ) (e : R.Dev) → In (start R h e) (says R (run R past) tick) → ⊥
  no_start past h e i =
      let r = stop-of R (run R past).mons (run R past).pairs (start R h e) i in
      stop≢start R (sym r.3)

  -- A frame other than a tick ends a watch by displacing alone.
  other-stop : (past : List (Frame R)) (f : Frame R) → is_tick f ≡ false → (h : ℕ) (e : R.Dev)
      → ((f ≡ tick) × Due R past h e) ⊎ DisplacedAt R (f ∷ past) zero h e → DisplacedAt R (f ∷ past) zero h e
  unfolding is_tick
  other-stop past f t h e (inl d) = absurd (false≢true (sym t ∙ ap is_tick d.0))
  other-stop past f t h e (inr d) = d

  -- One answer.
  pub answer : (past : List (Frame R)) (f : Frame R) → Answer R f (says R (run R past) f) past
  unfolding is_tick
  answer past (add m) = record {
    starts = λ h e. (λ i. absurd i, λ s. absurd s);
    stops = λ h e. (λ i. absurd i, λ s. absurd (other-stop past (add m) refl h e s));
  }
  answer past (cancel g) = record {
    starts = λ h e. (λ i. absurd i, λ s. absurd s);
    stops = λ h e. (λ i. absurd i, λ s. absurd (other-stop past (cancel g) refl h e s));
  }
  answer past (packet p) = record {
    starts = λ h e. (start-said past p h e, said-start past p h e);
    stops = λ h e. (
      λ i. inr (stop-said past p h e i),
      λ s. said-stop past p h e
          (other-stop past (packet p) refl h e s),
    );
  }
  answer past tick = record {
    starts = λ h e. (λ i. absurd (no_start past h e i), λ s. absurd s);
    stops = λ h e. (λ i. inl (refl, stop-due past h e i), λ s. ticked h e s);
  }
    where
      ticked : (h : ℕ) (e : R.Dev) → ((◌≡◌ {A = Frame R} tick tick) × Due R past h e)
          ⊎ DisplacedAt R (tick ∷ past) zero h e
          → In (stop R h e) (says R (run R past) tick)
      ticked h e (inl d) = due-stop past h e d.1
      ticked h e (inr d) = absurd d
  answer past other = record {
    starts = λ h e. (λ i. absurd i, λ s. absurd s);
    stops = λ h e. (λ i. absurd i, λ s. absurd (other-stop past other refl h e s));
  }
