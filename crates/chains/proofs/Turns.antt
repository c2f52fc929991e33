-- The events that the core engine says of a pair take turns within one life of its monitor, and it is under watch while
-- the newest of them is a start: `tells`, with Answers. Document 01, Watching, by history. Assumes nothing.
use Rattle.std.specs.Prelude.{ℕ, zero, suc, ◌≡◌, refl, ◌⊎◌, Bool, true, false, not, ◌&&◌, ◌||◌, cond, List, [], ◌∷◌, ◌++◌, map, length, take, drop, eqb, ltb}
use Rattle.std.proofs.Common.{arith, sym, ap, ◌∙◌, subst, inl, inr, eqb-true}
use Rattle.std.proofs.lemmas.Bool.{false≢true}
use Rattle.std.proofs.Math.Option.{Option, none, some}
use Rattle.rule.specs.Base.{In, Distinct, map_some, push}
use Rattle.rule.specs.BaseLaws.{both, and-true, none≢some, in_map, map-in, each_in, each-distinct}
use Rattle.rule.specs.Radio.{Radio, Frame, add, cancel, packet, tick, other, most_monitors, most_pairs}
use Rattle.rule.specs.Rule.{Live, not_live, live_since, older, live_after, UnderWatch}
use Rattle.rule.specs.Engine.{find, Mons, Pair, key, keys, at_tick, move, held, begins, started, turns, run, least, drop_first, room_for, new_pair}
use Rattle.rule.proofs.DropsLaws.{drop-in}
use Rattle.rule.proofs.MovesTurns.{held_in_lem, in_held, move-key, turns-once, Begins, begins-tells}
use Rattle.rule.proofs.FitsLaws.{run_fits}
use Rattle.history.specs.LiveLaws.{not_live≢live_since}
use Rattle.history.specs.OldLaws.{life-inv}
use Rattle.history.specs.HeldLaws.{holds_agree}
use Rattle.history.specs.OrderLaws.{holds}
use Rattle.chains.specs.Told.{Event, Told, frames_of, puts, pair_events, going, Alternates, Answer, Tells}
use Rattle.chains.specs.CoreLaws.{start_of, stop_of, first_of, goes_for, turn_says, turns_say, ended, stops_by, says, told_by}
use Rattle.chains.proofs.AnswersLaws.{answer}

module _ (R : Radio) (h : ℕ) (e : R.Dev) where
  -- The pair q is (h, e).
  abbrev is : Pair R → Bool
  is q = eqb q.0 h && R.same q.1 e

  is_key : (q r : Pair R) → key R r ≡ key R q → is r ≡ is q
  is_key q r w = ap (λ (x : ℕ × R.Dev). eqb x.0 h && R.same x.1 e) w

  -- The key of a pair that is (h, e) stands nowhere else.
  alone : (q : Pair R) (ps : List (Pair R)) → is q ≡ true → (In (key R q) (keys R ps) → ⊥) → held R ps h e ≡ false
  alone q ps t n = go (both (held R ps h e))
    where
      go : (held R ps h e ≡ true) ⊎ (held R ps h e ≡ false) → held R ps h e ≡ false
      go (inr u) = u
      go (inl u) =
          let w = and-true (eqb q.0 h) (R.same q.1 e) t in
          let a : q.0 ≡ h = eqb-true q.0 h w.0 in
          let b : q.1 ≡ e = R.same-eq q.1 e w.1 in
          absurd (n (rw (a, b) (held_in_lem R ps h e u)))

  held-append : (l r : List (Pair R)) → held R (l ++ r) h e ≡ (held R l h e || held R r h e)
  held-append [] r = refl
  held-append (q ∷ l) r = go (is q) (held-append l r)
    where
      go : (b : Bool) → held R (l ++ r) h e ≡ (held R l h e || held R r h e)
          → (b || held R (l ++ r) h e) ≡ ((b || held R l h e) || held R r h e)
      go true ih = refl
      go false ih = ih

  -- What a frame leaves was there.
  held_was : (l : Mons R) (f : Frame R) (ps : List (Pair R)) → held R (map_some (move R l f) ps) h e ≡ true
      → held R ps h e ≡ true
  held_was l f ps t =
      let i = held_in_lem R (map_some (move R l f) ps) h e t in
      let r = map-in (key R) (map_some (move R l f) ps) (h, e) i in
      let w = each_in (move R l f) ps r.0 r.1 in
      let k : (h, e) ≡ key R w.was = r.2 ∙ move-key R l f w.was r.0 w.moved in
      in_held R ps h e (subst (λ x. In x (keys R ps)) (sym k) (in_map (key R) ps w.was w.place))

  -- A frame that leaves every pair of handle h.
  held_kept : (l : Mons R) (f : Frame R) → ((q : Pair R) → move R l f q ≡ none → eqb q.0 h ≡ false)
      → (ps : List (Pair R)) → held R (map_some (move R l f) ps) h e ≡ held R ps h e
  held_kept l f k [] = refl
  held_kept l f k (q ∷ ps) = go (move R l f q) refl (held_kept l f k ps)
    where
      go : (o : Option (Pair R)) → move R l f q ≡ o → held R (map_some (move R l f) ps) h e ≡ held R ps h e
          → held R (push o (map_some (move R l f) ps)) h e ≡ (is q || held R ps h e)
      go none w ih = rw (k q w) ih
      go (some r) w ih = rw (is_key q r (move-key R l f q r w), ih)

  puts-stops : (l : Mons R) (ps : List (Pair R)) (t : List Bool) → Distinct (keys R ps)
      → puts R h e (stops_by R l ps) t ≡ cond (held R ps h e && not (held R (map_some (move R l tick) ps) h e))
      (false ∷ t) t
  puts-stops l [] t d = refl
  puts-stops l (q ∷ ps) t d = go (at_tick R (find l q.0) q) refl (is q) refl (λ u. puts-stops l ps u d.1)
    where
      gone : is q ≡ true → held R (map_some (move R l tick) ps) h e ≡ false
      gone w = at (both (held R (map_some (move R l tick) ps) h e))
        where
          at : (held R (map_some (move R l tick) ps) h e ≡ true) ⊎ (held R (map_some (move R l tick) ps) h e ≡ false)
              → held R (map_some (move R l tick) ps) h e ≡ false
          at (inl u) = absurd (false≢true (sym (alone q ps w d.0) ∙ held_was l tick ps u))
          at (inr u) = u

      go : (o : Option (Pair R)) → at_tick R (find l q.0) q ≡ o → (b : Bool) → is q ≡ b
          → ((u : List Bool) → puts R h e (stops_by R l ps) u
          ≡ cond (held R ps h e && not (held R (map_some (move R l tick) ps) h e)) (false ∷ u) u)
          → puts R h e (ended R o q ++ stops_by R l ps) t
          ≡ cond ((b || held R ps h e) && not (held R (push o (map_some (move R l tick) ps)) h e)) (false ∷ t) t
      go none x true w ih =
          ap (λ b. puts R h e (stops_by R l ps) (cond b (false ∷ t) t)) w ∙ ih (false ∷ t)
          ∙ rw (alone q ps w d.0, gone w)
      go none x false w ih = ap (λ b. puts R h e (stops_by R l ps) (cond b (false ∷ t) t)) w ∙ ih t
      go (some r) x true w ih = ih t ∙ rw (is_key q r (move-key R l tick q r x), w, alone q ps w d.0)
      go (some r) x false w ih = rw (is_key q r (move-key R l tick q r x), w) (ih t)

  -- The state of the events of (h, e) against the pairs held.
  abbrev pub Stand : List Bool → Bool → Type 0
  Stand l b = Alternates R l × (going R l ≡ b)

  puts-append : (xs ys : List (Event R)) (l : List Bool) → puts R h e (xs ++ ys) l ≡ puts R h e ys (puts R h e xs l)
  puts-append [] ys l = refl
  puts-append (x ∷ xs) ys l = puts-append xs ys (cond (eqb x.handle h && R.same x.device e) (x.starts ∷ l) l)

  -- A pair that is not held is not told of.
  puts_none : (k : ℕ) (ps : List (Pair R)) (l : List Bool) → held R ps h e ≡ false
      → puts R h e (map (stop_of R) (first_of R k ps)) l ≡ l
  puts_none k [] l n = refl
  puts_none k (q ∷ ps) l n = go (is q) refl n (eqb q.3 k) (λ m. puts_none k ps l m)
    where
      go : (b : Bool) → is q ≡ b → (b || held R ps h e) ≡ false → (c : Bool)
          → (held R ps h e ≡ false → puts R h e (map (stop_of R) (first_of R k ps)) l ≡ l)
          → puts R h e (map (stop_of R) (cond c (q ∷ []) (first_of R k ps))) l ≡ l
      go true w m c ih = absurd (false≢true (sym m))
      go false w m true ih = ap (λ b. cond b (false ∷ l) l) w
      go false w m false ih = ih m

  -- The pair that goes: its stop.
  stop-stand : (k : ℕ) (ps : List (Pair R)) (l : List Bool) → Distinct (keys R ps) → Stand l (held R ps h e)
      → Stand (puts R h e (map (stop_of R) (first_of R k ps)) l) (held R (drop_first R k ps) h e)
  stop-stand k [] l d s = s
  stop-stand k (q ∷ ps) l d s = go (eqb q.3 k) (is q) refl s (λ t. stop-stand k ps l d.1 t)
    where
      go : (c b : Bool) → is q ≡ b → Stand l (b || held R ps h e)
          → (Stand l (held R ps h e)
          → Stand (puts R h e (map (stop_of R) (first_of R k ps)) l) (held R (drop_first R k ps) h e))
          → Stand (puts R h e (map (stop_of R) (cond c (q ∷ []) (first_of R k ps))) l)
          (held R (cond c ps (q ∷ drop_first R k ps)) h e)
      go true true w t ih = rw (w, alone q ps w d.0) ((ap not (sym t.1), t.0), refl)
      go true false w t ih = rw w t
      go false true w t ih = rw (w, puts_none k ps l (alone q ps w d.0)) t
      go false false w t ih = rw w (ih t)

  -- The pair that starts, which was not held: its start.
  or-false : (b : Bool) → (b || false) ≡ b
  or-false true = refl
  or-false false = refl

  start-stand : (q : Pair R) (ps : List (Pair R)) (l : List Bool) → held R ps q.0 q.1 ≡ false
      → Stand l (held R ps h e)
      → Stand (puts R h e (start_of R q ∷ []) l) (held R (ps ++ (q ∷ [])) h e)
  start-stand q ps l n s = rw (held-append ps (q ∷ [])) (go (is q) refl)
    where
      go : (b : Bool) → is q ≡ b → Stand (cond b (true ∷ l) l) (held R ps h e || (b || false))
      go true w =
          let u = and-true (eqb q.0 h) (R.same q.1 e) w in
          let a : q.0 ≡ h = eqb-true q.0 h u.0 in
          let b : q.1 ≡ e = R.same-eq q.1 e u.1 in
          let f : held R ps h e ≡ false = rw (← a, ← b) n in
          rw f ((ap not (sym (s.1 ∙ f)), s.0), refl)
      go false w = rw (or-false (held R ps h e)) s

  -- One handle's turn, and the turns below n.
  turn-stand : (o : Option R.Mon) (p : R.Pkt) (n : ℕ) (ps : List (Pair R)) (l : List Bool) → Distinct (keys R ps)
      → Stand l (held R ps h e) → Stand (puts R h e (turn_says R o p n ps) l) (held R (started R o p n ps) h e)
  turn-stand none p n ps l d s = s
  turn-stand (some m) p n ps l d s = go (begins R m p n ps) refl
    where
      full : Begins R m p n ps → (c : Bool)
          → Stand (puts R h e
          (map (stop_of R) (cond c [] (first_of R (least R (R.rssi p) ps) ps)) ++ (start_of R (new_pair R p n) ∷ []))
          l)
          (held R (cond c ps (drop_first R (least R (R.rssi p) ps) ps) ++ (new_pair R p n ∷ [])) h e)
      full b true = start-stand (new_pair R p n) ps l b.new s
      full b false =
          let k : ℕ = least R (R.rssi p) ps in
          rw (puts-append (map (stop_of R) (first_of R k ps)) (start_of R (new_pair R p n) ∷ []) l)
          (start-stand (new_pair R p n) (drop_first R k ps) (puts R h e (map (stop_of R) (first_of R k ps)) l)
          (new (held R (drop_first R k ps) n (R.dev p)) refl) (stop-stand k ps l d s))
        where
          new : (c : Bool) → held R (drop_first R (least R (R.rssi p) ps) ps) n (R.dev p) ≡ c
              → held R (drop_first R (least R (R.rssi p) ps) ps) n (R.dev p) ≡ false
          new false w = w
          new true w =
              let k : ℕ = least R (R.rssi p) ps in
              let r = map-in (key R) (drop_first R k ps) (n, R.dev p) (held_in_lem R (drop_first R k ps) n (R.dev p) w) in
              absurd (false≢true (sym b.new ∙ in_held R ps n (R.dev p)
              (rw r.2 (in_map (key R) ps r.0 (drop-in R k ps r.0 r.1)))))

      go : (b : Bool) → begins R m p n ps ≡ b
          → Stand (puts R h e
          (map (stop_of R) (cond b (goes_for R (R.rssi p) ps) [])
          ++ map (start_of R) (cond b (new_pair R p n ∷ []) [])) l)
          (held R (cond b (room_for R (R.rssi p) ps ++ (new_pair R p n ∷ [])) ps) h e)
      go true t = full (begins-tells R m p n ps t) (ltb (length ps) most_pairs)
      go false t = s

  turns-stand : (mons : Mons R) (p : R.Pkt) (n : ℕ) (ps : List (Pair R)) (l : List Bool) → Distinct (keys R ps)
      → Stand l (held R ps h e) → Stand (puts R h e (turns_say R mons p n ps) l) (held R (turns R mons p n ps) h e)
  turns-stand mons p zero ps l d s = s
  turns-stand mons p (suc n) ps l d s =
      rw (puts-append (turns_say R mons p n ps) (turn_says R (find mons n) p n (turns R mons p n ps)) l)
      (turn-stand (find mons n) p n (turns R mons p n ps) (puts R h e (turns_say R mons p n ps) l)
      (turns-once R mons p n ps d)
      (turns-stand mons p n ps l d s))

  tick-stand : (l : List Bool) (c d : Bool) → Stand l c → (d ≡ true → c ≡ true)
      → Stand (cond (c && not d) (false ∷ l) l) d
  tick-stand l true true s n = s
  tick-stand l true false s n = ((ap not (sym s.1), s.0), refl)
  tick-stand l false true s n = absurd (false≢true (n refl))
  tick-stand l false false s n = s

  one : (f : Frame R) (past : List (Frame R)) (m : R.Mon) (a : ℕ) (l : List Bool)
      → live_after R (f ∷ past) h ≡ live_since m (suc a)
      → Stand l (held R (run R past).pairs h e)
      → Stand (puts R h e (says R (run R past) f) l) (held R (run R (f ∷ past)).pairs h e)
  one (add n) past m a l q s =
      rw (held_kept (run R past).mons (add n) (λ r w. absurd (none≢some (sym w))) (run R past).pairs) s
  one (cancel g) past m a l q s =
      rw (held_kept (run R past).mons (cancel g) (λ r w. other-handle (eqb g h) refl q r w) (run R past).pairs) s
    where
      other-handle : (b : Bool) → eqb g h ≡ b → cond b not_live (older R (live_after R past h)) ≡ live_since m (suc a)
          → (r : Pair R) → cond (eqb g r.0) none (some r) ≡ none → eqb r.0 h ≡ false
      other-handle true w v r u = absurd (not_live≢live_since R v)
      other-handle false w v r u = at (eqb g r.0) refl u
        where
          at : (b : Bool) → eqb g r.0 ≡ b → cond b none (some r) ≡ none → eqb r.0 h ≡ false
          at true x y = subst (λ k. eqb k h ≡ false) (eqb-true g r.0 x) w
          at false x y = absurd (none≢some (sym y))
  one (packet p) past m a l q s =
      let base : List (Pair R) = map_some (move R (run R past).mons (packet p)) (run R past).pairs in
      let kept : held R base h e ≡ held R (run R past).pairs h e =
      held_kept (run R past).mons (packet p) (λ r w. absurd (none≢some (sym w))) (run R past).pairs in
      let once : Distinct (keys R base) =
      each-distinct (key R) (move R (run R past).mons (packet p)) (run R past).pairs
      (λ x y. move-key R (run R past).mons (packet p) x y) (run_fits R past).once in
      turns-stand (run R past).mons p most_monitors base l once (subst (λ b. Stand l b) (sym kept) s)
  one tick past m a l q s =
      rw (puts-stops (run R past).mons (run R past).pairs l (run_fits R past).once)
      (tick-stand l (held R (run R past).pairs h e)
      (held R (map_some (move R (run R past).mons tick) (run R past).pairs) h e) s
      (held_was (run R past).mons tick (run R past).pairs))
  one other past m a l q s =
      rw (held_kept (run R past).mons other (λ r w. absurd (none≢some (sym w))) (run R past).pairs) s

  -- A monitor that was just added has no pair.
  new-idle : (past : List (Frame R)) (m : R.Mon) → live_after R past h ≡ live_since m zero
      → held R (run R past).pairs h e ≡ false
  new-idle past m q = go (both (held R (run R past).pairs h e))
    where
      age : (n : R.Mon) (a : ℕ) → ◌≡◌ {A = Live R} (live_since m zero) (live_since n a) → zero ≡ a
      age n a w = cc

      go : (held R (run R past).pairs h e ≡ true) ⊎ (held R (run R past).pairs h e ≡ false)
          → held R (run R past).pairs h e ≡ false
      go (inr u) = u
      go (inl u) =
          let w : UnderWatch R past h e =
          (holds_agree R past (run R past).pairs (holds R past) h e).0 (held_in_lem R (run R past).pairs h e u) in
          let z = age w.mon w.age (sym q ∙ w.live) in
          absurd (omega (arith, z, w.since))

  pub stands : (past : List (Frame R)) (m : R.Mon) (a : ℕ) → live_after R past h ≡ live_since m a
      → Stand (pair_events R h e (take a (told_by R past))) (held R (run R past).pairs h e)
  stands [] m a q = absurd (not_live≢live_since R q)
  stands (f ∷ past) m zero q = (tt, sym (new-idle (f ∷ past) m q))
  stands (f ∷ past) m (suc a) q =
      let v = life-inv R f (λ g. live_after R past g) h m (suc a) q (omega arith) in
      let b : v.0 ≡ a = omega (arith, v.1) in
      one f past m a (pair_events R h e (take a (told_by R past))) q (stands past m a (v.2 ∙ ap (live_since m) b))

module _ (R : Radio) where
  frames-told : (past : List (Frame R)) → frames_of R (told_by R past) ≡ past
  frames-told [] = refl
  frames-told (f ∷ past) = ap {B = List (Frame R)} (λ l. f ∷ l) (frames-told past)

  drop-told : (i : ℕ) (past : List (Frame R)) → drop i (told_by R past) ≡ told_by R (drop i past)
  drop-told zero past = refl
  drop-told (suc i) [] = refl
  drop-told (suc i) (f ∷ past) = drop-told i past

  -- What the core engine says is what the history rule tells.
  pub tells : (past : List (Frame R)) → Tells R (told_by R past)
  tells past = record {
    each = λ i f xs before q. one_answer (drop i past) f xs before (sym (drop-told i past) ∙ q);
    turns = λ i h e m a q. rw (drop-told i past) (stands R h e (drop i past) m a (live i h m a q)).0;
    watch = λ i h e m a q.
        let s = (stands R h e (drop i past) m a (live i h m a q)).1 in
        rw (drop-told i past, frames-told (drop i past)) (
          (λ t. (holds_agree R (drop i past) (run R (drop i past)).pairs (holds R (drop i past)) h e).0
              (held_in_lem R (run R (drop i past)).pairs h e (sym s ∙ t))),
          λ w. s ∙ in_held R (run R (drop i past)).pairs h e
              ((holds_agree R (drop i past) (run R (drop i past)).pairs (holds R (drop i past)) h e).1 w),
        );
  }
    where
      live : (i h : ℕ) (m : R.Mon) (a : ℕ) → live_after R (frames_of R (drop i (told_by R past))) h ≡ live_since m a
          → live_after R (drop i past) h ≡ live_since m a
      live i h m a q =
          subst (λ l. live_after R l h ≡ live_since m a)
          (ap (frames_of R) (drop-told i past) ∙ frames-told (drop i past)) q

      newest : Told R → Type 0
      newest [] = Unit {0}
      newest (x ∷ l) = Answer R x.0 x.1 (frames_of R l)

      one_answer : (rest : List (Frame R)) (f : Frame R) (xs : List (Event R)) (before : Told R)
          → told_by R rest ≡ (f, xs) ∷ before → Answer R f xs (frames_of R before)
      one_answer [] f xs before q = let z : 0 ≡ suc (length before) = ap length q in absurd (omega arith)
      one_answer (g ∷ rest) f xs before q =
          subst newest q (subst (Answer R g (says R (run R rest) g)) (sym (frames-told rest)) (answer R rest g))
