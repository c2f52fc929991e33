-- What the core engine says of its pairs at every frame is what the history rule has.
-- Document 01, Watching, by history; document 02, T-05, T-14. Assumes nothing.
use Rattle.std.specs.Prelude.{ℕ, zero, suc, ◌<◌, ◌≡◌, refl, ◌⊎◌, Bool, true, false, cond, List, [], ◌∷◌, ◌++◌, map, length, eqb, ltb}
use Rattle.std.proofs.Common.{arith, sym, ap, ◌∙◌, subst, inl, inr, ltb-true, ltb-false}
use Rattle.std.proofs.lemmas.Bool.{false≢true}
use Rattle.std.proofs.Math.Option.{Option, none, some}
use Rattle.rule.specs.Base.{In, Distinct, map_some}
use Rattle.rule.specs.BaseLaws.{none≢some, in_left, in_right, in-append, in_map, map-in}
use Rattle.rule.specs.Radio.{Radio, Frame, add, cancel, packet, tick, other, most_monitors, most_pairs}
use Rattle.rule.specs.Engine.{find, Mons, Pair, key, keys, State, at_tick, move, begins, started, turns, run, least, drop_first, new_pair}
use Rattle.rule.proofs.DropsLaws.{First, first-in, first-gone, drop-or}
use Rattle.rule.proofs.MovesTurns.{in_held, Begins, begins-tells, tells-begins}
use Rattle.chains.specs.Told.{Event, start, stop, Told}
use Rattle.chains.specs.CoreLaws.{start_of, stop_of, first_of, goes_for, gone_at, new_at, turn_says, ended, stops_by}

module _ (R : Radio) where
  -- A stop is no start.
  pub stop≢start : {h g : ℕ} {e d : R.Dev} → stop R h e ≡ start R g d → ⊥
  stop≢start q = false≢true (ap (λ (x : Event R). x.starts) q)

  -- A stop said at a tick is of a pair held that ends at it.
  pub stop-of : (l : Mons R) (ps : List (Pair R)) (x : Event R) → In x ((stops_by R) l ps)
      → (q : Pair R) × In q ps × (at_tick R (find l q.0) q ≡ none) × (x ≡ (stop_of R) q)
  stop-of l [] x i = elim i [ ]
  stop-of l (q ∷ ps) x i =
      at (at_tick R (find l q.0) q) refl (in-append x ((ended R) (at_tick R (find l q.0) q) q) ((stops_by R) l ps) i)
      (λ j. let r = stop-of l ps x j in (r.0, inr r.1, r.2, r.3))
    where
      at : (o : Option (Pair R)) → at_tick R (find l q.0) q ≡ o → In x ((ended R) o q) ⊎ In x ((stops_by R) l ps)
          → (In x ((stops_by R) l ps) → (r : Pair R) × In r (q ∷ ps) × (at_tick R (find l r.0) r ≡ none) × (x ≡ (stop_of R) r))
          → (r : Pair R) × In r (q ∷ ps) × (at_tick R (find l r.0) r ≡ none) × (x ≡ (stop_of R) r)
      at none e (inl (inl w)) ih = (q, inl refl, e, w)
      at none e (inl (inr w)) ih = absurd w
      at (some r) e (inl w) ih = absurd w
      at none e (inr j) ih = ih j
      at (some r) e (inr j) ih = ih j

  pub of-stop : (l : Mons R) (ps : List (Pair R)) (q : Pair R) → In q ps → at_tick R (find l q.0) q ≡ none
      → In ((stop_of R) q) ((stops_by R) l ps)
  of-stop l [] q x'' e = elim x'' [ ]
  of-stop l (r ∷ ps) q (inl w) e =
      in_left ((stop_of R) q) ((ended R) (at_tick R (find l r.0) r) r) ((stops_by R) l ps) (rw (← w, e) (inl refl))
  of-stop l (r ∷ ps) q (inr i) e =
      in_right ((stop_of R) q) ((ended R) (at_tick R (find l r.0) r) r) ((stops_by R) l ps) (of-stop l ps q i e)

  -- At a tick: the watch ends where the count is full, and there alone.
  abbrev next : Bool → Pair R → Option (Pair R)
  next b q = cond b (some (q.0, q.1, suc q.2, q.3)) none

  pub tick-none : (m : R.Mon) (q : Pair R) → q.2 < R.run m → at_tick R (some m) q ≡ none → suc q.2 ≡ R.run m
  tick-none m q t e = go (ltb (suc q.2) (R.run m)) refl e
    where
      go : (b : Bool) → ltb (suc q.2) (R.run m) ≡ b → next b q ≡ none → suc q.2 ≡ R.run m
      go true w v = absurd (none≢some (sym v))
      go false w v = let z = ltb-false (suc q.2) (R.run m) w in omega (arith, z)

  pub none-tick : (m : R.Mon) (q : Pair R) → suc q.2 ≡ R.run m → at_tick R (some m) q ≡ none
  none-tick m q t = go (ltb (suc q.2) (R.run m)) refl
    where
      go : (b : Bool) → ltb (suc q.2) (R.run m) ≡ b → next b q ≡ none
      go true w = let z = ltb-true (suc q.2) (R.run m) w in absurd (omega (arith, z))
      go false w = refl

  first-first : (k : ℕ) (ps : List (Pair R)) (x : Pair R) → In x ((first_of R) k ps) → First R k ps x
  first-first k [] x i = elim i [ ]
  first-first k (q ∷ ps) x i = go (eqb q.3 k) refl i (λ j. first-first k ps x j)
    where
      go : (b : Bool) → eqb q.3 k ≡ b → In x (cond b (q ∷ []) ((first_of R) k ps))
          → (In x ((first_of R) k ps) → First R k ps x)
          → First R k (q ∷ ps) x
      go true t (inl w) ih = inl (t, w)
      go true t (inr w) ih = absurd w
      go false t w ih = inr (t, ih w)

  first_found : (k : ℕ) (ps : List (Pair R)) (x : Pair R) → First R k ps x → In x ((first_of R) k ps)
  first_found k [] x x3 = elim x3 [ ]
  first_found k (q ∷ ps) x (inl w) = rw w.0 (inl w.1)
  first_found k (q ∷ ps) x (inr w) = rw w.0 (first_found k ps x w.1)

  module _ (p : R.Pkt) (n : ℕ) (ps : List (Pair R)) where
    -- A start said at a turn is one made.
    pub start-turn : (o : Option R.Mon) (h : ℕ) (e : R.Dev) → In (start R h e) ((turn_says R) o p n ps)
        → (m : R.Mon) × (o ≡ some m) × Begins R m p n ps × (start R h e ≡ (start_of R) (new_pair R p n))
    start-turn o h e i = go o (in-append (start R h e) (map (stop_of R) ((gone_at R) o p n ps)) (map (start_of R) ((new_at R) o p n ps)) i)
      where
        new : (m : R.Mon) (b : Bool) → begins R m p n ps ≡ b
            → In (start R h e) (map (start_of R) (cond b (new_pair R p n ∷ []) []))
            → (k : R.Mon) × (some m ≡ some k) × Begins R k p n ps × (start R h e ≡ (start_of R) (new_pair R p n))
        new m true t (inl w) = (m, refl, begins-tells R m p n ps t, w)
        new m true t (inr w) = absurd w
        new m false t w = absurd w

        go : (o : Option R.Mon) → In (start R h e) (map (stop_of R) ((gone_at R) o p n ps))
            ⊎ In (start R h e) (map (start_of R) ((new_at R) o p n ps))
            → (m : R.Mon) × (o ≡ some m) × Begins R m p n ps × (start R h e ≡ (start_of R) (new_pair R p n))
        go o (inl j) = let r = map-in (stop_of R) ((gone_at R) o p n ps) (start R h e) j in absurd (stop≢start (sym r.2))
        go none (inr j) = absurd j
        go (some m) (inr j) = new m (begins R m p n ps) refl j

    pub turn-starts : (m : R.Mon) → Begins R m p n ps → In ((start_of R) (new_pair R p n)) ((turn_says R) (some m) p n ps)
    turn-starts m b =
        rw (tells-begins R m p n ps b)
        (in_right ((start_of R) (new_pair R p n)) (map (stop_of R) ((goes_for R) (R.rssi p) ps)) ((start_of R) (new_pair R p n) ∷ [])
        (inl refl))

    module _ (once : Distinct (keys R ps)) (h : ℕ) (e : R.Dev) where
      abbrev pub Gone : List (Pair R) → Type 0
      Gone qs = In (h, e) (keys R ps) × (In (h, e) (keys R qs) → ⊥)

      -- A stop said at a turn is of a pair that is held before it and not after.
      pub stop-turn : (o : Option R.Mon) → In (stop R h e) ((turn_says R) o p n ps) → Gone (started R o p n ps)
      stop-turn o i = go o (in-append (stop R h e) (map (stop_of R) ((gone_at R) o p n ps)) (map (start_of R) ((new_at R) o p n ps)) i)
        where
          first : (m : R.Mon) → Begins R m p n ps → (q : Pair R) → (stop R h e ≡ (stop_of R) q)
              → First R (least R (R.rssi p) ps) ps q
              → Gone (drop_first R (least R (R.rssi p) ps) ps ++ (new_pair R p n ∷ []))
          first m b q w f =
              let k : ℕ = least R (R.rssi p) ps in
              let z : (h, e) ≡ key R q = ap (λ (x : Event R). (x.handle, x.device)) w in
              let i : In (h, e) (keys R ps) = rw z (in_map (key R) ps q (first-in R k ps q f)) in (
                i,
                λ j.
                    let r = map-in (key R) (drop_first R k ps ++ (new_pair R p n ∷ [])) (h, e) j in
                    last k q z f i r.0 r.2 (in-append r.0 (drop_first R k ps) (new_pair R p n ∷ []) r.1),
              )
            where
              last : (k : ℕ) (q : Pair R) → (h, e) ≡ key R q → First R k ps q → In (h, e) (keys R ps) → (y : Pair R)
                  → (h, e) ≡ key R y
                  → In y (drop_first R k ps) ⊎ In y (new_pair R p n ∷ []) → ⊥
              last k q z f i y v (inl u) = first-gone R k ps q y once f u (sym v ∙ z)
              last k q z f i y v (inr (inl u)) =
                  let c : ◌≡◌ {A = ℕ × R.Dev} (h, e) (n, R.dev p) = v ∙ ap (key R) u in
                  false≢true (sym b.new ∙ in_held R ps n (R.dev p) (subst (λ x. In x (keys R ps)) c i))
              last k q z f i y v (inr (inr u)) = u

          full : (m : R.Mon) → Begins R m p n ps → (c : Bool)
              → In (stop R h e) (map (stop_of R) (cond c [] ((first_of R) (least R (R.rssi p) ps) ps)))
              → Gone (cond c ps (drop_first R (least R (R.rssi p) ps) ps) ++ (new_pair R p n ∷ []))
          full m b true j = absurd j
          full m b false j =
              let r = map-in (stop_of R) ((first_of R) (least R (R.rssi p) ps) ps) (stop R h e) j in
              first m b r.0 r.2 (first-first (least R (R.rssi p) ps) ps r.0 r.1)

          at : (m : R.Mon) (b : Bool) → begins R m p n ps ≡ b
              → In (stop R h e) (map (stop_of R) (cond b ((goes_for R) (R.rssi p) ps) []))
              → Gone (cond b (cond (ltb (length ps) most_pairs) ps (drop_first R (least R (R.rssi p) ps) ps)
              ++ (new_pair R p n ∷ [])) ps)
          at m true t j = full m (begins-tells R m p n ps t) (ltb (length ps) most_pairs) j
          at m false t j = absurd j

          go : (o : Option R.Mon) → In (stop R h e) (map (stop_of R) ((gone_at R) o p n ps))
              ⊎ In (stop R h e) (map (start_of R) ((new_at R) o p n ps))
              → Gone (started R o p n ps)
          go o (inr j) = let r = map-in (start_of R) ((new_at R) o p n ps) (stop R h e) j in absurd (stop≢start r.2)
          go none (inl j) = absurd j
          go (some m) (inl j) = at m (begins R m p n ps) refl j

      -- .. and the other way round.
      pub turn-stops : (o : Option R.Mon) → Gone (started R o p n ps) → In (stop R h e) ((turn_says R) o p n ps)
      turn-stops none g = absurd (g.1 g.0)
      turn-stops (some m) g = at (begins R m p n ps) g
        where
          found : (q : Pair R) → (h, e) ≡ key R q → In q ps
              → (In (h, e) (keys R (drop_first R (least R (R.rssi p) ps) ps ++ (new_pair R p n ∷ []))) → ⊥)
              → In q (drop_first R (least R (R.rssi p) ps) ps) ⊎ First R (least R (R.rssi p) ps) ps q
              → In (stop R h e) (map (stop_of R) ((first_of R) (least R (R.rssi p) ps) ps))
          found q z i u (inl j) =
              absurd (u (rw z (in_map (key R) (drop_first R (least R (R.rssi p) ps) ps ++ (new_pair R p n ∷ [])) q
              (in_left q (drop_first R (least R (R.rssi p) ps) ps) (new_pair R p n ∷ []) j))))
          found q z i u (inr f) =
              let w : (stop_of R) q ≡ stop R h e = ap (λ (x : ℕ × R.Dev). stop R x.0 x.1) (sym z) in
              subst (λ x. In x (map (stop_of R) ((first_of R) (least R (R.rssi p) ps) ps))) w
              (in_map (stop_of R) ((first_of R) (least R (R.rssi p) ps) ps) q (first_found (least R (R.rssi p) ps) ps q f))

          full : (c : Bool) → Gone (cond c ps (drop_first R (least R (R.rssi p) ps) ps) ++ (new_pair R p n ∷ []))
              → In (stop R h e) (map (stop_of R) (cond c [] ((first_of R) (least R (R.rssi p) ps) ps)))
          full true g =
              let r = map-in (key R) ps (h, e) g.0 in
              absurd (g.1 (rw r.2
              (in_map (key R) (ps ++ (new_pair R p n ∷ [])) r.0 (in_left r.0 ps (new_pair R p n ∷ []) r.1))))
          full false g =
              let r = map-in (key R) ps (h, e) g.0 in
              found r.0 r.2 r.1 g.1 (drop-or R (least R (R.rssi p) ps) ps r.0 r.1)

          at : (b : Bool)
              → Gone (cond b (cond (ltb (length ps) most_pairs) ps (drop_first R (least R (R.rssi p) ps) ps)
              ++ (new_pair R p n ∷ [])) ps)
              → In (stop R h e)
              (map (stop_of R) (cond b ((goes_for R) (R.rssi p) ps) []) ++ map (start_of R) (cond b (new_pair R p n ∷ []) []))
          at true g = in_left (stop R h e) (map (stop_of R) ((goes_for R) (R.rssi p) ps)) ((start_of R) (new_pair R p n) ∷ [])
              (full (ltb (length ps) most_pairs) g)
          at false g = absurd (g.1 g.0)
