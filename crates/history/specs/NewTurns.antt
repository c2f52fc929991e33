-- The starts of one packet, handle by handle, with the pairs that they displace: the engine's turns against the
-- rule's. Room by the pigeonhole. Assumes nothing.
use Rattle.std.specs.Prelude.{ℕ, zero, suc, ◌≤◌, ◌<◌, ◌≡◌, refl, ◌⊎◌, Bool, true, false, ◌||◌, cond, List, [], ◌∷◌, ◌++◌, length, ltb}
use Rattle.std.proofs.Common.{arith, sym, ap, ◌∙◌, subst, inl, inr, ltb-true, lt-ltb}
use Rattle.std.proofs.lemmas.Bool.{false≢true}
use Rattle.std.proofs.Math.Option.{Option, none, some}
use Rattle.rule.specs.Base.{In}
use Rattle.rule.specs.BaseLaws.{both, in-append, in_left}
use Rattle.rule.specs.BaseLaws.{in_map, map-in, pair_path}
use Rattle.rule.specs.Radio.{Radio, Frame, packet, most_pairs}
use Rattle.rule.specs.Rule.{Pairs, WouldStart, JustBefore, Displaces, Deeds, Latest, Sooner, kept}
use Rattle.rule.specs.Engine.{find, Mons, Pair, key, keys, begins, started, turns, least, drop_first, room_for}
use Rattle.rule.specs.Engine.{new_pair}
use Rattle.rule.proofs.DropsLaws.{First, least-le, least-is, first-in, first-keeps, first_of, drop-in, drop-or, first-gone}
use Rattle.rule.proofs.DropsLaws.{first-before, room_in_lem}
use Rattle.rule.proofs.MovesTurns.{Begins, begins-tells, tells-begins, turns-once, begun-in}
use Rattle.history.specs.LatestLaws.{not-both}
use Rattle.history.specs.GroundTurns.{Agrees, Ground, room_of, of_room, turn_level, turn-first, turn-sorted, place, room_fits, wants-of, wants-begins}
use Rattle.history.specs.GroundTurns.{Ranks, takes-begins, begins-takes}

module _ (R : Radio) where
  module _ (past : List (Frame R)) (D : Deeds R) (p : R.Pkt) (l : Mons R) (ps : List (Pair R)) (W : Pairs R)
      (B : Ground R past D p l ps W) where
    -- The pairs after the turns below n, and the rule's.
    abbrev T : ℕ → List (Pair R)
    T n = turns R l p n ps

    abbrev U : ℕ → Pairs R
    U n = JustBefore R past D p W n

    -- The pair that the engine drops is the one that the rule displaces.
    dropped : (n : ℕ) → Agrees R (T n) (U n) → WouldStart R past p n (U n) → ltb (length (T n)) most_pairs ≡ false
        → least R (R.rssi p) (T n) < R.rssi p → (q : Pair R) → First R (least R (R.rssi p) (T n)) (T n) q
        → Displaces R past D p n (U n) q.0 q.1
    dropped n a w c low q f = record {
      would = w;
      full = λ r. false≢true
          (sym c ∙ lt-ltb (length (T n)) most_pairs (of_room R (T n) (U n) a (turns-once R l p n ps B.once) r));
      within = (a q.0 q.1).0 (in_map (key R) (T n) q (first-in R (least R (R.rssi p) (T n)) (T n) q f));
      above = omega (arith, mine, is, low);
      smallest = small;
      earliest = early;
    }
      where
        is : q.3 ≡ least R (R.rssi p) (T n)
        is = first-keeps R (least R (R.rssi p) (T n)) (T n) q f

        mine : kept R (packet p ∷ past) q.0 q.1 ≡ q.3
        mine = turn_level R past D p l ps W B n q (first-in R (least R (R.rssi p) (T n)) (T n) q f)

        theirs : (h : ℕ) (e : R.Dev) (x : Pair R) → In x (T n) → (h, e) ≡ key R x
            → kept R (packet p ∷ past) h e ≡ x.3
        theirs h e x i k =
            subst (λ z. kept R (packet p ∷ past) z.0 z.1 ≡ x.3) (sym k) (turn_level R past D p l ps W B n x i)

        small : (h : ℕ) (e : R.Dev) → U n h e
            → kept R (packet p ∷ past) q.0 q.1 ≤ kept R (packet p ∷ past) h e
        small h e u =
            let x = place R past D p l ps W B n a h e u in
            let k = theirs h e x.0 x.1 x.2 in
            let le = least-le R (R.rssi p) (T n) x.0 x.1 in
            omega (arith, mine, is, k, le)

        early : (h : ℕ) (e : R.Dev) → U n h e
            → kept R (packet p ∷ past) h e ≡ kept R (packet p ∷ past) q.0 q.1
            → ((h ≡ q.0) × (e ≡ q.1)) ⊎ Sooner R D (q.0, q.1) (h, e)
        early h e u z =
            let x = place R past D p l ps W B n a h e u in
            let k = theirs h e x.0 x.1 x.2 in
            let v : x.0.3 ≡ least R (R.rssi p) (T n) = sym k ∙ z ∙ mine ∙ is in
            go x.0 x.2 v
            (first-before R (Ranks R past D p l ps W B) (least R (R.rssi p) (T n)) (T n) q x.0
            (turn-sorted R past D p l ps W B n) f x.1 v)
          where
            go : (x : Pair R) → (h, e) ≡ key R x → x.3 ≡ least R (R.rssi p) (T n)
                → (x ≡ q) ⊎ Ranks R past D p l ps W B q x
                → ((h ≡ q.0) × (e ≡ q.1)) ⊎ Sooner R D (q.0, q.1) (h, e)
            go x k v (inl s) = inl (ap (λ y. y.0) k ∙ ap (λ y. y.0) s, ap (λ y. y.1) k ∙ ap (λ y. y.1) s)
            go x k v (inr (inl s)) = absurd (omega (arith, v, s, low))
            go x k v (inr (inr s)) = inr (subst (λ y. Sooner R D (q.0, q.1) y) (sym k) s)

    -- What is held before a turn is held after it, or the rule displaces it.
    pub stays : (n : ℕ) → Agrees R (T n) (U n) → (q : Pair R) → In q (T n)
        → In q (T (suc n)) ⊎ Displaces R past D p n (U n) q.0 q.1
    stays n a q i = at (find l n) refl
      where
        at : (o : Option R.Mon) → find l n ≡ o
            → In q (started R o p n (T n)) ⊎ Displaces R past D p n (U n) q.0 q.1
        at none e = inl i
        at (some m) e = go (begins R m p n (T n)) refl
          where
            drop : Begins R m p n (T n) → ltb (length (T n)) most_pairs ≡ false → least R (R.rssi p) (T n) < R.rssi p
                → In q (drop_first R (least R (R.rssi p) (T n)) (T n)) ⊎ First R (least R (R.rssi p) (T n)) (T n) q
                → In q (drop_first R (least R (R.rssi p) (T n)) (T n) ++ (new_pair R p n ∷ []))
                ⊎ Displaces R past D p n (U n) q.0 q.1
            drop b c low (inl j) =
                inl (in_left q (drop_first R (least R (R.rssi p) (T n)) (T n)) (new_pair R p n ∷ []) j)
            drop b c low (inr f) = inr (dropped n a (wants-of R past D p l ps W B n m a e b) c low q f)

            full : Begins R m p n (T n) → (c : Bool) → ltb (length (T n)) most_pairs ≡ c
                → (c || ltb (least R (R.rssi p) (T n)) (R.rssi p)) ≡ true
                → In q (cond c (T n) (drop_first R (least R (R.rssi p) (T n)) (T n)) ++ (new_pair R p n ∷ []))
                ⊎ Displaces R past D p n (U n) q.0 q.1
            full b true c f = inl (in_left q (T n) (new_pair R p n ∷ []) i)
            full b false c f =
                drop b c (ltb-true (least R (R.rssi p) (T n)) (R.rssi p) f)
                (drop-or R (least R (R.rssi p) (T n)) (T n) q i)

            go : (b : Bool) → begins R m p n (T n) ≡ b
                → In q (cond b (room_for R (R.rssi p) (T n) ++ (new_pair R p n ∷ [])) (T n))
                ⊎ Displaces R past D p n (U n) q.0 q.1
            go true t =
                let b = begins-tells R m p n (T n) t in
                full b (ltb (length (T n)) most_pairs) refl b.room
            go false t = inl i

    -- What the rule displaces at a turn is not held after it.
    pub gone : (n : ℕ) → Agrees R (T n) (U n) → (h : ℕ) (e : R.Dev) → Displaces R past D p n (U n) h e
        → In (h, e) (keys R (T (suc n))) → ⊥
    gone n a h e d i =
        let f = room_fits R past D p l ps W B n a (inr (h, e, d.within, d.above)) in
        let w = wants-begins R past D p l ps W B n a d.would f in
        let b = tells-begins R d.would.mon p n (T n) w.1 in
        let c = is-full (both (ltb (length (T n)) most_pairs)) in
        let eq : T (suc n) ≡ drop_first R (least R (R.rssi p) (T n)) (T n) ++ (new_pair R p n ∷ []) = rw (w.0, b, c) in
        let r = map-in (key R) (drop_first R (least R (R.rssi p) (T n)) (T n) ++ (new_pair R p n ∷ [])) (h, e)
        (subst (λ qs. In (h, e) (keys R qs)) eq i) in
        go r.0 r.2 (in-append r.0 (drop_first R (least R (R.rssi p) (T n)) (T n)) (new_pair R p n ∷ []) r.1)
      where
        is-full : (ltb (length (T n)) most_pairs ≡ true) ⊎ (ltb (length (T n)) most_pairs ≡ false)
            → ltb (length (T n)) most_pairs ≡ false
        is-full (inl t) = absurd (d.full (room_of R (T n) (U n) a (ltb-true (length (T n)) most_pairs t)))
        is-full (inr t) = t

        old : (q : Pair R) → (h, e) ≡ key R q → In q (drop_first R (least R (R.rssi p) (T n)) (T n)) → ⊥
        old q z j =
            let here = drop-in R (least R (R.rssi p) (T n)) (T n) q j in
            let lv = turn_level R past D p l ps W B n q here in
            let mine : kept R (packet p ∷ past) h e ≡ q.3
            = subst (λ x. kept R (packet p ∷ past) x.0 x.1 ≡ q.3) (sym z) lv in
            let ab = d.above in
            let le = least-le R (R.rssi p) (T n) q here in
            let y = least-is R (R.rssi p) (T n) (omega (arith, mine, ab, le)) in
            let yk = turn_level R past D p l ps W B n y.0 y.1 in
            let sm = d.smallest y.0.0 y.0.1 ((a y.0.0 y.0.1).0 (in_map (key R) (T n) y.0 y.1)) in
            let ye = y.2 in
            let qe : q.3 ≡ least R (R.rssi p) (T n) = omega (arith, mine, le, yk, sm, ye) in
            let x = first_of R (least R (R.rssi p) (T n)) (T n) q here qe in
            meet q z j here qe (omega (arith, mine, ab)) mine x.0 x.1
          where
            meet : (q : Pair R) → (h, e) ≡ key R q → In q (drop_first R (least R (R.rssi p) (T n)) (T n)) → In q (T n)
                → q.3 ≡ least R (R.rssi p) (T n) → q.3 < R.rssi p → kept R (packet p ∷ past) h e ≡ q.3
                → (x : Pair R) → First R (least R (R.rssi p) (T n)) (T n) x → ⊥
            meet q z j here qe lt mine x f =
                let xi = first-in R (least R (R.rssi p) (T n)) (T n) x f in
                let xe = first-keeps R (least R (R.rssi p) (T n)) (T n) x f in
                let xl = turn_level R past D p l ps W B n x xi in
                let apart : key R q ≡ key R x → ⊥ = first-gone R (least R (R.rssi p) (T n)) (T n) x q
                (turns-once R l p n ps B.once) f j in
                two apart
                (d.earliest x.0 x.1 ((a x.0 x.1).0 (in_map (key R) (T n) x xi))
                (xl ∙ xe ∙ sym qe ∙ sym mine))
                (first-before R (Ranks R past D p l ps W B) (least R (R.rssi p) (T n)) (T n) x q
                (turn-sorted R past D p l ps W B n) f here qe)
                (turn-first R past D p l ps W B n x xi (omega (arith, xe, qe, lt)))
                (turn-first R past D p l ps W B n q here lt)
              where
                two : (key R q ≡ key R x → ⊥) → ((x.0 ≡ h) × (x.1 ≡ e)) ⊎ Sooner R D (h, e) (x.0, x.1)
                    → (q ≡ x) ⊎ Ranks R past D p l ps W B x q
                    → (k : ℕ) × Latest R D k x.0 x.1 → (k : ℕ) × Latest R D k q.0 q.1 → ⊥
                two apart (inl s) r u v = apart (sym z ∙ pair_path (sym s.0) (sym s.1))
                two apart (inr s) (inl r) u v = apart (ap (key R) r)
                two apart (inr s) (inr (inl r)) u v = omega (arith, r, lt)
                two apart (inr s) (inr (inr r)) u v =
                    not-both R D (key R x) (key R q) u.0 v.0 u.1 v.1 r
                    (subst (λ y. Sooner R D y (x.0, x.1)) z s)

        go : (q : Pair R) → (h, e) ≡ key R q
            → In q (drop_first R (least R (R.rssi p) (T n)) (T n)) ⊎ In q (new_pair R p n ∷ []) → ⊥
        go q z (inl j) = old q z j
        go q z (inr (inl j)) =
            let y : (h, e) ≡ key R (new_pair R p n) = z ∙ ap (key R) j in
            d.would.fresh (subst (λ x. U n x.0 x.1) y d.within)
        go q z (inr (inr j)) = j

    to-turn : (n : ℕ) → Agrees R (T n) (U n) → (h : ℕ) (e : R.Dev) → In (h, e) (keys R (T (suc n))) → U (suc n) h e
    to-turn n a h e i = at (find l n) refl i (λ d. gone n a h e d i)
      where
        at : (o : Option R.Mon) → find l n ≡ o → In (h, e) (keys R (started R o p n (T n)))
            → (Displaces R past D p n (U n) h e → ⊥) → U (suc n) h e
        at none q j s = inl ((a h e).0 j, s)
        at (some m) q j s = go (begins R m p n (T n)) refl j
          where
            new : begins R m p n (T n) ≡ true → (x : Pair R) → (h, e) ≡ key R x
                → In x (room_for R (R.rssi p) (T n)) ⊎ In x (new_pair R p n ∷ []) → U (suc n) h e
            new t x z (inl k) =
                inl ((a h e).0 (rw z (in_map (key R) (T n) x (room_in_lem R (R.rssi p) (T n) x k))), s)
            new t x z (inr (inl w)) =
                let y : (h, e) ≡ key R (new_pair R p n) = z ∙ ap (key R) w in
                inr (
                  ap (λ x. x.0) y,
                  ap (λ x. x.1) y,
                  begins-takes R past D p l ps W B n m a q
                      (begins-tells R m p n (T n) t),
                )
            new t x z (inr (inr w)) = absurd w

            go : (b : Bool) → begins R m p n (T n) ≡ b
                → In (h, e) (keys R (cond b (room_for R (R.rssi p) (T n) ++ (new_pair R p n ∷ [])) (T n)))
                → U (suc n) h e
            go true t k =
                let r = map-in (key R) (room_for R (R.rssi p) (T n) ++ (new_pair R p n ∷ [])) (h, e) k in
                new t r.0 r.2 (in-append r.0 (room_for R (R.rssi p) (T n)) (new_pair R p n ∷ []) r.1)
            go false t k = inl ((a h e).0 k, s)

    of-turn : (n : ℕ) → Agrees R (T n) (U n) → (h : ℕ) (e : R.Dev) → U (suc n) h e → In (h, e) (keys R (T (suc n)))
    of-turn n a h e (inl t) = let w =
        place R past D p l ps W B n a h e t.0 in go w.0 w.2 (stays n a w.0 w.1)
      where
        go : (q : Pair R) → (h, e) ≡ key R q → In q (T (suc n)) ⊎ Displaces R past D p n (U n) q.0 q.1
            → In (h, e) (keys R (T (suc n)))
        go q z (inl i) = rw z (in_map (key R) (T (suc n)) q i)
        go q z (inr d) =
            absurd (t.1 (subst (λ x. Displaces R past D p n (U n) x.0 x.1) (sym z) d))
    of-turn n a h e (inr t) =
        let w = takes-begins R past D p l ps W B n a t.2 in
        let i = begun-in R l p n (suc n) ps t.2.would.mon (omega arith) w.0 w.1 in
        rw (t.0, t.1) (in_map (key R) (T (suc n)) (new_pair R p n) i)

    -- The pairs after the turns below n are the rule's.
    pub turn_agree : (n : ℕ) → Agrees R (T n) (U n)
    turn_agree zero = B.agree
    turn_agree (suc n) =
        let a = turn_agree n in
        λ h e. (to-turn n a h e, of-turn n a h e)

    -- A pair held before the packet that it does not displace is held after the turns.
    pub old-in : (n : ℕ) (q : Pair R) → In q ps
        → ((k : ℕ) → Displaces R past D p k (U k) q.0 q.1 → ⊥) → In q (T n)
    old-in zero q i s = i
    old-in (suc n) q i s = go (stays n (turn_agree n) q (old-in n q i s))
      where
        go : In q (T (suc n)) ⊎ Displaces R past D p n (U n) q.0 q.1 → In q (T (suc n))
        go (inl j) = j
        go (inr d) = absurd (s n d)
