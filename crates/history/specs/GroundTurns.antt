-- Before one turn of a packet: what the pairs keep, their order, and that a start of the engine is one of the rule.
-- Room by the pigeonhole. Assumes nothing.
use Rattle.std.specs.Prelude.{ℕ, zero, suc, ◌<◌, ◌≡◌, refl, ◌⊎◌, ◌↔◌, Bool, true, false, ◌||◌, cond, List, [], ◌∷◌, ◌++◌, length, ltb}
use Rattle.std.proofs.Common.{arith, sym, ap, ◌∙◌, subst, inl, inr, ltb-true, lt-ltb}
use Rattle.std.proofs.lemmas.Bool.{false≢true}
use Rattle.std.proofs.Math.Option.{Option, none, some}
use Rattle.std.proofs.lemmas.List.{length-map}
use Rattle.rule.specs.Base.{In, All, Distinct, Ordered}
use Rattle.rule.specs.BaseLaws.{both, all_in, in_all, pigeon}
use Rattle.rule.specs.BaseLaws.{in_map, map-in, ordered-snoc}
use Rattle.rule.specs.Radio.{Radio, Frame, packet, most_pairs}
use Rattle.rule.specs.Rule.{live_after, Pairs, Room, WouldStart, IsStart, JustBefore, Above, Deeds, Latest, Sooner, kept}
use Rattle.rule.proofs.ReadingLaws.{kept-now}
use Rattle.rule.specs.Engine.{find, Mons, Pair, key, keys, held, begins, started, turns, least, fits, room_for}
use Rattle.rule.specs.Engine.{new_pair}
use Rattle.rule.proofs.DropsLaws.{least-le, least-is}
use Rattle.rule.proofs.DropsLaws.{room-ordered}
use Rattle.rule.proofs.MovesTurns.{held_in_lem, in_held, Begins, turns-once, turns-in, Begun}
use Rattle.history.specs.LiveLaws.{known, known-alive}

module _ (R : Radio) where
  -- The keys of the pairs are the pairs of the set.
  abbrev pub Agrees : List (Pair R) → Pairs R → Type 0
  Agrees ps U = (h : ℕ) (e : R.Dev) → In (h, e) (keys R ps) ↔ U h e

  pub room_of : (ps : List (Pair R)) (U : Pairs R) → Agrees ps U → length ps < most_pairs → Room R U
  room_of ps U a t l d all =
      let inside : All (λ x. In x (keys R ps)) l
      = in_all (λ x. In x (keys R ps)) l (λ x i. (a x.0 x.1).1 (all_in (λ x. U x.0 x.1) l all x i)) in
      let w = pigeon l (keys R ps) d inside in
      let n = length-map ps (key R) in
      omega arith

  pub of_room : (ps : List (Pair R)) (U : Pairs R) → Agrees ps U → Distinct (keys R ps) → Room R U
      → length ps < most_pairs
  of_room ps U a d r =
      let w = r (keys R ps) d (in_all (λ x. U x.0 x.1) (keys R ps) (λ x i. (a x.0 x.1).0 i)) in
      let n = length-map ps (key R) in
      omega (arith, w, n)

  -- One packet p after a past, the stored monitors l, the pairs ps held before the starts, and the rule's W: what each
  -- keeps, their order by latest starts, and that each has one.
  pub record Ground (past : List (Frame R)) (D : Deeds R) (p : R.Pkt) (l : Mons R) (ps : List (Pair R)) (W : Pairs R)
      : Type 0 where
    pub same : (h : ℕ) → find l h ≡ known R (live_after R past h)
    pub once : Distinct (keys R ps)
    pub levels : (q : Pair R) → In q ps → kept R (packet p ∷ past) q.0 q.1 ≡ q.3
    pub sorted : Ordered (λ x y. Sooner R D (key R x) (key R y)) ps
    pub firsts : (q : Pair R) → In q ps → (k : ℕ) × Latest R D k q.0 q.1
    pub agree : Agrees ps W

  module _ (past : List (Frame R)) (D : Deeds R) (p : R.Pkt) (l : Mons R) (ps : List (Pair R)) (W : Pairs R)
      (B : Ground past D p l ps W) where
    -- The pairs after the turns below n, and the rule's.
    abbrev pub T : ℕ → List (Pair R)
    T n = turns R l p n ps

    abbrev pub U : ℕ → Pairs R
    U n = JustBefore R past D p W n

    -- What a pair keeps after some turns is the rule's.
    level-cases : (n : ℕ) (q : Pair R) → In q ps ⊎ Begun R l p n ps q
        → kept R (packet p ∷ past) q.0 q.1 ≡ q.3
    level-cases n q (inl i) = B.levels q i
    level-cases n q (inr b) =
        let v = known-alive R (live_after R past b.handle) b.mon (sym (B.same b.handle) ∙ b.stored) in
        let k = kept-now R past p b.handle b.mon v.0 v.1 b.begin.match in
        subst (λ x. kept R (packet p ∷ past) x.0 x.1 ≡ x.3) (sym b.is) k

    pub turn_level : (n : ℕ) (q : Pair R) → In q (T n) → kept R (packet p ∷ past) q.0 q.1 ≡ q.3
    turn_level n q i = level-cases n q (turns-in R l p n ps q i)

    -- A pair that keeps less than the packet's RSSI was there before, and has a latest start.
    first-cases : (n : ℕ) (q : Pair R) → In q ps ⊎ Begun R l p n ps q → q.3 < R.rssi p
        → (k : ℕ) × Latest R D k q.0 q.1
    first-cases n q (inl i) t = B.firsts q i
    first-cases n q (inr b) t = let e : q.3 ≡ R.rssi p = ap (λ x. x.3) b.is in absurd (omega arith)

    pub turn-first : (n : ℕ) (q : Pair R) → In q (T n) → q.3 < R.rssi p → (k : ℕ) × Latest R D k q.0 q.1
    turn-first n q i t = first-cases n q (turns-in R l p n ps q i) t

    -- A pair's latest start is sooner, or the second pair keeps the packet's RSSI.
    abbrev pub Ranks : Pair R → Pair R → Type 0
    Ranks x y = (y.3 ≡ R.rssi p) ⊎ Sooner R D (key R x) (key R y)

    rank-all : (x : Pair R) (qs : List (Pair R)) → All (λ y. Sooner R D (key R x) (key R y)) qs → All (Ranks x) qs
    rank-all x [] a = tt
    rank-all x (y ∷ qs) a = (inr a.0, rank-all x qs a.1)

    rank : (qs : List (Pair R)) → Ordered (λ x y. Sooner R D (key R x) (key R y)) qs → Ordered Ranks qs
    rank [] o = tt
    rank (x ∷ qs) o = (rank-all x qs o.0, rank qs o.1)

    pub turn-sorted : (n : ℕ) → Ordered Ranks (T n)
    turn-sorted zero = rank ps B.sorted
    turn-sorted (suc n) = at (find l n) (turn-sorted n)
      where
        at : (o : Option R.Mon) → Ordered Ranks (T n) → Ordered Ranks (started R o p n (T n))
        at none ih = ih
        at (some m) ih = go (begins R m p n (T n))
          where
            go : (b : Bool) → Ordered Ranks (cond b (room_for R (R.rssi p) (T n) ++ (new_pair R p n ∷ [])) (T n))
            go true =
                ordered-snoc Ranks (room_for R (R.rssi p) (T n)) (new_pair R p n)
                (room-ordered R Ranks (R.rssi p) (T n) ih)
                (in_all (λ y. Ranks y (new_pair R p n)) (room_for R (R.rssi p) (T n)) (λ y i. inl refl))
            go false = ih

    -- The pair of the set, as it is held.
    pub place : (n : ℕ) → Agrees (T n) (U n) → (h : ℕ) (e : R.Dev) → U n h e
        → (q : Pair R) × In q (T n) × ((h, e) ≡ key R q)
    place n a h e u = map-in (key R) (T n) (h, e) ((a h e).1 u)

    -- Room or a weaker pair, by the engine and by the rule.
    pub fits-room : (n : ℕ) → Agrees (T n) (U n) → fits R (R.rssi p) (T n) ≡ true
        → Room R (U n) ⊎ ((g : ℕ) × (c : R.Dev) × U n g c × Above R past p g c)
    fits-room n a f = go (ltb (length (T n)) most_pairs) refl f
      where
        go : (b : Bool) → ltb (length (T n)) most_pairs ≡ b → (b || ltb (least R (R.rssi p) (T n)) (R.rssi p)) ≡ true
            → Room R (U n) ⊎ ((g : ℕ) × (c : R.Dev) × U n g c × Above R past p g c)
        go true e t = inl (room_of (T n) (U n) a (ltb-true (length (T n)) most_pairs e))
        go false e t =
            let low = ltb-true (least R (R.rssi p) (T n)) (R.rssi p) t in
            let y = least-is R (R.rssi p) (T n) low in
            let k = turn_level n y.0 y.1 in
            let w = y.2 in
            inr (
              y.0.0,
              y.0.1,
              (a y.0.0 y.0.1).0 (in_map (key R) (T n) y.0 y.1),
              omega
                  (arith, k, w, low),
            )

    pub room_fits : (n : ℕ) → Agrees (T n) (U n)
        → Room R (U n) ⊎ ((g : ℕ) × (c : R.Dev) × U n g c × Above R past p g c) → fits R (R.rssi p) (T n) ≡ true
    room_fits n a (inl r) = rw (lt-ltb (length (T n)) most_pairs
        (of_room (T n) (U n) a (turns-once R l p n ps B.once) r))
    room_fits n a (inr w) =
        let q = place n a w.0 w.1 w.2 in
        let k : kept R (packet p ∷ past) w.0 w.1 ≡ q.0.3
        = subst (λ x. kept R (packet p ∷ past) x.0 x.1 ≡ q.0.3) (sym q.2) (turn_level n q.0 q.1) in
        let le = least-le R (R.rssi p) (T n) q.0 q.1 in
        let lt = w.3 in
        let low : ltb (least R (R.rssi p) (T n)) (R.rssi p) ≡ true
        = lt-ltb (least R (R.rssi p) (T n)) (R.rssi p) (omega (arith, k, le, lt)) in
        rw low (go (ltb (length (T n)) most_pairs))
      where
        go : (b : Bool) → (b || true) ≡ true
        go true = refl
        go false = refl

    pub wants-of : (n : ℕ) (m : R.Mon) → Agrees (T n) (U n) → find l n ≡ some m → Begins R m p n (T n)
        → WouldStart R past p n (U n)
    wants-of n m a e b =
        let v = known-alive R (live_after R past n) m (sym (B.same n) ∙ e) in
        record {
          mon = m;
          age = v.0;
          live = v.1;
          match = b.match;
          strong = b.strong;
          fresh = λ u. false≢true (sym b.new ∙ in_held R (T n) n (R.dev p) ((a n (R.dev p)).1 u));
        }

    -- A start of the engine is one of the rule.
    pub begins-takes : (n : ℕ) (m : R.Mon) → Agrees (T n) (U n) → find l n ≡ some m → Begins R m p n (T n)
        → IsStart R past p n (U n)
    begins-takes n m a e b = record { would = wants-of n m a e b; room = fits-room n a b.room }

    -- A start of the rule is one of the engine.
    pub wants-begins : (n : ℕ) → Agrees (T n) (U n) → (t : WouldStart R past p n (U n))
        → fits R (R.rssi p) (T n) ≡ true
        → (find l n ≡ some t.mon) × Begins R t.mon p n (T n)
    wants-begins n a t f = (
      B.same n ∙ ap (known R) t.live,
      record {
        match = t.match;
        strong = t.strong;
        new = go (both (held R (T n) n (R.dev p)));
        room = f;
      },
    )
      where
        go : (held R (T n) n (R.dev p) ≡ true) ⊎ (held R (T n) n (R.dev p) ≡ false)
            → held R (T n) n (R.dev p) ≡ false
        go (inl q) = absurd (t.fresh ((a n (R.dev p)).0 (held_in_lem R (T n) n (R.dev p) q)))
        go (inr q) = q

    pub takes-begins : (n : ℕ) → Agrees (T n) (U n) → (t : IsStart R past p n (U n))
        → (find l n ≡ some t.would.mon) × Begins R t.would.mon p n (T n)
    takes-begins n a t = wants-begins n a t.would (room_fits n a t.room)
