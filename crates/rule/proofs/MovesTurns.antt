-- Laws of one step's parts: the test `held` is membership of keys, a moved pair keeps its key and its count below its
-- monitor's run, and what the turns of one packet add. Assumes nothing.
use Rattle.std.specs.Prelude.{ℕ, zero, suc, ◌≤◌, ◌<◌, ◌≡◌, refl, ◌⊎◌, Bool, true, false, not, ◌&&◌, ◌||◌, cond, List, [], ◌∷◌, ◌++◌, length, ltb, eqb}
use Rattle.std.proofs.Common.{arith, sym, ap, ◌∙◌, subst, inl, inr, length-append, ltb-true, eqb-true, eq-eqb}
use Rattle.std.proofs.lemmas.Bool.{false≢true, eqb-false}
use Rattle.std.proofs.Math.Option.{Option, none, some}
use Rattle.rule.specs.Base.{In, Distinct}
use Rattle.rule.specs.BaseLaws.{both, and-true, not-true, none≢some, some_inj, pair_path}
use Rattle.rule.specs.BaseLaws.{in_left, in_right, in-append, distinct_snoc, map-append, in_map, map-in}
use Rattle.rule.specs.Radio.{Radio, Frame, add, cancel, packet, tick, other, most_monitors, most_pairs}
use Rattle.rule.specs.Engine.{find, slot, insert_at, Mons, Pair, key, keys, mons_after, refreshes, at_packet}
use Rattle.rule.specs.Engine.{at_tick, move, held, begins, started, turns, fits, room_for, new_pair}
use Rattle.rule.proofs.DropsLaws.{room_in_lem, room-once, room-length, room-keeps}
use Rattle.rule.proofs.FindsLaws.{find-insert-other, find-remove-other, slot-some}

module _ (R : Radio) where
  pub held_in_lem : (ps : List (Pair R)) (h : ℕ) (e : R.Dev) → held R ps h e ≡ true → In (h, e) (keys R ps)
  held_in_lem [] h e t = absurd (false≢true t)
  held_in_lem (q ∷ ps) h e t = go (eqb q.0 h && R.same q.1 e) refl t (λ u. held_in_lem ps h e u)
    where
      go : (b : Bool) → (eqb q.0 h && R.same q.1 e) ≡ b → (b || held R ps h e) ≡ true
          → (held R ps h e ≡ true → In (h, e) (keys R ps)) → In (h, e) (keys R (q ∷ ps))
      go true w u ih =
          let z = and-true (eqb q.0 h) (R.same q.1 e) w in
          inl (pair_path (sym (eqb-true q.0 h z.0)) (sym (R.same-eq q.1 e z.1)))
      go false w u ih = inr (ih u)

  pub in_held : (ps : List (Pair R)) (h : ℕ) (e : R.Dev) → In (h, e) (keys R ps) → held R ps h e ≡ true
  in_held [] h e x' = elim x' [ ]
  in_held (q ∷ ps) h e (inl w) =
      let a : eqb q.0 h ≡ true = eq-eqb q.0 h (ap (λ x. x.0) (sym w)) in
      let b : R.same q.1 e ≡ true = subst (λ d. R.same q.1 d ≡ true) (ap (λ x. x.1) (sym w))
      (R.same_refl q.1) in
      rw (a, b)
  in_held (q ∷ ps) h e (inr i) = go (eqb q.0 h && R.same q.1 e) (in_held ps h e i)
    where
      go : (b : Bool) → held R ps h e ≡ true → (b || held R ps h e) ≡ true
      go true u = refl
      go false u = u

  pub move-key : (l : Mons R) (f : Frame R) (q r : Pair R) → move R l f q ≡ some r → key R r ≡ key R q
  move-key l (add m) q r e = ap (key R) (sym (some_inj e))
  move-key l (cancel h) q r e = go (eqb h q.0) e
    where
      go : (b : Bool) → cond b none (some q) ≡ some r → key R r ≡ key R q
      go true u = absurd (none≢some u)
      go false u = ap (key R) (sym (some_inj u))
  move-key l (packet p) q r e = ap (key R) (sym (some_inj e)) ∙ at (find l q.0)
    where
      at : (o : Option R.Mon) → key R (at_packet R o p q) ≡ key R q
      at none = refl
      at (some m) = refl
  move-key l tick q r e = at (find l q.0) e
    where
      at : (o : Option R.Mon) → at_tick R o q ≡ some r → key R r ≡ key R q
      at none u = absurd (none≢some u)
      at (some m) u = go (ltb (suc q.2) (R.run m)) u
        where
          go : (b : Bool) → cond b (some (q.0, q.1, suc q.2, q.3)) none ≡ some r → key R r ≡ key R q
          go true w = ap (key R) (sym (some_inj w))
          go false w = absurd (none≢some w)
  move-key l other q r e = ap (key R) (sym (some_inj e))

  -- A stored monitor stays stored when another is added.
  pub find-add : (l : Mons R) (n m : R.Mon) (h : ℕ) → find l h ≡ some m → find (mons_after R (add n) l) h ≡ some m
  find-add l n m h e = go (R.okay n)
    where
      at : (o : Option ℕ) → slot l most_monitors zero ≡ o → find (insert_at o n l) h ≡ some m
      at none w = e
      at (some g) w =
          let free = (slot-some l most_monitors zero g w).free in
          find-insert-other g h n l (λ u. none≢some (sym free ∙ subst (λ k. find l k ≡ some m) (sym u) e)) ∙ e

      go : (b : Bool) → find (cond b (insert_at (slot l most_monitors zero) n l) l) h ≡ some m
      go true = at (slot l most_monitors zero) refl
      go false = e

  -- A moved pair's monitor stays, and its count stays below the monitor's run.
  pub move-timed : (l : Mons R) (f : Frame R) (q r : Pair R) (m : R.Mon) → find l q.0 ≡ some m → q.2 < R.run m
      → move R l f q ≡ some r → (find (mons_after R f l) q.0 ≡ some m) × (r.2 < R.run m)
  move-timed l (add n) q r m e t u = (find-add l n m q.0 e, subst (λ x. x.2 < R.run m) (some_inj u) t)
  move-timed l (cancel h) q r m e t u = go (eqb h q.0) refl u
    where
      go : (b : Bool) → eqb h q.0 ≡ b → cond b none (some q) ≡ some r
          → (find (mons_after R (cancel h) l) q.0 ≡ some m) × (r.2 < R.run m)
      go true w v = absurd (none≢some v)
      go false w v =
          (find-remove-other h q.0 l (eqb-false h q.0 w) ∙ e, subst (λ x. x.2 < R.run m) (some_inj v) t)
  move-timed l (packet p) q r m e t u = (e, subst (λ x. x.2 < R.run m) (some_inj u) (at (find l q.0)))
    where
      at : (o : Option R.Mon) → (at_packet R o p q).2 < R.run m
      at none = t
      at (some n) = go (refreshes R n q.1 p)
        where
          go : (b : Bool) → cond b zero q.2 < R.run m
          go true = omega (arith, t)
          go false = t
  move-timed l tick q r m e t u = (e, go (ltb (suc q.2) (R.run m)) refl (subst (λ o. at_tick R o q ≡ some r) e u))
    where
      go : (b : Bool) → ltb (suc q.2) (R.run m) ≡ b → cond b (some (q.0, q.1, suc q.2, q.3)) none ≡ some r
          → r.2 < R.run m
      go true w v = subst (λ x. x.2 < R.run m) (some_inj v) (ltb-true (suc q.2) (R.run m) w)
      go false w v = absurd (none≢some v)
  move-timed l other q r m e t u = (e, subst (λ x. x.2 < R.run m) (some_inj u) t)

  -- What a start tells.
  pub record Begins (m : R.Mon) (p : R.Pkt) (h : ℕ) (ps : List (Pair R)) : Type 0 where
    pub match : R.matches m p ≡ true
    pub strong : R.strong m p ≡ true
    pub new : held R ps h (R.dev p) ≡ false
    pub room : fits R (R.rssi p) ps ≡ true

  pub begins-tells : (m : R.Mon) (p : R.Pkt) (h : ℕ) (ps : List (Pair R)) → begins R m p h ps ≡ true
      → Begins m p h ps
  begins-tells m p h ps e =
      let a = and-true (R.matches m p) (R.strong m p && (not (held R ps h (R.dev p)) && fits R (R.rssi p) ps)) e in
      let b = and-true (R.strong m p) (not (held R ps h (R.dev p)) && fits R (R.rssi p) ps) a.1 in
      let c = and-true (not (held R ps h (R.dev p))) (fits R (R.rssi p) ps) b.1 in
      record {
        match = a.0;
        strong = b.0;
        new = not-true (held R ps h (R.dev p)) c.0;
        room = c.1;
      }

  pub tells-begins : (m : R.Mon) (p : R.Pkt) (h : ℕ) (ps : List (Pair R)) → Begins m p h ps
      → begins R m p h ps ≡ true
  tells-begins m p h ps b = rw (b.match, b.strong, b.new, b.room)

  started-length : (o : Option R.Mon) (p : R.Pkt) (h : ℕ) (ps : List (Pair R)) → length ps ≤ most_pairs
      → length (started R o p h ps) ≤ most_pairs
  started-length none p h ps t = t
  started-length (some m) p h ps t = go (begins R m p h ps) refl
    where
      go : (b : Bool) → begins R m p h ps ≡ b
          → length (cond b (room_for R (R.rssi p) ps ++ (new_pair R p h ∷ [])) ps) ≤ most_pairs
      go true e =
          let r = room-length R (R.rssi p) ps t (begins-tells m p h ps e).room in
          rw (length-append (room_for R (R.rssi p) ps) (new_pair R p h ∷ [])) (omega (arith, r))
      go false e = t

  pub turns-length : (l : Mons R) (p : R.Pkt) (n : ℕ) (ps : List (Pair R)) → length ps ≤ most_pairs
      → length (turns R l p n ps) ≤ most_pairs
  turns-length l p zero ps t = t
  turns-length l p (suc n) ps t = started-length (find l n) p n (turns R l p n ps) (turns-length l p n ps t)

  started-once : (o : Option R.Mon) (p : R.Pkt) (h : ℕ) (ps : List (Pair R)) → Distinct (keys R ps)
      → Distinct (keys R (started R o p h ps))
  started-once none p h ps d = d
  started-once (some m) p h ps d = go (begins R m p h ps) refl
    where
      old : In (h, R.dev p) (keys R (room_for R (R.rssi p) ps)) → In (h, R.dev p) (keys R ps)
      old i =
          let r = map-in (key R) (room_for R (R.rssi p) ps) (h, R.dev p) i in
          rw r.2 (in_map (key R) ps r.0 (room_in_lem R (R.rssi p) ps r.0 r.1))

      go : (b : Bool) → begins R m p h ps ≡ b
          → Distinct (keys R (cond b (room_for R (R.rssi p) ps ++ (new_pair R p h ∷ [])) ps))
      go true e =
          let w = (begins-tells m p h ps e).new in
          let qs : List (Pair R) = room_for R (R.rssi p) ps in
          rw (map-append (key R) qs (new_pair R p h ∷ []))
          (distinct_snoc (keys R qs) (h, R.dev p) (room-once R (R.rssi p) ps d)
          (λ i. false≢true (sym w ∙ in_held ps h (R.dev p) (old i))))
      go false e = d

  pub turns-once : (l : Mons R) (p : R.Pkt) (n : ℕ) (ps : List (Pair R)) → Distinct (keys R ps)
      → Distinct (keys R (turns R l p n ps))
  turns-once l p zero ps d = d
  turns-once l p (suc n) ps d = started-once (find l n) p n (turns R l p n ps) (turns-once l p n ps d)

  -- A pair that stands after the turns below n: it was there, or one of these handles' monitors started it.
  pub record Begun (l : Mons R) (p : R.Pkt) (n : ℕ) (ps : List (Pair R)) (q : Pair R) : Type 0 where
    pub handle : ℕ
    pub mon : R.Mon
    pub below : handle < n
    pub stored : find l handle ≡ some mon
    pub begin : Begins mon p handle (turns R l p handle ps)
    pub is : q ≡ new_pair R p handle

  pub turns-in : (l : Mons R) (p : R.Pkt) (n : ℕ) (ps : List (Pair R)) (q : Pair R) → In q (turns R l p n ps)
      → In q ps ⊎ Begun l p n ps q
  turns-in l p zero ps q i = inl i
  turns-in l p (suc n) ps q i = at (find l n) refl i (λ j. turns-in l p n ps q j)
    where
      up : In q ps ⊎ Begun l p n ps q → In q ps ⊎ Begun l p (suc n) ps q
      up (inl j) = inl j
      up (inr b) = inr (record {
        handle = b.handle;
        mon = b.mon;
        below = omega (arith, b.below);
        stored = b.stored;
        begin = b.begin;
        is = b.is;
      })

      at : (o : Option R.Mon) → find l n ≡ o → In q (started R o p n (turns R l p n ps))
          → (In q (turns R l p n ps) → In q ps ⊎ Begun l p n ps q) → In q ps ⊎ Begun l p (suc n) ps q
      at none e j ih = up (ih j)
      at (some m) e j ih = go (begins R m p n (turns R l p n ps)) refl j
        where
          new : begins R m p n (turns R l p n ps) ≡ true → q ≡ new_pair R p n → In q ps ⊎ Begun l p (suc n) ps q
          new t w = inr (record {
            handle = n;
            mon = m;
            below = omega arith;
            stored = e;
            begin = begins-tells m p n (turns R l p n ps) t;
            is = w;
          })

          last : begins R m p n (turns R l p n ps) ≡ true → In q (room_for R (R.rssi p) (turns R l p n ps))
              ⊎ In q (new_pair R p n ∷ [])
              → In q ps ⊎ Begun l p (suc n) ps q
          last t (inl k) = up (ih (room_in_lem R (R.rssi p) (turns R l p n ps) q k))
          last t (inr (inl w)) = new t w
          last t (inr (inr w)) = absurd w

          go : (b : Bool) → begins R m p n (turns R l p n ps) ≡ b
              → In q (cond b (room_for R (R.rssi p) (turns R l p n ps) ++ (new_pair R p n ∷ [])) (turns R l p n ps))
              → In q ps ⊎ Begun l p (suc n) ps q
          go true t k = last t (in-append q (room_for R (R.rssi p) (turns R l p n ps)) (new_pair R p n ∷ []) k)
          go false t k = up (ih k)

  -- What keeps the packet's RSSI is not displaced by it.
  pub in-started : (o : Option R.Mon) (p : R.Pkt) (h : ℕ) (ps : List (Pair R)) (q : Pair R) → In q ps
      → q.3 ≡ R.rssi p → In q (started R o p h ps)
  in-started none p h ps q i e = i
  in-started (some m) p h ps q i e = go (begins R m p h ps) refl
    where
      go : (b : Bool) → begins R m p h ps ≡ b
          → In q (cond b (room_for R (R.rssi p) ps ++ (new_pair R p h ∷ [])) ps)
      go true t =
          in_left q (room_for R (R.rssi p) ps) (new_pair R p h ∷ [])
          (room-keeps R (R.rssi p) ps q i (begins-tells m p h ps t).room e)
      go false t = i

  -- The pair of a start stands there from its turn on.
  pub begun-in : (l : Mons R) (p : R.Pkt) (h n : ℕ) (ps : List (Pair R)) (m : R.Mon) → h < n → find l h ≡ some m
      → Begins m p h (turns R l p h ps) → In (new_pair R p h) (turns R l p n ps)
  begun-in l p h zero ps m t e b = absurd (omega arith)
  begun-in l p h (suc n) ps m t e b = go (both (eqb h n)) (λ u. begun-in l p h n ps m u e b)
    where
      here : h ≡ n → In (new_pair R p h) (turns R l p (suc n) ps)
      here w = subst (λ k. In (new_pair R p h) (turns R l p (suc k) ps)) w
          (rw (e, tells-begins m p h (turns R l p h ps) b) (in_right (new_pair R p h)
          (room_for R (R.rssi p) (turns R l p h ps)) (new_pair R p h ∷ []) (inl refl)))

      go : (eqb h n ≡ true) ⊎ (eqb h n ≡ false) → (h < n → In (new_pair R p h) (turns R l p n ps))
          → In (new_pair R p h) (turns R l p (suc n) ps)
      go (inl w) ih = here (eqb-true h n w)
      go (inr w) ih = let x = eqb-false h n w in
          in-started (find l n) p n (turns R l p n ps) (new_pair R p h) (ih (omega (arith, x))) refl
