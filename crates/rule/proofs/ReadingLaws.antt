-- What the rule's definitions say, in other words: what a good packet is, when a run has passed, which handle is the
-- lowest, and what does not start. For a reader who compares the rule with document 01, and for the proofs.
-- Assumes nothing.
use Rattle.std.specs.Prelude.{ℕ, zero, suc, ◌≤◌, ◌<◌, ◌≡◌, refl, ◌⊎◌, ◌↔◌, true, false, not, ◌&&◌, List, [], ◌∷◌, length, take, drop, ltb, eqb}
use Rattle.std.proofs.Common.{arith, sym, ap, ◌∙◌, subst, inl, inr, ltb-true, lt-ltb, eqb-true, eq-eqb}
use Rattle.std.proofs.lemmas.Bool.{false≢true, eqb-false}
use Rattle.std.proofs.Math.Seq.{take-length}
use Rattle.rule.specs.Base.{All, Distinct}
use Rattle.rule.specs.BaseLaws.{both, and-true, not-true}
use Rattle.rule.specs.Radio.{Radio, Frame, add, cancel, packet, tick, other, most_monitors, most_pairs}
use Rattle.rule.specs.Rule.{Live, not_live, live_since, is_live, all_live, lowest, live_after, good_for, count, ticks, NoGood}
use Rattle.rule.specs.Rule.{NoRun}
use Rattle.rule.specs.Rule.{Pairs, JustBefore, StartAt, UnderWatch, LatestStart, InOrder, Deeds, DoneAt, IsStart, Displaces, kept, Room}
use Rattle.rule.specs.Rule.{DisplacedAt, Latest, Sooner, Above}

module _ (R : Radio) where
  -- A good packet for a monitor and a device is of the device, matches, and is above low.
  pub good-is : (m : R.Mon) (d : R.Dev) (p : R.Pkt) → good_for R m d (packet p) ≡ true
      ↔ ((R.dev p ≡ d) × (R.matches m p ≡ true) × (R.good m p ≡ true))
  good-is m d p = (there, back)
    where
      there : good_for R m d (packet p) ≡ true → (R.dev p ≡ d) × (R.matches m p ≡ true) × (R.good m p ≡ true)
      there e =
          let a = and-true (R.same (R.dev p) d) (R.matches m p && R.good m p) e in
          let b = and-true (R.matches m p) (R.good m p) a.1 in
          (R.same-eq (R.dev p) d a.0, b.0, b.1)

      back : (R.dev p ≡ d) × (R.matches m p ≡ true) × (R.good m p ≡ true) → good_for R m d (packet p) ≡ true
      back w =
          let s : R.same (R.dev p) d ≡ true = subst (λ x. R.same (R.dev p) x ≡ true) w.0
          (R.same_refl (R.dev p)) in
          rw (s, w.1, w.2)

  -- Frames without a good packet that have the run's ticks are a run.
  pub run-passed : (m : R.Mon) (d : R.Dev) (l : List (Frame R)) → NoGood R m d l → R.run m ≤ ticks R l
      → NoRun R m d l → ⊥
  run-passed m d l g t n =
      let w = n zero (length l) (rw (take-length l) g) in
      let v : ticks R l < R.run m = rw (take-length l) at w in
      omega arith

  count-up : (f : Frame R) (a b : ℕ) → a ≤ b → (count R f a ≤ count R f b) × (a ≤ count R f b)
  count-up (add m) a b h = (h, h)
  count-up (cancel g) a b h = (h, h)
  count-up (packet p) a b h = (h, h)
  count-up tick a b h = (omega arith, omega arith)
  count-up other a b h = (h, h)

  stretch-le : (l : List (Frame R)) (i j : ℕ) → ticks R (take j (drop i l)) ≤ ticks R l
  stretch-le l zero zero = omega arith
  stretch-le [] zero (suc j) = omega arith
  stretch-le (f ∷ l) zero (suc j) = (count-up f (ticks R (take j l)) (ticks R l) (stretch-le l zero j)).0
  stretch-le [] (suc i) zero = omega arith
  stretch-le [] (suc i) (suc j) = omega arith
  stretch-le (f ∷ l) (suc i) j = (count-up f (ticks R (take j (drop i l))) (ticks R l) (stretch-le l i j)).1

  -- Fewer ticks than the run's are no run, whatever the packets.
  pub run-open : (m : R.Mon) (d : R.Dev) (l : List (Frame R)) → ticks R l < R.run m → NoRun R m d l
  run-open m d l t i j g = let w = stretch-le l i j in omega arith

  pub all_live_lem : (L : ℕ → Live R) (n j : ℕ) → all_live R L n ≡ true → j < n → is_live R (L j) ≡ true
  all_live_lem L zero j e q = absurd (omega arith)
  all_live_lem L (suc n) j e q =
      let w = and-true (is_live R (L n)) (all_live R L n) e in
      go (both (eqb j n)) w.0 (λ r. all_live_lem L n j w.1 r)
    where
      go : (eqb j n ≡ true) ⊎ (eqb j n ≡ false) → is_live R (L n) ≡ true → (j < n → is_live R (L j) ≡ true)
          → is_live R (L j) ≡ true
      go (inl t) a ih = subst (λ k. is_live R (L k) ≡ true) (sym (eqb-true j n t)) a
      go (inr t) a ih = let x = eqb-false j n t in ih (omega (arith, x))

  pub live_all : (L : ℕ → Live R) (n : ℕ) → ((j : ℕ) → j < n → is_live R (L j) ≡ true) → all_live R L n ≡ true
  live_all L zero f = refl
  live_all L (suc n) f = rw (f n (omega arith)) (live_all L n (λ j q. f j (omega arith)))

  -- The lowest handle not live: a handle, not live, and every lower one is.
  pub record IsLowest (L : ℕ → Live R) (h : ℕ) : Type 0 where
    pub below : h < most_monitors
    pub free : is_live R (L h) ≡ false
    pub taken : (j : ℕ) → j < h → is_live R (L j) ≡ true

  pub lowest-is : (L : ℕ → Live R) (h : ℕ) → lowest R L h ≡ true ↔ IsLowest L h
  lowest-is L h = (there, back)
    where
      there : lowest R L h ≡ true → IsLowest L h
      there e =
          let w = and-true (ltb h most_monitors) (not (is_live R (L h)) && all_live R L h) e in
          let v = and-true (not (is_live R (L h))) (all_live R L h) w.1 in
          record {
            below = ltb-true h most_monitors w.0;
            free = not-true (is_live R (L h)) v.0;
            taken = λ j q. all_live_lem L h j v.1 q;
          }

      back : IsLowest L h → lowest R L h ≡ true
      back r = rw (lt-ltb h most_monitors r.below, r.free, live_all L h r.taken)

  -- A packet of the device that matches leaves its RSSI.
  pub kept-now : (past : List (Frame R)) (p : R.Pkt) (h : ℕ) (m : R.Mon) (a : ℕ) → live_after R past h ≡ live_since m a
      → R.matches m p ≡ true → kept R (packet p ∷ past) h (R.dev p) ≡ R.rssi p
  kept-now past p h m a l t = rw (l, R.same_refl (R.dev p), t)

  -- What keeps the packet's RSSI is not displaced by it: it stays under watch at every turn.
  pub turn_in : (past : List (Frame R)) (D : Deeds R) (p : R.Pkt) (W : Pairs R) (n h : ℕ) (e : R.Dev)
      → kept R (packet p ∷ past) h e ≡ R.rssi p → W h e → JustBefore R past D p W n h e
  turn_in past D p W zero h e k w = w
  turn_in past D p W (suc n) h e k w =
      inl (turn_in past D p W n h e k w, λ d. let x = d.above in absurd (omega (arith, x, k)))

  -- What is under watch before a packet and not displaced by it is so at every turn.
  pub turn-old : (past : List (Frame R)) (D : Deeds R) (p : R.Pkt) (W : Pairs R) (n h : ℕ) (e : R.Dev)
      → ((k : ℕ) → Displaces R past D p k (JustBefore R past D p W k) h e → ⊥) → W h e → JustBefore R past D p W n h e
  turn-old past D p W zero h e s w = w
  turn-old past D p W (suc n) h e s w = inl (turn-old past D p W n h e s w, s n)

  -- A monitor takes a packet as a start only where its pair was not under watch before the packet.
  pub watched-takes : (past : List (Frame R)) (D : Deeds R) (p : R.Pkt) (W : Pairs R) (h : ℕ) (e : R.Dev)
      → e ≡ R.dev p → W h e → IsStart R past p h (JustBefore R past D p W h) → ⊥
  watched-takes past D p W h e q w t =
      let k = kept-now past p h t.would.mon t.would.age t.would.live t.would.match in
      t.would.fresh (turn_in past D p W h h (R.dev p) k (subst (λ d. W h d) q w))

  -- What is under watch after some turns, and before the packet, was displaced by none of them.
  pub turn-stays : (past : List (Frame R)) (D : Deeds R) (p : R.Pkt) (W : Pairs R) (n h : ℕ) (e : R.Dev)
      → JustBefore R past D p W n h e → W h e
      → (k : ℕ) → k < n → Displaces R past D p k (JustBefore R past D p W k) h e → ⊥
  turn-stays past D p W zero h e t w k q d = absurd (omega arith)
  turn-stays past D p W (suc n) h e (inl t) w k q d =
      go (both (eqb k n)) (λ r. turn-stays past D p W n h e t.0 w k r d)
    where
      go : (eqb k n ≡ true) ⊎ (eqb k n ≡ false) → (k < n → ⊥) → ⊥
      go (inl u) ih =
          t.1 (subst (λ j. Displaces R past D p j (JustBefore R past D p W j) h e) (eqb-true k n u) d)
      go (inr u) ih = let x = eqb-false k n u in ih (omega (arith, x))
  turn-stays past D p W (suc n) h e (inr t) w k q d =
      watched-takes past D p W n e t.1 (subst (λ j. W j e) t.0 w) t.2

  -- What is under watch does not start.
  pub watched-idle : (f : Frame R) (past : List (Frame R)) (h : ℕ) (e : R.Dev) → UnderWatch R past h e
      → StartAt R (f ∷ past) zero h e → ⊥
  watched-idle (add m) past h e w s = s
  watched-idle (cancel g) past h e w s = s
  watched-idle (packet p) past h e w s =
      watched-takes past (λ b k x y. DoneAt R past b k x y) p (UnderWatch R past) h e s.0 w s.1
  watched-idle tick past h e w s = s
  watched-idle other past h e w s = s

  -- At a turn a pair was under watch before the packet, or keeps the packet's RSSI, having been started by it.
  pub turn-cases : (past : List (Frame R)) (D : Deeds R) (p : R.Pkt) (W : Pairs R) (n h : ℕ) (e : R.Dev)
      → JustBefore R past D p W n h e → W h e ⊎ (kept R (packet p ∷ past) h e ≡ R.rssi p)
  turn-cases past D p W zero h e t = inl t
  turn-cases past D p W (suc n) h e (inl t) = turn-cases past D p W n h e t.0
  turn-cases past D p W (suc n) h e (inr t) =
      let w = t.2.would in
      let k = kept-now past p n w.mon w.age w.live w.match in
      inr (rw (t.0, t.1) k)

  -- What a frame displaces was under watch before it.
  pub displaced-was : (f : Frame R) (past : List (Frame R)) (h : ℕ) (e : R.Dev) → DisplacedAt R (f ∷ past) zero h e
      → UnderWatch R past h e
  displaced-was (add m) past h e s = absurd s
  displaced-was (cancel g) past h e s = absurd s
  displaced-was (packet p) past h e s =
      go (turn-cases past (λ b k x y. DoneAt R past b k x y) p (UnderWatch R past) s.0 h e s.1.within)
    where
      go : UnderWatch R past h e ⊎ (kept R (packet p ∷ past) h e ≡ R.rssi p) → UnderWatch R past h e
      go (inl w) = w
      go (inr k) = let x = s.1.above in absurd (omega (arith, x, k))
  displaced-was tick past h e s = absurd s
  displaced-was other past h e s = absurd s

  -- "A displaced pair is not under watch until a new start": not after the frame that displaces it.
  pub displaced-idle : (f : Frame R) (past : List (Frame R)) (h : ℕ) (e : R.Dev) → DisplacedAt R (f ∷ past) zero h e
      → UnderWatch R (f ∷ past) h e → ⊥
  displaced-idle f past h e s w = go w.back w.start w.stays
    where
      go : (k : ℕ) → StartAt R (f ∷ past) k h e → ((j : ℕ) → j < k → DisplacedAt R (f ∷ past) j h e → ⊥) → ⊥
      go zero t y = watched-idle f past h e (displaced-was f past h e s) t
      go (suc k) t y = y zero (omega arith) s

  -- Where fewer than 64 pairs are under watch at a turn, it displaces none.
  pub room-idle : (past : List (Frame R)) (D : Deeds R) (p : R.Pkt) (n : ℕ) (U : Pairs R) (g : ℕ) (c : R.Dev)
      → Room R U → Displaces R past D p n U g c → ⊥
  room-idle past D p n U g c r d = d.full r

  -- What is displaced keeps no more than any pair under watch at the turn, and less than the packet's RSSI; of those
  -- that keep as much it started first.
  pub displaced-says : (past : List (Frame R)) (D : Deeds R) (p : R.Pkt) (n : ℕ) (U : Pairs R) (g h : ℕ)
      (c e : R.Dev) (j k : ℕ) → Displaces R past D p n U g c → U h e → Latest R D j g c → Latest R D k h e
      → (kept R (packet p ∷ past) g c < R.rssi p) × (kept R (packet p ∷ past) g c ≤ kept R (packet p ∷ past) h e)
      × (kept R (packet p ∷ past) h e ≡ kept R (packet p ∷ past) g c → ((h ≡ g) × (e ≡ c)) ⊎ (k ≤ j))
  displaced-says past D p n U g h c e j k d u s t =
      (d.above, d.smallest h e u, λ z. go (d.earliest h e u z))
    where
      at : (k < j) ⊎ ((j ≡ k) × (g < h)) → k ≤ j
      at (inl q) = omega arith
      at (inr q) = let z = q.0 in omega arith

      go : ((h ≡ g) × (e ≡ c)) ⊎ Sooner R D (g, c) (h, e) → ((h ≡ g) × (e ≡ c)) ⊎ (k ≤ j)
      go (inl q) = inl q
      go (inr q) = inr (at (q j k s t))

  -- Where 64 pairs are under watch at a turn, and the packet's RSSI is above none that they keep, nothing starts.
  pub full-idle : (past : List (Frame R)) (p : R.Pkt) (n : ℕ) (U : Pairs R) (l : List (ℕ × R.Dev)) → Distinct l
      → All (λ x. U x.0 x.1) l → most_pairs ≤ length l → ((g : ℕ) (c : R.Dev) → U g c → Above R past p g c → ⊥)
      → IsStart R past p n U → ⊥
  full-idle past p n U l d a c s t = go t.room
    where
      go : Room R U ⊎ ((g : ℕ) × (c : R.Dev) × U g c × Above R past p g c) → ⊥
      go (inl r) = let w = r l d a in omega arith
      go (inr w) = s w.0 w.1 w.2 w.3

  -- A start's RSSI is at least high, and the packet matches the live monitor's condition.
  pub start-strong : (p : R.Pkt) (past : List (Frame R)) (h : ℕ) (e : R.Dev) → StartAt R (packet p ∷ past) zero h e
      → (m : R.Mon) × (a : ℕ) × (live_after R past h ≡ live_since m a) × (R.matches m p ≡ true)
      × (R.strong m p ≡ true)
  start-strong p past h e s = let t = s.1.would in (t.mon, t.age, t.live, t.match, t.strong)

  -- After a cancel of its handle a pair is not under watch.
  pub cancelled-idle : (past : List (Frame R)) (h : ℕ) (e : R.Dev) → UnderWatch R (cancel h ∷ past) h e → ⊥
  cancelled-idle past h e w = false≢true (ap (is_live R) (sym gone ∙ w.live))
    where
      gone : live_after R (cancel h ∷ past) h ≡ not_live
      gone = rw (eq-eqb h h refl)

  -- In order: the first pair's latest start is not the later one; at one frame the handles rise.
  pub order-says : (past : List (Frame R)) (x y : ℕ × R.Dev) (j k : ℕ) → InOrder R past x y
      → LatestStart R past j x.0 x.1 → LatestStart R past k y.0 y.1 → (k ≤ j) × (j ≡ k → x.0 < y.0)
  order-says past x y j k o s t = go (o j k s t)
    where
      go : (k < j) ⊎ ((j ≡ k) × (x.0 < y.0)) → (k ≤ j) × (j ≡ k → x.0 < y.0)
      go (inl q) = (omega arith, λ e. omega arith)
      go (inr q) = let z = q.0 in (omega arith, λ e. q.1)
