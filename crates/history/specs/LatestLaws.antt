-- Latest starts: what is under watch does not start, so the start of a watch is the latest one; and the order of two
-- pairs by latest starts, one frame later. Nothing of the engine's lists is used. Assumes nothing.
use Rattle.std.specs.Prelude.{ℕ, zero, suc, ◌<◌, ◌≡◌, refl, ◌⊎◌, List, [], ◌∷◌, take, true, cond}
use Rattle.std.proofs.Common.{arith, sym, ap, ◌∙◌, subst, inl, inr}
use Rattle.rule.specs.Radio.{Radio, Frame, add, cancel, packet, tick, other}
use Rattle.rule.specs.Rule.{Live, live_since, last_rssi, match_for, rssi_of, live_after, NoRun, StartAt, DisplacedAt, UnderWatch, LatestStart, InOrder}
use Rattle.rule.specs.Rule.{Pairs, Deeds, DoneAt, Latest, Sooner, Displaces, kept}
use Rattle.rule.proofs.ReadingLaws.{watched-idle}
use Rattle.rule.specs.Engine.{Pair, key}
use Rattle.history.specs.RunsLaws.{norun-tail}
use Rattle.history.specs.OldLaws.{Watch, life-inv}

module _ (R : Radio) where
  -- No start after the one since which no run has passed.
  no_start : (past : List (Frame R)) (h : ℕ) (e : R.Dev) (m : R.Mon) (a back j : ℕ)
      → live_after R past h ≡ live_since m a
      → back < a
      → StartAt R past back h e → NoRun R m e (take back past) → ((i : ℕ) → i < back → DisplacedAt R past i h e → ⊥)
      → j < back → StartAt R past j h e → ⊥
  no_start [] h e m a back j l s t u y q v = t
  no_start (f ∷ past) h e m a zero j l s t u y q v = omega arith
  no_start (f ∷ past) h e m a (suc k) zero l s t u y q v =
      let r = life-inv R f (λ g. live_after R past g) h m a l (omega arith) in
      let w : UnderWatch R past h e = record {
        mon = m;
        age = r.0;
        back = k;
        live = r.2;
        since = omega (arith, r.1, s);
        start = t;
        unbroken = norun-tail R m e f (take k past) u;
        stays = λ i z. y (suc i) (omega arith);
      } in
      watched-idle R f past h e w v
  no_start (f ∷ past) h e m a (suc k) (suc j) l s t u y q v =
      let r = life-inv R f (λ g. live_after R past g) h m a l (omega arith) in
      no_start past h e m r.0 k j r.2 (omega (arith, r.1, s)) t (norun-tail R m e f (take k past) u)
      (λ i z. y (suc i) (omega arith)) (omega arith) v

  -- The start of a watch is the latest.
  pub watch-latest : (past : List (Frame R)) (h : ℕ) (e : R.Dev) (i k : ℕ) (w : Watch R past h e i k)
      → LatestStart R past w.back h e
  watch-latest past h e i k w = record {
    start = w.start;
    last = λ j. no_start past h e w.mon w.age w.back j w.live w.since w.start
        w.unbroken w.stays;
  }

  -- One frame later: the latest start of a pair that was under watch, and of one that starts now.
  latest-old : (f : Frame R) (past : List (Frame R)) (h : ℕ) (e : R.Dev) (j : ℕ) → UnderWatch R past h e
      → LatestStart R (f ∷ past) j h e
      → (k : ℕ) × (j ≡ suc k) × LatestStart R past k h e
  latest-old f past h e zero w s = absurd (watched-idle R f past h e w s.start)
  latest-old f past h e (suc k) w s =
      (k, refl, record { start = s.start; last = λ i q. s.last (suc i) (omega arith) })

  latest-new : (f : Frame R) (past : List (Frame R)) (h : ℕ) (e : R.Dev) (j : ℕ) → StartAt R (f ∷ past) zero h e
      → LatestStart R (f ∷ past) j h e → j ≡ zero
  latest-new f past h e zero t s = refl
  latest-new f past h e (suc k) t s = absurd (s.last zero (omega arith) t)

  pub old-old : (f : Frame R) (past : List (Frame R)) (x y : ℕ × R.Dev) → UnderWatch R past x.0 x.1
      → UnderWatch R past y.0 y.1
      → InOrder R past x y → InOrder R (f ∷ past) x y
  old-old f past x y v w o j k s t =
      let a = latest-old f past x.0 x.1 j v s in
      let b = latest-old f past y.0 y.1 k w t in
      go a.0 b.0 a.1 b.1 (o a.0 b.0 a.2 b.2)
    where
      go : (a b : ℕ) → j ≡ suc a → k ≡ suc b → (b < a) ⊎ ((a ≡ b) × (x.0 < y.0)) → (k < j)
          ⊎ ((j ≡ k) × (x.0 < y.0))
      go a b p q (inl r) = inl (omega arith)
      go a b p q (inr r) = let z = r.0 in inr (omega arith, r.1)

  pub old-new : (f : Frame R) (past : List (Frame R)) (x y : ℕ × R.Dev) → UnderWatch R past x.0 x.1
      → StartAt R (f ∷ past) zero y.0 y.1
      → InOrder R (f ∷ past) x y
  old-new f past x y v w j k s t =
      let a = latest-old f past x.0 x.1 j v s in
      let b = latest-new f past y.0 y.1 k w t in
      let c = a.1 in
      inl (omega arith)

  pub new-new : (f : Frame R) (past : List (Frame R)) (x y : ℕ × R.Dev) → StartAt R (f ∷ past) zero x.0 x.1
      → StartAt R (f ∷ past) zero y.0 y.1
      → x.0 < y.0 → InOrder R (f ∷ past) x y
  new-new f past x y v w q j k s t =
      let a = latest-new f past x.0 x.1 j v s in
      let b = latest-new f past y.0 y.1 k w t in
      inr (omega arith, q)

  -- The order of pairs by their keys.
  abbrev pub PairOrder : List (Frame R) → Pair R → Pair R → Type 0
  PairOrder past x y = InOrder R past (key R x) (key R y)

  -- What a pair keeps is the RSSI of the latest matching packet since its start, the start included.
  pub kept-since : (past : List (Frame R)) (h : ℕ) (e : R.Dev) (m : R.Mon) (a back : ℕ)
      → live_after R past h ≡ live_since m a
      → back < a → StartAt R past back h e → last_rssi R m e past ≡ last_rssi R m e (take (suc back) past)
  kept-since [] h e m a back l s t = absurd t
  kept-since (add n ∷ past) h e m a zero l s t = absurd t
  kept-since (cancel n ∷ past) h e m a zero l s t = absurd t
  kept-since (packet p ∷ past) h e m a zero l s t =
      let w = t.1.would in
      let r = life-inv R (packet p) (λ g. live_after R past g) h m a l (omega arith) in
      let z : w.mon ≡ m = alive-mon w.mon m w.age r.0 (sym w.live ∙ r.2) in
      let u : R.matches m p ≡ true = subst (λ x. R.matches x p ≡ true) z w.match in
      rw (t.0, R.same_refl (R.dev p), u)
    where
      alive-mon : (x y : R.Mon) (i j : ℕ) → ◌≡◌ {A = Live R} (live_since x i) (live_since y j) → x ≡ y
      alive-mon x y i j q = cc
  kept-since (tick ∷ past) h e m a zero l s t = absurd t
  kept-since (other ∷ past) h e m a zero l s t = absurd t
  kept-since (f ∷ past) h e m a (suc k) l s t =
      let r = life-inv R f (λ g. live_after R past g) h m a l (omega arith) in
      ap (λ x. cond (match_for R m e f) (rssi_of R f) x)
      (kept-since past h e m r.0 k r.2 (omega (arith, r.1, s)) t)

  -- Two latest starts are not each sooner than the other.
  pub not-both : (D : Deeds R) (x y : ℕ × R.Dev) (j k : ℕ) → Latest R D j x.0 x.1 → Latest R D k y.0 y.1
      → Sooner R D x y → Sooner R D y x → ⊥
  not-both D x y j k s t f g = go (f j k s t) (g k j t s)
    where
      go : (k < j) ⊎ ((j ≡ k) × (x.0 < y.0)) → (j < k) ⊎ ((k ≡ j) × (y.0 < x.0)) → ⊥
      go (inl a) (inl b) = omega arith
      go (inl a) (inr b) = omega (arith, b.0)
      go (inr a) (inl b) = omega (arith, a.0)
      go (inr a) (inr b) = omega (arith, a.1, b.1)

  under-latest : (past : List (Frame R)) (h : ℕ) (e : R.Dev) (w : UnderWatch R past h e)
      → LatestStart R past w.back h e
  under-latest past h e w = record {
    start = w.start;
    last = λ j. no_start past h e w.mon w.age w.back j w.live w.since w.start w.unbroken
        w.stays;
  }

  -- A turn displaces one pair at most.
  pub displaced-once : (past : List (Frame R)) (p : R.Pkt) (n : ℕ) (U : Pairs R) (g h : ℕ) (c e : R.Dev)
      → UnderWatch R past g c → UnderWatch R past h e
      → Displaces R past (λ b k x y. DoneAt R past b k x y) p n U g c
      → Displaces R past (λ b k x y. DoneAt R past b k x y) p n U h e → (h ≡ g) × (e ≡ c)
  displaced-once past p n U g h c e v w d x =
      let a = d.smallest h e x.within in
      let b = x.smallest g c d.within in
      let z : kept R (packet p ∷ past) h e ≡ kept R (packet p ∷ past) g c = omega (arith, a, b) in
      go (d.earliest h e x.within z) (x.earliest g c d.within (sym z))
    where
      go : ((h ≡ g) × (e ≡ c)) ⊎ InOrder R past (g, c) (h, e) → ((g ≡ h) × (c ≡ e)) ⊎ InOrder R past (h, e) (g, c)
          → (h ≡ g) × (e ≡ c)
      go (inl r) s = r
      go (inr r) (inl s) = (sym s.0, sym s.1)
      go (inr r) (inr s) =
          absurd (not-both (λ b k x y. DoneAt R past b k x y) (g, c) (h, e) v.back w.back
          (under-latest past g c v) (under-latest past h e w) r s)
