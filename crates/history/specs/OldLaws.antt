-- One frame and a pair that was under watch before it: what the engine's `move` does, against the rule. The only
-- lemmas that look at what a frame does to a pair are `move-on` and `move-left`. Assumes nothing.
use Rattle.std.specs.Prelude.{ℕ, zero, suc, ◌<◌, ◌≡◌, refl, ◌⊎◌, Bool, true, false, ◌&&◌, cond, List, ◌∷◌, take, ltb, eqb}
use Rattle.std.proofs.Common.{arith, sym, ap, ◌∙◌, subst, inl, inr, ltb-true, lt-ltb}
use Rattle.std.proofs.lemmas.Bool.{false≢true}
use Rattle.std.proofs.Math.Option.{Option, none, some}
use Rattle.rule.specs.BaseLaws.{both, and-true, none≢some, some_inj}
use Rattle.rule.specs.Radio.{Radio, Frame, add, cancel, packet, tick, other}
use Rattle.rule.specs.Rule.{Live, not_live, live_since, is_live, older, lowest, live_by, live_after, NoRun, StartAt, DisplacedAt}
use Rattle.rule.specs.Rule.{ticks_since_good, match_for, rssi_of, last_rssi}
use Rattle.rule.proofs.ReadingLaws.{lowest-is}
use Rattle.rule.specs.Engine.{find, Mons, Pair, refreshes, at_packet, at_tick, move}
use Rattle.history.specs.RunsLaws.{next, norun-silent, norun-tail, norun-cons}
use Rattle.history.specs.LiveLaws.{known, not_live≢live_since}

module _ (R : Radio) where
  older-inv : (x : Live R) (m : R.Mon) (a : ℕ) → older R x ≡ live_since m a → (b : ℕ) × (a ≡ suc b)
      × (x ≡ live_since m b)
  older-inv not_live m a e = absurd (not_live≢live_since R e)
  older-inv (live_since n b) m a e = (b, cc, ap (λ k. live_since k b) (mon e))
    where
      mon : ◌≡◌ {A = Live R} (live_since n (suc b)) (live_since m a) → n ≡ m
      mon q = cc

  -- A monitor that was added before the newest frame was live before it.
  pub life-inv : (f : Frame R) (L : ℕ → Live R) (h : ℕ) (m : R.Mon) (a : ℕ) → live_by R f L h ≡ live_since m a → 0 < a
      → (b : ℕ) × (a ≡ suc b) × (L h ≡ live_since m b)
  life-inv (add n) L h m a e q = go (R.okay n && lowest R L h) e
    where
      zero-age : ◌≡◌ {A = Live R} (live_since n zero) (live_since m a) → zero ≡ a
      zero-age w = cc

      go : (t : Bool) → cond t (live_since n zero) (older R (L h)) ≡ live_since m a → (b : ℕ) × (a ≡ suc b)
          × (L h ≡ live_since m b)
      go true w = let z = zero-age w in absurd (omega arith)
      go false w = older-inv (L h) m a w
  life-inv (cancel g) L h m a e q = go (eqb g h) e
    where
      go : (t : Bool) → cond t not_live (older R (L h)) ≡ live_since m a → (b : ℕ) × (a ≡ suc b) × (L h ≡ live_since m b)
      go true w = absurd (not_live≢live_since R w)
      go false w = older-inv (L h) m a w
  life-inv (packet p) L h m a e q = older-inv (L h) m a e
  life-inv tick L h m a e q = older-inv (L h) m a e
  life-inv other L h m a e q = older-inv (L h) m a e

  -- A live monitor's handle is not given anew.
  life-add : (n : R.Mon) (L : ℕ → Live R) (h : ℕ) (m : R.Mon) (b : ℕ) → L h ≡ live_since m b
      → live_by R (add n) L h ≡ live_since m (suc b)
  life-add n L h m b e = go (both (R.okay n && lowest R L h))
    where
      go : ((R.okay n && lowest R L h) ≡ true) ⊎ ((R.okay n && lowest R L h) ≡ false)
          → live_by R (add n) L h ≡ live_since m (suc b)
      go (inl q) =
          let d = ((lowest-is R L h).0 (and-true (R.okay n) (lowest R L h) q).1).free in
          absurd (false≢true (sym d ∙ ap (is_live R) e))
      go (inr q) = rw (q, e)

  -- What a pair keeps after one more frame.
  abbrev pub next_kept : R.Mon → R.Dev → Frame R → ℕ → ℕ
  next_kept m d f k = cond (match_for R m d f) (rssi_of R f) k

  -- What `move` leaves of a pair: its count after the frame, below the run, and what it keeps; its monitor lives on.
  pub record Left (L : ℕ → Live R) (f : Frame R) (h : ℕ) (e : R.Dev) (i k : ℕ) (m : R.Mon) (b : ℕ) (q : Pair R)
      : Type 0 where
    pub is : (h, e, next R m e f i, next_kept m e f k) ≡ q
    pub below : next R m e f i < R.run m
    pub live : live_by R f L h ≡ live_since m (suc b)

  module _ (L : ℕ → Live R) (l : Mons R) (h : ℕ) (e : R.Dev) (i k : ℕ) (m : R.Mon) (b : ℕ)
      (was : L h ≡ live_since m b) (stored : find l h ≡ some m) (low : i < R.run m) where
    pub move-left : (f : Frame R) (q : Pair R) → move R l f (h, e, i, k) ≡ some q → Left L f h e i k m b q
    move-left (add n) q u = record { is = some_inj u; below = low; live = life-add n L h m b was }
    move-left (cancel g) q u = go (eqb g h) refl u
      where
        go : (t : Bool) → eqb g h ≡ t → cond t none (some (h, e, i, k)) ≡ some q → Left L (cancel g) h e i k m b q
        go true w v = absurd (none≢some v)
        go false w v = record { is = some_inj v; below = low; live = rw (w, was) }
    move-left (packet p) q u = record { is = some_inj v; below = less (refreshes R m e p); live = rw was }
      where
        v : some (at_packet R (some m) p (h, e, i, k)) ≡ some q
        v = subst (λ o. some (at_packet R o p (h, e, i, k)) ≡ some q) stored u

        less : (t : Bool) → cond t zero i < R.run m
        less true = omega (arith, low)
        less false = low
    move-left tick q u = go (ltb (suc i) (R.run m)) refl (subst (λ o. at_tick R o (h, e, i, k) ≡ some q) stored u)
      where
        go : (t : Bool) → ltb (suc i) (R.run m) ≡ t → cond t (some (h, e, suc i, k)) none ≡ some q
            → Left L tick h e i k m b q
        go true w v = record { is = some_inj v; below = ltb-true (suc i) (R.run m) w; live = rw was }
        go false w v = absurd (none≢some v)
    move-left other q u = record { is = some_inj u; below = low; live = rw was }

    pub move-on : (f : Frame R) (a : ℕ) → live_by R f L h ≡ live_since m a → next R m e f i < R.run m
        → move R l f (h, e, i, k) ≡ some (h, e, next R m e f i, next_kept m e f k)
    move-on (add n) a v t = refl
    move-on (cancel g) a v t = go (eqb g h) v
      where
        go : (c : Bool) → cond c not_live (older R (L h)) ≡ live_since m a
            → cond {A = Option (Pair R)} c none (some (h, e, i, k)) ≡ some (h, e, i, k)
        go true w = absurd (not_live≢live_since R w)
        go false w = refl
    move-on (packet p) a v t = rw stored
    move-on tick a v t = rw (stored, lt-ltb (suc i) (R.run m) t)
    move-on other a v t = refl

  -- Under watch, with the ticks since the last good packet and the RSSI of the latest matching one.
  pub record Watch (past : List (Frame R)) (h : ℕ) (e : R.Dev) (i k : ℕ) : Type 0 where
    pub mon : R.Mon
    pub age : ℕ
    pub back : ℕ
    pub live : live_after R past h ≡ live_since mon age
    pub since : back < age
    pub start : StartAt R past back h e
    pub unbroken : NoRun R mon e (take back past)
    pub stays : (j : ℕ) → j < back → DisplacedAt R past j h e → ⊥
    pub stored : ticks_since_good R mon e (take back past) ≡ i
    pub level : last_rssi R mon e past ≡ k

  -- Under watch after `f ∷ past` by a start older than f, where f does not displace it.
  pub record Earlier (f : Frame R) (past : List (Frame R)) (h : ℕ) (e : R.Dev) (i k : ℕ) : Type 0 where
    pub mon : R.Mon
    pub age : ℕ
    pub back : ℕ
    pub live : live_after R (f ∷ past) h ≡ live_since mon age
    pub since : suc back < age
    pub start : StartAt R past back h e
    pub unbroken : NoRun R mon e (f ∷ take back past)
    pub stays : (j : ℕ) → j < back → DisplacedAt R past j h e → ⊥
    pub stored : ticks_since_good R mon e (f ∷ take back past) ≡ i
    pub level : last_rssi R mon e (f ∷ past) ≡ k

  -- It was under watch before.
  pub earlier-was : (f : Frame R) (past : List (Frame R)) (h : ℕ) (e : R.Dev) (i k : ℕ) (w : Earlier f past h e i k)
      → Watch past h e (ticks_since_good R w.mon e (take w.back past)) (last_rssi R w.mon e past)
  earlier-was f past h e i k w =
      let v = life-inv f (λ g. live_after R past g) h w.mon w.age w.live (omega (arith, w.since)) in
      record {
        mon = w.mon;
        age = v.0;
        back = w.back;
        live = v.2;
        since = omega (arith, v.1, w.since);
        start = w.start;
        unbroken = norun-tail R w.mon e f (take w.back past) w.unbroken;
        stays = w.stays;
        stored = refl;
        level = refl;
      }

  -- What is under watch by an older start is moved there.
  pub earlier-moves : (f : Frame R) (past : List (Frame R)) (l : Mons R)
      → ((g : ℕ) → find l g ≡ known R (live_after R past g))
      → (h : ℕ) (e : R.Dev) (i k : ℕ) → Earlier f past h e i k
      → (j : ℕ) × (n : ℕ) × Watch past h e j n × (move R l f (h, e, j, n) ≡ some (h, e, i, k))
  earlier-moves f past l same h e i k w =
      let v = life-inv f (λ g. live_after R past g) h w.mon w.age w.live (omega (arith, w.since)) in
      let j : ℕ = ticks_since_good R w.mon e (take w.back past) in
      let n : ℕ = last_rssi R w.mon e past in
      let low = norun-silent R w.mon e (take w.back past)
      (norun-tail R w.mon e f (take w.back past) w.unbroken) in
      let up : next R w.mon e f j < R.run w.mon = norun-silent R w.mon e (f ∷ take w.back past)
      w.unbroken in
      let m = move-on (λ g. live_after R past g) l h e j n w.mon v.0 v.2 (same h ∙ ap (known R) v.2) low f
      w.age w.live up in (
        j,
        n,
        earlier-was f past h e i k w,
        m ∙ ap (λ x. some (h, e, x, next_kept w.mon e f n)) w.stored ∙ ap (λ x. some (h, e, i, x)) w.level,
      )

  -- What is moved is under watch by an older start.
  pub moved-earlier : (f : Frame R) (past : List (Frame R)) (l : Mons R)
      → ((g : ℕ) → find l g ≡ known R (live_after R past g))
      → (h : ℕ) (e : R.Dev) (j n : ℕ) (q : Pair R) → Watch past h e j n → move R l f (h, e, j, n) ≡ some q
      → Earlier f past q.0 q.1 q.2 q.3
  moved-earlier f past l same h e j n q w u =
      let low : j < R.run w.mon = rw w.stored at (norun-silent R w.mon e (take w.back past)
      w.unbroken) in
      let r = move-left (λ g. live_after R past g) l h e j n w.mon w.age w.live
      (same h ∙ ap (known R) w.live) low
      f q u in
      let z : ticks_since_good R w.mon e (f ∷ take w.back past) ≡ next R w.mon e f j = ap (next R w.mon e f)
      w.stored in
      let y : Earlier f past h e (next R w.mon e f j) (next_kept w.mon e f n) = record {
        mon = w.mon;
        age = suc w.age;
        back = w.back;
        live = r.live;
        since = omega (arith, w.since);
        start = w.start;
        unbroken = norun-cons R w.mon e f (take w.back past) w.unbroken (rw z r.below);
        stays = w.stays;
        stored = z;
        level = ap (next_kept w.mon e f) w.level;
      } in
      subst (λ x. Earlier f past x.0 x.1 x.2 x.3) r.is y
