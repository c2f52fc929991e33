-- Under watch after one more frame: by a start of that frame, or by an older one that it does not displace. Nothing of
-- the engine's lists is used. Assumes nothing.
use Rattle.std.specs.Prelude.{ℕ, zero, suc, ◌<◌, ◌≡◌, refl, ◌⊎◌, List, ◌∷◌, take}
use Rattle.std.proofs.Common.{arith, ap, ◌∙◌, inl, inr}
use Rattle.rule.specs.Radio.{Radio, Frame}
use Rattle.rule.specs.Rule.{NoRun, StartAt, DisplacedAt, UnderWatch}
use Rattle.rule.specs.Rule.{ticks_since_good, kept, last_of, last_rssi}
use Rattle.history.specs.OldLaws.{Watch, Earlier}

module _ (R : Radio) where
  pub watch-under : (past : List (Frame R)) (h : ℕ) (e : R.Dev) (i k : ℕ) → Watch R past h e i k
      → UnderWatch R past h e
  watch-under past h e i k w = record {
    mon = w.mon;
    age = w.age;
    back = w.back;
    live = w.live;
    since = w.since;
    start = w.start;
    unbroken = w.unbroken;
    stays = w.stays;
  }

  pub under-watch : (past : List (Frame R)) (h : ℕ) (e : R.Dev) → UnderWatch R past h e
      → (i : ℕ) × (k : ℕ) × Watch R past h e i k
  under-watch past h e w = (
    ticks_since_good R w.mon e (take w.back past),
    last_rssi R w.mon e past,
    record {
      mon = w.mon;
      age = w.age;
      back = w.back;
      live = w.live;
      since = w.since;
      start = w.start;
      unbroken = w.unbroken;
      stays = w.stays;
      stored = refl;
      level = refl;
    },
  )

  pub earlier-watch : (f : Frame R) (past : List (Frame R)) (h : ℕ) (e : R.Dev) (i k : ℕ) → Earlier R f past h e i k
      → (DisplacedAt R (f ∷ past) zero h e → ⊥) → Watch R (f ∷ past) h e i k
  earlier-watch f past h e i k w s = record {
    mon = w.mon;
    age = w.age;
    back = suc w.back;
    live = w.live;
    since = w.since;
    start = w.start;
    unbroken = w.unbroken;
    stays = none_of;
    stored = w.stored;
    level = w.level;
  }
    where
      none_of : (j : ℕ) → j < suc w.back → DisplacedAt R (f ∷ past) j h e → ⊥
      none_of zero q d = s d
      none_of (suc j) q d = w.stays j (omega arith) d

  -- Under watch after one more frame: by a start of that frame, or by an older one, not displaced by it.
  abbrev pub Cases : Frame R → List (Frame R) → ℕ → R.Dev → ℕ → ℕ → Type 0
  Cases f past h e i k =
      (StartAt R (f ∷ past) zero h e × (zero ≡ i) × (kept R (f ∷ past) h e ≡ k))
      ⊎ (Earlier R f past h e i k × (DisplacedAt R (f ∷ past) zero h e → ⊥))

  pub watch-cases : (f : Frame R) (past : List (Frame R)) (h : ℕ) (e : R.Dev) (i k : ℕ) → Watch R (f ∷ past) h e i k
      → Cases f past h e i k
  watch-cases f past h e i k w = go w.back w.since w.start w.unbroken w.stays w.stored
    where
      go : (b : ℕ) → b < w.age → StartAt R (f ∷ past) b h e → NoRun R w.mon e (take b (f ∷ past))
          → ((j : ℕ) → j < b → DisplacedAt R (f ∷ past) j h e → ⊥)
          → ticks_since_good R w.mon e (take b (f ∷ past)) ≡ i → Cases f past h e i k
      go zero s t u y q = inl (t, q, ap (λ x. last_of R x e (f ∷ past)) w.live ∙ w.level)
      go (suc b) s t u y q =
          let r : Earlier R f past h e i k = record {
            mon = w.mon;
            age = w.age;
            back = b;
            live = w.live;
            since = s;
            start = t;
            unbroken = u;
            stays = λ j z. y (suc j) (omega arith);
            stored = q;
            level = w.level;
          } in
          inr (r, y zero (omega arith))
