-- The stored monitors are the live monitors of the past: the engine's lowest free handle is the rule's. What is live
-- was accepted and has a handle from 0 to 15. Assumes nothing.
use Rattle.std.specs.Prelude.{ℕ, zero, ◌≡◌, refl, ◌⊎◌, Bool, true, false, ◌&&◌, cond, List, [], ◌∷◌, eqb}
use Rattle.std.proofs.Common.{zero-le, arith, sym, ap, ◌∙◌, subst, inl, inr, eqb-true}
use Rattle.std.proofs.lemmas.Bool.{false≢true, eqb-false}
use Rattle.std.proofs.Math.Option.{Option, none, some}
use Rattle.rule.specs.BaseLaws.{both, none≢some}
use Rattle.rule.specs.Radio.{Radio, Frame, add, cancel, packet, tick, other, most_monitors}
use Rattle.rule.specs.Rule.{Live, not_live, live_since, is_live, older, lowest, live_by, live_after}
use Rattle.rule.proofs.ReadingLaws.{lowest-is}
use Rattle.rule.specs.Engine.{find, slot, insert, insert_at, remove, Mons, mons_after, run}
use Rattle.rule.proofs.FindsLaws.{find-insert-same, find-insert-other, find-remove-same, find-remove-other}
use Rattle.rule.proofs.FindsLaws.{slot-some, lowest-slot}

module _ (R : Radio) where
  -- What is stored of a life.
  abbrev pub known : Live R → Option R.Mon
  known not_live = none
  known (live_since m a) = some m

  pub not_live≢live_since : {m : R.Mon} {a : ℕ} → ◌≡◌ {A = Live R} not_live (live_since m a) → ⊥
  not_live≢live_since e = false≢true (ap (is_live R) e)

  pub known-alive : (x : Live R) (m : R.Mon) → known x ≡ some m → (a : ℕ) × (x ≡ live_since m a)
  known-alive not_live m e = absurd (none≢some e)
  known-alive (live_since n a) m e = (a, cc)

  known-older : (x : Live R) → known (older R x) ≡ known x
  known-older not_live = refl
  known-older (live_since m a) = refl

  known_dead : (x : Live R) → known x ≡ none → is_live R x ≡ false
  known_dead not_live e = refl
  known_dead (live_since m a) e = absurd (none≢some (sym e))

  dead-known : (x : Live R) → is_live R x ≡ false → known x ≡ none
  dead-known not_live e = refl
  dead-known (live_since m a) e = absurd (false≢true (sym e))

  live-known : (x : Live R) → is_live R x ≡ true → known x ≡ none → ⊥
  live-known not_live e q = false≢true e
  live-known (live_since m a) e q = none≢some (sym q)

  known-live : (x : Live R) → (known x ≡ none → ⊥) → is_live R x ≡ true
  known-live not_live f = absurd (f refl)
  known-live (live_since m a) f = refl

  module _ (L : ℕ → Live R) (l : Mons R) (same : (h : ℕ) → find l h ≡ known (L h)) where
    slot-of-lowest : (h : ℕ) → lowest R L h ≡ true → slot l most_monitors zero ≡ some h
    slot-of-lowest h e =
        let w = (lowest-is R L h).0 e in
        lowest-slot l most_monitors zero h (record {
          free = same h ∙ dead-known (L h) w.free;
          from = zero-le;
          below = omega (arith, w.below);
          taken = λ j a c q. live-known (L j) (w.taken j c) (sym (same j) ∙ q);
        })

    lowest-of-slot : (h : ℕ) → slot l most_monitors zero ≡ some h → lowest R L h ≡ true
    lowest-of-slot h e =
        let w = slot-some l most_monitors zero h e in
        (lowest-is R L h).1 (record {
          below = omega (arith, w.below);
          free = known_dead (L h) (sym (same h) ∙ w.free);
          taken = λ j q. known-live (L j) (λ u. w.taken j zero-le q (same j ∙ u));
        })

    -- A handle that is not the new one stays as it was.
    add-known : (m : R.Mon) (h : ℕ) (o : Option ℕ) → slot l most_monitors zero ≡ o
        → find (insert_at o m l) h ≡ known (cond (lowest R L h) (live_since m zero) (older R (L h)))
    add-known m h none e = go (both (lowest R L h))
      where
        go : (lowest R L h ≡ true) ⊎ (lowest R L h ≡ false)
            → find l h ≡ known (cond (lowest R L h) (live_since m zero) (older R (L h)))
        go (inl q) = absurd (none≢some (sym e ∙ slot-of-lowest h q))
        go (inr q) = rw q (same h ∙ sym (known-older (L h)))
    add-known m h (some g) e = go (both (lowest R L h))
      where
        go : (lowest R L h ≡ true) ⊎ (lowest R L h ≡ false)
            → find (insert g m l) h ≡ known (cond (lowest R L h) (live_since m zero) (older R (L h)))
        go (inl q) =
            let w : some g ≡ some h = sym e ∙ slot-of-lowest h q in
            let z : g ≡ h = cc in
            rw (q, ← z) (find-insert-same g m l (slot-some l most_monitors zero g e).free)
        go (inr q) = rw q (find-insert-other g h m l apart ∙ same h ∙ sym (known-older (L h)))
          where
            apart : g ≡ h → ⊥
            apart z = false≢true (sym q ∙ subst (λ k. lowest R L k ≡ true) z (lowest-of-slot g e))

    -- One frame.
    pub mons-one : (f : Frame R) (h : ℕ) → find (mons_after R f l) h ≡ known (live_by R f L h)
    mons-one (add m) h = go (R.okay m)
      where
        go : (b : Bool) → find (cond b (insert_at (slot l most_monitors zero) m l) l) h
            ≡ known (cond (b && lowest R L h) (live_since m zero) (older R (L h)))
        go true = add-known m h (slot l most_monitors zero) refl
        go false = same h ∙ sym (known-older (L h))
    mons-one (cancel g) h = go (eqb g h) refl
      where
        go : (b : Bool) → eqb g h ≡ b → find (remove g l) h ≡ known (cond b not_live (older R (L h)))
        go true e = subst (λ k. find (remove g l) k ≡ none) (eqb-true g h e) (find-remove-same g l)
        go false e = find-remove-other g h l (eqb-false g h e) ∙ same h ∙ sym (known-older (L h))
    mons-one (packet p) h = same h ∙ sym (known-older (L h))
    mons-one tick h = same h ∙ sym (known-older (L h))
    mons-one other h = same h ∙ sym (known-older (L h))

  -- The stored monitors are the live ones.
  pub mons-are : (past : List (Frame R)) (h : ℕ) → find (run R past).mons h ≡ known (live_after R past h)
  mons-are [] h = refl
  mons-are (f ∷ past) h = mons-one (λ g. live_after R past g) (run R past).mons (mons-are past) f h
