-- Lists of monitors given by handle: what stands under a handle, their order, and the rows they are read from.
-- Assumes nothing.
use Prim.Native.Nat.{ℕ, zero, suc, ◌+◌, ◌-◌, ◌≤◌, ◌<◌}
use Rattle.std.specs.Prelude.{◌≡◌, ◌&&◌, ◌⊎◌}
use Rattle.std.proofs.Math.Path.{refl, sym, ap}
use Rattle.std.proofs.Common.{◌∙◌}
use Rattle.std.proofs.Math.Bool.{true}
use mathlib.Core.List.{List, [], ◌∷◌, ◌++◌, map}
use Rattle.std.proofs.Math.Option.{Option, none, some}
use Rattle.std.proofs.Math.Logic.{inl, inr}
use native.Mathlib.Omega.{arith}
use Rattle.std.proofs.Math.Dec.{leb, ltb}
use borrow.Author.Tests.{leb-true, le-leb, lt-ltb, eq-eqb, ne_eqb}
use Rattle.laws.specs.TestsLaws.{and_left, and_right, cases-le}
use Rattle.laws.specs.Loops.{keep, only}
use Rattle.rule.specs.Engine.{find}
use Rattle.model.specs.Types.{Monitor}
use Rattle.model.specs.Image.{monitor_in}
use Rattle.model.specs.Sound.{sound_monitor, sound_monitors}
use Rattle.model.specs.Block.{monitor_place, in_use}
use Rattle.blocks.specs.Facts.{SoundMonitor}
use Rattle.blocks.specs.FactsLaws.{facts-monitor}
use Rattle.blocks.specs.TablesLaws.{from}
use Rattle.blocks.specs.MonitorsLaws.{in_use-none, in_use-some, monitor_in-some}
use Rattle.model.specs.Layout.{most_monitors}

-- the monitors of the handles from k on, n of them
unfoldable pub cons_if : ℕ → Option Monitor → List (ℕ × Monitor) → List (ℕ × Monitor)
cons_if k none l = l
cons_if k (some m) l = (k, m) ∷ l

unfoldable pub mons_of : (ℕ → Option Monitor) → ℕ → ℕ → List (ℕ × Monitor)
mons_of o k zero = []
mons_of o k (suc n) = cons_if k (o k) (mons_of o (suc k) n)

-- every monitor given is sound
abbrev pub Sounds : (ℕ → Option Monitor) → Type 0
Sounds o = (h : ℕ) (m : Monitor) → o h ≡ some m → SoundMonitor m

module _ (o : ℕ → Option Monitor) where
  -- below and above the handles there is none
  pub find-out : (k n h : ℕ) → (h < k) ⊎ (k + n ≤ h) → find (mons_of o k n) h ≡ none
  unfolding mons_of cons_if
  find-out k zero h u = refl
  find-out k (suc n) h u = go (o k) (find-out (suc k) n h (later u)) (other u)
    where
      later : (h < k) ⊎ (k + suc n ≤ h) → (h < suc k) ⊎ (suc k + n ≤ h)
      later (inl a) = inl (omega arith)
      later (inr a) = inr (omega arith)

      other : (h < k) ⊎ (k + suc n ≤ h) → k ≡ h → ⊥
      other (inl a) e = omega arith
      other (inr a) e = omega arith

      go : (x : Option Monitor) → find (mons_of o (suc k) n) h ≡ none → (k ≡ h → ⊥)
          → find (cons_if k x (mons_of o (suc k) n)) h ≡ none
      go none ih d = ih
      go (some m) ih d = rw (ne_eqb k h d) ih

  -- what stands under a handle
  pub find-in : (k n h : ℕ) → k ≤ h → h < k + n → find (mons_of o k n) h ≡ o h
  unfolding mons_of cons_if
  find-in k zero h a b = absurd (omega arith)
  find-in k (suc n) h a b =
      cases-le h k
      (λ (u : h ≤ k).
      let e : k ≡ h = omega arith in
      here e (o k) refl (find-out (suc k) n h (inl (omega arith))))
      (λ (u : k < h). later u (o k) (find-in (suc k) n h u (omega arith)))
    where
      here : k ≡ h → (x : Option Monitor) → o k ≡ x → find (mons_of o (suc k) n) h ≡ none
          → find (cons_if k x (mons_of o (suc k) n)) h ≡ o h
      here e none q z = z ∙ sym q ∙ ap o e
      here e (some m) q z = rw (eq-eqb k h e) (sym q ∙ ap o e)

      later : k < h → (x : Option Monitor) → find (mons_of o (suc k) n) h ≡ o h
          → find (cons_if k x (mons_of o (suc k) n)) h ≡ o h
      later u none ih = ih
      later u (some m) ih = rw (ne_eqb k h (λ (e : k ≡ h). omega arith)) ih

  -- they rise, and are sound where each is
  weaken : (k : ℕ) (l : List (ℕ × Monitor)) → sound_monitors (suc k) l ≡ true → sound_monitors k l ≡ true
  unfolding sound_monitors
  weaken k [] e = refl
  weaken k (x ∷ l) e =
      let a = leb (suc k) x.0 in
      let b = ltb x.0 most_monitors in
      let c = sound_monitor x.1 in
      let d = sound_monitors (suc x.0) l in
      let e2 = and_left (a && b && c) d e in
      let e1 = and_left (a && b) c e2 in
      let h : suc k ≤ x.0 = leb-true (suc k) x.0 (and_left a b e1) in
      rw (le-leb k x.0 (omega arith), and_right a b e1, and_right (a && b) c e2) (and_right (a && b && c) d e)

  pub mons-sound : (k n : ℕ) → k + n ≤ most_monitors → Sounds o → sound_monitors k (mons_of o k n) ≡ true
  unfolding mons_of cons_if sound_monitors
  mons-sound k zero b f = refl
  mons-sound k (suc n) b f = go (o k) refl (mons-sound (suc k) n (omega arith) f)
    where
      go : (x : Option Monitor) → o k ≡ x → sound_monitors (suc k) (mons_of o (suc k) n) ≡ true
          → sound_monitors k (cons_if k x (mons_of o (suc k) n)) ≡ true
      go none q ih = weaken k (mons_of o (suc k) n) ih
      go (some m) q ih =
          rw (le-leb k k (omega arith), lt-ltb k most_monitors (omega arith), facts-monitor m (f k m q)) ih

  -- they are read from their rows
  pub mons-read : (k n : ℕ) → Sounds o
      → map monitor_in (keep in_use (from (λ (h : ℕ). monitor_place h (o h)) k n)) ≡ mons_of o k n
  unfolding mons_of cons_if from keep only
  mons-read k zero f = refl
  mons-read k (suc n) f = go (o k) (f k) (mons-read (suc k) n f)
    where
      go : (x : Option Monitor) → ((m : Monitor) → x ≡ some m → SoundMonitor m)
          → map monitor_in (keep in_use (from (λ (h : ℕ). monitor_place h (o h)) (suc k) n)) ≡ mons_of o (suc k) n
          → map monitor_in (only (in_use (monitor_place k x)) (monitor_place k x) ++ keep in_use
          (from (λ (h : ℕ). monitor_place h (o h)) (suc k) n))
          ≡ cons_if k x (mons_of o (suc k) n)
      go none s ih = rw (in_use-none k) ih
      go (some m) s ih = rw (in_use-some k m (s m refl), monitor_in-some k m, ih)
