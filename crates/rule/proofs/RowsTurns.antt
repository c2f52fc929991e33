-- The turns of one packet as a loop over the stored monitors: for rising rows it is the same as the turns over the
-- handles 0 to 15. Assumes nothing.
use Prim.Native.Nat.{ℕ, zero, suc, ◌+◌, ◌≤◌, ◌<◌, zero-le}
use native.Mathlib.Omega.{arith}
use Rattle.std.proofs.Common.{add-zero, zero-add, ◌∙◌, eqb-true, ne_eqb}
use Rattle.std.specs.Prelude.{◌≡◌, Bool, true, false, eqb}
use Rattle.std.proofs.Math.Path.{refl, ap}
use Rattle.std.proofs.Math.Option.{none, some}
use mathlib.Core.List.{List, [], ◌∷◌}
use Rattle.std.proofs.lemmas.Bool.{eqb-false}
use Rattle.rule.specs.Base.{All}
use Rattle.rule.specs.Radio.{Radio, most_monitors}
use Rattle.rule.specs.Engine.{find, Mons, Pair, State, started, turns}
use Rattle.rule.specs.Finds.{Rising}
use Rattle.rule.proofs.FindsLaws.{find-above}
use Rattle.rule.proofs.FitsLaws.{Fits, Stored}

module _ (R : Radio) where
  -- The loop over rows: every stored monitor has its turn.
  abbrev pub row_turns : Mons R → R.Pkt → List (Pair R) → List (Pair R)
  row_turns [] p ps = ps
  row_turns (x ∷ l) p ps = row_turns l p (started R (some x.1) p x.0 ps)

  -- The turns of k handles from b on.
  abbrev pub span : Mons R → R.Pkt → ℕ → ℕ → List (Pair R) → List (Pair R)
  span l p b zero ps = ps
  span l p b (suc k) ps = span l p (suc b) k (started R (find l b) p b ps)

  pub span-turns : (l : Mons R) (p : R.Pkt) (b k : ℕ) (ps : List (Pair R))
      → span l p b k (turns R l p b ps) ≡ turns R l p (b + k) ps
  span-turns l p b zero ps = rw (add-zero b)
  span-turns l p b (suc k) ps =
      let e : suc b + k ≡ b + suc k = omega arith in
      span-turns l p (suc b) k ps ∙ ap (λ n. turns R l p n ps) e

  Between : ℕ → ℕ → Mons R → Type 0
  Between b k l = All (λ y. (b ≤ y.0) × (y.0 < b + k)) l

  -- The rows l, all of the k handles from b on, where the stored rows L give the same from b on.
  rows-span : (L l : Mons R) (p : R.Pkt) (b k : ℕ) (ps : List (Pair R)) → Rising l → Between b k l
      → ((j : ℕ) → b ≤ j → find L j ≡ find l j) → row_turns l p ps ≡ span L p b k ps
  unfolding Between
  rows-span L [] p b zero ps r a same = refl
  rows-span L (x ∷ l) p b zero ps r a same = absurd (omega (arith, a.0.0, a.0.1))
  rows-span L [] p b (suc k) ps r a same =
      rw (same b (omega arith)) (rows-span L [] p (suc b) k ps tt tt (λ j q. same j (omega arith)))
  rows-span L (x ∷ l) p b (suc k) ps r a same =
      go (eqb x.0 b) refl (λ qs. rows-span L l p (suc b) k qs r.1) (λ qs. rows-span L (x ∷ l) p (suc b) k qs r)
    where
      apart : (j : ℕ) → x.0 < j → x.0 ≡ j → ⊥
      apart j q e = omega arith

      up : (m : Mons R) → All (λ y. x.0 < y.0) m → x.0 ≡ b → All (λ y. (b ≤ y.0) × (y.0 < b + suc k)) m
          → All (λ y. (suc b ≤ y.0) × (y.0 < suc b + k)) m
      up [] c e d = tt
      up (y ∷ m) c e d = ((omega (arith, c.0, e), omega (arith, d.0.1)), up m c.1 e d.1)

      far : (m : Mons R) → All (λ y. x.0 < y.0) m → b < x.0 → All (λ y. b < y.0) m
      far [] c e = tt
      far (y ∷ m) c e = (omega (arith, c.0, e), far m c.1 e)

      on : (m : Mons R) → All (λ y. b < y.0) m → All (λ y. (b ≤ y.0) × (y.0 < b + suc k)) m
          → All (λ y. (suc b ≤ y.0) × (y.0 < suc b + k)) m
      on [] c d = tt
      on (y ∷ m) c d = ((c.0, omega (arith, d.0.1)), on m c.1 d.1)

      here : eqb x.0 b ≡ true → find L b ≡ some x.1
      here e = same b (omega arith) ∙ rw e

      above : (x.0 ≡ b → ⊥) → b < x.0
      above e = omega (arith, e, a.0.0)

      gap : eqb x.0 b ≡ false → find L b ≡ none
      gap e = same b (omega arith) ∙ rw e (find-above l b (far l r.0 (above (eqb-false x.0 b e))))

      go : (t : Bool) → eqb x.0 b ≡ t
          → ((qs : List (Pair R)) → All (λ y. (suc b ≤ y.0) × (y.0 < suc b + k)) l
          → ((j : ℕ) → suc b ≤ j → find L j ≡ find l j)
          → row_turns l p qs ≡ span L p (suc b) k qs)
          → ((qs : List (Pair R)) → All (λ y. (suc b ≤ y.0) × (y.0 < suc b + k)) (x ∷ l)
          → ((j : ℕ) → suc b ≤ j → find L j ≡ find (x ∷ l) j)
          → row_turns (x ∷ l) p qs ≡ span L p (suc b) k qs)
          → row_turns (x ∷ l) p ps ≡ span L p b (suc k) ps
      go true e take-it leave-it =
          let z : x.0 ≡ b = eqb-true x.0 b e in
          let next : (j : ℕ) → suc b ≤ j → find L j ≡ find l j = λ j q. same j (omega arith) ∙
          rw (ne_eqb x.0 j (apart j (omega (arith, q, z)))) in
          rw (here e, z) (take-it (started R (some x.1) p b ps) (up l r.0 z a.1) next)
      go false e take-it leave-it =
          let z : b < x.0 = above (eqb-false x.0 b e) in
          rw (gap e) (leave-it ps (on (x ∷ l) (z, far l r.0 z) a) (λ j q. same j (omega arith)))

  -- The loop over the rows of a state is the turns of all handles.
  pub row-turns : (s : State R) → Fits R s → (p : R.Pkt) (ps : List (Pair R))
      → row_turns s.mons p ps ≡ turns R s.mons p most_monitors ps
  unfolding Between
  row-turns s fit p ps =
      rows-span s.mons s.mons p zero most_monitors ps fit.rising (low s.mons fit.stored) (λ j q. refl)
      ∙ span-turns s.mons p zero most_monitors ps ∙ ap (λ n. turns R s.mons p n ps) (zero-add most_monitors)
    where
      low : (l : Mons R) → All (Stored R) l → All (λ y. (zero ≤ y.0) × (y.0 < zero + most_monitors)) l
      low [] a = tt
      low (x ∷ l) a = ((zero-le, omega (arith, a.0.0)), low l a.1)
