-- The first start that keeps the smallest RSSI, by its index, and the others without it. Document 02, T-05. Assumes
-- nothing.
use Rattle.std.specs.Prelude.{◌≡◌, ℕ, zero, suc, ◌<◌, ◌≤◌, true, false, not, List, [], ◌∷◌, map, length, slice_index_or}
use Rattle.std.proofs.Math.Path.{refl, ap}
use Rattle.std.proofs.Common.{◌∙◌, arith}
use borrow.Author.Tests.{eq-eqb, le-leb, lt-leb}
use Rattle.std.proofs.Math.ListN.{get_or-map}
use Rattle.laws.specs.Tests.{pick}
use Rattle.laws.specs.Loops.{keep, only, some as some_of}
use Rattle.rule.specs.Base.{All, Ordered}
use Rattle.steps.specs.ListsLaws.{all-weaken}
use Rattle.model.specs.Level.{level}
use Rattle.model.proofs.LevelsLaws.{most-levels}
use Rattle.pasts.specs.ListsLaws.{keep_all, length-map}
use Rattle.pasts.specs.Pair
use Rattle.pasts.specs.Past.{among, same_start, weaker, weakest}
use Rattle.pasts.proofs.DeedsLaws.{Apart, weakest-all}
use Rattle.twin.specs.declared.watch.Begun.{Begun}
use Rattle.twin.specs.Seen.{Least, but_at, no_begun, start_at}
use Rattle.twin.specs.StartsLaws.{all_get_d}

pub least-same : (f g : ℕ → ℕ) (n w : ℕ) → ((m : ℕ) → m < n → f m ≡ g m) → Least f n w → Least g n w
least-same f g n w e x =
    let k : w < n = x.within in
    record {
      within = k;
      before = λ m b. let y : f w < f m = x.before m b in let u : f w ≡ g w = e w k in let v : f m ≡ g m =
          e m (omega arith) in omega arith;
      all = λ m b. let y : f w ≤ f m = x.all m b in let u : f w ≡ g w = e w k in let v : f m ≡ g m =
          e m b in omega arith;
    }

all_from : (P : Pair.Start → Type 0) (l : List Pair.Start) (d : Pair.Start)
    → ((m : ℕ) → m < length l → P (slice_index_or l m d)) → All P l
all_from P [] d f = tt
all_from P (s ∷ l) d f = (f 0 (omega arith), all_from P l d (λ m b. f (suc m) (omega arith)))

module _ (k : Pair.Start → ℕ) (d : Pair.Start) where
  abbrev L : Pair.Start → ℕ
  L s = level (k s)

  stays-first : (s : Pair.Start) (w : List Pair.Start) → All (λ u. L s ≤ L u) w → weaker k s w ≡ s ∷ []
  unfolding weaker pick
  stays-first s [] a = refl
  stays-first s (u ∷ w) a = rw (most-levels (k s) (k u), le-leb (L s) (L u) a.0)

  goes_later : (s u : Pair.Start) → L u < L s → weaker k s (u ∷ []) ≡ u ∷ []
  unfolding weaker pick
  goes_later s u h = rw (most-levels (k s) (k u), lt-leb (L s) (L u) h)

  pub weakest-is : (l : List Pair.Start) (w : ℕ) → Least (λ j. level (k (slice_index_or l j d))) (length l) w
      → weakest k l ≡ slice_index_or l w d ∷ []
  unfolding weakest
  weakest-is [] w x = let h : w < 0 = x.within in absurd (omega arith)
  weakest-is (s ∷ l) zero x =
      stays-first s (weakest k l)
      (weakest-all (λ u. L s ≤ L u) k l (all_from (λ u. L s ≤ L u) l d (λ m b. x.all (suc m) (omega arith))))
  weakest-is (s ∷ l) (suc w) x =
      let y : Least (λ j. level (k (slice_index_or l j d))) (length l) w = record {
        within = let h : suc w < length (s ∷ l) = x.within in omega arith;
        before = λ m b. x.before (suc m) (omega arith);
        all = λ m b. x.all (suc m) (omega arith);
      } in
      ap (weaker k s) (weakest-is l w y) ∙ goes_later s (slice_index_or l w d) (x.before 0 (omega arith))

-- the others without it
itself : (s : Pair.Start) → among s (s ∷ []) ≡ true
unfolding among some_of same_start
itself s = rw (eq-eqb s.number s.number refl, eq-eqb s.handle s.handle refl)

others-stay : (s : Pair.Start) (l : List Pair.Start) → All (Apart s) l → keep (λ u. not (among u (s ∷ []))) l ≡ l
unfolding among some_of
others-stay s l a =
    keep_all (λ u. not (among u (s ∷ []))) l
    (all-weaken (Apart s) (λ u. not (among u (s ∷ [])) ≡ true) (λ u b. rw b.back) l a)

not-among : (u s : Pair.Start) → Apart u s → among u (s ∷ []) ≡ false
unfolding among some_of
not-among u s a = rw a.forth

module _ (t : List ℕ) where
  pub but-is : (l : List Begun) (w : ℕ) → Ordered Apart (map (start_at t) l) → w < length l
      → keep (λ u. not (among u (start_at t (slice_index_or l w no_begun) ∷ []))) (map (start_at t) l) ≡ map (start_at t) (but_at w l)
  unfolding but_at keep only
  but-is [] w o h = absurd (omega arith)
  but-is (b ∷ l) zero o h = rw (itself (start_at t b), others-stay (start_at t b) (map (start_at t) l) o.0)
  but-is (b ∷ l) (suc w) o h =
      let n : length (map (start_at t) l) ≡ length l = length-map (start_at t) l in
      let x : Apart (start_at t b) (slice_index_or (map (start_at t) l) w (start_at t no_begun)) =
      all_get_d (Apart (start_at t b)) (map (start_at t) l) w (start_at t no_begun) o.0 (omega arith) in
      let y : Apart (start_at t b) (start_at t (slice_index_or l w no_begun)) = rw (get_or-map (start_at t) l w no_begun) at x in
      rw (not-among (start_at t b) (start_at t (slice_index_or l w no_begun)) y)
      (ap (λ (m : List Pair.Start). start_at t b ∷ m) (but-is l w o.1 (omega arith)))
