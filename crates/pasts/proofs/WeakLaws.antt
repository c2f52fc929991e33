-- The pair that keeps the smallest RSSI, as past frames tell it and as document 01's engine finds it. Document 02,
-- T-05. Assumes nothing.
use Rattle.std.specs.Prelude.{ℕ, ◌≤◌, ◌<◌, ◌≡◌, Bool, ◌||◌, eqb}
use Rattle.std.proofs.Math.Path.{refl}
use Rattle.std.proofs.Common.{sym, ap, ◌∙◌, arith}
use Rattle.std.proofs.Math.Bool.{true, false, not}
use mathlib.Core.List.{List, [], ◌∷◌, map}
use borrow.Author.Tests.{leb-true, leb-false, eq-eqb, ne_eqb, le-ltb, lt-ltb}
use Rattle.std.proofs.Math.Dec.{leb, ltb}
use Rattle.std.specs.Int.Signed.{le_z, lt_z}
use Rattle.laws.specs.Tests.{pick}
use Rattle.laws.specs.TestsLaws.{cases-le}
use Rattle.laws.specs.Loops.{keep, only, some as some_of}
use Rattle.rule.specs.Base.{All, Ordered}
use Rattle.model.specs.Types.{Pair}
use Rattle.model.specs.Level.{d_bm, level}
use Rattle.model.proofs.LevelsLaws.{below-levels, most-levels}
use Rattle.model.specs.Watch.{first_keeping, keeps, least, smaller, without}
use Rattle.steps.proofs.DropsLaws.{keeps-level}
use Rattle.steps.specs.ListsLaws.{all-weaken}
use Rattle.pasts.specs.ListsLaws.{keep_all, some-none}
use Rattle.pasts.specs.Pair.{Start}
use Rattle.pasts.specs.Past.{among, same_start, weaker, weakest}
use Rattle.pasts.proofs.DeedsLaws.{Apart, weakest-all}

-- the smaller of two numbers, and of three
less_both : (a b r : ℕ) → a ≤ b → pick (ltb a (pick (ltb b r) b r)) a (pick (ltb b r) b r) ≡ pick (ltb a r) a r
unfolding pick
less_both a b r h =
    cases-le r b (λ q. rw (le-ltb b r q))
    (λ q. rw (lt-ltb b r q, lt-ltb a r (omega arith))
    (cases-le b a (λ u. rw (le-ltb a b u) (omega arith)) (λ u. rw (lt-ltb a b u))))

less-second : (a b r : ℕ) → b < a → pick (ltb a (pick (ltb b r) b r)) a (pick (ltb b r) b r) ≡ pick (ltb b r) b r
unfolding pick
less-second a b r h =
    cases-le r b (λ q. rw (le-ltb b r q, le-ltb a r (omega arith))) (λ q. rw (lt-ltb b r q, le-ltb a b (omega arith)))

smaller-level : (a b : ℕ) → level (smaller a b) ≡ pick (ltb (level a) (level b)) (level a) (level b)
unfolding smaller pick
smaller-level a b = rw (below-levels a b) (go (ltb (level a) (level b)))
  where
    go : (c : Bool) → level (pick c a b) ≡ pick c (level a) (level b)
    go true = refl
    go false = refl

-- at most one
abbrev One : List Start → Type 0
One [] = Unit {0}
One (s ∷ []) = Unit {0}
One (s ∷ t ∷ l) = ⊥

weakest-one : (k : Start → ℕ) (l : List Start) → One (weakest k l)
unfolding weakest weaker pick
weakest-one k [] = tt
weakest-one k (s ∷ l) = go (weakest k l) (weakest-one k l)
  where
    by : (b : Bool) (w : List Start) → One w → One (pick b (s ∷ []) w)
    by true w o = tt
    by false w o = o

    go : (w : List Start) → One w → One (weaker k s w)
    go [] o = tt
    go (t ∷ w) o = by (le_z (d_bm (k s)) (d_bm (k t))) (t ∷ w) o

-- `v` gives the pair that a start stands for, which keeps `k`
module _ (v : Start → Pair) (k : Start → ℕ) (same : (s : Start) → (v s).kept ≡ k s) where
  abbrev L : Start → ℕ
  L s = level (k s)

  -- the smallest level that a list keeps, r where it is empty or keeps none below
  abbrev low : ℕ → List Start → ℕ
  low r [] = r
  low r (s ∷ l) = pick (ltb (L s) r) (L s) r

  least-low : (r : ℕ) (l : List Start) → level (least r (map v l)) ≡ low (level r) (weakest k l)
  unfolding least weakest weaker pick
  least-low r [] = refl
  least-low r (s ∷ l) = smaller-level (v s).kept (least r (map v l)) ∙ rw (same s, least-low r l) (go (weakest k l))
    where
      go : (w : List Start) → pick (ltb (L s) (low (level r) w)) (L s) (low (level r) w) ≡ low (level r) (weaker k s w)
      go [] = refl
      go (t ∷ w) = rw (most-levels (k s) (k t)) (by (leb (L s) (L t)) refl)
        where
          by : (b : Bool) → leb (L s) (L t) ≡ b
              → pick (ltb (L s) (low (level r) (t ∷ w))) (L s) (low (level r) (t ∷ w))
              ≡ low (level r) (pick b (s ∷ []) (t ∷ w))
          by true e = less_both (L s) (L t) (level r) (leb-true (L s) (L t) e)
          by false e = less-second (L s) (L t) (level r) (leb-false (L s) (L t) e)

  -- whether a start is above it
  pub least_above : (r : ℕ) (l : List Start)
      → lt_z (d_bm (least r (map v l))) (d_bm r) ≡ some_of (λ s. lt_z (d_bm (k s)) (d_bm r)) (weakest k l)
  unfolding some_of pick
  least_above r l = rw (below-levels (least r (map v l)) r, least-low r l) (go (weakest k l) (weakest-one k l))
    where
      by : (a b : ℕ) → ltb (pick (ltb a b) a b) b ≡ ltb a b
      by a b = cases-le b a (λ h. rw (le-ltb a b h, le-ltb b b (omega arith))) (λ h. rw (lt-ltb a b h, lt-ltb a b h))

      none-false : (b : Bool) → b ≡ (b || false)
      none-false true = refl
      none-false false = refl

      go : (w : List Start) → One w → ltb (low (level r) w) (level r) ≡ some_of (λ s. lt_z (d_bm (k s)) (d_bm r)) w
      go [] o = le-ltb (level r) (level r) (omega arith)
      go (s ∷ []) o = by (L s) (level r) ∙ sym (below-levels (k s) r) ∙ none-false (lt_z (d_bm (k s)) (d_bm r))
      go (s ∷ t ∷ w) o = absurd o

  -- and where one is, which pair keeps it
  least-is : (r : ℕ) (l : List Start) → some_of (λ s. lt_z (d_bm (k s)) (d_bm r)) (weakest k l) ≡ true
      → All (λ s. L s ≡ level (least r (map v l))) (weakest k l)
  unfolding some_of pick
  least-is r l e = rw (least-low r l) (go (weakest k l) (weakest-one k l) e)
    where
      or-false : (b : Bool) → (b || false) ≡ true → b ≡ true
      or-false true q = refl
      or-false false q = q

      go : (w : List Start) → One w → some_of (λ s. lt_z (d_bm (k s)) (d_bm r)) w ≡ true
          → All (λ s. L s ≡ low (level r) w) w
      go [] o q = tt
      go (s ∷ []) o q = (rw (sym (below-levels (k s) r) ∙ or-false (lt_z (d_bm (k s)) (d_bm r)) q), tt)
      go (s ∷ t ∷ w) o q = absurd o

  keeps-is : (c : ℕ) (s : Start) → keeps c (v s) ≡ eqb (L s) (level c)
  keeps-is c s = keeps-level c (v s) ∙ rw (same s)

  first-is : (c : ℕ) (l : List Start) → All (λ s. L s ≡ level c) (weakest k l)
      → first_keeping c (map v l) ≡ map v (weakest k l)
  unfolding first_keeping weakest weaker pick
  first-is c [] a = refl
  first-is c (s ∷ l) a = rw (keeps-is c s) (go (weakest k l) a (first-is c l))
    where
      own : L s ≡ level c → (x : List Pair) → pick (eqb (L s) (level c)) (v s ∷ []) x ≡ v s ∷ []
      own e x = rw (eq-eqb (L s) (level c) e)

      go : (w : List Start) → All (λ s. L s ≡ level c) (weaker k s w)
          → (All (λ s. L s ≡ level c) w → first_keeping c (map v l) ≡ map v w)
          → pick (eqb (L s) (level c)) (v s ∷ []) (first_keeping c (map v l)) ≡ map v (weaker k s w)
      go [] b ih = own b.0 (first_keeping c (map v l))
      go (t ∷ w) b ih = by (le_z (d_bm (k s)) (d_bm (k t))) refl b
        where
          by : (q : Bool) → le_z (d_bm (k s)) (d_bm (k t)) ≡ q → All (λ s. L s ≡ level c) (pick q (s ∷ []) (t ∷ w))
              → pick (eqb (L s) (level c)) (v s ∷ []) (first_keeping c (map v l)) ≡ map v (pick q (s ∷ []) (t ∷ w))
          by true e d = own d.0 (first_keeping c (map v l))
          by false e d =
              let h : L t < L s = leb-false (L s) (L t) (sym (most-levels (k s) (k t)) ∙ e) in
              let z : L t ≡ level c = d.0 in
              rw (ne_eqb (L s) (level c) (λ x. omega arith)) (ih d)

  -- and the pairs without it
  itself : (s : Start) → among s (s ∷ []) ≡ true
  unfolding among some_of same_start
  itself s = rw (eq-eqb s.number s.number refl, eq-eqb s.handle s.handle refl)

  others-stay : (s : Start) (l : List Start) → All (Apart s) l → keep (λ t. not (among t (s ∷ []))) l ≡ l
  unfolding among some_of
  others-stay s l a =
      keep_all (λ t. not (among t (s ∷ []))) l
      (all-weaken (Apart s) (λ t. not (among t (s ∷ [])) ≡ true) (λ t b. rw b.back) l a)

  own-rest : (c : ℕ) (s : Start) (l : List Start) (z : List Pair) → L s ≡ level c → All (Apart s) l
      → pick (eqb (L s) (level c)) (map v l) z ≡ map v (keep (λ t. not (among t (s ∷ []))) (s ∷ l))
  unfolding pick keep only
  own-rest c s l z e a = rw (eq-eqb (L s) (level c) e, itself s, others-stay s l a)

  other-rest : (c : ℕ) (s : Start) (l w : List Start) → (L s ≡ level c → ⊥) → All (Apart s) w
      → without c (map v l) ≡ map v (keep (λ t. not (among t w)) l)
      → pick (eqb (L s) (level c)) (map v l) (v s ∷ without c (map v l)) ≡ map v (keep (λ t. not (among t w)) (s ∷ l))
  unfolding pick keep only among
  other-rest c s l w n a ih =
      let b : some_of (same_start s) w ≡ false =
      some-none (same_start s) w (all-weaken (Apart s) (λ t. same_start s t ≡ false) (λ t q. q.forth) w a) in
      rw (ne_eqb (L s) (level c) n, b) (ap (λ (r : List Pair). v s ∷ r) ih)

  rest-is : (c : ℕ) (l : List Start) → Ordered Apart l → All (λ s. L s ≡ level c) (weakest k l)
      → without c (map v l) ≡ map v (keep (λ s. not (among s (weakest k l))) l)
  unfolding without weakest weaker pick keep
  rest-is c [] o a = refl
  rest-is c (s ∷ l) o a =
      rw (keeps-is c s) (go (weakest k l) (weakest-all (Apart s) k l o.0) a (λ b. rest-is c l o.1 b))
    where
      go : (w : List Start) → All (Apart s) w → All (λ s. L s ≡ level c) (weaker k s w)
          → (All (λ s. L s ≡ level c) w → without c (map v l) ≡ map v (keep (λ t. not (among t w)) l))
          → pick (eqb (L s) (level c)) (map v l) (v s ∷ without c (map v l))
          ≡ map v (keep (λ t. not (among t (weaker k s w))) (s ∷ l))
      go [] q b ih = own-rest c s l (v s ∷ without c (map v l)) b.0 o.0
      go (t ∷ w) q b ih = by (le_z (d_bm (k s)) (d_bm (k t))) refl b
        where
          by : (z : Bool) → le_z (d_bm (k s)) (d_bm (k t)) ≡ z → All (λ s. L s ≡ level c) (pick z (s ∷ []) (t ∷ w))
              → pick (eqb (L s) (level c)) (map v l) (v s ∷ without c (map v l))
              ≡ map v (keep (λ x. not (among x (pick z (s ∷ []) (t ∷ w)))) (s ∷ l))
          by true e d = own-rest c s l (v s ∷ without c (map v l)) d.0 o.0
          by false e d =
              let h : L t < L s = leb-false (L s) (L t) (sym (most-levels (k s) (k t)) ∙ e) in
              let z : L t ≡ level c = d.0 in
              other-rest c s l (t ∷ w) (λ x. omega arith) q (ih d)

  -- where a start is above the smallest kept, the pair that goes for it and those that stay
  module _ (r : ℕ) (l : List Start) (o : Ordered Apart l)
      (e : some_of (λ s. lt_z (d_bm (k s)) (d_bm r)) (weakest k l) ≡ true) where
    pub goes-is : first_keeping (least r (map v l)) (map v l) ≡ map v (weakest k l)
    goes-is = first-is (least r (map v l)) l (least-is r l e)

    pub stays-is : without (least r (map v l)) (map v l) ≡ map v (keep (λ s. not (among s (weakest k l))) l)
    stays-is = rest-is (least r (map v l)) l o (least-is r l e)
