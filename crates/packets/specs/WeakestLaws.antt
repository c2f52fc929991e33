-- Laws of the definitions in Weakest.
use Rattle.std.specs.Prelude.{◌≡◌, ℕ, zero, suc, ◌+◌, ◌<◌, ◌≤◌, Bool, true, false, List, [], ◌∷◌, ◌++◌, length, get_or, take, drop, ◌≢◌, int_lt, nat_lt, slice_index_or, refl}
use Rattle.std.proofs.Common.{sym, ap, ◌∙◌, arith, add-one, ltb-true, ltb-false, eq-eqb, ne_eqb}
use Rattle.laws.specs.Tests.{pick}
use Rattle.laws.specs.TestsLaws.{cases-le}
use Rattle.model.specs.Types.{Pair}
use Rattle.model.specs.Level.{level, d_bm}
use Rattle.model.proofs.LevelsLaws.{below-levels}
use Rattle.model.specs.Watch.{smaller, least, first_keeping, without}
use Rattle.steps.proofs.DropsLaws.{keeps-level}
use Rattle.packets.specs.Writes.{no_pair}
use Rattle.packets.specs.Weakest.{level_at, weakest_below}

-- a turn of the loop
pub weakest-turn : (s : List ℕ) (n : ℕ) {b r : ℕ} → b ≡ weakest_below s n
    → r ≡ pick (nat_lt (level_at s n) (level_at s b)) n b
    → r ≡ weakest_below s (n + 1)
unfolding weakest_below
weakest-turn s n {b} {r} e q =
    q ∙ ap (λ (k : ℕ). pick (nat_lt (level_at s n) (level_at s k)) n k) e ∙ sym (ap (weakest_below s) (add-one n))

pub weaker-turn : (s : List ℕ) (n i : ℕ) {kept low j k : ℕ} → kept ≡ level_at s n → low ≡ level_at s i
    → i ≡ weakest_below s n
    → j ≡ pick (nat_lt kept low) n i → k ≡ pick (nat_lt kept low) kept low → (j ≡ weakest_below s (n + 1)) × (k ≡ level_at s j)
unfolding pick
weaker-turn s n i {kept} {low} {j} {k} a b e q r =
    (weakest-turn s n e (rw (← a, ← b) q), go (nat_lt kept low) q r)
  where
    go : (t : Bool) → j ≡ pick t n i → k ≡ pick t kept low → k ≡ level_at s j
    go true x y = y ∙ a ∙ ap (level_at s) (sym x)
    go false x y = y ∙ b ∙ ap (level_at s) (sym x)

-- it keeps no more than any, and less than those before it
pub record Weakest (f : ℕ → ℕ) (n i : ℕ) : Type 0 where
  pub most : (j : ℕ) → j < n → f i ≤ f j
  pub first : (j : ℕ) → j < i → f i < f j

pub weakest-is : (s : List ℕ) (n : ℕ) → Weakest (level_at s) n (weakest_below s n)
unfolding weakest_below pick
weakest-is s zero = record { most = λ j h. absurd (omega arith); first = λ j h. absurd (omega arith) }
weakest-is s (suc n) = go (nat_lt (f n) (f w)) refl (weakest-is s n)
  where
    f : ℕ → ℕ
    f = level_at s

    w : ℕ
    w = weakest_below s n

    go : (t : Bool) → nat_lt (level_at s n) (level_at s (weakest_below s n)) ≡ t → Weakest (level_at s) n (weakest_below s n)
        → Weakest (level_at s) (suc n) (pick t n (weakest_below s n))
    go true e x =
        let h : level_at s n < level_at s (weakest_below s n) = ltb-true (level_at s n) (level_at s (weakest_below s n)) e in
        record {
          most = λ j b. cases-le n j (λ u. let i : j ≡ n = omega arith in rw i (omega arith))
              (λ u. omega (arith, h, x.most j u));
          first = λ j b. omega (arith, h, x.most j b);
        }
    go false e x =
        let h : level_at s (weakest_below s n) ≤ level_at s n = ltb-false (level_at s n)
        (level_at s (weakest_below s n)) e in
        record {
          most = λ j b. cases-le n j (λ u. let i : j ≡ n = omega arith in rw i h) (λ u. x.most j u);
          first = x.first;
        }

pub weakest-low : (s : List ℕ) (n : ℕ) → weakest_below s (suc n) ≤ n
unfolding weakest_below pick
weakest-low s zero = go (nat_lt (level_at s 0) (level_at s 0))
  where
    go : (t : Bool) → pick t 0 0 ≤ 0
    go true = omega arith
    go false = omega arith
weakest-low s (suc n) = go (nat_lt (level_at s (suc n)) (level_at s (weakest_below s (suc n)))) (weakest-low s n)
  where
    go : (t : Bool) → weakest_below s (suc n) ≤ n → pick t (suc n) (weakest_below s (suc n)) ≤ suc n
    go true h = omega arith
    go false h = omega arith

-- the level that pair j of a list keeps
unfoldable pub level_in : List Pair → ℕ → ℕ
level_in qs j = level (get_or qs j no_pair).kept

pub smaller-low : (k a b : ℕ) → k ≤ level a → k ≤ level b → k ≤ level (smaller a b)
unfolding smaller pick
smaller-low k a b x y = go (int_lt (d_bm a) (d_bm b))
  where
    go : (t : Bool) → k ≤ level (pick t a b)
    go true = x
    go false = y

least-low : (k r : ℕ) (qs : List Pair) → k ≤ level r → ((j : ℕ) → j < length qs → k ≤ level_in qs j)
    → k ≤ level (least r qs)
unfolding least level_in
least-low k r [] h f = h
least-low k r (q ∷ qs) h f =
    smaller-low k q.kept (least r qs) (f 0 (omega arith)) (least-low k r qs h (λ j b. f (suc j) (omega arith)))

smaller-left : (a b : ℕ) → level (smaller a b) ≤ level a
unfolding smaller pick
smaller-left a b = rw (below-levels a b) (go (nat_lt (level a) (level b)) refl)
  where
    go : (t : Bool) → nat_lt (level a) (level b) ≡ t → level (pick t a b) ≤ level a
    go true e = omega arith
    go false e = ltb-false (level a) (level b) e

smaller-right : (a b : ℕ) → level (smaller a b) ≤ level b
unfolding smaller pick
smaller-right a b = rw (below-levels a b) (go (nat_lt (level a) (level b)) refl)
  where
    go : (t : Bool) → nat_lt (level a) (level b) ≡ t → level (pick t a b) ≤ level b
    go true e = let h : level a < level b = ltb-true (level a) (level b) e in omega arith
    go false e = omega arith

least_at : (r : ℕ) (qs : List Pair) (i : ℕ) → i < length qs → level (least r qs) ≤ level_in qs i
unfolding least level_in
least_at r [] i h = absurd (omega arith)
least_at r (q ∷ qs) zero h = smaller-left q.kept (least r qs)
least_at r (q ∷ qs) (suc i) h =
    omega (arith, smaller-right q.kept (least r qs), least_at r qs i (omega arith))

module _ (qs : List Pair) (i : ℕ) (b : i < length qs) (w : Weakest (level_in qs) (length qs) i) where
  -- the smallest level kept, where it is below r's; and where none is
  pub least-is : (r : ℕ) → level_in qs i < level r → level (least r qs) ≡ level_in qs i
  least-is r h = omega (arith, least_at r qs i b, least-low (level_in qs i) r qs (omega arith) w.most)

  pub least-none : (r : ℕ) → level r ≤ level_in qs i → level r ≤ level (least r qs)
  least-none r h = least-low (level r) r qs (omega arith) (λ j k. omega (arith, w.most j k))

-- the first that keeps an RSSI goes, and the others stay
first-at : (k : ℕ) (qs : List Pair) (i : ℕ) → i < length qs → level_in qs i ≡ level k
    → ((j : ℕ) → j < i → level_in qs j ≢ level k)
    → (first_keeping k qs ≡ slice_index_or qs i no_pair ∷ []) × (without k qs ≡ take i qs ++ drop (suc i) qs)
unfolding first_keeping without level_in pick
first-at k [] i h e n = absurd (omega arith)
first-at k (q ∷ qs) zero h e n = rw (keeps-level k q ∙ eq-eqb (level q.kept) (level k) e) (refl, refl)
first-at k (q ∷ qs) (suc i) h e n =
    let r = first-at k qs i (omega arith) e (λ j b. n (suc j) (omega arith)) in
    rw (keeps-level k q ∙ ne_eqb (level q.kept) (level k) (n 0 (omega arith)))
    (r.0, ap (λ (l : List Pair). q ∷ l) r.1)

module _ (qs : List Pair) (i : ℕ) (b : i < length qs) (w : Weakest (level_in qs) (length qs) i) (k : ℕ)
    (e : level k ≡ level_in qs i) where
  pub goes-is : first_keeping k qs ≡ slice_index_or qs i no_pair ∷ []
  goes-is = (first-at k qs i b (sym e) (λ j h f. let l = w.first j h in omega arith)).0

  pub stays-is : without k qs ≡ take i qs ++ drop (i + 1) qs
  stays-is =
      (first-at k qs i b (sym e) (λ j h f. let l = w.first j h in omega arith)).1
      ∙ ap (λ (j : ℕ). take i qs ++ drop j qs) (sym (add-one i))
