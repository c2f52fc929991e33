-- The pair that goes for a start where the table is full, and those that stay. Document 02, T-05. Assumes nothing.
use Rattle.std.specs.Prelude.{ℕ, suc, ◌+◌, ◌≤◌, ◌<◌, ◌≡◌, refl, Bool, true, false, ◌&&◌, ◌||◌, List, [], ◌∷◌, ◌++◌, map, leb, ltb, eqb, length}
use Rattle.std.proofs.Common.{arith, sym, ap, ◌∙◌, inl, inr, ltb-true, le-leb, eq-eqb, ne_eqb}
use Rattle.std.specs.Int.Signed.{lt_z}
use Rattle.std.proofs.lemmas.Bool.{lt-leb}
use Rattle.laws.specs.Tests.{pick}
use Rattle.laws.specs.TestsLaws.{cases-le}
use Rattle.rule.specs.Base.{In, All, Distinct}
use Rattle.model.specs.Types.{Pair}
use Rattle.model.specs.Level.{level, d_bm}
use Rattle.model.proofs.LevelsLaws.{below-levels, most-levels}
use Rattle.model.specs.Watch.{smaller, least, keeps, first_keeping, without, has_room, fits, goes_for, stays_for}
use Rattle.steps.specs.WholeLaws.{key}
use Rattle.model.specs.Layout.{most_pairs}

-- a pair keeps an RSSI where the levels are equal
pub keeps-level : (k : ℕ) (q : Pair) → keeps k q ≡ eqb (level q.kept) (level k)
unfolding keeps
keeps-level k q = rw (most-levels q.kept k, most-levels k q.kept) (go (level q.kept) (level k))
  where
    go : (a b : ℕ) → (leb a b && leb b a) ≡ eqb a b
    go a b =
        cases-le a b
        (λ h. cases-le b a (λ i. rw (le-leb a b h, le-leb b a i) (sym (eq-eqb a b (omega arith))))
        (λ i. rw (le-leb a b h, lt-leb b a i) (sym (ne_eqb a b (λ e. omega arith)))))
        (λ h. rw (lt-leb a b h) (sym (ne_eqb a b (λ e. omega arith))))

-- what holds of all pairs holds of the one that goes and of those that stay
pub first-all : (P : Pair → Type 0) (k : ℕ) (qs : List Pair) → All P qs → All P (first_keeping k qs)
unfolding first_keeping pick
first-all P k [] a = tt
first-all P k (q ∷ qs) a = go (keeps k q) (first-all P k qs a.1)
  where
    go : (t : Bool) → All P (first_keeping k qs) → All P (pick t (q ∷ []) (first_keeping k qs))
    go true b = (a.0, tt)
    go false b = b

pub without_all : (P : Pair → Type 0) (k : ℕ) (qs : List Pair) → All P qs → All P (without k qs)
unfolding without pick
without_all P k [] a = tt
without_all P k (q ∷ qs) a = go (keeps k q) (without_all P k qs a.1)
  where
    go : (t : Bool) → All P (without k qs) → All P (pick t qs (q ∷ without k qs))
    go true b = a.1
    go false b = (a.0, b)

-- at most one goes
pub first-few : (k : ℕ) (qs : List Pair) → length (first_keeping k qs) ≤ 1
unfolding first_keeping pick
first-few k [] = omega arith
first-few k (q ∷ qs) = go (keeps k q) (first-few k qs)
  where
    go : (t : Bool) → length (first_keeping k qs) ≤ 1 → length (pick t (q ∷ []) (first_keeping k qs)) ≤ 1
    go true b = omega arith
    go false b = b

-- those that stay stay distinct
pub without_in : (k : ℕ) (qs : List Pair) (x : ℕ × List ℕ) → In x (map key (without k qs)) → In x (map key qs)
unfolding without pick
without_in k [] x i = i
without_in k (q ∷ qs) x i = go (keeps k q) (λ j. without_in k qs x j) i
  where
    go : (t : Bool) → (In x (map key (without k qs)) → In x (map key qs))
        → In x (map key (pick t qs (q ∷ without k qs))) → In x (map key (q ∷ qs))
    go true f j = inr j
    go false f (inl e) = inl e
    go false f (inr j) = inr (f j)

pub without-once : (k : ℕ) (qs : List Pair) → Distinct (map key qs) → Distinct (map key (without k qs))
unfolding without pick
without-once k [] d = tt
without-once k (q ∷ qs) d = go (keeps k q) (without-once k qs d.1)
  where
    go : (t : Bool) → Distinct (map key (without k qs)) → Distinct (map key (pick t qs (q ∷ without k qs)))
    go true b = d.1
    go false b = (λ i. d.0 (without_in k qs (key q) i), b)

-- of several pairs one keeps the smallest RSSI, and goes
pub least-goes : (r : ℕ) (qs : List Pair) → lt_z (d_bm (least r qs)) (d_bm r) ≡ true
    → length (without (least r qs) qs) + 1 ≡ length qs
unfolding least smaller pick without
least-goes r [] h = let n : level r < level r =
    ltb-true (level r) (level r) (sym (below-levels r r) ∙ h) in absurd (omega arith)
least-goes r (q ∷ qs) h = go (lt_z (d_bm q.kept) (d_bm (least r qs))) h (λ l. least-goes r qs l)
  where
    gone : length (without q.kept (q ∷ qs)) + 1 ≡ suc (length qs)
    gone = rw (keeps-level q.kept q ∙ eq-eqb (level q.kept) (level q.kept) refl) (omega arith)

    later : (k : ℕ) (t : Bool) → length (without k qs) + 1 ≡ length qs
        → length (pick t qs (q ∷ without k qs)) + 1 ≡ suc (length qs)
    later k true ih = omega arith
    later k false ih = omega arith

    go : (t : Bool) → lt_z (d_bm (pick t q.kept (least r qs))) (d_bm r) ≡ true
        → (lt_z (d_bm (least r qs)) (d_bm r) ≡ true → length (without (least r qs) qs) + 1 ≡ length qs)
        → length (without (pick t q.kept (least r qs)) (q ∷ qs)) + 1 ≡ suc (length qs)
    go true l ih = gone
    go false l ih = later (least r qs) (keeps (least r qs) q) (ih l)

-- a start finds room: the pairs that stay are fewer than 64
pub stays-fewer : (r : ℕ) (qs : List Pair) → length qs ≤ most_pairs → fits r qs ≡ true
    → length (stays_for r qs) < most_pairs
unfolding fits stays_for has_room pick
stays-fewer r qs h e = go (ltb (length qs) most_pairs) refl e
  where
    go : (t : Bool) → ltb (length qs) most_pairs ≡ t → (t || lt_z (d_bm (least r qs)) (d_bm r)) ≡ true
        → length (pick t qs (without (least r qs) qs)) < most_pairs
    go true f u = ltb-true (length qs) most_pairs f
    go false f u = let n = least-goes r qs u in omega arith

pub stays_all : (P : Pair → Type 0) (r : ℕ) (qs : List Pair) → All P qs → All P (stays_for r qs)
unfolding stays_for pick
stays_all P r qs a = go (has_room qs)
  where
    go : (t : Bool) → All P (pick t qs (without (least r qs) qs))
    go true = a
    go false = without_all P (least r qs) qs a

pub stays-once : (r : ℕ) (qs : List Pair) → Distinct (map key qs) → Distinct (map key (stays_for r qs))
unfolding stays_for pick
stays-once r qs d = go (has_room qs)
  where
    go : (t : Bool) → Distinct (map key (pick t qs (without (least r qs) qs)))
    go true = d
    go false = without-once (least r qs) qs d

pub stays-in : (r : ℕ) (qs : List Pair) (x : ℕ × List ℕ) → In x (map key (stays_for r qs)) → In x (map key qs)
unfolding stays_for pick
stays-in r qs x = go (has_room qs)
  where
    go : (t : Bool) → In x (map key (pick t qs (without (least r qs) qs))) → In x (map key qs)
    go true i = i
    go false i = without_in (least r qs) qs x i

pub goes-all : (P : Pair → Type 0) (r : ℕ) (qs : List Pair) → All P qs → All P (goes_for r qs)
unfolding goes_for pick
goes-all P r qs a = go (has_room qs)
  where
    go : (t : Bool) → All P (pick t [] (first_keeping (least r qs) qs))
    go true = tt
    go false = first-all P (least r qs) qs a

pub goes-few : (r : ℕ) (qs : List Pair) → length (goes_for r qs) ≤ 1
unfolding goes_for pick
goes-few r qs = go (has_room qs)
  where
    go : (t : Bool) → length (pick t [] (first_keeping (least r qs) qs)) ≤ 1
    go true = omega arith
    go false = first-few (least r qs) qs
