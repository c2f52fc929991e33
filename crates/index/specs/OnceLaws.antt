-- Laws of the definitions in Once.
use Rattle.std.specs.Prelude.{ℕ, ◌≤◌, ◌<◌, ◌≡◌, refl, Bool, true, false, ◌&&◌, ◌||◌, not, List, [], ◌∷◌, ◌++◌, eqb}
use Rattle.std.proofs.Common.{sym, ap, ◌∙◌}
use Rattle.std.proofs.lemmas.Bool.{false≢true}
use borrow.Author.Tests.{eqb-true, eq-eqb, lt-ltb}
use Rattle.laws.specs.Tests.{sames}
use Rattle.laws.specs.TestsLaws.{sames-eq, eq-sames, and_left, and_right, and_both, and-not-left, and-not-right}
use Rattle.laws.specs.Loops.{every, some}
use Rattle.laws.specs.LoopsLaws.{every_append}
use Rattle.model.specs.Types.{Pair, watched}
use Rattle.model.specs.Watch.{is_pair, holds}
use Rattle.model.specs.Sound.{apart}
use Rattle.model.specs.Layout.{most_monitors}
use Rattle.index.specs.Once.{is_low, once}

-- one pair, from either side
turned : (p q : Pair) → is_pair q.handle (watched q) p ≡ true → is_pair p.handle (watched p) q ≡ true
unfolding is_pair
turned p q e =
    let a = eqb p.handle q.handle in
    let b = sames (watched p) (watched q) in
    and_both (eq-eqb q.handle p.handle (sym (eqb-true p.handle q.handle (and_left a b e))))
    (eq-sames (watched q) (watched p) (sym (sames-eq (watched p) (watched q) (and_right a b e))))

holds-snoc : (l : List Pair) (q : Pair) (m : List Pair) (h : ℕ) (d : List ℕ) → is_pair h d q ≡ true
    → holds (l ++ (q ∷ m)) h d ≡ true
unfolding holds some
holds-snoc [] q m h d e = ap (λ (b : Bool). b || some (is_pair h d) m) e
holds-snoc (p ∷ l) q m h d e = go (is_pair h d p) (holds-snoc l q m h d e)
  where
    go : (b : Bool) → some (is_pair h d) (l ++ (q ∷ m)) ≡ true → (b || some (is_pair h d) (l ++ (q ∷ m))) ≡ true
    go true i = refl
    go false i = i

holds_not : (l : List Pair) (q : Pair) (h : ℕ) (d : List ℕ) → holds l h d ≡ false → is_pair h d q ≡ false
    → holds (l ++ (q ∷ [])) h d ≡ false
unfolding holds some
holds_not [] q h d a b = ap (λ (x : Bool). x || false) b
holds_not (p ∷ l) q h d a b = go (is_pair h d p) a (λ c. holds_not l q h d c b)
  where
    go : (x : Bool) → (x || some (is_pair h d) l) ≡ false
        → (some (is_pair h d) l ≡ false → some (is_pair h d) (l ++ (q ∷ [])) ≡ false)
        → (x || some (is_pair h d) (l ++ (q ∷ []))) ≡ false
    go true c f = c
    go false c f = f c

-- a pair that was held before
apart-clash : (l : List Pair) (q : Pair) (m : List Pair) → holds l q.handle (watched q) ≡ true
    → apart (l ++ (q ∷ m)) ≡ false
unfolding holds some apart
apart-clash [] q m e = absurd (false≢true e)
apart-clash (p ∷ l) q m e = go (is_pair q.handle (watched q) p) refl e (λ c. apart-clash l q m c)
  where
    go : (b : Bool) → is_pair q.handle (watched q) p ≡ b → (b || some (is_pair q.handle (watched q)) l) ≡ true
        → (some (is_pair q.handle (watched q)) l ≡ true → apart (l ++ (q ∷ m)) ≡ false)
        → (not (holds (l ++ (q ∷ m)) p.handle (watched p)) && apart (l ++ (q ∷ m))) ≡ false
    go true u c f =
        and-not-left (not (holds (l ++ (q ∷ m)) p.handle (watched p))) (apart (l ++ (q ∷ m)))
        (ap not (holds-snoc l q m p.handle (watched p) (turned p q u)))
    go false u c f = and-not-right (not (holds (l ++ (q ∷ m)) p.handle (watched p))) (apart (l ++ (q ∷ m))) (f c)

-- one that was not
apart_more : (l : List Pair) (q : Pair) → apart l ≡ true → holds l q.handle (watched q) ≡ false
    → apart (l ++ (q ∷ [])) ≡ true
unfolding holds some apart
apart_more [] q a n = refl
apart_more (p ∷ l) q a n =
    go (is_pair q.handle (watched q) p) refl n
    (λ c. apart_more l q (and_right (not (holds l p.handle (watched p))) (apart l) a) c)
  where
    alone : (b : Bool) → holds l p.handle (watched p) ≡ b → not b ≡ true → b ≡ false
    alone true u c = sym c
    alone false u c = refl

    back : (b : Bool) → is_pair p.handle (watched p) q ≡ b → is_pair q.handle (watched q) p ≡ false → b ≡ false
    back true u c = absurd (false≢true (sym c ∙ turned q p u))
    back false u c = refl

    go : (b : Bool) → is_pair q.handle (watched q) p ≡ b → (b || some (is_pair q.handle (watched q)) l) ≡ false
        → (some (is_pair q.handle (watched q)) l ≡ false → apart (l ++ (q ∷ [])) ≡ true)
        → (not (holds (l ++ (q ∷ [])) p.handle (watched p)) && apart (l ++ (q ∷ []))) ≡ true
    go true u c f = absurd (false≢true (sym c))
    go false u c f =
        and_both
        (ap not (holds_not l q p.handle (watched p)
        (alone (holds l p.handle (watched p)) refl (and_left (not (holds l p.handle (watched p))) (apart l) a))
        (back (is_pair p.handle (watched p) q) refl u)))
        (f c)

pub once-none : once [] ≡ true
unfolding once every apart
once-none = refl

pub once_more : (l : List Pair) (q : Pair) → once l ≡ true → q.handle < most_monitors
    → holds l q.handle (watched q) ≡ false
    → once (l ++ (q ∷ [])) ≡ true
unfolding once is_low every
once_more l q o h n =
    and_both
    (every_append is_low l (q ∷ [])
    ∙ and_both (and_left (every is_low l) (apart l) o) (and_both (lt-ltb q.handle most_monitors h) refl))
    (apart_more l q (and_right (every is_low l) (apart l) o) n)

pub once-held : (l : List Pair) (q : Pair) (m : List Pair) → holds l q.handle (watched q) ≡ true
    → once (l ++ (q ∷ m)) ≡ false
unfolding once
once-held l q m e = and-not-right (every is_low (l ++ (q ∷ m))) (apart (l ++ (q ∷ m))) (apart-clash l q m e)

pub once-high : (l : List Pair) (q : Pair) (m : List Pair) → most_monitors ≤ q.handle → once (l ++ (q ∷ m)) ≡ false
unfolding once is_low every
once-high l q m h =
    and-not-left (every is_low (l ++ (q ∷ m))) (apart (l ++ (q ∷ m)))
    (every_append is_low l (q ∷ m) ∙ and-not-right (every is_low l) (is_low q && every is_low m)
    (and-not-left (is_low q) (every is_low m) (borrow.Author.Tests.le-ltb q.handle most_monitors h)))
