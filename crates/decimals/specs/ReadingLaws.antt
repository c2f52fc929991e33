-- A word read as a number. Assumes nothing.
use Rattle.std.specs.Prelude.{ℕ, ◌+◌, ◌-◌, ◌*◌, ◌≤◌, ◌<◌, ◌≡◌, refl, Bool, true, false, ◌&&◌, List, [], ◌∷◌, leb, length, drop, get_or, Some, None}
use Rattle.std.proofs.Common.{sym, ap, ◌∙◌, subst, arith, le-leb, leb-true, leb-false, drop_of_length-le, drop-cons, add-one}
use Rattle.std.proofs.lemmas.Bool.{false≢true, lt-leb}
use Rattle.laws.specs.Tests.{pick}
use Rattle.laws.specs.TestsLaws.{pick_true, pick-false, and_left, and_right, and_both, and-not-left, and-not-right}
use Rattle.laws.specs.Loops.{every}
use Rattle.decimals.specs.Decimals.{last, top, is_digit, value_from, is_number, number_of, grown, grown_from, number_from}

-- a digit more
pub grown-low : (v c : ℕ) → c < 48 → top ≡ grown v c
unfolding grown is_digit
grown-low v c h =
    sym (pick-false (v * 10 + (c - 48)) top
    (and-not-left (is_digit c) (leb v last) (and-not-left (leb 48 c) (leb c 57) (lt-leb 48 c h))))

pub grown-high : (v c : ℕ) → 57 < c → top ≡ grown v c
unfolding grown is_digit
grown-high v c h =
    sym (pick-false (v * 10 + (c - 48)) top
    (and-not-left (is_digit c) (leb v last) (and-not-right (leb 48 c) (leb c 57) (lt-leb c 57 h))))

pub grown-far : (v c : ℕ) → last < v → top ≡ grown v c
unfolding grown
grown-far v c h = sym (pick-false (v * 10 + (c - 48)) top (and-not-right (is_digit c) (leb v last) (lt-leb v last h)))

pub grown-on : (v c : ℕ) → 48 ≤ c → c ≤ 57 → v ≤ last → v * 10 + (c - 48) ≡ grown v c
unfolding grown is_digit
grown-on v c a b h =
    sym (pick_true (v * 10 + (c - 48)) top (and_both (and_both (le-leb 48 c a) (le-leb c 57 b)) (le-leb v last h)))

-- a value above the greatest number stays above it
far : (v : ℕ) (cs : List ℕ) → last < v → last < grown_from v cs
unfolding grown_from
far v [] h = h
far v (c ∷ cs) h = far (grown v c) cs (subst (λ (x : ℕ). last < x) (grown-far v c h) (omega arith))

-- digits make a value greater
greater : (v : ℕ) (cs : List ℕ) → v ≤ value_from v cs
unfolding value_from
greater v [] = omega arith
greater v (c ∷ cs) = omega (arith, greater (v * 10 + (c - 48)) cs)

-- the loop's value and the word's
read-so : (v : ℕ) (cs : List ℕ) (b : Bool) → (every is_digit cs && leb (value_from v cs) last) ≡ b
    → (b ≡ true → grown_from v cs ≡ value_from v cs) × (b ≡ false → last < grown_from v cs)
unfolding every value_from grown_from grown
read-so v [] b e = (λ t. refl, λ f. leb-false v last (e ∙ f))
read-so v (c ∷ cs) b e = go (is_digit c) (leb v last) refl refl (read-so (v * 10 + (c - 48)) cs b)
  where
    w : ℕ
    w = v * 10 + (c - 48)

    go : (d l : Bool) → is_digit c ≡ d → leb v last ≡ l
        → ((every is_digit cs && leb (value_from w cs) last) ≡ b → (b ≡ true → grown_from w cs ≡ value_from w cs)
        × (b ≡ false → last < grown_from w cs))
        → (b ≡ true → grown_from (grown v c) cs ≡ value_from w cs) × (b ≡ false → last < grown_from (grown v c) cs)
    go true true p q r =
        let g : grown v c ≡ w = pick_true w top (and_both p q) in
        rw g (r (sym (ap (λ (d : Bool). (d && every is_digit cs) && leb (value_from w cs) last) p) ∙ e))
    go false l p q r =
        let g : grown v c ≡ top = pick-false w top (and-not-left (is_digit c) (leb v last) p) in (
          λ t. absurd (false≢true
              (sym p ∙ and_left (is_digit c) (every is_digit cs)
              (and_left (is_digit c && every is_digit cs) (leb (value_from w cs) last) (e ∙ t)))),
          λ f. rw g
              (far top cs (omega arith)),
        )
    go true false p q r =
        let g : grown v c ≡ top = pick-false w top (and-not-right (is_digit c) (leb v last) q) in (
          λ t. absurd (omega (
            arith,
            leb-true (value_from w cs) last
                (and_right (is_digit c && every is_digit cs) (leb (value_from w cs) last) (e ∙ t)),
            leb-false v last q,
            greater w cs,
          )),
          λ f. rw g (far top cs (omega arith)),
        )

-- The number of a word by the loop's value.
pub read_number : (word : List ℕ) → 0 < length word → number_from (grown_from 0 word) ≡ number_of word
unfolding number_from number_of is_number
read_number word h = go (every is_digit word && leb (value_from 0 word) last) refl
  where
    go : (b : Bool) → (every is_digit word && leb (value_from 0 word) last) ≡ b
        → pick (leb (grown_from 0 word) last) (Some (grown_from 0 word)) None
        ≡ pick (leb 1 (length word) && (every is_digit word && leb (value_from 0 word) last))
        (Some (value_from 0 word)) None
    go true e =
        let v : grown_from 0 word ≡ value_from 0 word = (read-so 0 word true e).0 refl in
        let t : leb (value_from 0 word) last ≡ true = and_right (every is_digit word) (leb (value_from 0 word) last) e in
        ap (λ (n : ℕ). pick (leb n last) (Some n) None) v ∙ pick_true (Some (value_from 0 word)) None t
        ∙ sym (pick_true (Some (value_from 0 word)) None (and_both (le-leb 1 (length word) (omega arith)) e))
    go false e =
        let f : last < grown_from 0 word = (read-so 0 word false e).1 refl in
        pick-false (Some (grown_from 0 word)) None (lt-leb (grown_from 0 word) last f)
        ∙ sym (pick-false (Some (value_from 0 word)) None
        (and-not-right (leb 1 (length word)) (every is_digit word && leb (value_from 0 word) last) e))

pub read-empty : (word : List ℕ) → length word ≡ 0 → None ≡ number_of word
unfolding number_of is_number
read-empty word h =
    sym (pick-false (Some (value_from 0 word)) None
    (and-not-left (leb 1 (length word)) (every is_digit word && leb (value_from 0 word) last)
    (lt-leb 1 (length word) (omega arith))))

-- the number by a value
pub number-far : (v : ℕ) → last < v → None ≡ number_from v
unfolding number_from
number-far v h = sym (pick-false (Some v) None (lt-leb v last h))

pub number_is : (v w : ℕ) → v ≤ last → w ≡ v → Some w ≡ number_from v
unfolding number_from
number_is v w h e = ap Some e ∙ sym (pick_true (Some v) None (le-leb v last h))

-- the loop over a word
pub value_on : (word : List ℕ) (i v r : ℕ) → i < length word → grown_from v (drop i word) ≡ grown_from 0 word
    → r ≡ grown v (get_or word i 0)
    → grown_from r (drop (i + 1) word) ≡ grown_from 0 word
unfolding grown_from
value_on word i v r h e q =
    rw (add-one i, q) (sym (ap (λ (l : List ℕ). grown_from v l) (drop-cons word i 0 h)) ∙ e)

pub value-end : (word : List ℕ) (i v : ℕ) → length word ≤ i → grown_from v (drop i word) ≡ grown_from 0 word
    → v ≡ grown_from 0 word
unfolding grown_from
value-end word i v h e = sym (ap (λ (l : List ℕ). grown_from v l) (drop_of_length-le word {i = i} h)) ∙ e
