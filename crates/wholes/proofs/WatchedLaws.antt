-- Laws of the definitions in Watched.
use Rattle.std.specs.Prelude.{ℕ, zero, suc, ◌+◌, ◌*◌, ◌/◌, ◌%◌, ◌^◌, ◌<◌, max, ◌≡◌, refl, ◌⊎◌, Bool, true, false, ◌&&◌, ◌||◌, List, [], ◌∷◌, ◌++◌, map, ltb, eqb}
use Rattle.std.proofs.Common.{sym, ap, ◌∙◌, subst, inl, inr, pow-suc, div-one, arith, ne_eqb, ltb-true, ltb-false}
use Rattle.std.proofs.lemmas.Bool.{false≢true}
use Rattle.std.proofs.Math.Nat.{div-div-eq-div-mul}
use Rattle.std.specs.Int.Bits.{bit_or, or_step, or_zero_l}
use Rattle.std.proofs.lemmas.Nat.{or_shr}
use Rattle.laws.specs.Tests.{pick, sames}
use Rattle.laws.specs.TestsLaws.{sames-eq, eq-sames, cases_eq, and_left, and_right}
use Rattle.laws.specs.Loops.{keep, only, some}
use Rattle.model.specs.Types.{Pair, watched}
use Rattle.model.specs.Watch.{is_pair, holds}
use Rattle.model.specs.Layout.{most_monitors}
use Rattle.wholes.specs.Index.{IndexEntry, bit_of, with_handle, noted, noted_all, index_of, handles_from, handles_of}
use Rattle.wholes.specs.Watched.{has_bit, mask_of}

-- numbers from one on
unfoldable pub from : ℕ → ℕ → List ℕ
from h zero = []
from h (suc k) = h ∷ from (h + 1) k

-- lists without what came before: the order of first occurrence
unfoldable pub first_in : List (List ℕ) → List ℕ → List (List ℕ)
first_in [] d = d ∷ []
first_in (e ∷ es) d = pick (sames e d) (e ∷ es) (e ∷ first_in es d)

unfoldable pub firsts : List (List ℕ) → List (List ℕ) → List (List ℕ)
firsts es [] = es
firsts es (d ∷ ds) = firsts (first_in es d) ds

-- the bits of what is joined
zero_one : (x : ℕ) → x < 2 → (x ≡ 0) ⊎ (x ≡ 1)
zero_one zero l = inl refl
zero_one (suc zero) l = inr refl
zero_one (suc (suc x)) l = absurd (omega arith)

odd-or : (a b : ℕ) → eqb (bit_or a b % 2) 1 ≡ (eqb (a % 2) 1 || eqb (b % 2) 1)
odd-or a b = go (zero_one (a % 2) (omega arith)) (zero_one (b % 2) (omega arith))
  where
    last : (x y c : ℕ) → a % 2 ≡ x → b % 2 ≡ y → max x y ≡ c → c < 2 → bit_or a b % 2 ≡ c
    last x y c p q e l =
        let s : bit_or a b ≡ bit_or (a / 2) (b / 2) * 2 + max x y = or_step a b ∙ rw (p, q) in
        let t : bit_or a b ≡ bit_or (a / 2) (b / 2) * 2 + c =
        s ∙ ap (λ (z : ℕ). bit_or (a / 2) (b / 2) * 2 + z) e in omega arith

    go : (a % 2 ≡ 0) ⊎ (a % 2 ≡ 1) → (b % 2 ≡ 0) ⊎ (b % 2 ≡ 1)
        → eqb (bit_or a b % 2) 1 ≡ (eqb (a % 2) 1 || eqb (b % 2) 1)
    go (inl p) (inl q) = rw (last 0 0 0 p q refl (omega arith), p, q)
    go (inl p) (inr q) = rw (last 0 1 1 p q refl (omega arith), p, q)
    go (inr p) (inl q) = rw (last 1 0 1 p q refl (omega arith), p)
    go (inr p) (inr q) = rw (last 1 1 1 p q refl (omega arith), p)

has-or : (h a b : ℕ) → has_bit h (bit_or a b) ≡ (has_bit h a || has_bit h b)
unfolding has_bit
has-or h a b = ap (λ (x : ℕ). eqb (x % 2) 1) (or_shr a b h) ∙ odd-or (a / 2 ^ h) (b / 2 ^ h)

-- a bit for each of sixteen handles, worked out for all of them
below : (ℕ → Bool) → ℕ → Bool
below f zero = true
below f (suc n) = f n && below f n

below_at : (f : ℕ → Bool) (n h : ℕ) → below f n ≡ true → h < n → f h ≡ true
unfolding below
below_at f zero h e l = absurd (omega arith)
below_at f (suc n) h e l = cases_eq h n (λ q. subst (λ (k : ℕ). f k ≡ true) (sym q) (and_left (f n) (below f n) e))
    (λ q. below_at f n h (and_right (f n) (below f n) e) (omega arith))

alike : Bool → Bool → Bool
alike true b = b
alike false true = false
alike false false = true

alike-eq : (a b : Bool) → alike a b ≡ true → a ≡ b
unfolding alike
alike-eq true b e = sym e
alike-eq false true e = absurd (false≢true e)
alike-eq false false e = refl

each-bit : below (λ h. below (λ j. alike (has_bit h (bit_of j)) (eqb j h)) most_monitors) most_monitors ≡ true
unfolding below alike has_bit bit_of pick
each-bit = refl

no_bits : below (λ h. alike (has_bit h 0) false) most_monitors ≡ true
unfolding below alike has_bit
no_bits = refl

no-bit : (h : ℕ) → h < most_monitors → has_bit h 0 ≡ false
no-bit h l = alike-eq (has_bit h 0) false (below_at (λ k. alike (has_bit k 0) false) most_monitors h no_bits l)

has-bit : (h j : ℕ) → h < most_monitors → has_bit h (bit_of j) ≡ eqb j h
unfolding bit_of has_bit pick
has-bit h j l = go (ltb j most_monitors) refl
  where
    go : (t : Bool) → ltb j most_monitors ≡ t → has_bit h (bit_of j) ≡ eqb j h
    go true e =
        alike-eq (has_bit h (bit_of j)) (eqb j h)
        (below_at (λ i. alike (has_bit h (bit_of i)) (eqb i h)) most_monitors j
        (below_at (λ k. below (λ i. alike (has_bit k (bit_of i)) (eqb i k)) most_monitors) most_monitors h each-bit l)
        (ltb-true j most_monitors e))
    go false e = rw e (no-bit h l ∙ sym (ne_eqb j h (λ q. let b = ltb-false j most_monitors e in omega arith)))

-- a pair noted: the mask of its device has its handle's bit too, the others are as they were
pub noted-mask : (d : List ℕ) (q : List ℕ) (h : ℕ) (es : List IndexEntry)
    → mask_of d (noted q h es) ≡ pick (sames q d) (bit_or (mask_of d es) (bit_of h)) (mask_of d es)
unfolding mask_of noted with_handle pick
noted-mask d q h [] = go (sames q d)
  where
    go : (t : Bool) → pick t (bit_of h) 0 ≡ pick t (bit_or 0 (bit_of h)) 0
    go true = sym (or_zero_l (bit_of h))
    go false = refl
noted-mask d q h (e ∷ es) =
    go (sames e.device q) (sames e.device d) (sames q d) refl refl refl (noted-mask d q h es)
  where
    same : sames e.device q ≡ true → sames e.device d ≡ sames q d
    same a = ap (λ (x : List ℕ). sames x d) (sames-eq e.device q a)

    apart : {A : Type 0} → sames e.device q ≡ false → sames e.device d ≡ true → sames q d ≡ true → A
    apart a b c = absurd (false≢true
        (sym a ∙ eq-sames e.device q (sames-eq e.device d b ∙ sym (sames-eq q d c))))

    go : (a b c : Bool) → sames e.device q ≡ a → sames e.device d ≡ b → sames q d ≡ c
        → mask_of d (noted q h es) ≡ pick (sames q d) (bit_or (mask_of d es) (bit_of h)) (mask_of d es)
        → mask_of d (pick a (with_handle h e ∷ es) (e ∷ noted q h es))
        ≡ pick c (bit_or (pick b e.mask (mask_of d es)) (bit_of h)) (pick b e.mask (mask_of d es))
    go true true true u v w i = rw v
    go true true false u v w i = absurd (false≢true (sym w ∙ sym (same u) ∙ v))
    go true false true u v w i = absurd (false≢true (sym v ∙ same u ∙ w))
    go true false false u v w i = rw v
    go false true true u v w i = apart u v w
    go false true false u v w i = rw v
    go false false true u v w i = rw v (i ∙ rw w)
    go false false false u v w i = rw v (i ∙ rw w)

-- so of all pairs: a bit where there was one, or where the pair is held
all-bits : (d : List ℕ) (h : ℕ) → h < most_monitors → (es : List IndexEntry) (qs : List Pair)
    → has_bit h (mask_of d (noted_all es qs)) ≡ (has_bit h (mask_of d es) || holds qs h d)
unfolding noted_all holds some is_pair pick
all-bits d h l es [] = or-false (has_bit h (mask_of d es))
  where
    or-false : (b : Bool) → b ≡ (b || false)
    or-false true = refl
    or-false false = refl
all-bits d h l es (q ∷ qs) =
    all-bits d h l (noted (watched q) q.handle es) qs
    ∙ ap (λ (k : ℕ). has_bit h k || holds qs h d) (noted-mask d (watched q) q.handle es)
    ∙ go (sames (watched q) d)
  where
    join : (a b c : Bool) → ((a || b) || c) ≡ (a || ((b && true) || c))
    join true b c = refl
    join false true c = refl
    join false false c = refl

    none : (a b c : Bool) → (a || c) ≡ (a || ((b && false) || c))
    none true b c = refl
    none false true c = refl
    none false false c = refl

    go : (t : Bool) → (has_bit h (pick t (bit_or (mask_of d es) (bit_of q.handle)) (mask_of d es)) || holds qs h d)
        ≡ (has_bit h (mask_of d es) || ((eqb q.handle h && t) || holds qs h d))
    go true =
        ap (λ (b : Bool). b || holds qs h d)
        (has-or h (mask_of d es) (bit_of q.handle)
        ∙ ap (λ (b : Bool). has_bit h (mask_of d es) || b) (has-bit h q.handle l))
        ∙ join (has_bit h (mask_of d es)) (eqb q.handle h) (holds qs h d)
    go false = none (has_bit h (mask_of d es)) (eqb q.handle h) (holds qs h d)

pub mask-holds : (d : List ℕ) (h : ℕ) → h < most_monitors → (qs : List Pair)
    → has_bit h (mask_of d (index_of qs)) ≡ holds qs h d
unfolding index_of mask_of
mask-holds d h l qs = all-bits d h l [] qs ∙ ap (λ (b : Bool). b || holds qs h d) (no-bit h l)

-- the handles of a mask are those whose bits it has, lowest first
handles-from : (k h n m : ℕ) → m ≡ n / 2 ^ h → handles_from k h m ≡ keep (λ i. has_bit i n) (from h k)
unfolding handles_from keep from only has_bit pick
handles-from zero h n m e = refl
handles-from (suc k) h n m e = go (eqb (m % 2) 1) refl (handles-from k (h + 1) n (m / 2) half)
  where
    half : m / 2 ≡ n / 2 ^ (h + 1)
    half = ap (λ (x : ℕ). x / 2) e ∙ div-div-eq-div-mul n (2 ^ h) 2
        ∙ ap (λ (x : ℕ). n / x) (sym (pow-suc 2 h) ∙ ap (λ (x : ℕ). 2 ^ x) (omega arith))

    go : (t : Bool) → eqb (m % 2) 1 ≡ t → handles_from k (h + 1) (m / 2) ≡ keep (λ i. has_bit i n) (from (h + 1) k)
        → pick t (h ∷ handles_from k (h + 1) (m / 2)) (handles_from k (h + 1) (m / 2)) ≡ only (eqb (n / 2 ^ h % 2) 1) h
        ++ keep (λ i. has_bit i n) (from (h + 1) k)
    go t q i = ap (λ (b : Bool). pick b (h ∷ handles_from k (h + 1) (m / 2)) (handles_from k (h + 1) (m / 2))) (sym q)
        ∙ shown (eqb (m % 2) 1) (eqb (n / 2 ^ h % 2) 1) (ap (λ (x : ℕ). eqb (x % 2) 1) e) i
      where
        shown : (a b : Bool) → a ≡ b → handles_from k (h + 1) (m / 2) ≡ keep (λ i. has_bit i n) (from (h + 1) k)
            → pick a (h ∷ handles_from k (h + 1) (m / 2)) (handles_from k (h + 1) (m / 2)) ≡ only b h
            ++ keep (λ i. has_bit i n) (from (h + 1) k)
        shown true true p j = ap (λ (l : List ℕ). h ∷ l) j
        shown false false p j = j
        shown true false p j = absurd (false≢true (sym p))
        shown false true p j = absurd (false≢true p)

keep-alike : (f g : ℕ → Bool) (h k : ℕ) → ((i : ℕ) → i < h + k → f i ≡ g i) → keep f (from h k) ≡ keep g (from h k)
unfolding keep from only
keep-alike f g h zero e = refl
keep-alike f g h (suc k) e = rw (e h (omega arith), keep-alike f g (h + 1) k (λ i l. e i (omega arith)))

-- asked of the index of some pairs: the handles that hold the device
pub handles-held : (d : List ℕ) (qs : List Pair)
    → handles_of (mask_of d (index_of qs)) ≡ keep (λ h. holds qs h d) (from 0 most_monitors)
unfolding handles_of
handles-held d qs =
    let m : ℕ = mask_of d (index_of qs) in
    handles-from most_monitors 0 m m (sym (div-one m))
    ∙ keep-alike (λ h. has_bit h m) (λ h. holds qs h d) 0 most_monitors (λ i l. mask-holds d i (omega arith) qs)

-- the devices, in the order of their first held pair
noted-firsts : (q : List ℕ) (h : ℕ) (es : List IndexEntry)
    → map (λ e. e.device) (noted q h es) ≡ first_in (map (λ e. e.device) es) q
unfolding noted first_in with_handle pick
noted-firsts q h [] = refl
noted-firsts q h (e ∷ es) = go (sames e.device q) (noted-firsts q h es)
  where
    go : (t : Bool) → map (λ x. x.device) (noted q h es) ≡ first_in (map (λ x. x.device) es) q
        → map (λ x. x.device) (pick t (with_handle h e ∷ es) (e ∷ noted q h es))
        ≡ pick t (e.device ∷ map (λ x. x.device) es) (e.device ∷ first_in (map (λ x. x.device) es) q)
    go true i = refl
    go false i = ap (λ (l : List (List ℕ)). e.device ∷ l) i

all_firsts : (es : List IndexEntry) (qs : List Pair)
    → map (λ e. e.device) (noted_all es qs) ≡ firsts (map (λ e. e.device) es) (map watched qs)
unfolding noted_all firsts
all_firsts es [] = refl
all_firsts es (q ∷ qs) =
    all_firsts (noted (watched q) q.handle es) qs
    ∙ ap (λ (l : List (List ℕ)). firsts l (map watched qs)) (noted-firsts (watched q) q.handle es)

pub devices-order : (qs : List Pair) → map (λ e. e.device) (index_of qs) ≡ firsts [] (map watched qs)
unfolding index_of
devices-order qs = all_firsts [] qs
