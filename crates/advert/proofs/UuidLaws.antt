-- Laws of the definitions in Uuid.
use Rattle.std.specs.Prelude.{◌≡◌, ℕ, suc, ◌+◌, ◌-◌, ◌*◌, ◌/◌, ◌<◌, ◌≤◌, Bool, true, false, ◌&&◌, ◌||◌, ◌⊎◌, List, [], ◌∷◌, length, take, drop, ◌==◌, slice_index, refl}
use Rattle.std.proofs.Math.Path.{sym}
use Rattle.std.proofs.Common.{ap, ◌∙◌, inl, inr, ⊎_elim, add-one, arith, eqb-true, drop-cons}
use Rattle.std.proofs.lemmas.Bool.{false≢true}
use Rattle.std.proofs.Math.Nat.{add-div_right, div-eq_of_lt}
use Rattle.std.proofs.Math.ListN.{length-drop}
use Rattle.std.proofs.Math.Seq.{drop-drop}
use Rattle.laws.specs.Loops.{some}
use Rattle.laws.specs.LoopsLaws.{some-step, some-stop, some-nil}
use Rattle.laws.specs.Rows.{rows}
use Rattle.laws.specs.Tests.{sames}
use Rattle.laws.specs.TestsLaws.{and_left, and_right}
use Rattle.advert.specs.PartsLaws.{rest-whole}
use Rattle.advert.specs.Either.{both}
use Rattle.advert.specs.Pattern.{holds_at}
use Rattle.advert.proofs.PatternLaws.{holds-within}
use Rattle.advert.specs.Uuid.{uuids, lists_uuid, uuid_size, uuid_form, uuid_meets}

pub uuids-more : (size : ℕ) (l : List ℕ) → 0 < size → size ≤ length l
    → uuids size l ≡ take size l ∷ uuids size (drop size l)
unfolding uuids rows
uuids-more size l p h =
    let d : length (drop size l) ≡ length l - size = length-drop size l in
    let s : length l ≡ (length l - size) + size = omega arith in
    let k : length l / size ≡ suc ((length l - size) / size) =
    ap (λ (n : ℕ). n / size) s ∙ add-div_right (length l - size) p ∙ add-one ((length l - size) / size) in
    rw (k, d)

pub uuids-none : (size : ℕ) (l : List ℕ) → length l < size → uuids size l ≡ []
unfolding uuids rows
uuids-none size l h = rw (div-eq_of_lt h)

-- the turns of a loop over a list of UUIDs: what is left at index i has the answer
module _ (uuid content : List ℕ) (i : ℕ) (r : Bool) (q : r ≡ lists_uuid uuid (drop i content)) where
  pub listed-end : length content - i < length uuid → false ≡ r
  unfolding lists_uuid
  listed-end h = sym (q ∙ rw (uuids-none (length uuid) (drop i content) (simp length-drop h)) (some-nil (sames uuid)))

  module _ (p : 0 < length uuid) (h : length uuid ≤ length content - i) where
    pub listed-hit : holds_at i uuid content ≡ true → true ≡ r
    unfolding lists_uuid
    listed-hit e =
        sym (q ∙ rw (uuids-more (length uuid) (drop i content) p (simp length-drop h))
        (some-stop (sames uuid) (take (length uuid) (drop i content))
        (uuids (length uuid) (drop (length uuid) (drop i content)))
        (sym (holds-within content uuid i (omega arith)) ∙ e)))

    pub listed-miss : holds_at i uuid content ≡ false → r ≡ lists_uuid uuid (drop (i + length uuid) content)
    unfolding lists_uuid
    listed-miss e =
        q ∙ rw (uuids-more (length uuid) (drop i content) p (simp length-drop h), ← drop-drop (length uuid) i content)
        (some-step (sames uuid) (take (length uuid) (drop i content))
        (uuids (length uuid) (drop (length uuid) (drop i content)))
        (sym (holds-within content uuid i (omega arith)) ∙ e))

-- a condition that has no UUID type, and one that has one
pub uuid-none : (xs : List ℕ) → length xs ≡ 0 → false ≡ uuid_form xs
unfolding uuid_form
uuid-none [] h = refl
uuid-none (x ∷ xs) h = absurd (omega arith)

pub uuid-form : (xs : List ℕ) → 0 < length xs → uuid_form xs ≡ uuid_size (slice_index xs 0) (length xs - 1)
unfolding uuid_form
uuid-form xs h =
    let d : length (drop 1 xs) ≡ length xs - 1 = length-drop 1 xs in
    ap uuid_form (drop-cons xs 0 0 h) ∙ rw d

-- the three types with their sizes
pub size-cases : (t n : ℕ) → uuid_size t n ≡ true → ((t ≡ 1) × (n ≡ 2)) ⊎ (((t ≡ 2) × (n ≡ 4)) ⊎ ((t ≡ 3) × (n ≡ 16)))
unfolding uuid_size
size-cases t n e =
    ⊎_elim (λ a. inl (equal 1 2 a))
    (λ b. inr (⊎_elim (λ a. inl (equal 2 4 a)) (λ a. inr (equal 3 16 a))
    (either (t == 2 && n == 4) (t == 3 && n == 16) b)))
    (either (t == 1 && n == 2) ((t == 2 && n == 4) || (t == 3 && n == 16)) e)
  where
    either : (a b : Bool) → (a || b) ≡ true → (a ≡ true) ⊎ (b ≡ true)
    either true b e = inl refl
    either false b e = inr e

    equal : (k m : ℕ) → (t == k && n == m) ≡ true → (t ≡ k) × (n ≡ m)
    equal k m a = (eqb-true t k (and_left (t == k) (n == m) a), eqb-true n m (and_right (t == k) (n == m) a))

pub uuid-cases : (xs : List ℕ) → uuid_form xs ≡ true
    → ((slice_index xs 0 ≡ 1) × (length xs ≡ 3))
    ⊎ (((slice_index xs 0 ≡ 2) × (length xs ≡ 5)) ⊎ ((slice_index xs 0 ≡ 3) × (length xs ≡ 17)))
unfolding uuid_form
uuid-cases [] e = absurd (false≢true e)
uuid-cases (t ∷ uuid) e =
    ⊎_elim (λ a. inl (a.0, omega arith))
    (λ b. inr (⊎_elim (λ a. inl (a.0, omega arith)) (λ a. inr (a.0, omega arith)) b))
    (size-cases t (length uuid) e)

pub uuid-bounds : (xs : List ℕ) → uuid_form xs ≡ true → (3 ≤ length xs) × (length xs ≤ 17) × (slice_index xs 0 ≤ 3)
uuid-bounds xs e =
    ⊎_elim (λ a. (omega arith, omega arith, omega arith))
    (⊎_elim (λ a. (omega arith, omega arith, omega arith)) (λ a. (omega arith, omega arith, omega arith)))
    (uuid-cases xs e)

-- a condition of another form matches nothing, one of that form what its UUID is listed in
pub uuid-bad : (xs adv scan : List ℕ) → uuid_form xs ≡ false → false ≡ uuid_meets xs adv scan
unfolding uuid_form uuid_meets
uuid-bad [] adv scan e = refl
uuid-bad (t ∷ uuid) adv scan e = rw e

pub uuid-of : (xs adv scan : List ℕ) {r : Bool} → uuid_form xs ≡ true
    → r ≡ some (lists_uuid (take (length xs - 1) (drop 1 xs))) (both (2 * slice_index xs 0) (2 * slice_index xs 0 + 1) adv scan)
    → r ≡ uuid_meets xs adv scan
unfolding uuid_form uuid_meets
uuid-of xs adv scan {r} f e = go xs f (rw (rest-whole 1 xs) at e)
  where
    go : (l : List ℕ) → uuid_form l ≡ true
        → r ≡ some (lists_uuid (drop 1 l)) (both (2 * slice_index l 0) (2 * slice_index l 0 + 1) adv scan)
        → r ≡ uuid_meets l adv scan
    go [] f q = absurd (false≢true f)
    go (t ∷ uuid) f q = q ∙ rw f
