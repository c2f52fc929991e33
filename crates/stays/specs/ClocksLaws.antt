-- Laws of the definitions in Clocks.
use Rattle.std.specs.Prelude.{ℕ, ◌+◌, ◌-◌, ◌*◌, ◌≤◌, ◌<◌, ◌≡◌, Bool, true, false, ◌&&◌, List, Option, None, Some, ltb, eqb, length, refl}
use Rattle.laws.specs.Tests.{pick}
use Rattle.std.proofs.Math.Path.{sym, ap}
use Rattle.std.proofs.Common.{◌∙◌, leb-true, lt-ltb, le-ltb}
use native.Mathlib.Omega.{arith}
use Rattle.std.proofs.Math.Dec.{leb}
use Rattle.laws.specs.TestsLaws.{pick_true, pick-false, and_left, and_right}
use Rattle.octets.specs.Numbers.{number_at}
use Rattle.stays.specs.Clocks.{nine, colon, is_digit, two_at, is_form, ticks_in, clock_in}

-- digits are at least 48 and at most nine
pub digits_in : (a b : ℕ) {p q : Bool} → p ≡ (leb 48 a && leb a nine) → q ≡ (leb 48 b && leb b nine) → (p && q) ≡ true
    → (48 ≤ a) × (a ≤ nine) × (48 ≤ b) × (b ≤ nine)
digits_in a b {p} {q} e f t =
    let x : (leb 48 a && leb a nine) ≡ true = sym e ∙ and_left p q t in
    let y : (leb 48 b && leb b nine) ≡ true = sym f ∙ and_right p q t in (
      leb-true 48 a (and_left (leb 48 a) (leb a nine) x),
      leb-true a nine (and_right (leb 48 a) (leb a nine) x),
      leb-true 48 b (and_left (leb 48 b) (leb b nine) y),
      leb-true b nine (and_right (leb 48 b) (leb b nine) y),
    )

module _ (w : List ℕ) (i a b : ℕ) {p q : Bool} (ea : a ≡ number_at 1 w i) (eb : b ≡ number_at 1 w (i + 1))
    (e : p ≡ (leb 48 a && leb a nine)) (f : q ≡ (leb 48 b && leb b nine)) where
  test : (p && q) ≡ (is_digit (number_at 1 w i) && is_digit (number_at 1 w (i + 1)))
  unfolding is_digit
  test =
      ap (λ (x : Bool). x && q) (e ∙ ap (λ (x : ℕ). leb 48 x && leb x nine) ea)
      ∙ ap (λ (x : Bool). (leb 48 (number_at 1 w i) && leb (number_at 1 w i) nine) && x)
      (f ∙ ap (λ (x : ℕ). leb 48 x && leb x nine) eb)

  pub two-some : (limit : ℕ) → (p && q) ≡ true → 10 * (a - 48) + (b - 48) < limit
      → Some (10 * (a - 48) + (b - 48)) ≡ two_at w i limit
  unfolding two_at
  two-some limit t h =
      rw (ea, eb) (sym (pick_true (pick (ltb (10 * (number_at 1 w i - 48) + (number_at 1 w (i + 1) - 48)) limit)
      (Some (10 * (number_at 1 w i - 48) + (number_at 1 w (i + 1) - 48))) None) None (sym test ∙ t)
      ∙ pick_true (Some (10 * (number_at 1 w i - 48) + (number_at 1 w (i + 1) - 48))) None
      (lt-ltb (10 * (number_at 1 w i - 48) + (number_at 1 w (i + 1) - 48)) limit (rw (ea, eb) at h))))

  pub two_over : (limit : ℕ) → (p && q) ≡ true → limit ≤ 10 * (a - 48) + (b - 48) → None ≡ two_at w i limit
  unfolding two_at
  two_over limit t h =
      sym (pick_true (pick (ltb (10 * (number_at 1 w i - 48) + (number_at 1 w (i + 1) - 48)) limit)
      (Some (10 * (number_at 1 w i - 48) + (number_at 1 w (i + 1) - 48))) None) None (sym test ∙ t)
      ∙ pick-false (Some (10 * (number_at 1 w i - 48) + (number_at 1 w (i + 1) - 48))) None
      (le-ltb (10 * (number_at 1 w i - 48) + (number_at 1 w (i + 1) - 48)) limit (rw (ea, eb) at h)))

  pub two_none : (limit : ℕ) → (p && q) ≡ false → None ≡ two_at w i limit
  unfolding two_at
  two_none limit t =
      sym (pick-false (pick (ltb (10 * (number_at 1 w i - 48) + (number_at 1 w (i + 1) - 48)) limit)
      (Some (10 * (number_at 1 w i - 48) + (number_at 1 w (i + 1) - 48))) None) None (sym test ∙ t))

-- the forms of a word
module _ (w : List ℕ) {x y : ℕ} (d : x ≡ number_at 1 w 2) (e : y ≡ number_at 1 w 5) where
  abbrev has_form : Bool
  has_form = eqb (length w) 8 && eqb x colon && eqb y colon

  form : has_form ≡ is_form w
  unfolding is_form
  form = rw (d, e)

  pub clock-not : has_form ≡ false → None ≡ clock_in w
  unfolding clock_in
  clock-not t = sym (pick-false _ None (sym form ∙ t))

  found : {r : Option ℕ} → has_form ≡ true → r ≡ ticks_in (two_at w 0 24) (two_at w 3 60) (two_at w 6 60) → r ≡ clock_in w
  unfolding clock_in
  found t q = q ∙ sym (pick_true _ None (sym form ∙ t))

  pub clock-h : {r : Option ℕ} → has_form ≡ true → two_at w 0 24 ≡ None → r ≡ None → r ≡ clock_in w
  unfolding ticks_in
  clock-h t a z = found t (rw a z)

  pub clock-m : {r : Option ℕ} {h : ℕ} → has_form ≡ true → two_at w 0 24 ≡ Some h → two_at w 3 60 ≡ None → r ≡ None
      → r ≡ clock_in w
  unfolding ticks_in
  clock-m {h = h} t a b z = found t (rw (a, b) (z ∙ go h (two_at w 6 60)))
    where
      go : (k : ℕ) (s : Option ℕ) → None ≡ ticks_in (Some k) None s
      go k None = refl
      go k (Some s) = refl

  pub clock-s : {r : Option ℕ} {h m : ℕ} → has_form ≡ true → two_at w 0 24 ≡ Some h → two_at w 3 60 ≡ Some m
      → two_at w 6 60 ≡ None → r ≡ None → r ≡ clock_in w
  unfolding ticks_in
  clock-s t a b c z = found t (rw (a, b, c) z)

  pub clock-so : {h m s : ℕ} → has_form ≡ true → two_at w 0 24 ≡ Some h → two_at w 3 60 ≡ Some m
      → two_at w 6 60 ≡ Some s → Some ((h * 3600 + m * 60 + s) * 10) ≡ clock_in w
  unfolding ticks_in
  clock-so t a b c = found t (rw (a, b, c))
