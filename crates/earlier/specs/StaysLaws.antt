-- The words of a row by the style that is asked for, and a time of day by the tests of its word.
use Rattle.std.specs.Prelude.{ℕ, ◌+◌, ◌-◌, ◌*◌, ◌≤◌, min, ◌≡◌, refl, Bool, true, false, ◌&&◌, List, ◌++◌, Option, None, Some, eqb, leb, ltb, length, take}
use Rattle.std.proofs.Common.{sym, ap, ◌∙◌, arith, le-ltb}
use Rattle.laws.specs.Tests.{pick}
use Rattle.laws.specs.TestsLaws.{pick_true, pick-false}
use Rattle.octets.specs.Numbers.{number_at}
use Rattle.model.specs.Quoted.{codes}
use Rattle.texts.specs.Text.{room}
use Rattle.texts.specs.Words.{time_text, level_text}
use Rattle.visit.specs.Book.{mean_of}
use Rattle.visit.specs.BookLaws.{mean-none as none-mean}
use Rattle.visit.specs.declared.End.{End}
use Rattle.visit.specs.declared.End.TheVariants.{Silence, Full, Cancelled, There}
use Rattle.stays.specs.declared.Style.{Style}
use Rattle.stays.specs.declared.Style.TheVariants.{Table, Csv, Json}
use Rattle.stays.specs.Rows.{none_text, quote_text, moment_text, ended_text, mean_or, lead_of, gap_of, end_text}
use Rattle.stays.specs.ClocksLaws.{digits_in}
use Rattle.stays.specs.Clocks.{nine, colon, is_digit, two_at, is_form, ticks_in, clock_in}

-- the branches
module _ (t : List ℕ) {r : List ℕ} where
  pub none-table : (style : Style) → style ≡ Table → r ≡ take room (t ++ codes "-")
      → r ≡ take room (t ++ none_text style)
  unfolding none_text
  none-table style k e = e ∙ sym (ap (λ (x : Style). take room (t ++ none_text x)) k)

  pub none-csv : (style : Style) → style ≡ Csv → r ≡ take room (t ++ codes "") → r ≡ take room (t ++ none_text style)
  unfolding none_text
  none-csv style k e = e ∙ sym (ap (λ (x : Style). take room (t ++ none_text x)) k)

  pub none-json : (style : Style) → (style ≡ Table → ⊥) → (style ≡ Csv → ⊥) → r ≡ take room (t ++ codes "null")
      → r ≡ take room (t ++ none_text style)
  unfolding none_text
  none-json Table k l e = absurd (k refl)
  none-json Csv k l e = absurd (l refl)
  none-json Json k l e = e

  pub quote-json : (style : Style) → style ≡ Json → r ≡ take room (t ++ codes "\"")
      → r ≡ take room (t ++ quote_text style)
  unfolding quote_text
  quote-json style k e = e ∙ sym (ap (λ (x : Style). take room (t ++ quote_text x)) k)

  pub quote-none : (style : Style) → (style ≡ Json → ⊥) → r ≡ take room (t ++ codes "")
      → r ≡ take room (t ++ quote_text style)
  unfolding quote_text
  quote-none Table k e = e
  quote-none Csv k e = e
  quote-none Json k e = absurd (k refl)

  pub moment-not : (clock : Option ℕ) (tick : ℕ) → clock ≡ None → r ≡ take room (t ++ time_text tick)
      → r ≡ take room (t ++ moment_text clock tick)
  unfolding moment_text
  moment-not clock tick k e = e ∙ sym (ap (λ (x : Option ℕ). take room (t ++ moment_text x tick)) k)

  pub ended-silence : (how : End) → how ≡ Silence → r ≡ take room (t ++ codes "silence")
      → r ≡ take room (t ++ ended_text how)
  unfolding ended_text
  ended-silence how k e = e ∙ sym (ap (λ (x : End). take room (t ++ ended_text x)) k)

  pub ended-full : (how : End) → how ≡ Full → r ≡ take room (t ++ codes "full table")
      → r ≡ take room (t ++ ended_text how)
  unfolding ended_text
  ended-full how k e = e ∙ sym (ap (λ (x : End). take room (t ++ ended_text x)) k)

  pub ended-cancelled : (how : End) → how ≡ Cancelled → r ≡ take room (t ++ codes "cancelled")
      → r ≡ take room (t ++ ended_text how)
  unfolding ended_text
  ended-cancelled how k e = e ∙ sym (ap (λ (x : End). take room (t ++ ended_text x)) k)

  pub ended-there : (how : End) → (how ≡ Silence → ⊥) → (how ≡ Full → ⊥) → (how ≡ Cancelled → ⊥)
      → r ≡ take room (t ++ codes "still there") → r ≡ take room (t ++ ended_text how)
  unfolding ended_text
  ended-there Silence k l m e = absurd (k refl)
  ended-there Full k l m e = absurd (l refl)
  ended-there Cancelled k l m e = absurd (m refl)
  ended-there There k l m e = e

  pub mean-none : (style : Style) (packets sum : ℕ) → packets ≡ 0 → r ≡ take room (t ++ none_text style)
      → r ≡ take room (t ++ mean_or style (mean_of packets sum))
  unfolding mean_or
  mean-none style packets sum k e =
      e ∙ ap (λ (o : Option ℕ). take room (t ++ mean_or style o)) (none-mean packets sum k)

  pub mean-some : (style : Style) (packets sum m : ℕ) → Some m ≡ mean_of packets sum
      → r ≡ take room (t ++ level_text m) → r ≡ take room (t ++ mean_or style (mean_of packets sum))
  unfolding mean_or
  mean-some style packets sum m z e = e ∙ ap (λ (o : Option ℕ). take room (t ++ mean_or style o)) z

  pub lead-table : (style : Style) (csv json : List ℕ) → style ≡ Table → r ≡ take room (t ++ codes "")
      → r ≡ take room (t ++ lead_of style csv json)
  unfolding lead_of
  lead-table style csv json k e = e ∙ sym (ap (λ (x : Style). take room (t ++ lead_of x csv json)) k)

  pub lead-csv : (style : Style) (csv json : List ℕ) → style ≡ Csv → r ≡ take room (t ++ csv)
      → r ≡ take room (t ++ lead_of style csv json)
  unfolding lead_of
  lead-csv style csv json k e = e ∙ sym (ap (λ (x : Style). take room (t ++ lead_of x csv json)) k)

  pub lead-json : (style : Style) (csv json : List ℕ) → (style ≡ Table → ⊥) → (style ≡ Csv → ⊥)
      → r ≡ take room (t ++ json) → r ≡ take room (t ++ lead_of style csv json)
  unfolding lead_of
  lead-json Table csv json k l e = absurd (k refl)
  lead-json Csv csv json k l e = absurd (l refl)
  lead-json Json csv json k l e = e

  pub end-json : (style : Style) → style ≡ Json → r ≡ take room (t ++ codes "}") → r ≡ take room (t ++ end_text style)
  unfolding end_text
  end-json style k e = e ∙ sym (ap (λ (x : Style). take room (t ++ end_text x)) k)

  pub end_line_lem : (style : Style) → (style ≡ Json → ⊥) → r ≡ take room (t ++ codes "\n")
      → r ≡ take room (t ++ end_text style)
  unfolding end_text
  end_line_lem Table k e = e
  end_line_lem Csv k e = e
  end_line_lem Json k e = absurd (k refl)

-- gaps
pub gap_other : (style : Style) (width long : ℕ) → (style ≡ Table → ⊥) → (0 ≡ gap_of style width long) × (0 ≤ 32)
unfolding gap_of
gap_other Table width long k = absurd (k refl)
gap_other Csv width long k = (refl, omega arith)
gap_other Json width long k = (refl, omega arith)

pub gap-table : (style : Style) (width long n : ℕ) → style ≡ Table → n ≡ min (width - long) 32
    → (n ≡ gap_of style width long) × (n ≤ 32)
unfolding gap_of
gap-table style width long n k e = (e ∙ sym (ap (λ (x : Style). gap_of x width long) k), omega arith)

-- the number of two decimal digits at an index; 100 where there are none
unfoldable pub two_of : List ℕ → ℕ → ℕ
two_of w i =
    pick (is_digit (number_at 1 w i) && is_digit (number_at 1 w (i + 1)))
    (10 * (number_at 1 w i - 48) + (number_at 1 w (i + 1) - 48)) 100

module _ (w : List ℕ) (i a b : ℕ) {p q : Bool} (ea : a ≡ number_at 1 w i) (eb : b ≡ number_at 1 w (i + 1))
    (e : p ≡ (leb 48 a && leb a nine)) (f : q ≡ (leb 48 b && leb b nine)) where
  test : (p && q) ≡ (is_digit (number_at 1 w i) && is_digit (number_at 1 w (i + 1)))
  unfolding is_digit
  test =
      ap (λ (x : Bool). x && q) (e ∙ ap (λ (x : ℕ). leb 48 x && leb x nine) ea)
      ∙ ap (λ (x : Bool). (leb 48 (number_at 1 w i) && leb (number_at 1 w i) nine) && x)
      (f ∙ ap (λ (x : ℕ). leb 48 x && leb x nine) eb)

  pub two-some : (p && q) ≡ true → (10 * (a - 48) + (b - 48) ≡ two_of w i) × (10 * (a - 48) + (b - 48) ≤ 100)
  unfolding two_of
  two-some t =
      let d = digits_in a b e f t in (
        ap (λ (x : ℕ). 10 * (x - 48) + (b - 48)) ea ∙ ap (λ (x : ℕ). 10 * (number_at 1 w i - 48) + (x - 48)) eb
            ∙ sym (pick_true (10 * (number_at 1 w i - 48) + (number_at 1 w (i + 1) - 48)) 100 (sym test ∙ t)),
        omega (arith, d),
      )

  pub two_none : (p && q) ≡ false → (100 ≡ two_of w i) × (100 ≤ 100)
  unfolding two_of
  two_none t = (
    sym (pick-false (10 * (number_at 1 w i - 48) + (number_at 1 w (i + 1) - 48)) 100 (sym test ∙ t)),
    omega arith,
  )

-- eight characters, colons at their places, a time of day
unfoldable pub is_time : List ℕ → Bool
is_time w =
    (eqb (length w) 8 && eqb (number_at 1 w 2) colon && eqb (number_at 1 w 5) colon)
    && (ltb (two_of w 0) 24 && ltb (two_of w 3) 60 && ltb (two_of w 6) 60)

-- its ticks since midnight
unfoldable pub time_in : List ℕ → ℕ
time_in w = (two_of w 0 * 3600 + two_of w 3 * 60 + two_of w 6) * 10

pub clock-so : (w : List ℕ) {h m s x y : ℕ} → h ≡ two_of w 0 → m ≡ two_of w 3 → s ≡ two_of w 6 → x ≡ number_at 1 w 2
    → y ≡ number_at 1 w 5
    → (((eqb (length w) 8 && eqb x colon && eqb y colon) && (ltb h 24 && ltb m 60 && ltb s 60)) ≡ is_time w)
    × ((h * 3600 + m * 60 + s) * 10 ≡ time_in w)
unfolding is_time time_in
clock-so w a b c d e = (rw (a, b, c, d, e), rw (a, b, c))

-- a clock is read where the word is a time of day, and says its ticks
two-cases : (limit v : ℕ) → limit ≤ 100 → (p : Bool) → pick p (pick (ltb v limit) (Some v) None) None
    ≡ pick (ltb (pick p v 100) limit) (Some (pick p v 100)) None
unfolding pick
two-cases limit v h true = refl
two-cases limit v h false = sym (pick-false (Some 100) None (le-ltb 100 limit h))

two-same : (w : List ℕ) (i limit : ℕ) → limit ≤ 100
    → two_at w i limit ≡ pick (ltb (two_of w i) limit) (Some (two_of w i)) None
unfolding two_at two_of pick
two-same w i limit h =
    two-cases limit (10 * (number_at 1 w i - 48) + (number_at 1 w (i + 1) - 48)) h
    (is_digit (number_at 1 w i) && is_digit (number_at 1 w (i + 1)))

clock-cases : (h m s : ℕ) (f x y z : Bool)
    → pick f (ticks_in (pick x (Some h) None) (pick y (Some m) None) (pick z (Some s) None)) None
    ≡ pick (f && (x && y && z)) (Some ((h * 3600 + m * 60 + s) * 10)) None
unfolding ticks_in pick
clock-cases h m s false x y z = refl
clock-cases h m s true false y z = refl
clock-cases h m s true true false false = refl
clock-cases h m s true true false true = refl
clock-cases h m s true true true false = refl
clock-cases h m s true true true true = refl

pub clock-time : (w : List ℕ) → clock_in w ≡ pick (is_time w) (Some (time_in w)) None
unfolding clock_in is_form is_time time_in
clock-time w =
    rw (two-same w 0 24 (omega arith), two-same w 3 60 (omega arith), two-same w 6 60 (omega arith))
    (clock-cases (two_of w 0) (two_of w 3) (two_of w 6)
    (eqb (length w) 8 && eqb (number_at 1 w 2) colon && eqb (number_at 1 w 5) colon)
    (ltb (two_of w 0) 24) (ltb (two_of w 3) 60) (ltb (two_of w 6) 60))
