-- Laws of the definitions in Least.
use Rattle.std.specs.Prelude.{ℕ, ◌+◌, ◌-◌, ◌*◌, ◌≤◌, ◌<◌, min, ◌≡◌, refl, true, List, [], ◌∷◌, map, ℤ, pos, negsuc}
use Rattle.std.proofs.Common.{sym, ap, ◌∙◌, arith, le-leb, lt-ltb, ltb-true, ne_eqb}
use Rattle.std.proofs.lemmas.Bool.{lt-leb}
use Rattle.laws.specs.Tests.{pick}
use Rattle.laws.specs.TestsLaws.{pick_true, pick-false, and_left, and_right, and_both, cases-le}
use Rattle.laws.specs.Loops.{every}
use Rattle.decimals.specs.Decimals.{top, value_from}
use Rattle.totals.specs.declared.Row.{Row}
use Rattle.totals.specs.Sums.{count_fits, sum_fits}
use Rattle.sheets.specs.Sheet.{negative, row_ok}
use Rattle.sheets.specs.Least.{most, up_to, least, least_sum, least_row, grown}

module _ (m n : ℕ) where
  pub up_in : n ≤ m → up_to m n ≡ n
  unfolding up_to
  up_in h = pick_true n m (le-leb n m h)

  pub up-past : m < n → up_to m n ≡ m
  unfolding up_to
  up-past h = pick-false n m (lt-leb n m h)

  pub up-most : up_to m n ≤ m
  up-most = cases-le n m (λ h. rw (up_in h) h) (λ h. rw (up-past h) (omega arith))

unfoldable pub grown_from : ℕ → List ℕ → ℕ
grown_from v [] = v
grown_from v (c ∷ w) = grown_from (grown v (c - 48)) w

pub grown-least : (v d : ℕ) → grown (least v) d ≡ least (v * 10 + d)
unfolding grown least
grown-least v d =
    cases-le v top (λ h. rw (up_in top v h))
    (λ h. rw (up-past top v h, up-past top (top * 10 + d) (omega arith))
    (sym (up-past top (v * 10 + d) (omega arith))))

pub grown-is : (v : ℕ) (w : List ℕ) → grown_from (least v) w ≡ least (value_from v w)
unfolding grown_from value_from
grown-is v [] = refl
grown-is v (c ∷ w) = ap (λ (x : ℕ). grown_from x w) (grown-least v (c - 48)) ∙ grown-is (v * 10 + (c - 48)) w

-- a digit behind a value, as the machine holds it
pub grown-held : (v d : ℕ) {p r : ℕ} → p ≡ min (v * 10) top → r ≡ min (p + d) top → r ≡ grown v d
unfolding grown least
grown-held v d {p} {r} ep er =
    cases-le (v * 10 + d) top (λ h. omega arith ∙ sym (up_in top (v * 10 + d) h))
    (λ h. omega arith ∙ sym (up-past top (v * 10 + d) h))

-- a sum of a number that was held, above zero and below
pub above-least : (n : ℕ) → least_sum (pos (least n)) ≡ least_sum (pos n)
unfolding least_sum least
above-least n =
    ap pos (cases-le n top (λ h. rw (up_in top n h))
    (λ h. rw (up-past top n h, up-past most top (omega arith)) (sym (up-past most n (omega arith)))))

pub below-least : (n : ℕ) → least_sum (negative (least n)) ≡ least_sum (negative n)
unfolding least_sum least negative pick
below-least n =
    cases-le n top (λ h. rw (up_in top n h))
    (λ h. rw (up-past top n h, ne_eqb n 0 (λ z. omega arith))
    (ap negsuc (up-past most (top - 1) (omega arith) ∙ sym (up-past most (n - 1) (omega arith)))))

-- rows held are rows of 64 bits, and such rows are held as they are
count-ok : (n : ℕ) → count_fits (least n) ≡ true
unfolding least
count-ok n = let h = up-most top n in lt-ltb (up_to top n) 18446744073709551616 (omega (arith, h))

sum-ok : (z : ℤ) → sum_fits (least_sum z) ≡ true
unfolding least_sum
sum-ok (pos n) = let h = up-most most n in lt-ltb (up_to most n) 9223372036854775808 (omega (arith, h))
sum-ok (negsuc n) = let h = up-most most n in lt-ltb (up_to most n) 9223372036854775808 (omega (arith, h))

row-ok : (r : Row) → row_ok (least_row r) ≡ true
unfolding row_ok least_row
row-ok r = and_both (count-ok r.packets)
    (and_both (count-ok r.reports) (and_both (count-ok r.ticks) (sum-ok r.sum)))

pub held-ok : (rows : List Row) → every row_ok (map least_row rows) ≡ true
unfolding every
held-ok [] = refl
held-ok (r ∷ rs) = and_both (row-ok r) (held-ok rs)

count-is : (n : ℕ) → count_fits n ≡ true → least n ≡ n
unfolding least
count-is n e = let h : n < 18446744073709551616 = ltb-true n 18446744073709551616 e in up_in top n (omega arith)

sum_is : (z : ℤ) → sum_fits z ≡ true → least_sum z ≡ z
unfolding least_sum
sum_is (pos n) e = let h : n < 9223372036854775808 =
    ltb-true n 9223372036854775808 e in ap pos (up_in most n (omega arith))
sum_is (negsuc n) e = let h : n < 9223372036854775808 =
    ltb-true n 9223372036854775808 e in ap negsuc (up_in most n (omega arith))

row_is : (r : Row) → row_ok r ≡ true → least_row r ≡ r
unfolding row_ok least_row
row_is r e =
    let e₁ = and_right (count_fits r.packets) _ e in
    let e₂ = and_right (count_fits r.reports) _ e₁ in
    let a = count-is r.packets (and_left _ _ e) in
    let b = count-is r.reports (and_left _ _ e₁) in
    let c = count-is r.ticks (and_left _ _ e₂) in
    let d = sum_is r.sum (and_right (count_fits r.ticks) _ e₂) in
    rw (a, b, c, d)

pub held-is : (rows : List Row) → every row_ok rows ≡ true → map least_row rows ≡ rows
unfolding every
held-is [] e = refl
held-is (r ∷ rs) e =
    rw (row_is r (and_left (row_ok r) (every row_ok rs) e), held-is rs (and_right (row_ok r) (every row_ok rs) e))
