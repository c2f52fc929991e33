-- The window's mean "with RSSI the greatest whole number not above sum / count" (document 01, Watching, by history):
-- the stored sum is the sum of the packets' RSSI, and the octet reported is that greatest number. Assumes nothing.
use Rattle.std.specs.Prelude.{ℕ, suc, ◌+◌, ◌-◌, ◌*◌, ◌/◌, ◌%◌, ◌≤◌, ◌<◌, ◌≡◌, true, ℤ, pos, negsuc, ◌+ℤ◌, ◌*ℤ◌, ◌≤ℤ◌, ◌<ℤ◌}
use Rattle.std.proofs.Common.{sym, ap, ◌∙◌, subst, div-mul-le_self, div-lt_iff_lt-mul, add-mul, one-mul, add-one, arith, le→leb, lt→ltb}
use Rattle.std.proofs.Math.Nat.{lt-div-mul-add}
use Rattle.std.proofs.Math.IntN.{sub_ℕ}
use Rattle.std.specs.Int.Signed.{mag}
use Rattle.laws.specs.TestsLaws.{cases-le}
use Rattle.model.specs.Level.{level, d_bm, raised, signed, wrapped, floor_of, sum_in_range, add_rssi, mean}
use Rattle.model.specs.SignedLaws.{sub-up, sub-down, sub_same, sub-le, sub-lt, sub-add, sub-times, neg-sub}
use Rattle.model.proofs.LevelsLaws.{Summed, summed-of}
use Rattle.steps.specs.SumsLaws.{raised-add}

-- one packet more: the stored sum is the sum of the RSSI values
pub sum-adds : (sum packets o : ℕ) → packets < 4294967295 → sum_in_range sum packets ≡ true
    → signed (add_rssi sum o) ≡ signed sum +ℤ d_bm o
unfolding signed d_bm
sum-adds sum packets o few e =
    let a : raised (add_rssi sum o) + 128 ≡ raised sum + level o =
    raised-add sum packets o few (summed-of sum packets e) in
    sub_same (raised (add_rssi sum o)) 9223372036854775808 (raised sum + level o) (9223372036854775808 + 128)
    (omega arith)
    ∙ sym (sub-add (raised sum) 9223372036854775808 (level o) 128)

-- "the greatest whole number not above z / n": n times it is not above z, n times one more is
pub record Floor (z : ℤ) (n : ℕ) (f : ℤ) : Type 0 where
  pub not-above : (f *ℤ pos n) ≤ℤ z
  pub greatest : z <ℤ ((f +ℤ pos 1) *ℤ pos n)

one_more : (q n : ℕ) → (q + 1) * n ≡ q * n + n
one_more q n = add-mul q 1 n ∙ ap (λ (k : ℕ). q * n + k) (one-mul n)

pub floor-is : (z : ℤ) (n : ℕ) → 0 < n → Floor z n (floor_of z n)
unfolding floor_of
floor-is (pos a) n p =
    let m : (a / n + 1) * n ≡ a / n * n + n = one_more (a / n) n in
    record {
      not-above = record { le = le→leb (a / n * n) a (div-mul-le_self a n) };
      greatest = record { lt = lt→ltb a ((a / n + 1) * n) (omega (arith, m, lt-div-mul-add {a = a} p)) };
    }
floor-is (negsuc a) n p =
    let q : ℕ = a / n in
    let m : suc q * n ≡ q * n + n = ap (λ (k : ℕ). k * n) (sym (add-one q)) ∙ one_more q n in
    let e : q * n ≤ a = div-mul-le_self a n in
    let f : a < q * n + n = lt-div-mul-add {a = a} p in
    let o : 1 * n ≡ n = one-mul n in
    let z : negsuc a ≡ sub_ℕ 0 (suc a) = neg-sub (suc a) in
    record {
      not-above = subst (λ (y : ℤ). (negsuc q *ℤ pos n) ≤ℤ y) (sym z)
          (subst (λ (y : ℤ). y ≤ℤ sub_ℕ 0 (suc a)) (sym (neg-sub (suc q * n)))
          (sub-le 0 (suc q * n) 0 (suc a) (omega arith)));
      greatest = subst (λ (y : ℤ). y <ℤ ((negsuc q +ℤ pos 1) *ℤ pos n)) (sym z)
          (subst (λ (y : ℤ). sub_ℕ 0 (suc a) <ℤ y) (sym (sub-times 1 (suc q) n))
          (sub-lt 0 (suc a) (1 * n) (suc q * n) (omega arith)));
    }

-- an octet stands for each of −128 to 127
pub d_bm-wrapped : (z : ℤ) → mag z < 128 → d_bm (wrapped 256 z) ≡ z
unfolding d_bm level wrapped
d_bm-wrapped (pos a) h = sub-up ((a % 256 + 128) % 256) 128 (omega arith) ∙ ap pos (omega arith)
d_bm-wrapped (negsuc a) h = sub-down ((255 - a % 256 + 128) % 256) 128 (omega arith) ∙ ap negsuc (omega arith)

-- the mean of RSSI from −127 to 20 is one of these
mean-small : (sum packets : ℕ) → 0 < packets → Summed sum packets → mag (floor_of (signed sum) packets) < 128
unfolding signed floor_of
mean-small sum packets p s =
    cases-le 9223372036854775808 (raised sum)
    (λ h. let b : raised sum - 9223372036854775808 < 21 * packets = omega (arith, s.sum-most) in
    let q = (div-lt_iff_lt-mul {x = raised sum - 9223372036854775808} {y = 21} p).1 b in
    rw (sub-up (raised sum) 9223372036854775808 h) (omega arith))
    (λ h. let b : 9223372036854775808 - suc (raised sum) < 127 * packets = omega (arith, s.sum-least) in
    let q = (div-lt_iff_lt-mul {x = 9223372036854775808 - suc (raised sum)} {y = 127} p).1 b in
    rw (sub-down (raised sum) 9223372036854775808 h) (omega arith))

-- the octet reported stands for the greatest whole number not above sum / count
pub mean-floor : (sum packets : ℕ) → 0 < packets → sum_in_range sum packets ≡ true
    → Floor (signed sum) packets (d_bm (mean sum packets))
unfolding mean
mean-floor sum packets p e =
    subst (λ (f : ℤ). Floor (signed sum) packets f)
    (sym (d_bm-wrapped (floor_of (signed sum) packets) (mean-small sum packets p (summed-of sum packets e))))
    (floor-is (signed sum) packets p)
