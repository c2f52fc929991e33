-- Laws of the definitions in Levels.
use Rattle.std.specs.Prelude.{ℕ, ◌+◌, ◌-◌, ◌*◌, ◌/◌, ◌%◌, ◌≤◌, ◌<◌, ◌≡◌, Bool, true, ◌&&◌, leb, ltb, ℤ, pos, negsuc}
use Rattle.std.proofs.Common.{sym, ap, ap₂, ◌∙◌, mod-lt, arith, leb-true, le-leb}
use Rattle.std.proofs.Math.IntN.{sub_ℕ}
use Rattle.std.specs.Int.Signed.{le_z, lt_z}
use Rattle.laws.specs.TestsLaws.{cases-le, and_left, and_right, and_both}
use Rattle.model.specs.Level.{level, d_bm, raised, signed, wrapped, floor_of, in_range, sum_in_range, add_rssi, mean}
use Rattle.model.specs.SignedLaws.{same-leb, same-ltb, sub-up, sub-down, sub-leb, sub-ltb, sub-add, pos-sub, neg-sub}
use Rattle.model.specs.Levels.{extended}

-- levels are ordered as dBm are
pub below-levels : (a b : ℕ) → lt_z (d_bm a) (d_bm b) ≡ ltb (level a) (level b)
unfolding d_bm
below-levels a b =
    sub-ltb (level a) 128 (level b) 128
    ∙ same-ltb (level a + 128) (level b + 128) (level a) (level b) (λ h. omega arith) (λ h. omega arith)

pub most-levels : (a b : ℕ) → le_z (d_bm a) (d_bm b) ≡ leb (level a) (level b)
unfolding d_bm
most-levels a b =
    sub-leb (level a) 128 (level b) 128
    ∙ same-leb (level a + 128) (level b + 128) (level a) (level b) (λ h. omega arith) (λ h. omega arith)

-- −127 to 20 dBm are the levels 1 to 148
pub range-levels : (o : ℕ) → in_range o ≡ (leb 1 (level o) && leb (level o) 148)
unfolding in_range d_bm
range-levels o =
    ap₂ ◌&&◌
    (sub-leb 1 128 (level o) 128 ∙ same-leb 129 (level o + 128) 1 (level o) (λ h. omega arith) (λ h. omega arith))
    (sub-leb (level o) 128 148 128 ∙ same-leb (level o + 128) 276 (level o) 148 (λ h. omega arith) (λ h. omega arith))

pub range-of : (o : ℕ) → in_range o ≡ true → (1 ≤ level o) × (level o ≤ 148)
range-of o e =
    let b = sym (range-levels o) ∙ e in (
      leb-true 1 (level o) (and_left (leb 1 (level o)) (leb (level o) 148) b),
      leb-true (level o) 148 (and_right (leb 1 (level o)) (leb (level o) 148) b),
    )

-- a sum from −127 × packets to 20 × packets, by the sum above −2^63
pub sum-levels : (sum packets : ℕ) → sum_in_range sum packets
    ≡ (leb 9223372036854775808 (raised sum + 127 * packets) && leb (raised sum) (20 * packets + 9223372036854775808))
unfolding sum_in_range signed
sum-levels sum packets =
    ap₂ ◌&&◌
    (ap (λ (z : ℤ). le_z z (sub_ℕ (raised sum) 9223372036854775808)) (neg-sub (127 * packets))
    ∙ sub-leb 0 (127 * packets) (raised sum) 9223372036854775808)
    (ap (λ (z : ℤ). le_z (sub_ℕ (raised sum) 9223372036854775808) z) (pos-sub (20 * packets))
    ∙ sub-leb (raised sum) 9223372036854775808 (20 * packets) 0
    ∙ same-leb (raised sum + 0) (20 * packets + 9223372036854775808) (raised sum) (20 * packets + 9223372036854775808)
    (λ h. omega arith) (λ h. omega arith))

-- a sum in range, as two bounds
pub record Summed (sum packets : ℕ) : Type 0 where
  pub sum-least : 9223372036854775808 ≤ raised sum + 127 * packets
  pub sum-most : raised sum ≤ 20 * packets + 9223372036854775808

pub summed-of : (sum packets : ℕ) → sum_in_range sum packets ≡ true → Summed sum packets
summed-of sum packets e =
    let a : Bool = leb 9223372036854775808 (raised sum + 127 * packets) in
    let b : Bool = leb (raised sum) (20 * packets + 9223372036854775808) in
    let c : (a && b) ≡ true = sym (sum-levels sum packets) ∙ e in
    record {
      sum-least = leb-true 9223372036854775808 (raised sum + 127 * packets) (and_left a b c);
      sum-most = leb-true (raised sum) (20 * packets + 9223372036854775808) (and_right a b c);
    }

pub summed-holds : (sum packets : ℕ) → Summed sum packets → sum_in_range sum packets ≡ true
summed-holds sum packets s =
    sum-levels sum packets
    ∙ and_both (le-leb 9223372036854775808 (raised sum + 127 * packets) s.sum-least)
    (le-leb (raised sum) (20 * packets + 9223372036854775808) s.sum-most)

wrapped-sub : (a b : ℕ) → b ≤ 18446744073709551616
    → wrapped 18446744073709551616 (sub_ℕ a b) ≡ (a + (18446744073709551616 - b)) % 18446744073709551616
unfolding wrapped
wrapped-sub a b h =
    cases-le b a
    (λ p. ap (wrapped 18446744073709551616) (sub-up a b p) ∙ omega arith)
    (λ p. ap (wrapped 18446744073709551616) (sub-down a b p) ∙ omega arith)

pub add-extended : (sum o : ℕ) → add_rssi sum o ≡ (sum + extended o) % 18446744073709551616
unfolding add_rssi signed d_bm raised extended
add-extended sum o =
    ap (wrapped 18446744073709551616) (sub-add (raised sum) 9223372036854775808 (level o) 128)
    ∙ wrapped-sub (raised sum + level o) (9223372036854775808 + 128) (omega arith)
    ∙ omega arith

-- what stands for a whole number is one of n numbers; an octet for the mean
pub wrapped-below : (n : ℕ) (z : ℤ) → 0 < n → wrapped n z < n
unfolding wrapped
wrapped-below n (pos a) h = mod-lt a h
wrapped-below n (negsuc a) h = omega arith

-- a sum of 8 octets at or above 0, and below
pub signed_up : (sum : ℕ) → sum < 9223372036854775808 → signed sum ≡ pos sum
unfolding signed raised
signed_up sum h =
    sub-up ((sum + 9223372036854775808) % 18446744073709551616) 9223372036854775808 (omega arith)
    ∙ ap pos (omega arith)

pub signed-down : (sum : ℕ) → 9223372036854775808 ≤ sum → sum < 18446744073709551616
    → signed sum ≡ negsuc (18446744073709551615 - sum)
unfolding signed raised
signed-down sum h b =
    sub-down ((sum + 9223372036854775808) % 18446744073709551616) 9223372036854775808 (omega arith)
    ∙ ap negsuc (omega arith)

-- the mean's octet, for both
pub mean-up : (sum packets : ℕ) → sum < 9223372036854775808 → mean sum packets ≡ sum / packets % 256
unfolding mean floor_of wrapped
mean-up sum packets h = rw (signed_up sum h)

pub mean-down : (sum packets : ℕ) → 9223372036854775808 ≤ sum → sum < 18446744073709551616
    → mean sum packets ≡ 255 - (18446744073709551615 - sum) / packets % 256
unfolding mean floor_of wrapped
mean-down sum packets h b = rw (signed-down sum h b)
