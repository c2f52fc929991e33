-- Laws of the definitions in Code.
use Prim.Native.Nat.{ℕ, ◌+◌, ◌-◌, ◌*◌, ◌%◌, ◌≤◌, ◌<◌}
use Rattle.std.specs.Prelude.{◌≡◌, Bool, ◌&&◌, not, ltb, eqb, drop}
use Rattle.std.proofs.Math.Path.{refl, sym, ap}
use Rattle.std.proofs.Common.{◌∙◌, drop-drop, take-add, drop_at}
use Rattle.std.proofs.Math.Bool.{true, false}
use mathlib.Core.List.{List}
use native.Mathlib.Omega.{arith}
use Rattle.std.proofs.Math.Dec.{leb}
use Rattle.std.proofs.Math.ListN.{length, take, get_or, length-drop}
use Rattle.std.proofs.Math.Seq.{get_or-take, length-take-le}
use borrow.Author.Tests.{le-leb, lt-leb, le-ltb, eq-eqb, ne_eqb, not-true, not-false}
use Rattle.laws.specs.Tests.{pick}
use Rattle.laws.specs.TestsLaws.{pick_true, pick-false, and_both, and-not-left, and-not-right, cases-le}
use Rattle.laws.specs.Loops.{every}
use Rattle.laws.specs.Rows.{row}
use Rattle.octets.specs.Little.{little}
use Rattle.octets.specs.LittleLaws.{little-take}
use Rattle.octets.specs.Numbers.{number_at}
use Rattle.octets.specs.NumbersLaws.{number-of}
use Rattle.parts.specs.Parts.{is_zero}
use Rattle.model.specs.Types.{ticks_of}
use Rattle.model.specs.Level.{raised, in_range, sum_in_range}
use Rattle.model.proofs.LevelsLaws.{sum-levels}
use Rattle.model.specs.Image.{monitor_in}
use Rattle.model.specs.Monitors.{accepts, allowed, settings_good}
use Rattle.advert.specs.Condition.{form_of, form_status}
use Rattle.soundness.specs.Below.{all_below}
use Rattle.soundness.specs.BelowLaws.{below_more, below_fails}
use Rattle.blocks.specs.Added.{added_in}
use Rattle.soundness.specs.Clauses.{monitor_row_at, head_test, bare_test, held_test, monitor_test}
use Rattle.soundness.specs.Clauses.{monitors_test}
use Rattle.soundness.specs.Fields.{window_test, empty_test, seen_test, rest_test, added_test, form_test}
use Rattle.soundness.specs.FieldsLaws.{fields_test, row-accepts}
use Rattle.model.specs.Layout.{block_size, condition_at, condition_length_at, data_at, event_at, extra_at, extra_size, filter_at, head_size, high_at, interval_at, address_type_at, length_at, low_at, monitor_size, monitors_at, most_condition, most_data, most_monitors, most_prefix, opcode_at, packets_at, pair_size, prefix_at, prefix_length_at, rssi_at, sampling_at, since_good_at, sum_at, ticks_at, condition_type_at}
use Rattle.soundness.specs.Code.{sum_above}

-- a part of a slice before an end
pub part_of : {A : Type 0} (a e : ℕ) (l : List A) → a ≤ e → e ≤ length l → take (e - a) (drop a l) ≡ drop a (take e l)
part_of a e l h k =
    let v : a + (e - a) ≡ e = omega arith in
    let n : length (take a l) ≡ a = length-take-le a l (omega arith) in
    sym (drop_at (take a l) (take (e - a) (drop a l)) a n)
    ∙ ap (λ x. drop a x) (sym (take-add a (e - a) l))
    ∙ ap (λ (j : ℕ). drop a (take j l)) v

pub above-up : (sum packets : ℕ) → sum ≤ 18446744073709551615 - 127 * packets → packets < 4294967296
    → sum + 127 * packets ≡ sum_above sum packets
unfolding sum_above
above-up sum packets h b = omega arith

pub above_down : (sum packets : ℕ) → 18446744073709551615 - 127 * packets < sum → sum < 18446744073709551616
    → packets < 4294967296
    → sum - (18446744073709551615 - 127 * packets) - 1 ≡ sum_above sum packets
unfolding sum_above
above_down sum packets h a b = omega arith

pub above-range : (sum packets : ℕ) → sum < 18446744073709551616 → packets < 4294967296
    → leb (sum_above sum packets) (147 * packets) ≡ sum_in_range sum packets
unfolding sum_above raised
above-range sum packets h b =
    let r : ℕ = (sum + 9223372036854775808) % 18446744073709551616 in
    let a : ℕ = (sum + 127 * packets) % 18446744073709551616 in
    let low : Bool = leb 9223372036854775808 (r + 127 * packets) in
    let most : Bool = leb r (20 * packets + 9223372036854775808) in
    cases-le a (147 * packets)
    (λ i. le-leb a (147 * packets) i ∙ sym (sum-levels sum packets
    ∙ and_both (le-leb 9223372036854775808 (r + 127 * packets) (omega arith))
    (le-leb r (20 * packets + 9223372036854775808) (omega arith))))
    (λ i. lt-leb a (147 * packets) i ∙ sym (sum-levels sum packets
    ∙ cases-le 9223372036854775808 (r + 127 * packets)
    (λ j. and-not-right low most (lt-leb r (20 * packets + 9223372036854775808) (omega arith)))
    (λ j. and-not-left low most (lt-leb 9223372036854775808 (r + 127 * packets) j))))

-- a monitor whose settings and condition pass
pub row-formed : (r : List ℕ) (n : ℕ) {b g : Bool} → n ≡ get_or r condition_length_at 0
    → b ≡ settings_good (get_or r high_at 0) (get_or r low_at 0) (get_or r interval_at 0)
    → g ≡ eqb (form_status (form_of (get_or r condition_type_at 0) (take (7 + n - 7) (drop condition_at r)))) 0 →
    (b && g) ≡ form_test r
unfolding form_test
row-formed r n e p q = let k : 7 + n - 7 ≡ get_or r condition_length_at 0 = omega arith in rw (p, q, k) refl

-- what version 2 adds: nothing, or what its tables allow
module _ (r : List ℕ) (l : length r ≡ monitor_size) where
  rest-added : take (length r - extra_at) (drop extra_at r) ≡ added_in r
  rest-added = let k : length r - extra_at ≡ extra_size = omega arith in ap (λ (j : ℕ). take j (drop extra_at r)) k

  pub added_none : {b : Bool} → get_or r extra_at 0 ≡ 0 → b ≡ every is_zero (drop extra_at r) → b ≡ added_test r
  unfolding added_test
  added_none e q =
      q ∙ sym (pick_true (every is_zero (drop extra_at r)) _ (eq-eqb (get_or r extra_at 0) 0 e))

  pub added-some : {b : Bool} → (get_or r extra_at 0 ≡ 0 → ⊥)
      → b ≡ (eqb (length (take (length r - extra_at) (drop extra_at r))) extra_size
      && allowed (take (length r - extra_at) (drop extra_at r)) (get_or r sampling_at 0) (get_or r condition_type_at 0))
      → b ≡ added_test r
  unfolding added_test
  added-some e q =
      let d : length (drop extra_at r) ≡ length r - extra_at = length-drop extra_at r in
      let n : length (added_in r) ≡ extra_size = length-take-le extra_size (drop extra_at r) (omega arith) in
      q ∙ rw (rest-added, n) refl ∙ sym (pick-false (every is_zero (drop extra_at r)) _ (ne_eqb (get_or r extra_at 0) 0 e))

-- a monitor row in use
module _ (h : ℕ) (r : List ℕ) where
  pub held-long : most_condition < get_or r condition_length_at 0 → false ≡ held_test h r
  unfolding held_test
  held-long b = rw (lt-leb (get_or r condition_length_at 0) most_condition b) (sym (go (eqb (get_or r 0 0) h)))
    where
      go : (x : Bool) →
          (x && false && every is_zero (drop (condition_at + get_or r condition_length_at 0) (take extra_at r)) && bare_test r
          && accepts (monitor_in r).1) ≡ false
      go true = refl
      go false = refl

  pub held-short : (n k : ℕ) {z d a : Bool} → length r ≡ monitor_size → k ≡ get_or r 0 0 → n ≡ get_or r condition_length_at 0
      → n ≤ most_condition
      → z ≡ every is_zero (drop (7 + n) (take extra_at r)) → d ≡ added_test r → a ≡ form_test r
      → (eqb k h && z && d && a) ≡ held_test h r
  unfolding held_test
  held-short n k {z} {d} {a} l i e b p q f =
      let u : every is_zero (drop (7 + n) (take extra_at r))
      ≡ every is_zero (drop (condition_at + get_or r condition_length_at 0) (take extra_at r)) = rw e refl in
      let v : (d && a) ≡ (bare_test r && accepts (monitor_in r).1) = rw (q, f) (row-accepts r l (omega arith)) in
      rw (p ∙ u, i, le-leb (get_or r condition_length_at 0) most_condition (rw (← e) b))
      (go (eqb (get_or r 0 0) h) (every is_zero (drop (condition_at + get_or r condition_length_at 0) (take extra_at r))) d a
      (bare_test r)
      (accepts (monitor_in r).1) v)
    where
      go : (x y d a w s : Bool) → (d && a) ≡ (w && s) → (x && y && d && a) ≡ (x && true && y && w && s)
      go true true d a w s e = e
      go true false d a w s e = refl
      go false y d a w s e = refl

  pub monitor-empty : {b : Bool} → get_or r interval_at 0 ≡ 0 → b ≡ every is_zero r → b ≡ monitor_test h r
  unfolding monitor_test
  monitor-empty e q = q ∙ sym (pick_true (every is_zero r) (held_test h r) (eq-eqb (get_or r interval_at 0) 0 e))

  pub monitor-used : {b : Bool} → (get_or r interval_at 0 ≡ 0 → ⊥) → b ≡ held_test h r → b ≡ monitor_test h r
  unfolding monitor_test
  monitor-used e q = q ∙ sym (pick-false (every is_zero r) (held_test h r) (ne_eqb (get_or r interval_at 0) 0 e))

-- the monitors, one row after another
module _ (s : List ℕ) where
  part-monitor : (h : ℕ)
      → take (monitors_at + monitor_size * h + monitor_size - (monitors_at + monitor_size * h))
      (drop (monitors_at + monitor_size * h) s) ≡ monitor_row_at s h
  unfolding monitor_row_at row
  part-monitor h =
      let k : monitors_at + monitor_size * h + monitor_size -
      (monitors_at + monitor_size * h) ≡ monitor_size = omega arith in
      ap (λ (j : ℕ). take j (drop (monitors_at + monitor_size * h) s)) k
      ∙ ap (λ (x : List ℕ). take monitor_size x) (sym (drop-drop (monitor_size * h) head_size s))

  module _ (h : ℕ) {b : Bool}
      (q : b ≡ monitor_test h
      (take (monitors_at + monitor_size * h + monitor_size - (monitors_at + monitor_size * h))
      (drop (monitors_at + monitor_size * h) s))) where
    pub monitors-stop : h < most_monitors → not b ≡ true → false ≡ monitors_test s
    unfolding monitors_test
    monitors-stop k t =
        below_fails (λ (h : ℕ). monitor_test h (monitor_row_at s h)) most_monitors h k
        (sym (q ∙ ap (monitor_test h) (part-monitor h)) ∙ not-true b t)

    pub monitors-more : all_below (λ (h : ℕ). monitor_test h (monitor_row_at s h)) h ≡ true → not b ≡ false
        → all_below (λ (h : ℕ). monitor_test h (monitor_row_at s h)) (h + 1) ≡ true
    monitors-more i t =
        below_more (λ (h : ℕ). monitor_test h (monitor_row_at s h)) h i
        (sym (q ∙ ap (monitor_test h) (part-monitor h)) ∙ not-false b t)

  pub monitors-end : (h : ℕ) → all_below (λ (h : ℕ). monitor_test h (monitor_row_at s h)) h ≡ true → h ≡ most_monitors
      → true ≡ monitors_test s
  unfolding monitors_test
  monitors-end h i e = sym (rw e at i)

-- the settings, the filter and the octets behind the prefix
module _ (s : List ℕ) (l : length s ≡ block_size) where
  pub head-long : most_prefix < get_or s prefix_length_at 0 → false ≡ head_test (take head_size s)
  unfolding head_test
  head-long b =
      let r : List ℕ = take head_size s in
      let e : get_or r prefix_length_at 0 ≡ get_or s prefix_length_at 0 = get_or-take head_size s 7 0 (omega arith) in
      sym (and-not-left
      (leb (get_or r filter_at 0) 1 && leb 0xFC00 (little 2 r opcode_at) && leb (get_or r prefix_length_at 0) most_prefix)
      (every is_zero (drop (prefix_at + get_or r prefix_length_at 0) r))
      (and-not-right (leb (get_or r filter_at 0) 1 && leb 0xFC00 (little 2 r opcode_at))
      (leb (get_or r prefix_length_at 0) most_prefix)
      (lt-leb (get_or r prefix_length_at 0) most_prefix (rw e b))))

  pub head-short : (n : ℕ) {z : Bool} {v : ℕ} → n ≡ get_or s prefix_length_at 0 → n ≤ most_prefix
      → z ≡ every is_zero (drop (8 + n) (take head_size s)) → v ≡ number_at 2 s opcode_at
      → (leb (get_or s filter_at 0) 1 && leb 0xFC00 v && z) ≡ head_test (take head_size s)
  unfolding head_test
  head-short n {z} {v} e b p q =
      let r : List ℕ = take head_size s in
      let c : get_or r prefix_length_at 0 ≡ n = get_or-take head_size s 7 0 (omega arith) ∙ sym e in
      let f : get_or r filter_at 0 ≡ get_or s filter_at 0 = get_or-take head_size s 4 0 (omega arith) in
      let o : little 2 r opcode_at ≡ v =
      little-take 2 head_size s 5 (omega arith) ∙ sym (number-of 2 s 5 q (omega arith)) in
      rw (c, f, o, p, le-leb n most_prefix b)
      (go (leb (get_or s filter_at 0) 1 && leb 0xFC00 v) (every is_zero (drop (8 + n) r)))
    where
      go : (x y : Bool) → (x && y) ≡ (x && true && y)
      go true y = refl
      go false y = refl

-- a window that runs, and one that does not
module _ (position sampling ticks packets sum : ℕ) where
  pub window-runs : {l : ℕ} → sum < 18446744073709551616 → packets < 4294967296
      → (leb 1 sampling && leb sampling 254) ≡ true
      → l ≡ sum_above sum packets
      → (ltb ticks sampling && leb packets position && leb l
      (147 * packets)) ≡ window_test position sampling ticks packets sum
  unfolding window_test pick
  window-runs h b e q = rw (e, q, above-range sum packets h b)

  pub window-idle : (leb 1 sampling && leb sampling 254) ≡ false
      → (eqb ticks 0 && eqb packets 0) ≡ window_test position sampling ticks packets sum
  unfolding window_test pick
  window-idle e = rw e

-- a pair's row by its numbers: what was seen of the device, and its window
pub seen-row : (interval : ℕ) (r : List ℕ) {i : Bool} {v t : ℕ} → length r ≡ pair_size → v ≡ number_at 2 r 8
    → t ≡ ticks_of interval
    → i ≡ in_range (get_or r rssi_at 0) → (leb (get_or r address_type_at 0) 1 && i && ltb v t) ≡ seen_test interval r
unfolding seen_test
seen-row interval r {i} {v} {t} l dv dt di =
    let ev : v ≡ little 2 r 8 = number-of 2 r 8 dv (omega arith) in rw (di, ev, dt)

-- .. which no device of a dead monitor passes
pub seen-dead : (interval : ℕ) (r : List ℕ) → interval ≡ 0 → seen_test interval r ≡ false
unfolding seen_test ticks_of
seen-dead interval r e =
    and-not-right (leb (get_or r address_type_at 0) 1 && in_range (get_or r rssi_at 0))
    (ltb (little 2 r since_good_at) (10 * interval))
    (le-ltb (little 2 r since_good_at) (10 * interval) (omega arith))

module _ (position sampling : ℕ) (sifting : Bool) (r : List ℕ) where
  pub rest-long : most_data < get_or r length_at 0 → false ≡ rest_test position sampling sifting r
  unfolding rest_test
  rest-long h = rw (lt-leb (get_or r length_at 0) most_data h)

  pub rest-short : (n : ℕ) {z w e : Bool} {p u : ℕ} → length r ≡ pair_size → n ≡ get_or r length_at 0 → n ≤ most_data
      → z ≡ every is_zero (drop (data_at + n) r) → p ≡ number_at 4 r packets_at → u ≡ number_at 8 r sum_at
      → w ≡ window_test position sampling (get_or r ticks_at 0) p u
      → e ≡ empty_test sifting p u (get_or r event_at 0) (get_or r length_at 0)
      → (w && e && z) ≡ rest_test position sampling sifting r
  unfolding rest_test
  rest-short n {z} {w} {e} {p} {u} l k b dz dp du dw de =
      let ep : p ≡ little 4 r packets_at = number-of 4 r 11 dp (omega arith) in
      let eu : u ≡ little 8 r sum_at = number-of 8 r 15 du (omega arith) in
      rw (dz, dw, de, ep, eu, k, le-leb (get_or r length_at 0) most_data (rw (← k) b))

  -- both are the row's test
  pub row-both : (interval : ℕ) {a b : Bool} → a ≡ seen_test interval r → b ≡ rest_test position sampling sifting r
      → (a && b) ≡ fields_test position interval sampling sifting r
  unfolding seen_test rest_test fields_test
  row-both interval p q =
      rw (p, q)
      (go (leb (get_or r length_at 0) most_data) (leb (get_or r address_type_at 0) 1) (in_range (get_or r rssi_at 0))
      (ltb (little 2 r since_good_at) (ticks_of interval))
      (window_test position sampling (get_or r ticks_at 0) (little 4 r packets_at) (little 8 r sum_at))
      (empty_test sifting (little 4 r packets_at) (little 8 r sum_at) (get_or r event_at 0) (get_or r length_at 0))
      (every is_zero (drop (data_at + get_or r length_at 0) r)))
    where
      go : (n a k c w e z : Bool) → ((a && k && c) && (n && (w && e && z))) ≡ (n && (a && k && c && w && e && z))
      go true true true true w e z = refl
      go true true true false w e z = refl
      go true true false c w e z = refl
      go true false k c w e z = refl
      go false true true true w e z = refl
      go false true true false w e z = refl
      go false true false c w e z = refl
      go false false k c w e z = refl
