-- Laws of the definitions in Fields.
use Prim.Native.Nat.{ℕ, ◌+◌, ◌≤◌, ◌<◌}
use Rattle.std.specs.Prelude.{◌≡◌, Bool, ◌&&◌, List, ltb, eqb, take, drop}
use Rattle.std.proofs.Math.Path.{refl}
use Rattle.std.proofs.Common.{ap, ◌∙◌, arith, length-take, length-drop}
use Rattle.std.proofs.Math.Bool.{true, false}
use Rattle.std.proofs.Math.Option.{some}
use Rattle.std.proofs.Math.Dec.{leb}
use Rattle.std.proofs.Math.ListN.{length, get_or}
use Rattle.std.proofs.Math.Seq.{length-take-le}
use borrow.Author.Tests.{le-leb, lt-leb, lt-ltb, le-ltb, eq-eqb}
use Rattle.laws.specs.Tests.{pick}
use Rattle.laws.specs.TestsLaws.{and-not-left, and-not-right, cases-le}
use Rattle.laws.specs.Loops.{every}
use Rattle.laws.specs.LoopsLaws.{every-at, every_take, every_drop}
use Rattle.octets.specs.Little.{little, is_octet}
use Rattle.parts.specs.Parts.{is_zero}
use Rattle.advert.specs.Condition.{form_of, form_status}
use Rattle.model.specs.Types.{Monitor, Pair, ticks_of}
use Rattle.model.specs.Level.{in_range, sum_in_range}
use Rattle.model.specs.Monitors.{settings_good, allowed, missing, parameters, sifts, condition_fault, fault_of, accepts}
use Rattle.model.specs.Monitors.{run_of, windowed, invalid}
use Rattle.model.specs.Image.{monitor_from, monitor_in, pair_in}
use Rattle.model.specs.Sound.{octets_up_to, sound_window, sound_latest, sound_empty, sound_fields, sound_of}
use Rattle.blocks.specs.Added.{added_in}
use Rattle.blocks.specs.AddedLaws.{row-parameters}
use Rattle.statuses.specs.SecondLaws.{missing-allowed}
use Rattle.soundness.specs.Clauses.{bare_test, pair_test}
use Rattle.soundness.specs.HeadLaws.{little-lt}
use Rattle.model.specs.Layout.{address_type_at, address_at, condition_at, condition_length_at, data_at, event_at, extra_at, high_at, interval_at, length_at, low_at, monitor_size, most_condition, most_data, packets_at, pair_size, rssi_at, sampling_at, since_good_at, sum_at, ticks_at, condition_type_at}
use Rattle.soundness.specs.Fields.{window_test, latest_test, empty_test, added_test, form_test}

-- a pair's row, with its monitor's interval and sampling period, and whether it filters duplicates
unfoldable pub fields_test : ℕ → ℕ → ℕ → Bool → List ℕ → Bool
fields_test position interval sampling sifting r =
    leb (get_or r length_at 0) most_data
    && (leb (get_or r address_type_at 0) 1 && in_range (get_or r rssi_at 0) && ltb (little 2 r since_good_at) (ticks_of interval)
    && window_test position sampling (get_or r ticks_at 0) (little 4 r packets_at) (little 8 r sum_at)
    && empty_test sifting (little 4 r packets_at) (little 8 r sum_at) (get_or r event_at 0) (get_or r length_at 0)
    && every is_zero (drop (data_at + get_or r length_at 0) r))

-- 0x03 or 0x0F accepts a monitor whose settings, added parameters and condition pass
accepts-tests : (m : Monitor) → length m.condition ≤ most_condition
    → accepts m ≡ (settings_good m.high m.low m.interval
    && allowed (parameters m) m.sampling m.condition_type
    && eqb (form_status (form_of m.condition_type m.condition)) 0)
unfolding accepts fault_of condition_fault pick
accepts-tests m h =
    rw (le-ltb most_condition (length m.condition) h)
    (go (settings_good m.high m.low m.interval && allowed (parameters m) m.sampling m.condition_type)
    (eqb (form_status (form_of m.condition_type m.condition)) 0)
    (form_status (form_of m.condition_type m.condition)) refl)
  where
    go : (a t : Bool) (n : ℕ) → eqb n 0 ≡ t → eqb (pick a (pick t 0 n) invalid) 0 ≡ (a && t)
    go true true n e = refl
    go true false n e = e
    go false t n e = refl

-- so a row passes where its octets do
pub row-accepts : (r : List ℕ) → length r ≡ monitor_size → get_or r condition_length_at 0 ≤ most_condition
    → (added_test r && form_test r) ≡ (bare_test r && accepts (monitor_in r).1)
unfolding added_test form_test bare_test monitor_in monitor_from pick
row-accepts r l h =
    let n : ℕ = get_or r condition_length_at 0 in
    let c : List ℕ = take n (drop condition_at r) in
    let s : Bool = settings_good (get_or r high_at 0) (get_or r low_at 0) (get_or r interval_at 0) in
    let f : Bool = eqb (form_status (form_of (get_or r condition_type_at 0) c)) 0 in
    let k : length c ≤ most_condition = rw (length-take n (drop condition_at r)) (omega arith) in
    rw (accepts-tests (monitor_in r).1 k, row-parameters r) (go (eqb (get_or r extra_at 0) 0) s f)
  where
    bare : (z s f : Bool) → (z && (s && f)) ≡ (z && (s && true && f))
    bare false s f = refl
    bare true false f = refl
    bare true true f = refl

    full : (a s f : Bool) → (a && (s && f)) ≡ (s && a && f)
    full false false f = refl
    full false true f = refl
    full true false f = refl
    full true true f = refl

    go : (t s f : Bool)
        → (pick t (every is_zero (drop extra_at r))
        (allowed (added_in r) (get_or r sampling_at 0) (get_or r condition_type_at 0))
        && (s && f))
        ≡ (pick t (every is_zero (drop extra_at r)) true
        && (s && allowed (pick t missing (added_in r)) (get_or r sampling_at 0) (get_or r condition_type_at 0) && f))
    go true s f = rw (missing-allowed (get_or r sampling_at 0) (get_or r condition_type_at 0))
        (bare (every is_zero (drop extra_at r)) s f)
    go false s f = full (allowed (added_in r) (get_or r sampling_at 0) (get_or r condition_type_at 0)) s f

-- a pair's window and its emptiness, by its numbers
window-tests : (position : ℕ) (m : Monitor) (q : Pair) → q.sum < 18446744073709551616
    → sound_window position m q ≡ window_test position m.sampling q.ticks q.packets q.sum
unfolding sound_window window_test windowed
window-tests position m q h =
    rw (lt-ltb q.sum 18446744073709551616 h)
    (ap (λ (t : Bool). pick (leb 1 m.sampling && leb m.sampling 254) t (eqb q.ticks 0 && eqb q.packets 0))
    (go (ltb q.ticks m.sampling) (leb q.packets position)
    (sum_in_range q.sum q.packets)))
  where
    go : (a b c : Bool) → (a && b && true && c) ≡ (a && b && c)
    go false b c = refl
    go true false c = refl
    go true true c = refl

latest-tests : (t : Bool) (event n : ℕ) (adv : List ℕ) → length adv ≡ n
    → sound_latest t event adv ≡ latest_test t event n
unfolding sound_latest latest_test pick
latest-tests true event n adv e = rw e
latest-tests false event n adv e = rw e

empty-tests : (m : Monitor) (q : Pair) (n : ℕ) → length q.adv ≡ n
    → sound_empty m q ≡ empty_test (sifts m) q.packets q.sum q.event n
unfolding sound_empty empty_test
empty-tests m q n e = rw (latest-tests (sifts m) q.event n q.adv e)

-- a pair's fields: the address is 6 octets and the data are octets whatever stands there
fields-tests : (q : Pair) → length q.address ≡ 6 → every is_octet q.address ≡ true → length q.adv ≤ most_data
    → every is_octet q.adv ≡ true → is_octet q.kept ≡ true
    → sound_fields q ≡ (leb q.address_type 1 && in_range q.kept)
unfolding sound_fields octets_up_to
fields-tests q a b c d k =
    rw (eq-eqb (length q.address) 6 a, b, le-leb (length q.adv) most_data c, d, k)
    (go (leb q.address_type 1) (in_range q.kept))
  where
    go : (a b : Bool) → (a && true && true && true && (true && b)) ≡ (a && b)
    go false b = refl
    go true b = refl

-- a pair's row passes where its numbers do
module _ (position : ℕ) (m : Monitor) (r : List ℕ) (l : length r ≡ pair_size) (o : every is_octet r ≡ true) where
  few-tests : get_or r length_at 0 ≤ most_data
      → pair_test position (some m) r ≡ fields_test position m.interval m.sampling (sifts m) r
  unfolding pair_test sound_of fields_test pair_in run_of
  few-tests h =
      let q : Pair = pair_in r in
      let n : ℕ = get_or r length_at 0 in
      let la : length (take 6 (drop address_at r)) ≡ 6 =
      length-take-le 6 (drop address_at r) (rw (length-drop 2 r) (omega arith)) in
      let ld : length (take n (drop data_at r)) ≡ n =
      length-take-le n (drop data_at r) (rw (length-drop data_at r) (omega arith)) in
      let oa : every is_octet (take 6 (drop address_at r)) ≡ true =
      every_take is_octet 6 (drop address_at r) (every_drop is_octet 2 r o) in
      let od : every is_octet (take n (drop data_at r)) ≡ true =
      every_take is_octet n (drop data_at r) (every_drop is_octet data_at r o) in
      rw (
        fields-tests q la oa (omega arith) od (every-at is_octet r rssi_at 0 o (omega arith)),
        window-tests position m q (little-lt 8 r 15 o),
        empty-tests m q n ld,
        le-leb n most_data h,
      )
      (go (leb (get_or r address_type_at 0) 1) (in_range (get_or r rssi_at 0))
      (ltb (little 2 r since_good_at) (ticks_of m.interval))
      (window_test position m.sampling (get_or r ticks_at 0) (little 4 r packets_at) (little 8 r sum_at))
      (empty_test (sifts m) (little 4 r packets_at) (little 8 r sum_at) (get_or r event_at 0) n)
      (every is_zero (drop (data_at + n) r)))
    where
      go : (a k c d e f : Bool) → (a && k && c && d && e && true && f) ≡ (a && k && c && d && e && f)
      go false k c d e f = refl
      go true false c d e f = refl
      go true true false d e f = refl
      go true true true false e f = refl
      go true true true true false f = refl
      go true true true true true f = refl

  many-tests : most_data < get_or r length_at 0 → pair_test position (some m) r ≡ false
  unfolding pair_test
  many-tests h =
      and-not-left (sound_of position (some m) (pair_in r) && leb (get_or r length_at 0) most_data)
      (every is_zero (drop (data_at + get_or r length_at 0) r))
      (and-not-right (sound_of position (some m) (pair_in r)) (leb (get_or r length_at 0) most_data)
      (lt-leb (get_or r length_at 0) most_data h))

  pub fields-many : most_data < get_or r length_at 0 → false ≡ fields_test position m.interval m.sampling (sifts m) r
  unfolding fields_test
  fields-many h = rw (lt-leb (get_or r length_at 0) most_data h)

  pub pair-tests : pair_test position (some m) r ≡ fields_test position m.interval m.sampling (sifts m) r
  pair-tests =
      cases-le (get_or r length_at 0) most_data (λ (u : get_or r length_at 0 ≤ most_data). few-tests u)
      (λ (u : most_data < get_or r length_at 0). many-tests u ∙ fields-many u)
