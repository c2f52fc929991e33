-- Tests one after another, of which each ends the function where it fails: what is answered then, and behind the last
-- one. Assumes nothing.
use Rattle.std.specs.Prelude.{ℕ, ◌+◌, ◌*◌, ◌≤◌, ◌<◌, ◌≡◌, refl, Bool, true, false, ◌&&◌, not, List, leb, ltb, eqb, length, take, drop, get_or}
use Rattle.std.proofs.Common.{sym, ap, ◌∙◌, le-leb, lt-ltb, le-ltb, eq-eqb, ne_eqb}
use Rattle.std.proofs.lemmas.Bool.{lt-leb, not-true, not-false}
use Rattle.laws.specs.Loops.{every}
use Rattle.laws.specs.TestsLaws.{and_both, and-not-left, and-not-right}
use Rattle.octets.specs.Numbers.{number_at}
use Rattle.parts.specs.Parts.{is_zero}
use Rattle.model.specs.Types.{ticks_of}
use Rattle.model.specs.Level.{in_range}
use Rattle.soundness.specs.Code.{sum_above}
use Rattle.soundness.specs.Clauses.{held_test}
use Rattle.soundness.specs.Fields.{window_test, empty_test, seen_test, rest_test, added_test, form_test}
use Rattle.soundness.specs.CodeLaws.{held-short, window-runs, seen-row, rest-short}
use Rattle.model.specs.Layout.{condition_length_at, data_at, event_at, extra_at, address_type_at, length_at, monitor_size, most_condition, most_data, packets_at, pair_size, rssi_at, sum_at, ticks_at}

-- of three tests the first fails, the second, the third; or the other two hold
module _ (a b c : Bool) where
  first-fails : a ≡ false → false ≡ (a && b && c)
  first-fails e = sym (and-not-left (a && b) c (and-not-left a b e))

  second-fails : b ≡ false → false ≡ (a && b && c)
  second-fails e = sym (and-not-left (a && b) c (and-not-right a b e))

  third-fails : c ≡ false → false ≡ (a && b && c)
  third-fails e = sym (and-not-right (a && b) c e)

  third-tells : a ≡ true → b ≡ true → c ≡ (a && b && c)
  third-tells p q = rw (p, q)

  second-tells : a ≡ true → c ≡ true → b ≡ (a && b && c)
  second-tells p q = rw (p, q) (go b)
    where
      go : (x : Bool) → x ≡ (x && true)
      go true = refl
      go false = refl

-- a monitor's row in use: its handle, the octets behind its condition, what version 2 adds, its form
module _ (h : ℕ) (r : List ℕ) (n k : ℕ) (l : length r ≡ monitor_size) (i : k ≡ get_or r 0 0)
    (e : n ≡ get_or r condition_length_at 0) (b : n ≤ most_condition) where
  held_all : {a : Bool} → a ≡ form_test r
      → (eqb k h && every is_zero (drop (7 + n) (take extra_at r)) && added_test r && a) ≡ held_test h r
  held_all f = held-short h r n k l i e b refl refl f

  pub held-misplaced : (k ≡ h → ⊥) → false ≡ held_test h r
  held-misplaced m =
      sym (and-not-left (eqb k h && every is_zero (drop (7 + n) (take extra_at r)) && added_test r) (form_test r)
      (sym (first-fails (eqb k h) (every is_zero (drop (7 + n) (take extra_at r))) (added_test r) (ne_eqb k h m))))
      ∙ held_all refl

  pub held-behind : {z : Bool} → z ≡ every is_zero (drop (7 + n)
      (take extra_at r)) → not z ≡ true → false ≡ held_test h r
  held-behind {z} p t =
      sym (and-not-left (eqb k h && every is_zero (drop (7 + n) (take extra_at r)) && added_test r) (form_test r)
      (sym (second-fails (eqb k h) (every is_zero (drop (7 + n) (take extra_at r))) (added_test r)
      (sym p ∙ not-true z t))))
      ∙ held_all refl

  pub held-added : {d : Bool} → d ≡ added_test r → not d ≡ true → false ≡ held_test h r
  held-added {d} q t =
      sym (and-not-left (eqb k h && every is_zero (drop (7 + n) (take extra_at r)) && added_test r) (form_test r)
      (sym (third-fails (eqb k h) (every is_zero (drop (7 + n) (take extra_at r))) (added_test r)
      (sym q ∙ not-true d t))))
      ∙ held_all refl

  pub held-formed : {z d a : Bool} → k ≡ h → z ≡ every is_zero (drop (7 + n) (take extra_at r)) → not z ≡ false
      → d ≡ added_test r → not d ≡ false → a ≡ form_test r → a ≡ held_test h r
  held-formed {z} {d} {a} m p t q u f =
      third-tells (eqb k h && every is_zero (drop (7 + n) (take extra_at r))) (added_test r) a
      (and_both (eq-eqb k h m) (sym p ∙ not-false z t)) (sym q ∙ not-false d u)
      ∙ held_all f

-- a window that runs: its ticks, its packets, its sum
module _ (position sampling ticks packets sum : ℕ) (h : sum < 18446744073709551616) (b : packets < 4294967296)
    (e : not (leb 1 sampling && leb sampling 254) ≡ false) where
  pub window-late : sampling ≤ ticks → false ≡ window_test position sampling ticks packets sum
  window-late k =
      first-fails (ltb ticks sampling) (leb packets position) (leb (sum_above sum packets) (147 * packets))
      (le-ltb ticks sampling k)
      ∙ window-runs position sampling ticks packets sum h b (not-false (leb 1 sampling && leb sampling 254) e) refl

  pub window-many : position < packets → false ≡ window_test position sampling ticks packets sum
  window-many k =
      second-fails (ltb ticks sampling) (leb packets position) (leb (sum_above sum packets) (147 * packets))
      (lt-leb packets position k)
      ∙ window-runs position sampling ticks packets sum h b (not-false (leb 1 sampling && leb sampling 254) e) refl

  pub window-sum : {v : ℕ} → ticks < sampling → packets ≤ position → v ≡ sum_above sum packets
      → leb v (147 * packets) ≡ window_test position sampling ticks packets sum
  window-sum {v} j k q =
      third-tells (ltb ticks sampling) (leb packets position) (leb v (147 * packets)) (lt-ltb ticks sampling j)
      (le-leb packets position k)
      ∙ window-runs position sampling ticks packets sum h b (not-false (leb 1 sampling && leb sampling 254) e) q

-- what a pair's row says of its device: its silence, its address type, its RSSI
module _ (interval : ℕ) (r : List ℕ) {v t : ℕ} {s : Bool} (l : length r ≡ pair_size) (dv : v ≡ number_at 2 r 8)
    (dt : t ≡ ticks_of interval) (q : s ≡ ltb v t) where
  pub seen-long : not s ≡ true → false ≡ seen_test interval r
  seen-long n =
      third-fails (leb (get_or r address_type_at 0) 1) (in_range (get_or r rssi_at 0)) (ltb v t) (sym q ∙ not-true s n)
      ∙ seen-row interval r l dv dt refl

  pub seen-kind : 1 < get_or r address_type_at 0 → false ≡ seen_test interval r
  seen-kind k =
      first-fails (leb (get_or r address_type_at 0) 1) (in_range (get_or r rssi_at 0)) (ltb v t)
      (lt-leb (get_or r address_type_at 0) 1 k)
      ∙ seen-row interval r l dv dt refl

  pub seen-kept : {i : Bool} → not s ≡ false → get_or r address_type_at 0 ≤ 1 → i ≡ in_range (get_or r rssi_at 0)
      → i ≡ seen_test interval r
  seen-kept {i} n k d =
      second-tells (leb (get_or r address_type_at 0) 1) i (ltb v t) (le-leb (get_or r address_type_at 0) 1 k)
      (sym q ∙ not-false s n)
      ∙ seen-row interval r l dv dt d

-- a pair's window: its numbers, whether it may be empty, the octets behind its data
module _ (position sampling : ℕ) (sifting : Bool) (r : List ℕ) (n : ℕ) {w : Bool} {p u : ℕ}
    (l : length r ≡ pair_size) (k : n ≡ get_or r length_at 0) (b : n ≤ most_data) (dp : p ≡ number_at 4 r packets_at)
    (du : u ≡ number_at 8 r sum_at) (dw : w ≡ window_test position sampling (get_or r ticks_at 0) p u) where
  pub rest-window : not w ≡ true → false ≡ rest_test position sampling sifting r
  rest-window t =
      first-fails w (empty_test sifting p u (get_or r event_at 0) (get_or r length_at 0)) (every is_zero (drop
      (data_at + n) r))
      (not-true w t)
      ∙ rest-short position sampling sifting r n l k b refl dp du dw refl

  module _ {e : Bool} (de : e ≡ empty_test sifting p u (get_or r event_at 0) (get_or r length_at 0)) where
    pub rest-empty : not e ≡ true → false ≡ rest_test position sampling sifting r
    rest-empty t =
        second-fails w e (every is_zero (drop (data_at + n) r)) (not-true e t)
        ∙ rest-short position sampling sifting r n l k b refl dp du dw de

    pub rest-behind : {z : Bool} → not w ≡ false → not e ≡ false → z ≡ every is_zero (drop (data_at + n) r)
        → z ≡ rest_test position sampling sifting r
    rest-behind {z} t s d =
        third-tells w e z (not-false w t) (not-false e s)
        ∙ rest-short position sampling sifting r n l k b d dp du dw de
