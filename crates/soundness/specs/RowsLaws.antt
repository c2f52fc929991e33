-- Rows whose unused octets are 0 are the rows of what they hold. Document 01, The image (A0, A1, A2; "every unused
-- octet and place of the state 0"). Assumes nothing.
use Rattle.std.specs.Prelude.{ℕ, suc, ◌+◌, ◌-◌, ◌≤◌, ◌<◌, ◌≡◌, true, List, ◌∷◌, ◌++◌, length, take, drop, get_or, replicate}
use Rattle.std.proofs.Common.{sym, ap, ◌∙◌, append_assoc, arith, length-drop, take-append-drop, length-take-le, drop_at, drop-cons, drop-drop, get_or-take, take-add, take-take}
use Rattle.laws.specs.Loops.{every}
use Rattle.laws.specs.LoopsLaws.{every_take, every_drop}
use Rattle.octets.specs.Little.{little, value, octets_of, is_octet}
use Rattle.octets.specs.LittleLaws.{little-value, octets-value}
use Rattle.parts.specs.Parts.{is_zero}
use Rattle.model.specs.Image.{monitor_row, pair_row, monitor_from, pair_in}
use Rattle.model.specs.Block.{pad_to}
use Rattle.soundness.specs.BelowLaws.{zeros-run}
use Rattle.model.specs.Layout.{address_at, condition_at, condition_length_at, data_at, event_at, extra_at, handle_at, high_at, interval_at, length_at, low_at, monitor_size, most_condition, most_data, packets_at, pair_size, rssi_at, sampling_at, since_good_at, sum_at, ticks_at, condition_type_at}

-- what is left at index i, with the octet, the octets or the number that stands there first
pub one-cut : (r : List ℕ) (i : ℕ) → i < length r → get_or r i 0 ∷ drop (suc i) r ≡ drop i r
one-cut r i h = sym (drop-cons r i 0 h)

pub part_cut : (r : List ℕ) (i n : ℕ) → take n (drop i r) ++ drop (i + n) r ≡ drop i r
part_cut r i n = ap (λ (l : List ℕ). take n (drop i r) ++ l) (sym (drop-drop n i r)) ∙ take-append-drop n (drop i r)

pub number-octets : (k : ℕ) (r : List ℕ) (i : ℕ) → every is_octet r ≡ true → i + k ≤ length r
    → octets_of k (little k r i) ≡ take k (drop i r)
number-octets k r i o h =
    let d : length (drop i r) ≡ length r - i = length-drop i r in
    let n : length (take k (drop i r)) ≡ k = length-take-le k (drop i r) (omega arith) in
    ap (λ (v : ℕ). octets_of k v) (little-value k r i h)
    ∙ ap (λ (j : ℕ). octets_of j (value (take k (drop i r)))) (sym n)
    ∙ octets-value (take k (drop i r)) (every_take is_octet k (drop i r) (every_drop is_octet i r o))

pub number_cut : (k : ℕ) (r : List ℕ) (i : ℕ) → every is_octet r ≡ true → i + k ≤ length r
    → octets_of k (little k r i) ++ drop (i + k) r ≡ drop i r
number_cut k r i o h =
    ap (λ (l : List ℕ). l ++ drop (i + k) r) (number-octets k r i o h) ∙ part_cut r i k

-- a row with zeros behind its first n octets is these octets, padded
pub pad-zeros : (size n : ℕ) (f r : List ℕ) → length r ≡ size → length f ≡ n → n ≤ size → f ++ drop n r ≡ r
    → every is_zero (drop n r) ≡ true → pad_to size f ≡ r
unfolding pad_to
pad-zeros size n f r l k h e z =
    let d : length (drop n r) ≡ size - length f = length-drop n r ∙ omega arith in
    ap (λ (j : ℕ). f ++ replicate j 0) (sym d) ∙ ap (λ (x : List ℕ). f ++ x) (sym (zeros-run (drop n r) z)) ∙ e

-- A1's fields in a monitor's row
pub monitor-row : (r a : List ℕ) → length r ≡ extra_at → get_or r condition_length_at 0 ≤ most_condition
    → every is_zero (drop (condition_at + get_or r condition_length_at 0) r) ≡ true
    → pad_to extra_at (monitor_row (monitor_from r a)) ≡ r
unfolding monitor_row monitor_from
monitor-row r a l h z =
    let n : ℕ = get_or r condition_length_at 0 in
    let c : List ℕ = take n (drop condition_at r) in
    let k : length c ≡ n = length-take-le n (drop condition_at r) (rw (length-drop 7 r) (omega arith)) in
    pad-zeros extra_at (7 + n) (monitor_row (monitor_from r a)) r l (omega arith) (omega arith) (
    ap (λ (j : ℕ). get_or r handle_at 0 ∷ get_or r high_at 0 ∷ get_or r low_at 0 ∷ get_or r interval_at 0 ∷ get_or r sampling_at 0
    ∷ get_or r condition_type_at 0 ∷ j ∷
    (c ++ drop (7 + n) r)) k
    ∙ ap (λ (x : List ℕ). get_or r handle_at 0 ∷ get_or r high_at 0 ∷ get_or r low_at 0 ∷ get_or r interval_at 0
    ∷ get_or r sampling_at 0 ∷ get_or r condition_type_at 0 ∷ n ∷ x)
    (part_cut r 7 n)
    ∙ ap (λ (x : List ℕ). get_or r handle_at 0 ∷ get_or r high_at 0 ∷ get_or r low_at 0 ∷ get_or r interval_at 0
    ∷ get_or r sampling_at 0 ∷ get_or r condition_type_at 0 ∷ x)
    (one-cut r 6 (omega arith))
    ∙ ap (λ (x : List ℕ). get_or r handle_at 0 ∷ get_or r high_at 0 ∷ get_or r low_at 0 ∷ get_or r interval_at 0
    ∷ get_or r sampling_at 0 ∷ x)
    (one-cut r 5 (omega arith))
    ∙ ap (λ (x : List ℕ). get_or r handle_at 0 ∷ get_or r high_at 0 ∷ get_or r low_at 0 ∷ get_or r interval_at 0 ∷ x)
    (one-cut r 4 (omega arith))
    ∙ ap (λ (x : List ℕ). get_or r handle_at 0 ∷ get_or r high_at 0 ∷ get_or r low_at 0 ∷ x) (one-cut r 3 (omega arith))
    ∙ ap (λ (x : List ℕ). get_or r handle_at 0 ∷ get_or r high_at 0 ∷ x) (one-cut r 2 (omega arith))
    ∙ ap (λ (x : List ℕ). get_or r handle_at 0 ∷ x) (one-cut r 1 (omega arith))
    ∙ one-cut r 0 (omega arith)) z

-- the same fields stand in the whole row
pub fields-whole : (r a : List ℕ) → get_or r condition_length_at 0 ≤ most_condition → length r ≡ monitor_size
    → monitor_row (monitor_from (take extra_at r) a) ≡ monitor_row (monitor_from r a)
unfolding monitor_row monitor_from
fields-whole r a h l =
    let n : ℕ = get_or r condition_length_at 0 in
    let m : get_or (take extra_at r) condition_length_at 0 ≡ n = get_or-take extra_at r 6 0 (omega arith) in
    let t : length (take condition_at r) ≡ condition_at = length-take-le condition_at r (omega arith) in
    let c : drop condition_at (take extra_at r) ≡ take most_condition (drop condition_at r) =
    ap (drop condition_at) (take-add condition_at most_condition r)
    ∙ drop_at (take condition_at r) (take most_condition (drop condition_at r)) condition_at t in
    rw (
      get_or-take extra_at r 0 0 (omega arith),
      get_or-take extra_at r 1 0 (omega arith),
      get_or-take extra_at r 2 0 (omega arith),
      get_or-take extra_at r 3 0 (omega arith),
      get_or-take extra_at r 4 0 (omega arith),
      get_or-take extra_at r 5 0 (omega arith),
      m,
      c,
      take-take n most_condition (drop condition_at r) h,
    )

-- a pair's row
pub pair_row_lem : (r : List ℕ) → length r ≡ pair_size → every is_octet r ≡ true → get_or r length_at 0 ≤ most_data
    → every is_zero (drop (data_at + get_or r length_at 0) r) ≡ true → pad_to pair_size (pair_row (pair_in r)) ≡ r
unfolding pair_row pair_in
pair_row_lem r l o h z =
    let n : ℕ = get_or r length_at 0 in
    let a : List ℕ = take 6 (drop address_at r) in
    let s : List ℕ = octets_of 2 (little 2 r since_good_at) in
    let p : List ℕ = octets_of 4 (little 4 r packets_at) in
    let u : List ℕ = octets_of 8 (little 8 r sum_at) in
    let d : List ℕ = take n (drop data_at r) in
    let y : List ℕ = drop (data_at + n) r in
    let la : length a ≡ 6 = length-take-le 6 (drop address_at r) (rw (length-drop 2 r) (omega arith)) in
    let k : length d ≡ n = length-take-le n (drop data_at r) (rw (length-drop data_at r) (omega arith)) in
    let f : List ℕ = pair_row (pair_in r) in
    let lf : length f ≡ data_at + n =
    Rattle.blocks.specs.RowsLaws.length-pair_row (pair_in r) la ∙ ap (λ (j : ℕ). data_at + j) k in
    pad-zeros pair_size (data_at + n) f r l lf (omega arith) (
    spread (get_or r handle_at 0) (get_or r high_at 0) a s (get_or r ticks_at 0) p u (get_or r rssi_at 0) (get_or r event_at 0)
    (length d) d y
    ∙ ap (λ (j : ℕ). get_or r handle_at 0 ∷ get_or r high_at 0 ∷
    (a ++ (s ++ (get_or r ticks_at 0 ∷ (p ++ (u ++ (get_or r rssi_at 0 ∷ get_or r event_at 0 ∷ j ∷ (d ++ y)))))))) k
    ∙ ap (λ (x : List ℕ). get_or r handle_at 0 ∷ get_or r high_at 0 ∷
    (a ++ (s ++ (get_or r ticks_at 0 ∷ (p ++ (u ++ (get_or r rssi_at 0 ∷ get_or r event_at 0 ∷ n ∷ x)))))))
    (part_cut r data_at n)
    ∙ ap (λ (x : List ℕ). get_or r handle_at 0 ∷ get_or r high_at 0
    ∷ (a ++ (s ++ (get_or r ticks_at 0 ∷ (p ++ (u ++ (get_or r rssi_at 0 ∷ get_or r event_at 0 ∷ x)))))))
    (one-cut r length_at (omega arith))
    ∙ ap (λ (x : List ℕ). get_or r handle_at 0 ∷ get_or r high_at 0
    ∷ (a ++ (s ++ (get_or r ticks_at 0 ∷ (p ++ (u ++ (get_or r rssi_at 0 ∷ x)))))))
    (one-cut r event_at (omega arith))
    ∙ ap (λ (x : List ℕ). get_or r handle_at 0 ∷ get_or r high_at 0 ∷ (a ++ (s ++ (get_or r ticks_at 0 ∷ (p ++ (u ++ x))))))
    (one-cut r rssi_at (omega arith))
    ∙ ap (λ (x : List ℕ). get_or r handle_at 0 ∷ get_or r high_at 0 ∷ (a ++ (s ++ (get_or r ticks_at 0 ∷ (p ++ x)))))
    (number_cut 8 r 15 o (omega arith))
    ∙ ap (λ (x : List ℕ). get_or r handle_at 0 ∷ get_or r high_at 0 ∷ (a ++ (s ++ (get_or r ticks_at 0 ∷ x))))
    (number_cut 4 r 11 o (omega arith))
    ∙ ap (λ (x : List ℕ). get_or r handle_at 0 ∷ get_or r high_at 0 ∷ (a ++ (s ++ x))) (one-cut r 10 (omega arith))
    ∙ ap (λ (x : List ℕ). get_or r handle_at 0 ∷ get_or r high_at 0 ∷ (a ++ x)) (number_cut 2 r 8 o (omega arith))
    ∙ ap (λ (x : List ℕ). get_or r handle_at 0 ∷ get_or r high_at 0 ∷ x) (part_cut r 2 6)
    ∙ ap (λ (x : List ℕ). get_or r handle_at 0 ∷ x) (one-cut r 1 (omega arith))
    ∙ one-cut r 0 (omega arith)) z
  where
    spread : (h k : ℕ) (a s : List ℕ) (t : ℕ) (p u : List ℕ) (o e n : ℕ) (d y : List ℕ)
        → h ∷ k ∷ (a ++ (s ++ (t ∷ (p ++ (u ++ (o ∷ e ∷ n ∷ d)))))) ++ y
        ≡ h ∷ k ∷ (a ++ (s ++ (t ∷ (p ++ (u ++ (o ∷ e ∷ n ∷ (d ++ y)))))))
    spread h k a s t p u o e n d y = simp append_assoc
