-- What the functions over the pairs and the whole block owe, as laws over plain values. Assumes nothing.
use Prim.Native.Nat.{ℕ, ◌+◌, ◌-◌, ◌*◌, ◌/◌, ◌%◌, ◌≤◌, ◌<◌}
use Rattle.std.specs.Prelude.{◌≡◌, refl, Bool, true, false, ◌&&◌, length, drop}
use Rattle.std.proofs.Math.Path.{sym, ap}
use Rattle.std.proofs.Common.{◌∙◌, div-one, drop-drop}
use Rattle.std.proofs.Math.Bool.{not}
use Rattle.std.proofs.lemmas.Bool.{false≢true}
use mathlib.Core.List.{List}
use Rattle.std.proofs.Math.Option.{Option, none, some}
use native.Mathlib.Omega.{arith}
use Rattle.std.proofs.Math.Dec.{eqb}
use Rattle.std.proofs.Math.ListN.{take, get_or}
use Rattle.std.proofs.Math.Seq.{get_or-drop}
use borrow.Author.Tests.{le-leb, lt-leb, eq-eqb, ne_eqb, not-true, not-false}
use Rattle.laws.specs.TestsLaws.{pick_true, pick-false, and-not-left, cases_eq}
use Rattle.laws.specs.Loops.{every}
use Rattle.laws.specs.Rows.{row}
use Rattle.laws.specs.RowsLaws.{get_d-row}
use Rattle.octets.specs.Little.{little}
use Rattle.octets.specs.Numbers.{number_at}
use Rattle.octets.specs.NumbersLaws.{number-of}
use Rattle.parts.specs.Parts.{is_zero}
use Rattle.model.specs.Types.{Monitor}
use Rattle.model.specs.Monitors.{has_bit, sifts, sifts_by}
use Rattle.model.specs.Image.{monitor_from, monitor_in}
use Rattle.model.specs.Sound.{sound_of}
use Rattle.blocks.specs.Added.{filtering_of}
use Rattle.blocks.specs.AddedLaws.{row-filtering}
use Rattle.state.specs.StartLaws.{octets-known}
use Rattle.soundness.specs.Below.{all_below}
use Rattle.soundness.specs.BelowLaws.{below_more, below_fails}
use Rattle.soundness.specs.Clauses.{monitor_row_at, pair_row_at, head_test, monitor_of_row}
use Rattle.soundness.specs.Clauses.{live_at, pair_test}
use Rattle.soundness.specs.Clauses.{place_test, key_at, other_test, free_test, monitors_test, loose_pairs_test, loose}
use Rattle.soundness.specs.FieldsLaws.{fields_test}
use Rattle.soundness.specs.FieldsLaws.{pair-tests}
use Rattle.soundness.specs.Fields.{seen_test, rest_test}
use Rattle.soundness.specs.CodeLaws.{part_of, row-both, seen-dead}
use Rattle.soundness.specs.FrontLaws.{live-row, live-none}
use Rattle.soundness.specs.PairsLaws.{length-pair_row_at, octets-pair_row_at}
use Rattle.model.specs.Layout.{block_size, count_at, extra_at, handle_at, head_size, monitor_size, monitors_at, most_monitors, most_pairs, pair_size, pairs_at, position_at}

-- whether a row's monitor filters duplicates
row-sifts : (r : List ℕ) → sifts (monitor_in r).1 ≡ eqb (filtering_of (get_or r extra_at 0) (get_or r
    (extra_at + 1) 0) % 2) 1
unfolding sifts sifts_by has_bit
row-sifts r =
    let f : ℕ = filtering_of (get_or r extra_at 0) (get_or r (extra_at + 1) 0) in
    ap (λ (j : ℕ). eqb (j / 1 % 2) 1) (row-filtering r) ∙ ap (λ (j : ℕ). eqb (j % 2) 1) (div-one f)

-- the pair at a place
module _ (s : List ℕ) (l : length s ≡ block_size) (i : ℕ) where
  part_pair : take (pairs_at + pair_size * i + pair_size - (pairs_at + pair_size * i)) (drop (pairs_at + pair_size * i) s)
      ≡ pair_row_at s i
  unfolding pair_row_at row
  part_pair =
      let k : pairs_at + pair_size * i + pair_size - (pairs_at + pair_size * i) ≡ pair_size = omega arith in
      ap (λ (j : ℕ). take j (drop (pairs_at + pair_size * i) s)) k
      ∙ ap (λ (x : List ℕ). take pair_size x) (sym (drop-drop (pair_size * i) pairs_at s))

  handle-of : (h : ℕ) → h ≡ get_or s (pairs_at + pair_size * i) 0 → get_or (pair_row_at s i) handle_at 0 ≡ h
  unfolding pair_row_at
  handle-of h e =
      let z : pairs_at + (pair_size * i + 0) ≡ pairs_at + pair_size * i = omega arith in
      get_d-row pair_size i 0 (drop pairs_at s) 0 (omega arith) ∙ get_or-drop pairs_at s (pair_size * i + 0) 0
      ∙ ap (λ (j : ℕ). get_or s j 0) z
      ∙ sym e

  field_of : (h k : ℕ) → k < monitor_size → get_or (monitor_row_at s h) k 0 ≡ get_or s (monitors_at + monitor_size * h + k) 0
  unfolding monitor_row_at
  field_of h k b =
      let z : monitors_at + (monitor_size * h + k) ≡ monitors_at + monitor_size * h + k = omega arith in
      get_d-row monitor_size h k (drop monitors_at s) 0 b ∙ get_or-drop head_size s (monitor_size * h + k) 0
      ∙ ap (λ (j : ℕ). get_or s j 0) z

  none-fails : (o : Option Monitor) → o ≡ none → pair_test (little 4 s position_at) o (pair_row_at s i) ≡ false
  unfolding pair_test sound_of
  none-fails o e = rw e

  pub pair-high : (h : ℕ) → h ≡ get_or s (pairs_at + pair_size * i) 0 → most_monitors ≤ h → false ≡ place_test s i
  unfolding place_test
  pair-high h e b =
      let n : live_at s (get_or (pair_row_at s i) handle_at 0) ≡ none = ap (live_at s) (handle-of h e) ∙ live-none s l h b in
      sym (none-fails (live_at s (get_or (pair_row_at s i) handle_at 0)) n)

  pub pair-dead : (h : ℕ) → h ≡ get_or s (pairs_at + pair_size * i) 0 → h < most_monitors
      → get_or s (monitors_at + monitor_size * h + 3) 0 ≡ 0
      → false ≡ place_test s i
  unfolding place_test monitor_of_row
  pair-dead h e b z =
      let r : List ℕ = monitor_row_at s h in
      let n : live_at s (get_or (pair_row_at s i) handle_at 0) ≡ none =
      ap (live_at s) (handle-of h e) ∙ live-row s l h b
      ∙ pick_true none (some (monitor_in r).1) (eq-eqb (get_or r 3 0) 0 (field_of h 3 (omega arith) ∙ z)) in
      sym (none-fails (live_at s (get_or (pair_row_at s i) handle_at 0)) n)

  pub pair-live : (h : ℕ) {b : Bool} {p f : ℕ} → i < most_pairs → ((k : ℕ) → get_or s k 0 < 256)
      → h ≡ get_or s (pairs_at + pair_size * i) 0
      → h < most_monitors
      → (get_or s (monitors_at + monitor_size * h + 3) 0 ≡ 0 → ⊥) → p ≡ number_at 4 s position_at
      → f ≡ filtering_of (get_or s (monitors_at + monitor_size * h + extra_at) 0)
      (get_or s (monitors_at + monitor_size * h + (extra_at + 1)) 0)
      → b ≡ fields_test p (get_or s (monitors_at + monitor_size * h + 3) 0) (get_or s (monitors_at + monitor_size * h + 4) 0)
      (eqb (f % 2) 1)
      (take (pairs_at + pair_size * i + pair_size - (pairs_at + pair_size * i)) (drop (pairs_at + pair_size * i) s))
      → b ≡ place_test s i
  unfolding place_test monitor_of_row monitor_in monitor_from
  pair-live h {b} {p} {f} a o e k z dp df q =
      let r : List ℕ = monitor_row_at s h in
      let m : Monitor = (monitor_in r).1 in
      let ep : p ≡ little 4 s position_at = number-of 4 s 0 dp (omega arith) in
      let u : get_or s (monitors_at + monitor_size * h + 3) 0 ≡ m.interval = sym (field_of h 3 (omega arith)) in
      let v : get_or s (monitors_at + monitor_size * h + 4) 0 ≡ m.sampling = sym (field_of h 4 (omega arith)) in
      let w : eqb (f % 2) 1 ≡ sifts m =
      ap (λ (j : ℕ). eqb (j % 2) 1)
      (df ∙ ap (λ (j : ℕ). filtering_of j (get_or s (monitors_at + monitor_size * h + (extra_at + 1)) 0))
      (sym (field_of h extra_at (omega arith)))
      ∙ ap (filtering_of (get_or r extra_at 0)) (sym (field_of h (extra_at + 1) (omega arith))))
      ∙ sym (row-sifts r) in
      let n : live_at s (get_or (pair_row_at s i) handle_at 0) ≡ some m =
      ap (live_at s) (handle-of h e) ∙ live-row s l h k
      ∙ pick-false none (some m) (ne_eqb (get_or r 3 0) 0 (λ (w : get_or r 3 0 ≡ 0). z (u ∙ w))) in
      let x : List ℕ =
      take (pairs_at + pair_size * i + pair_size - (pairs_at + pair_size * i)) (drop (pairs_at + pair_size * i) s) in
      q ∙ ap (λ (t : Bool). fields_test p (get_or s (monitors_at + monitor_size * h + 3) 0)
      (get_or s (monitors_at + monitor_size * h + 4) 0) t x) w
      ∙ ap (λ (j : ℕ). fields_test j (get_or s (monitors_at + monitor_size * h + 3) 0)
      (get_or s (monitors_at + monitor_size * h + 4) 0) (sifts m) x) ep
      ∙ ap (λ (j : ℕ). fields_test (little 4 s position_at) j (get_or s (monitors_at + monitor_size * h + 4) 0)
      (sifts m) x) u
      ∙ ap (λ (j : ℕ). fields_test (little 4 s position_at) m.interval j (sifts m) x) v
      ∙ ap (fields_test (little 4 s position_at) m.interval m.sampling (sifts m)) part_pair
      ∙ sym (pair-tests (little 4 s position_at) m (pair_row_at s i) (length-pair_row_at s l i a)
      (octets-pair_row_at s l (octets-known s o) i))
      ∙ ap (λ (x : Option Monitor). pair_test (little 4 s position_at) x (pair_row_at s i)) (sym n)

  -- .. by its two tests one after the other; a dead monitor fails the first
  module _ (h : ℕ) {p f : ℕ} {a : Bool} (n : i < most_pairs) (o : (k : ℕ) → get_or s k 0 < 256)
      (e : h ≡ get_or s (pairs_at + pair_size * i) 0) (k : h < most_monitors) (dp : p ≡ number_at 4 s position_at)
      (df : f ≡ filtering_of (get_or s (monitors_at + monitor_size * h + extra_at) 0)
      (get_or s (monitors_at + monitor_size * h + (extra_at + 1)) 0))
      (q : a ≡ seen_test (get_or s (monitors_at + monitor_size * h + 3) 0)
      (take (pairs_at + pair_size * i + pair_size - (pairs_at + pair_size * i)) (drop (pairs_at + pair_size * i) s))) where
    live_both : {b : Bool} → (get_or s (monitors_at + monitor_size * h + 3) 0 ≡ 0 → ⊥)
        → b ≡ rest_test p (get_or s (monitors_at + monitor_size * h + 4) 0) (eqb (f % 2) 1)
        (take (pairs_at + pair_size * i + pair_size - (pairs_at + pair_size * i)) (drop (pairs_at + pair_size * i) s))
        → (a && b) ≡ place_test s i
    live_both z d = pair-live h n o e k z dp df (row-both _ _ _ _ _ q d)

    pub pair-unseen : not a ≡ true → false ≡ place_test s i
    pair-unseen t =
        cases_eq (get_or s (monitors_at + monitor_size * h + 3) 0) 0 (λ z. pair-dead h e k z)
        (λ z. sym (and-not-left a _ (not-true a t)) ∙ live_both z refl)

    pub pair-seen : {b : Bool} → not a ≡ false
        → b ≡ rest_test p (get_or s (monitors_at + monitor_size * h + 4) 0) (eqb (f % 2) 1)
        (take (pairs_at + pair_size * i + pair_size - (pairs_at + pair_size * i)) (drop (pairs_at + pair_size * i) s))
        → b ≡ place_test s i
    pair-seen {b} t d =
        sym (ap (λ (x : Bool). x && b) (not-false a t))
        ∙ live_both (λ z. false≢true (sym (seen-dead _ _ z) ∙ sym q ∙ not-false a t)) d

-- a pair against those before it
abbrev pub differs : List ℕ → ℕ → ℕ → Bool
differs s i j = not (eqb (key_at s i) (key_at s j))

module _ (s : List ℕ) (l : length s ≡ block_size) (i : ℕ) where
  key_of : (j : ℕ) {k : ℕ} → j < most_pairs → k ≡ number_at 8 s (pairs_at + pair_size * j) → k ≡ key_at s j
  unfolding key_at
  key_of j h q = number-of 8 s (pairs_at + pair_size * j) q (omega arith)

  module _ (j : ℕ) {x y : ℕ} (b : i < most_pairs) (h : j < i) (p : x ≡ number_at 8 s (pairs_at + pair_size * i))
      (q : y ≡ number_at 8 s (pairs_at + pair_size * j)) where
    pub other-stop : x ≡ y → false ≡ other_test s i
    unfolding other_test
    other-stop e =
        below_fails (differs s i) i j h
        (ap not (eq-eqb (key_at s i) (key_at s j) (sym (key_of i b p) ∙ e ∙ key_of j (omega arith) q)))

    pub other-more : (x ≡ y → ⊥) → all_below (differs s i) j ≡ true → all_below (differs s i) (j + 1) ≡ true
    other-more d a =
        below_more (differs s i) j a
        (ap not (ne_eqb (key_at s i) (key_at s j)
        (λ (w : key_at s i ≡ key_at s j). d (key_of i b p ∙ w ∙ sym (key_of j (omega arith) q)))))

  pub other-end : (j : ℕ) → all_below (differs s i) j ≡ true → j ≡ i → true ≡ other_test s i
  unfolding other_test
  other-end j a e = sym (rw e at a)

-- the pairs, one after another: what each holds
module _ (s : List ℕ) (i : ℕ) {a : Bool} (p : a ≡ place_test s i) where
  pub pairs-stop : (c : ℕ) → i < c → not a ≡ true → false ≡ all_below (place_test s) c
  pairs-stop c h t = below_fails (place_test s) c i h (sym p ∙ not-true a t)

  pub pairs-more : all_below (place_test s) i ≡ true → not a ≡ false → all_below (place_test s) (i + 1) ≡ true
  pairs-more h t = below_more (place_test s) i h (sym p ∙ not-false a t)

-- .. and that it is no pair before it
module _ (s : List ℕ) (i : ℕ) {b : Bool} (q : b ≡ other_test s i) where
  pub others-stop : (c : ℕ) → i < c → not b ≡ true → false ≡ all_below (other_test s) c
  others-stop c h t = below_fails (other_test s) c i h (sym q ∙ not-true b t)

  pub others-more : all_below (other_test s) i ≡ true → not b ≡ false → all_below (other_test s) (i + 1) ≡ true
  others-more h t = below_more (other_test s) i h (sym q ∙ not-false b t)

-- the count, what is behind the pairs, and the pairs
module _ (s : List ℕ) (l : length s ≡ block_size) (c : ℕ) (e : c ≡ get_or s count_at 0) where
  free_part : {z : Bool} → c ≤ most_pairs → z ≡ every is_zero (drop (pairs_at + pair_size * c) (take count_at s))
      → z ≡ free_test s c
  unfolding free_test
  free_part h q = q ∙ ap (every is_zero) (sym (part_of (pairs_at + pair_size * c) count_at s (omega arith) (omega arith)))

  pub count-high : most_pairs < c → false ≡ loose_pairs_test s (get_or s count_at 0)
  unfolding loose_pairs_test
  count-high h = rw (← e) (rw (lt-leb c most_pairs h))

  pub count-free : {z : Bool} → c ≤ most_pairs → z ≡ every is_zero (drop (pairs_at + pair_size * c) (take count_at s))
      → not z ≡ true
      → false ≡ loose_pairs_test s (get_or s count_at 0)
  unfolding loose_pairs_test
  count-free {z} h q t = let f : z ≡ free_test s c =
      free_part h q in rw (← e) (rw (le-leb c most_pairs h, ← f, not-true z t))

  pub count_held : {z b : Bool} → c ≤ most_pairs → z ≡ every is_zero (drop (pairs_at + pair_size * c) (take count_at s))
      → not z ≡ false
      → b ≡ all_below (place_test s) c → b ≡ loose_pairs_test s (get_or s count_at 0)
  unfolding loose_pairs_test
  count_held {z} h q t d = let f : z ≡ free_test s c =
      free_part h q in rw (← e) (rw (le-leb c most_pairs h, ← f, not-false z t) d)

-- the whole block
module _ (s : List ℕ) where
  pub whole_length : (length s ≡ block_size → ⊥) → false ≡ loose s
  unfolding loose
  whole_length h = sym (rw (ne_eqb (length s) block_size h))

  pub whole-head : {b : Bool} → length s ≡ block_size → b ≡ head_test (take head_size s) → not b ≡ true → false ≡ loose s
  unfolding loose
  whole-head {b} h q t = sym (rw (eq-eqb (length s) block_size h, ← q, not-true b t))

  pub whole-monitors : {b m : Bool} → length s ≡ block_size → b ≡ head_test (take head_size s) → not b ≡ false
      → m ≡ monitors_test s → not m ≡ true → false ≡ loose s
  unfolding loose
  whole-monitors {b} {m} h q t p u = sym (rw (eq-eqb (length s) block_size h, ← q, not-false b t, ← p, not-true m u))

  pub whole-pairs : {b m p : Bool} → length s ≡ block_size → b ≡ head_test (take head_size s) → not b ≡ false
      → m ≡ monitors_test s → not m ≡ false → p ≡ loose_pairs_test s (get_or s count_at 0) → p ≡ loose s
  unfolding loose
  whole-pairs {b} {m} h q t d u e = e ∙ sym (rw (
    eq-eqb
        (length s) block_size h,
    ← q,
    not-false b t,
    ← d,
    not-false m u,
  ))
