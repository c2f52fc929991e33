-- Laws of the definitions in Monitors.
use Prim.Native.Nat.{ℕ, ◌+◌, ◌-◌, ◌*◌, ◌%◌, ◌≤◌, ◌<◌}
use Rattle.std.specs.Prelude.{◌≡◌, refl, Bool, true, false, ◌&&◌, leb, ltb, eqb}
use Rattle.std.proofs.Math.Path.{sym, ap}
use Rattle.std.proofs.Common.{ap₂, ◌∙◌, arith, div-one, mod-lt, eqb-true, eq-eqb, ne_eqb}
use Rattle.std.proofs.Math.Bool.{not}
use mathlib.Core.List.{List, [], ◌++◌, append-nil}
use Rattle.std.specs.Int.Signed.{le_z, lt_z}
use lib.ListN.{length, take, drop, get_or}
use lib.Seq.{get_or-drop, drop-drop, take-take, take_all, length-take-le}
use Rattle.std.proofs.lemmas.Bool.{eqb-false}
use Rattle.laws.specs.Tests.{pick, sames}
use Rattle.laws.specs.TestsLaws.{sames-eq, and-not-left, cases-le, cases_eq}
use Rattle.laws.specs.Rows.{row}
use Rattle.laws.specs.RowsLaws.{get_d-row}
use Rattle.advert.specs.Condition.{meets}
use Rattle.model.specs.Level.{level, d_bm}
use Rattle.model.proofs.LevelsLaws.{below-levels, most-levels}
use Rattle.model.specs.Types.{Packet, scan_text}
use Rattle.model.specs.Frames.{packet_of, scan_of}
use Rattle.model.specs.Monitors.{admits, allows, has_bit, filtering, lets_through, matches, meets_condition, good, parameters, sifts, sifts_by, strong, windowed}
use Rattle.blocks.specs.Added.{filtering_of}
use Rattle.blocks.specs.AddedLaws.{row-filtering}
use Rattle.model.specs.Image.{monitor_from, monitor_in}
use Rattle.model.specs.Block.{in_use}
use Rattle.marks.specs.Marks.{matched, flag, bits, instant, mark_of, mark_row}
use Rattle.marks.proofs.FieldsLaws.{Clamped}
use Rattle.model.specs.Layout.{condition_at, condition_length_at, condition_room, extra_at, head_size, monitor_size, monitors_at, condition_type_at}
use Rattle.marks.specs.Monitors.{row_bits, met_row, full_bits, met_mark, Alike}

-- a number is odd: its lowest bit
pub odd-flag : (n : ℕ) → n % 2 ≡ flag (has_bit 1 n)
unfolding flag has_bit
odd-flag n = rw (div-one n) (go (n % 2) (eqb (n % 2) 1) refl (mod-lt n (omega arith)))
  where
    go : (k : ℕ) (t : Bool) → eqb k 1 ≡ t → k < 2 → k ≡ flag t
    go k true e h = eqb-true k 1 e
    go k false e h = let z : k ≡ 1 → ⊥ = eqb-false k 1 e in cases_eq k 0 (λ i. i) (λ i. absurd (z (omega arith)))

pub bits-made : (high low sampling rssi filter event : ℕ) {v u w a b c d e f : ℕ} {t : Bool} → v ≡ level rssi
    → u ≡ level low
    → w ≡ level high
    → a ≡ flag (ltb u v) → b ≡ flag (leb 1 sampling && leb sampling 254) → c ≡ flag (leb w v)
    → t ≡ lets_through filter event → d ≡ flag (eqb sampling 0 && t) → e ≡ filter % 2 → f ≡ flag t
    → a + 2 * b + 4 * c + 8 * d + 16 * e + 32 * f + matched ≡ row_bits high low sampling rssi filter event
unfolding row_bits bits
bits-made high low sampling rssi filter event x y z p q r i s o l =
    rw (p, q, r, s, o, l, x, y, z, i, odd-flag filter, below-levels low rssi, most-levels high rssi)

-- a field of the row of a handle
pub row_field : (s : List ℕ) (h j : ℕ) → j < monitor_size
    → get_or (row monitor_size h (drop monitors_at s)) j 0 ≡ get_or s (monitors_at + monitor_size * h + j) 0
row_field s h j b =
    let e : monitors_at + (monitor_size * h + j) ≡ monitors_at + monitor_size * h + j = omega arith in
    get_d-row monitor_size h j (drop monitors_at s) 0 b ∙ get_or-drop head_size s (monitor_size * h + j) 0
    ∙ ap (λ (i : ℕ). get_or s i 0) e

pub drop-take : (k n : ℕ) (l : List ℕ) → drop k (take (k + n) l) ≡ take n (drop k l)
drop-take k n l = ap (λ (x : List ℕ). drop k x) (lib.Seq.take-add k n l) ∙ cases-le k (length l) inside outside
  where
    inside : k ≤ length l → drop k (take k l ++ take n (drop k l)) ≡ take n (drop k l)
    inside h = lib.Seq.drop_at (take k l) (take n (drop k l)) k (length-take-le k l h)

    outside : length l < k → drop k (take k l ++ take n (drop k l)) ≡ take n (drop k l)
    outside h =
        let e : drop k l ≡ [] = lib.ListN.drop_of_length-le l {i = k} (omega arith) in
        rw (e, lib.Seq.take-nil n, append-nil (take k l), take_all k l (omega arith)) e

-- the condition of the row of a handle
pub row-condition : (s : List ℕ) (h n : ℕ) → Clamped (get_or s (monitors_at + monitor_size * h + 6) 0) condition_room n
    → take n (drop (monitors_at + monitor_size * h + 7) s)
    ≡ take (get_or (row monitor_size h (drop monitors_at s)) condition_length_at 0)
    (drop 7 (row monitor_size h (drop monitors_at s)))
unfolding row
row-condition s h n c =
    let x : ℕ = get_or s (monitors_at + monitor_size * h + 6) 0 in
    let d : List ℕ = drop (monitors_at + monitor_size * h + 7) s in
    let a : monitors_at + monitor_size * h + 7 ≡ monitors_at + (monitor_size * h + 7) = omega arith in
    let e : drop 7 (take monitor_size (drop (monitor_size * h) (drop monitors_at s))) ≡ take condition_room d =
    drop-take 7 condition_room (drop (monitor_size * h) (drop monitors_at s))
    ∙ ap (λ (l : List ℕ). take condition_room l)
    (drop-drop 7 (monitor_size * h) (drop monitors_at s) ∙ drop-drop (monitor_size * h + 7) head_size s
    ∙ ap (λ (i : ℕ). drop i s) (sym a)) in
    let f : get_or (take monitor_size (drop (monitor_size * h) (drop monitors_at s))) 6 0 ≡ x =
    row_field s h 6 (omega arith) in
    sym (ap (λ (k : ℕ). take k (drop 7 (take monitor_size (drop (monitor_size * h) (drop monitors_at s))))) f
    ∙ ap (λ (l : List ℕ). take x l) e
    ∙ cases-le x condition_room (λ u. take-take x condition_room d u ∙ ap (λ (k : ℕ). take k d) (sym (c.within u)))
    (λ u. take_all x (take condition_room d) (short u) ∙ ap (λ (k : ℕ). take k d) (sym (c.above u))))
  where
    short : condition_room < get_or s (monitors_at + monitor_size * h + 6) 0
        → length (take condition_room (drop (monitors_at + monitor_size * h + 7) s)) ≤ get_or s
        (monitors_at + monitor_size * h + 6) 0
    short u = simp lib.ListN.length-take (omega arith)

unmet : (a : Bool) (x : ℕ) → flag a ≡ 0 → pick a x 0 ≡ 0
unfolding flag pick
unmet false x e = refl
unmet true x e = absurd (omega arith)

met : (a : Bool) (x : ℕ) → (flag a ≡ 0 → ⊥) → pick a x 0 ≡ x
unfolding flag pick
met true x n = refl
met false x n = absurd (n refl)

turned : (a b c : Bool) (x : ℕ) → pick a (pick (b && c) x 0) 0 ≡ pick c (pick (a && b) x 0) 0
unfolding pick
turned false b true x = refl
turned false b false x = refl
turned true false true x = refl
turned true false false x = refl
turned true true true x = refl
turned true true false x = refl

pub met-admitted : (r : List ℕ) (p : Packet)
    → mark_row r p ≡ pick (admits (parameters (monitor_in r).1) p) (met_mark r p) 0
unfolding met_mark mark_row mark_of matches full_bits
met-admitted r p = turned (in_use r) (meets_condition (monitor_in r).1 p) (admits (parameters (monitor_in r).1) p) _

row-fields : (r : List ℕ) (p : Packet)
    → bits (lt_z (d_bm (get_or r 2 0)) (d_bm p.rssi)) (leb 1 (get_or r 4 0) && leb (get_or r 4 0) 254)
    (le_z (d_bm (get_or r 1 0)) (d_bm p.rssi))
    (eqb (get_or r 4 0) 0 && lets_through (filtering (parameters (monitor_in r).1)) p.event)
    (has_bit 1 (filtering (parameters (monitor_in r).1)))
    (lets_through (filtering (parameters (monitor_in r).1)) p.event)
    ≡ full_bits (monitor_in r).1 p
unfolding full_bits good windowed strong instant sifts sifts_by allows monitor_in monitor_from
row-fields r p = refl

row-bits : (s : List ℕ) (h : ℕ) (l : List ℕ)
    → row_bits (get_or s (monitors_at + monitor_size * h + 1) 0) (get_or s (monitors_at + monitor_size * h + 2) 0)
    (get_or s (monitors_at + monitor_size * h + 4) 0)
    (get_or l (length l - 1) 0)
    (filtering_of (get_or s (monitors_at + monitor_size * h + extra_at) 0)
    (get_or s (monitors_at + monitor_size * h + (extra_at + 1)) 0)) (get_or l 0 0)
    ≡ full_bits (monitor_in (row monitor_size h (drop monitors_at s))).1 (packet_of l)
unfolding row_bits packet_of
row-bits s h l =
    let r : List ℕ = row monitor_size h (drop monitors_at s) in
    let f : filtering_of (get_or s (monitors_at + monitor_size * h + extra_at) 0)
    (get_or s (monitors_at + monitor_size * h + (extra_at + 1)) 0)
    ≡ filtering (parameters (monitor_in r).1) =
    ap₂ filtering_of (sym (row_field s h extra_at (omega arith))) (sym (row_field s h (extra_at + 1) (omega arith)))
    ∙ sym (row-filtering r) in
    rw (f, ← row_field s h 1 (omega arith), ← row_field s h 2 (omega arith), ← row_field s h 4 (omega arith))
    (row-fields r (packet_of l))

module _ (s : List ℕ) (h : ℕ) (l : List ℕ) where
  -- what the match was asked
  pub match-asked : (n : ℕ) {cond adr adv scan : List ℕ} {found : Bool}
      → Clamped (get_or s (monitors_at + monitor_size * h + 6) 0) condition_room n
      → cond ≡ take n (drop (monitors_at + monitor_size * h + 7) s) → adr ≡ take 6 (drop 2 l)
      → adv ≡ take (get_or l 8 0) (drop 9 l) → scan ≡ scan_text (scan_of l)
      → found ≡ meets (get_or s (monitors_at + monitor_size * h + 5) 0) cond (get_or l 1 0) adr adv scan
      → found ≡ meets_condition (monitor_in (row monitor_size h (drop monitors_at s))).1 (packet_of l)
  unfolding meets_condition monitor_in monitor_from packet_of
  match-asked n {cond} {adr} {adv} {scan} {found} c ec ea ed es f =
      let r : List ℕ = row monitor_size h (drop monitors_at s) in
      f ∙ ap (λ (k : ℕ). meets k cond (get_or l 1 0) adr adv scan) (sym (row_field s h 5 (omega arith)))
      ∙ ap (λ (x : List ℕ). meets (get_or r condition_type_at 0) x (get_or l 1 0) adr adv scan) (ec ∙ row-condition s h n c)
      ∙ ap (λ (x : List ℕ). meets (get_or r condition_type_at 0) (take (get_or r condition_length_at 0) (drop condition_at r))
      (get_or l 1 0) x adv scan) ea
      ∙ ap (λ (x : List ℕ). meets (get_or r condition_type_at 0) (take (get_or r condition_length_at 0) (drop condition_at r))
      (get_or l 1 0) (take 6 (drop 2 l)) x scan) ed
      ∙ ap (λ (x : List ℕ). meets (get_or r condition_type_at 0) (take (get_or r condition_length_at 0) (drop condition_at r))
      (get_or l 1 0) (take 6 (drop 2 l)) (take (get_or l 8 0) (drop 9 l)) x) es

  used : (get_or s (monitors_at + monitor_size * h + 3) 0 ≡ 0 → ⊥) → in_use (row monitor_size h (drop monitors_at s)) ≡ true
  unfolding in_use
  used u = ap not (ne_eqb _ 0 (λ e. u (sym (row_field s h 3 (omega arith)) ∙ e)))

  -- whether the row's monitor is in use and the packet matches
  pub met-unused : get_or s (monitors_at + monitor_size * h + 3) 0 ≡ 0
      → 0 ≡ met_row (row monitor_size h (drop monitors_at s)) (packet_of l)
  unfolding met_row in_use flag
  met-unused e = sym (ap flag (and-not-left _ _ (ap not (eq-eqb _ 0 (row_field s h 3 (omega arith) ∙ e)))))

  pub met-used : {t : Bool} {x : ℕ} → (get_or s (monitors_at + monitor_size * h + 3) 0 ≡ 0 → ⊥) → x ≡ flag t
      → t ≡ meets_condition (monitor_in (row monitor_size h (drop monitors_at s))).1 (packet_of l)
      → x ≡ met_row (row monitor_size h (drop monitors_at s)) (packet_of l)
  unfolding met_row
  met-used u e f =
      e ∙ ap flag (f ∙ sym
      (ap (λ (b : Bool). b && meets_condition (monitor_in (row monitor_size h (drop monitors_at s))).1 (packet_of l))
      (used u)))

  -- the octet of the handle
  abbrev one : List ℕ
  one = row monitor_size h (drop monitors_at s)

  pub mark-unmet : {x : ℕ} → x ≡ met_row one (packet_of l) → x ≡ 0 → 0 ≡ met_mark one (packet_of l)
  unfolding met_row met_mark
  mark-unmet e z = sym (unmet (in_use one && meets_condition (monitor_in one).1 (packet_of l)) _ (sym e ∙ z))

  pub mark-met : {x r f : ℕ} → x ≡ met_row one (packet_of l) → (x ≡ 0 → ⊥)
      → f ≡ filtering_of (get_or s (monitors_at + monitor_size * h + extra_at) 0)
      (get_or s (monitors_at + monitor_size * h + (extra_at + 1)) 0)
      → r ≡ row_bits (get_or s (monitors_at + monitor_size * h + 1) 0) (get_or s (monitors_at + monitor_size * h + 2) 0)
      (get_or s (monitors_at + monitor_size * h + 4) 0)
      (get_or l (length l - 1) 0) f (get_or l 0 0)
      → r ≡ met_mark one (packet_of l)
  unfolding met_row met_mark
  mark-met {x} {r} {f} e n o b =
      b ∙ ap (λ (k : ℕ). row_bits (get_or s (monitors_at + monitor_size * h + 1) 0)
      (get_or s (monitors_at + monitor_size * h + 2) 0)
      (get_or s (monitors_at + monitor_size * h + 4) 0) (get_or l (length l - 1) 0) k (get_or l 0 0)) o
      ∙ row-bits s h l ∙ sym (met (in_use one && meets_condition (monitor_in one).1 (packet_of l)) _ (λ z. n (e ∙ z)))

-- are met by the same packets
pub alike-matches : (s : List ℕ) (j h : ℕ) (p : Packet) → Alike s j h
    → meets_condition (monitor_in (row monitor_size j (drop monitors_at s))).1 p
    ≡ meets_condition (monitor_in (row monitor_size h (drop monitors_at s))).1 p
unfolding meets_condition
alike-matches s j h p a =
    ap₂ (λ (k : ℕ) (c : List ℕ). meets k c p.address_type p.address p.adv (scan_text p.scan)) a.kinds
    a.conditions

pub alike : (s : List ℕ) (j h n m : ℕ) {x y : List ℕ} → (get_or s (monitors_at + monitor_size * j + 3) 0 ≡ 0 → ⊥)
    → get_or s (monitors_at + monitor_size * j + 5) 0 ≡ get_or s (monitors_at + monitor_size * h + 5) 0
    → Clamped (get_or s (monitors_at + monitor_size * j + 6) 0) condition_room n
    → Clamped (get_or s (monitors_at + monitor_size * h + 6) 0) condition_room m
    → x ≡ take n (drop (monitors_at + monitor_size * j + 7) s) → y ≡ take m (drop (monitors_at + monitor_size * h + 7) s)
    → sames x y ≡ true → Alike s j h
unfolding monitor_in monitor_from
alike s j h n m {x} {y} u k cn cm ex ey e = record {
  used = used s j [] u;
  kinds = row_field s j 5 (omega arith) ∙ k ∙ sym (row_field s h 5 (omega arith));
  conditions = sym (row-condition s j n cn) ∙ sym ex ∙ sames-eq x y e ∙ ey ∙ row-condition s h m cm;
}
