-- One handle's turn over a packet, and the loop over the handles: the rows that it adds. Document 02, T-09. Assumes
-- nothing.
use Rattle.std.specs.Prelude.{ℕ, zero, suc, ◌+◌, ◌-◌, ◌*◌, ◌/◌, ◌%◌, ◌≤◌, ◌<◌, ◌≡◌, Bool, true, ◌&&◌, not, eqb, leb, ltb, length, take, drop, get_or, set}
use Rattle.std.proofs.Math.Path.{refl, sym, ap, ap₂}
use Rattle.std.proofs.Common.{◌∙◌, add-one, take-suc-set, take_all}
use Rattle.std.proofs.Math.Bool.{false, ◌||◌}
use mathlib.Core.List.{List, [], ◌∷◌, ◌++◌, map}
use Rattle.std.proofs.Math.Option.{Option, none, some}
use native.Mathlib.Omega.{arith}
use Rattle.std.proofs.Math.IntN.{sub_ℕ}
use Rattle.std.proofs.lemmas.List.{length-map}
use borrow.Author.Tests.{eq-eqb, ne_eqb, le-leb, lt-leb, lt-ltb, le-ltb}
use Rattle.laws.specs.Tests.{pick, sames}
use Rattle.laws.specs.TestsLaws.{pick_true, pick-false, and-not-left, and-not-right, cases_eq}
use Rattle.laws.specs.Loops.{some as some_of, up_to}
use Rattle.laws.specs.LoopsLaws.{up_to-more}
use Rattle.rule.specs.Engine.{find}
use Rattle.totals.specs.declared.Row.{Row}
use Rattle.totals.specs.declared.Gain.{Gain}
use Rattle.totals.specs.Table.{empty}
use Rattle.totals.specs.Gains.{wide_row}
use Rattle.totals.specs.GainsLaws.{wide-set}
use Rattle.model.specs.Types.{Model, Monitor, Packet, Pair, device_of, watched}
use Rattle.model.specs.Level.{d_bm, level}
use Rattle.model.specs.Frames.{packet, packet_of, scan_of}
use Rattle.model.specs.Watch.{holds, packet_move, is_reason}
use Rattle.model.specs.Layout.{most_monitors, most_pairs}
use Rattle.marks.specs.Marks.{matched, opens, tells, allowed, keeps, mark, marks}
use Rattle.marks.proofs.MarksLaws.{get_d-marks, mark-keeps}
use Rattle.packets.specs.Changes.{reason_by}
use Rattle.packets.specs.ChangesLaws.{wants-reason}
use Rattle.counts.specs.Given.{Given}
use Rattle.months.specs.Counts.{one, of_handle, matched_by, matching, causes, reports_by, reports_of, packets_in, reports_in, ticks_in, sum_in, row_in}
use Rattle.months.specs.Tables.{table_of}
use Rattle.counts.specs.Room.{begun, left_of, room, weak}
use Rattle.counts.specs.Causes.{left_at, wanted, wants_for}
use Rattle.counts.specs.CausesLaws.{starts_at, causes-by, left-more, mark-none}

-- the row that a packet adds to a handle that it matches
unfoldable pub matched_row : Bool → Packet → Row
matched_row cause p = record { packets = 1; reports = pick cause (reports_of p) 0; ticks = 0; sum = d_bm p.rssi }

-- how many reports a payload has
pub reports-one : (l : List ℕ) → length l ≤ 10 + get_or l 8 0 → 1 ≡ reports_of (packet_of l)
unfolding reports_of reports_by packet_of scan_of pick
reports-one l h = rw (le-leb (length l) (10 + get_or l 8 0) h)

pub reports-two : (l : List ℕ) → 10 + get_or l 8 0 < length l → 2 ≡ reports_of (packet_of l)
unfolding reports_of reports_by packet_of scan_of pick
reports-two l h = rw (lt-leb (length l) (10 + get_or l 8 0) h)

-- what is left of the room
pub left-yes : (left : ℕ) {t : Bool} → t ≡ true → left - 1 ≡ left - pick t 1 0
unfolding pick
left-yes left e = rw e

pub left-no : (left : ℕ) {t : Bool} → t ≡ false → left ≡ left - pick t 1 0
unfolding pick
left-no left e = rw e (omega arith)

-- what a handle that the packet matches gains
pub gain-made : (cause : Bool) (l : List ℕ) {n k : ℕ} → n ≡ pick cause (reports_of (packet_of l)) 0
    → k ≡ level (get_or l (length l - 1) 0)
    → wide_row (record { packets = 1; reports = n; ticks = 0; level = k }) ≡ matched_row cause (packet_of l)
unfolding wide_row matched_row packet_of d_bm
gain-made cause l e f = λ i. record { packets = 1; reports = e i; ticks = 0; sum = sub_ℕ (f i) 128 }

-- the octet of a handle tells whether it matches
matching-octet : (o : Option Monitor) (p : Packet) → matched_by o p ≡ keeps (mark o p)
unfolding matched_by mark keeps
matching-octet none p = refl
matching-octet (some m) p = sym (mark-keeps m p)

-- whether a handle starts a pair
pub begun-weak : (a left : ℕ) (held : Bool) → (a / 4 % 2 ≡ 1 → ⊥) → false ≡ begun a held left
unfolding begun opens
begun-weak a left held n = sym (and-not-left _ _ (ne_eqb (a / 4 % 2) 1 n))

pub begun-none : (a left : ℕ) (held : Bool) → left ≡ 0 → false ≡ begun a held left
unfolding begun
begun-none a left held e =
    sym (and-not-right (opens a) _ (and-not-right (not held) (ltb 0 left) (le-ltb 0 left (omega arith))))

pub begun-by : (a left : ℕ) {held t : Bool} → a / 4 % 2 ≡ 1 → (left ≡ 0 → ⊥) → t ≡ held → not t ≡ begun a held left
unfolding begun opens
begun-by a left {held} e n h =
    ap not h ∙ and-true (not held)
    ∙ sym (ap₂ (λ (x y : Bool). x && (not held && y)) (eq-eqb (a / 4 % 2) 1 e) (lt-ltb 0 left (omega arith)))
  where
    and-true : (t : Bool) → t ≡ (true && (t && true))
    and-true true = refl
    and-true false = refl

pub allowed-by : (a : ℕ) (t w : Bool) → w ≡ false → (t && eqb (a / 32 % 2) 1) ≡ (w || (t && allowed a))
unfolding allowed
allowed-by a t w e = rw e

-- the turn of a handle
module _ (m : Model) (p : Packet) (h : ℕ) (acts : List ℕ) (dev a : ℕ) (g : Given m.mons p acts dev)
    (low : h < most_monitors)
    (o : a ≡ get_or acts h 0) where
  pub octet-is : a ≡ mark (find m.mons h) p
  octet-is = o ∙ ap (λ (l : List ℕ). get_or l h 0) g.octets ∙ get_d-marks m.mons p h low

  -- a handle that does not match
  none-wants : mark (find m.mons h) p ≡ 0 → (q : Pair) → wants_for m p h q ≡ false
  unfolding wants_for of_handle reason_by tells
  none-wants z q =
      cases_eq q.handle h
      (λ (e : q.handle ≡ h).
      and-not-right (eqb q.handle h) (is_reason m.mons p q)
      (wants-reason m.mons p q ∙ and-not-right (sames (device_of p) (watched q)) _
      (ap (λ (k : ℕ). reason_by (mark (find m.mons k) p) p q) e ∙ ap (λ (k : ℕ). reason_by k p q) z)))
      (λ (e : q.handle ≡ h → ⊥). and-not-left _ (is_reason m.mons p q) (ne_eqb q.handle h e))

  none-wanted : mark (find m.mons h) p ≡ 0 → (qs : List Pair) → some_of (wants_for m p h) qs ≡ false
  unfolding some_of
  none-wanted z [] = refl
  none-wanted z (q ∷ qs) = ap₂ ◌||◌ (none-wants z q) (none-wanted z qs)

  octet-zero : a < matched → mark (find m.mons h) p ≡ 0
  unfolding keeps
  octet-zero b = mark-none (find m.mons h) p (ap (leb matched) (sym octet-is) ∙ lt-leb matched a b)

  starts_none : a < matched → starts_at m p h ≡ false
  unfolding starts_at begun opens
  starts_none b =
      and-not-left (opens (mark (find m.mons h) p)) _ (ap opens (octet-zero b))

  causes-none : a < matched → causes m p h ≡ false
  unfolding wanted
  causes-none b =
      causes-by m p h low
      ∙ ap₂ (λ (x y : Bool). x || (y && allowed (mark (find m.mons h) p))) (none-wanted (octet-zero b) m.pairs)
      (starts_none b)

  matching-is : matching m p h ≡ leb matched a
  unfolding matching keeps
  matching-is = matching-octet (find m.mons h) p ∙ ap (leb matched) (sym octet-is)

  pub row-none : a < matched → empty ≡ row_in m (packet p) h
  unfolding row_in packets_in reports_in ticks_in sum_in one pick
  row-none b = sym (rw (matching-is ∙ lt-leb matched a b, causes-none b))

  pub left-none : {left : ℕ} → a < matched → left ≡ left_at m p h → left ≡ left_at m p (h + 1)
  unfolding pick
  left-none {left} b e =
      e ∙ minus-zero (left_at m p h) ∙ ap (λ (t : Bool). left_at m p h - pick t 1 0) (sym (starts_none b))
      ∙ sym (left-more m p h)
      ∙ ap (left_at m p) (sym (add-one h))
    where
      minus-zero : (n : ℕ) → n ≡ n - pick false 1 0
      minus-zero n = omega arith

  -- and one that does
  pub row-matched : {cause start : Bool} {left : ℕ} {r : Row} → matched ≤ a → left ≡ left_at m p h
      → start ≡ begun a (holds m.pairs h (device_of p)) left → cause ≡ (wanted m p h || (start && allowed a))
      → r ≡ matched_row cause p
      → r ≡ row_in m (packet p) h
  unfolding row_in packets_in reports_in ticks_in sum_in one pick matched_row starts_at
  row-matched {cause} {start} {left} {r} b l s c e =
      let x : cause ≡ causes m p h =
      c ∙ ap₂ (λ (t k : Bool). wanted m p h || (t && k))
      (s ∙ ap₂ (λ (u v : ℕ). begun u (holds m.pairs h (device_of p)) v) octet-is l) (ap allowed octet-is)
      ∙ sym (causes-by m p h low) in
      e ∙ sym (rw (matching-is ∙ le-leb matched a b, sym x))

  pub left-matched : {start : Bool} {left r : ℕ} → left ≡ left_at m p h
      → start ≡ begun a (holds m.pairs h (device_of p)) left
      → r ≡ left - pick start 1 0 → r ≡ left_at m p (h + 1)
  unfolding starts_at
  left-matched {start} {left} {r} l s e =
      e ∙ ap₂ (λ (k : ℕ) (t : Bool). k - pick t 1 0) l
      (s ∙ ap₂ (λ (u v : ℕ). begun u (holds m.pairs h (device_of p)) v) octet-is l)
      ∙ sym (left-more m p h) ∙ ap (left_at m p) (sym (add-one h))

-- the loop over the handles: the gains of the first h are the rows that are added to them
pub table_none : (f : ℕ → Row) (r : List Gain) → take 0 (map wide_row r) ≡ table_of f 0
unfolding table_of up_to
table_none f r = refl

pub table-turn : (f : ℕ → Row) (h : ℕ) (r : List Gain) (x : Gain) → wide_row x ≡ f h → h < length r
    → take h (map wide_row r) ≡ table_of f h
    → take (h + 1) (map wide_row (set r h x)) ≡ table_of f (h + 1)
unfolding table_of
table-turn f h r x i b e =
    let n : length (map wide_row r) ≡ length r = length-map r wide_row in
    ap (take (h + 1)) (wide-set r h x)
    ∙ rw (i, up_to-more (λ j. f j ∷ []) h, ← e, add-one h) (take-suc-set (map wide_row r) h (f h) (omega arith))

pub table-end : (f : ℕ → Row) (h : ℕ) (r : List Gain) → h ≡ most_monitors → length r ≡ most_monitors
    → take h (map wide_row r) ≡ table_of f h
    → map wide_row r ≡ table_of f most_monitors
table-end f h r e l q =
    let n : length (map wide_row r) ≡ length r = length-map r wide_row in
    sym (take_all most_monitors (map wide_row r) (omega arith)) ∙ rw e at q

-- the room before the first handle's turn
pub room-first : (m : Model) (p : Packet) {n k : ℕ} → n ≡ length m.pairs
    → k ≡ weak p.rssi (map (packet_move m.mons p) m.pairs)
    → most_pairs - n + k ≡ left_at m p 0
unfolding left_at left_of room
room-first m p {n} {k} e f =
    ap₂ (λ (a b : ℕ). most_pairs - a + b) (e ∙ sym (length-map m.pairs (packet_move m.mons p))) f
