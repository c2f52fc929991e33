-- Steps of the code that writes the lines of a block, each a law that ends in what a function or a turn of a loop owes.
-- Document 01, The image. Assumes nothing.
use Prim.Native.Nat.{ℕ, ◌+◌, ◌-◌, ◌*◌, ◌≤◌, ◌<◌}
use Rattle.std.specs.Prelude.{◌≡◌, refl, Bool, not, ◌&&◌, eqb, drop, get_or}
use Rattle.std.proofs.Math.Path.{sym, ap}
use Rattle.std.proofs.Common.{◌∙◌, drop-drop, get_or-drop}
use Rattle.std.proofs.Math.Bool.{true, false}
use mathlib.Core.List.{List, [], ◌∷◌, ◌++◌, append_assoc}
use Rattle.std.proofs.Math.Nat.{zero-add}
use native.Mathlib.Omega.{arith}
use Rattle.std.proofs.Math.Dec.{leb}
use borrow.Author.Tests.{eq-eqb, ne_eqb, le-leb, lt-leb}
use Rattle.std.proofs.Math.ListN.{length, take, length-append, length-take, length-drop}
use Rattle.std.proofs.Math.Seq.{length-take-le}
use Rattle.laws.specs.Tests.{pick}
use Rattle.laws.specs.TestsLaws.{pick_true, pick-false, and_both, and-not-right}
use Rattle.laws.specs.Put.{put, put_if}
use Rattle.laws.specs.PutLaws.{put-if-true, put-if-false, put-put, put_then, put-nil, take-before-put, drop-after-put, length-put}
use Rattle.laws.specs.Loops.{up_to, only, when}
use Rattle.laws.specs.LoopsLaws.{up_to-more, when_true, when_false}
use Rattle.laws.specs.Rows.{row}
use Rattle.laws.specs.RowsLaws.{get_d-row}
use Rattle.lines.specs.Hex.{lf, hex_of, text_of}
use Rattle.lines.specs.TextsLaws.{length-hex, hex-append, length-text}
use Rattle.model.specs.Block.{in_use}
use Rattle.blocks.specs.Added.{added_in}
use Rattle.octets.specs.Numbers.{at_most}
use Rattle.octets.specs.NumbersLaws.{at-most}
use Rattle.save.specs.Text.{fields_of, line_of, monitor_text, monitor_at, pair_at, pair_text}
use Rattle.save.specs.Text.{live_below, monitors_text, pairs_text, head_text, end_text}
use Rattle.save.specs.Text.{rest_room, rest_text, saved_text, saves, saves_in, pairs_in}
use Rattle.sessions.specs.Machine.{core_room}
use Rattle.model.specs.Layout.{block_size, condition_at, condition_length_at, count_at, data_at, extra_at, extra_size, head_size, interval_at, length_at, monitor_line, monitor_size, monitors_at, most_condition, most_data, most_monitors, most_pairs, most_prefix, pair_size, pairs_at, prefix_length_at}

-- what is put over a shorter part that was put there stands alone
pub put-again : (xs : List ℕ) (at : ℕ) (ys zs : List ℕ) → at ≤ length xs → length ys ≤ length zs
    → put (put xs at ys) at zs ≡ put xs at zs
unfolding put
put-again xs at ys zs h k =
    let e : at + length ys + (length zs - length ys) ≡ at + length zs = omega arith in
    let d : drop (at + length zs) (put xs at ys) ≡ drop (at + length zs) xs =
    ap (λ (i : ℕ). drop i (put xs at ys)) (sym e)
    ∙ sym (drop-drop (length zs - length ys) (at + length ys) (put xs at ys))
    ∙ ap (λ (l : List ℕ). drop (length zs - length ys) l) (drop-after-put xs at ys h)
    ∙ drop-drop (length zs - length ys) (at + length ys) xs
    ∙ ap (λ (i : ℕ). drop i xs) e in
    ap (λ (l : List ℕ). l ++ zs ++ drop (at + length zs) (put xs at ys)) (take-before-put xs at ys h)
    ∙ ap (λ (l : List ℕ). take at xs ++ zs ++ l) d

-- the text of some octets, and the text of more from that one's LF on
pub more-put : (xs : List ℕ) (at to : ℕ) (a b : List ℕ) {l m : List ℕ} → to ≡ at + 2 * length a
    → to + 2 * length b + 1 ≤ length xs
    → l ≡ put xs at (text_of a) → m ≡ put l to (text_of b) → m ≡ put xs at (text_of (a ++ b))
unfolding text_of
more-put xs at to a b e h p q =
    let ds : List ℕ = hex_of a in
    let n : length ds ≡ 2 * length a = length-hex a in
    let j : to ≡ at + length ds = omega arith in
    let t : length (hex_of b ++ (lf ∷ [])) ≡ 2 * length b + 1 = length-text b in
    let k : length (put xs at ds) ≡ length xs = length-put xs at ds (omega arith) in
    let u : hex_of a ++ (hex_of b ++ (lf ∷ [])) ≡ hex_of (a ++ b) ++ (lf ∷ []) =
    sym (append_assoc (hex_of a) (hex_of b) (lf ∷ [])) ∙ ap (λ (x : List ℕ). x ++ (lf ∷ [])) (sym (hex-append a b)) in
    q ∙ ap (λ (x : List ℕ). put x to (text_of b)) (p ∙ sym (put-put xs at ds (lf ∷ []) (omega arith)))
    ∙ ap (λ (i : ℕ). put (put (put xs at ds) (at + length ds) (lf ∷ [])) i (text_of b)) j
    ∙ put-again (put xs at ds) (at + length ds) (lf ∷ []) (text_of b) (omega arith) (omega arith)
    ∙ put-put xs at ds (text_of b) (omega arith) ∙ ap (put xs at) u

-- a line: the text of its name, and the text of its row from that one's LF on
pub line-put : (xs : List ℕ) (at name : ℕ) (r : List ℕ) {l m : List ℕ} → at + 2 * length r + 3 ≤ length xs
    → l ≡ put xs at (text_of (name ∷ [])) → m ≡ put l (at + 2) (text_of r) → m ≡ put xs at (text_of (name ∷ r))
line-put xs at name r h p q = more-put xs at (at + 2) (name ∷ []) r refl (omega arith) p q

pub line-length : (at name : ℕ) (r : List ℕ) → at + 2 * length r + 3 ≡ at + length (text_of (name ∷ r))
line-length at name r =
    let e : length (text_of (name ∷ r)) ≡ 2 * length (name ∷ r) + 1 = length-text (name ∷ r) in
    omega arith

-- rows are parts of the block
pub part-monitor : (s : List ℕ) (h : ℕ)
    → take (monitors_at + monitor_size * h + monitor_size - (monitors_at + monitor_size * h))
    (drop (monitors_at + monitor_size * h) s) ≡ monitor_at s h
unfolding monitor_at row
part-monitor s h =
    let e : monitors_at + monitor_size * h + monitor_size - (monitors_at + monitor_size * h) ≡ monitor_size = omega arith in
    rw (e, drop-drop (monitor_size * h) head_size s)

pub part_pair : (s : List ℕ) (i : ℕ)
    → take (pairs_at + pair_size * i + pair_size - (pairs_at + pair_size * i))
    (drop (pairs_at + pair_size * i) s) ≡ pair_at s i
unfolding pair_at row
part_pair s i =
    let e : pairs_at + pair_size * i + pair_size - (pairs_at + pair_size * i) ≡ pair_size = omega arith in
    rw (e, drop-drop (pair_size * i) pairs_at s)

-- the text of a row in use
used-text : (r : List ℕ) → (get_or r interval_at 0 ≡ 0 → ⊥) → monitor_text r ≡ text_of (line_of r)
unfolding monitor_text in_use
used-text r h = when_true (text_of (line_of r)) (ap not (ne_eqb (get_or r interval_at 0) 0 h))

-- a line of what is used of a row is the line of the row
module _ (xs r : List ℕ) (at : ℕ) {n k : ℕ} {l : List ℕ} where
  pub head-put : n ≡ at_most (get_or r prefix_length_at 0) most_prefix
      → (k ≡ 0 + length (text_of (0xA0 ∷ take (8 + n) r))) × (l ≡ put xs 0 (text_of (0xA0 ∷ take (8 + n) r)))
      → (k ≡ length (head_text r)) × (l ≡ put xs 0 (head_text r))
  unfolding head_text
  head-put e p = let q = rw e at p in (
    q.0
        ∙ zero-add (length (text_of (0xA0 ∷ take (8 + at_most (get_or r prefix_length_at 0) most_prefix) r))),
    q.1,
  )

  pub pair_put : n ≡ at_most (get_or r length_at 0) most_data
      → (k ≡ at + length (text_of (0xA3 ∷ take (data_at + n) r))) × (l ≡ put xs at (text_of (0xA3 ∷ take (data_at + n) r)))
      → (k ≡ at + length (pair_text r)) × (l ≡ put xs at (pair_text r))
  unfolding pair_text
  pair_put e p = rw e at p

  module _ (h : get_or r interval_at 0 ≡ 0 → ⊥) (e : n ≡ at_most (get_or r condition_length_at 0) most_condition) where
    -- version 1
    pub used-put : get_or r extra_at 0 ≡ 0
        → (k ≡ at + length (text_of (0xA1 ∷ take (7 + n) r))) × (l ≡ put xs at (text_of (0xA1 ∷ take (7 + n) r)))
        → (k ≡ at + length (monitor_text r)) × (l ≡ put xs at (monitor_text r))
    unfolding line_of
    used-put z p =
        let w : line_of r ≡ 0xA1 ∷ fields_of r = pick_true (0xA1 ∷ fields_of r) _ (eq-eqb (get_or r extra_at 0) 0 z) in
        rw (used-text r h, w) (rw e at p)

    -- version 2: its line's first part, and what is added from the LF on
    pub second-put : {j : ℕ} {o : List ℕ} → length r ≡ monitor_size → at + monitor_line ≤ length xs
        → (get_or r extra_at 0 ≡ 0 → ⊥)
        → (j ≡ at + length (text_of (0xA5 ∷ take (7 + n) r))) × (o ≡ put xs at (text_of (0xA5 ∷ take (7 + n) r)))
        → k ≡ j + 2 * extra_size → l ≡ put o (j - 1) (text_of (take (length r - extra_at) (drop extra_at r)))
        → (k ≡ at + length (monitor_text r)) × (l ≡ put xs at (monitor_text r))
    unfolding line_of
    second-put {j} {o} c b z p t q =
        let f : List ℕ = 0xA5 ∷ fields_of r in
        let w : line_of r ≡ f ++ added_in r = pick-false (0xA1 ∷ fields_of r) _ (ne_eqb (get_or r extra_at 0) 0 z) in
        let p' = rw e at p in
        let d : length (drop extra_at r) ≡ length r - extra_at = length-drop extra_at r in
        let g : take (length r - extra_at) (drop extra_at r) ≡ added_in r =
        let i : length r - extra_at ≡ extra_size = omega arith in ap (λ (y : ℕ). take y (drop extra_at r)) i in
        let m : length (added_in r) ≡ extra_size = length-take-le extra_size (drop extra_at r) (omega arith) in
        let x : length (fields_of r) ≤ condition_at + most_condition =
        simp length-take (omega (arith, at-most (get_or r condition_length_at 0) most_condition)) in
        let y : length (text_of f) ≡ 2 * length f + 1 = length-text f in
        let v : length (text_of (f ++ added_in r)) ≡ 2 * length (f ++ added_in r) + 1 = length-text (f ++ added_in r) in
        let u : length (f ++ added_in r) ≡ length f + length (added_in r) = length-append f (added_in r) in
        rw (used-text r h, w) (
          omega (arith, p'.0),
          more-put xs at (j - 1) f (added_in r) (omega (arith, p'.0)) (omega (arith, p'.0)) p'.1
              (q ∙ ap (λ (i : List ℕ). put o (j - 1) (text_of i)) g),
        )

-- the room of version 2's line: behind its first part there is room for the rest
pub record Room (j len : ℕ) (row : List ℕ) : Type 0 where
  pub some : 1 ≤ j
  pub end : j + 2 * extra_size ≤ len
  pub text : j - 1 + 2 * length (take (length row - extra_at) (drop extra_at row)) + 1 ≤ len

pub second-room : (at n len : ℕ) (row : List ℕ) {j : ℕ} → j ≡ at + length (text_of (0xA5 ∷ take (7 + n) row))
    → n ≤ most_condition
    → length row ≡ monitor_size → at + monitor_line ≤ len → Room j len row
second-room at n len row {j} e h c b =
    let l : at + 2 * length (take (7 + n) row) + 3 ≡ at + length (text_of (0xA5 ∷ take (7 + n) row)) =
    line-length at 0xA5 (take (7 + n) row) in
    let t : length (take (7 + n) row) ≤ 7 + n = simp length-take (omega arith) in
    let d : length (take (length row - extra_at) (drop extra_at row)) ≤ extra_size = simp length-take (omega arith) in
    record { some = omega arith; end = omega arith; text = omega arith }

pub unused-put : (xs r : List ℕ) (at : ℕ) → get_or r interval_at 0 ≡ 0 → (at ≡ at + length (monitor_text r))
    × (xs ≡ put xs at (monitor_text r))
unfolding monitor_text in_use
unused-put xs r at h =
    let e : when (not (eqb (get_or r interval_at 0) 0)) (text_of (line_of r)) ≡ [] =
    when_false _ (ap not (eq-eqb (get_or r interval_at 0) 0 h)) in
    rw e (omega arith, sym (put-nil xs at))

-- one place more, written behind those before it
pub up_to-turn : (f : ℕ → List ℕ) (xs : List ℕ) (at i : ℕ) {n k : ℕ} {l m : List ℕ} → at ≤ length xs
    → n ≡ at + length (up_to f i) → l ≡ put xs at (up_to f i) → k ≡ n + length (f i) → m ≡ put l n (f i)
    → (k ≡ at + length (up_to f (i + 1))) × (m ≡ put xs at (up_to f (i + 1)))
up_to-turn f xs at i h p q r t =
    let e : length (up_to f i ++ f i) ≡ length (up_to f i) + length (f i) = length-append (up_to f i) (f i) in
    (rw (up_to-more f i) (omega arith), put_then xs at (up_to f i) _ (f i) h q p t (sym (up_to-more f i)))

module _ (s xs : List ℕ) (at i : ℕ) {n k : ℕ} {l m : List ℕ} where
  pub monitors-turn : at ≤ length xs → n ≡ at + length (monitors_text s i) → l ≡ put xs at (monitors_text s i)
      → k ≡ n + length (monitor_text (monitor_at s i)) → m ≡ put l n (monitor_text (monitor_at s i))
      → (k ≡ at + length (monitors_text s (i + 1))) × (m ≡ put xs at (monitors_text s (i + 1)))
  unfolding monitors_text
  monitors-turn h p q r t = up_to-turn (λ j. monitor_text (monitor_at s j)) xs at i h p q r t

  pub pairs-turn : at ≤ length xs → n ≡ at + length (pairs_text s i) → l ≡ put xs at (pairs_text s i)
      → k ≡ n + length (pair_text (pair_at s i)) → m ≡ put l n (pair_text (pair_at s i))
      → (k ≡ at + length (pairs_text s (i + 1))) × (m ≡ put xs at (pairs_text s (i + 1)))
  unfolding pairs_text
  pairs-turn h p q r t = up_to-turn (λ j. pair_text (pair_at s j)) xs at i h p q r t

-- nothing written yet
pub monitors-none : (s xs : List ℕ) (at : ℕ) → (at ≡ at + length (monitors_text s 0))
    × (xs ≡ put xs at (monitors_text s 0))
unfolding monitors_text up_to
monitors-none s xs at = (omega arith, sym (put-nil xs at))

pub pairs-none : (s xs : List ℕ) (at : ℕ) → (at ≡ at + length (pairs_text s 0)) × (xs ≡ put xs at (pairs_text s 0))
unfolding pairs_text up_to
pairs-none s xs at = (omega arith, sym (put-nil xs at))

-- one handle more looked at
pub live-none : (s : List ℕ) → 0 ≡ length (live_below s 0)
unfolding live_below up_to
live-none s = refl

one-used : (t : Bool) (j : ℕ) → pick t 0 1 ≡ length (only (not t) j)
unfolding pick only
one-used true j = refl
one-used false j = refl

used-at : (s : List ℕ) (h : ℕ)
    → pick (eqb (get_or s (monitors_at + monitor_size * h + 3) 0) 0) 0 1 ≡ length (only (in_use (monitor_at s h)) h)
unfolding in_use monitor_at
used-at s h =
    let i : monitors_at + (monitor_size * h + 3) ≡ monitors_at + monitor_size * h + 3 = omega arith in
    rw (get_d-row monitor_size h 3 (drop monitors_at s) 0 (omega arith), get_or-drop head_size s (monitor_size * h + 3) 0, i)
    (one-used (eqb (get_or s (monitors_at + monitor_size * h + 3) 0) 0) h)

pub live-turn : (s : List ℕ) (h : ℕ) {n w : ℕ} → n ≡ length (live_below s h)
    → w ≡ pick (eqb (get_or s (monitors_at + monitor_size * h + 3) 0) 0) 0 1 → n + w ≡ length (live_below s (h + 1))
unfolding live_below
live-turn s h {n} {w} p q =
    let f : ℕ → List ℕ = λ j. only (in_use (monitor_at s j)) j in
    let e : length (up_to f h ++ f h) ≡ length (up_to f h) + length (f h) = length-append (up_to f h) (f h) in
    let g : w ≡ length (f h) = q ∙ used-at s h in
    rw (up_to-more f h) (omega arith)

-- the parts, one behind another
pub rest_put : (s xs : List ℕ) (at u n : ℕ) {b c d : ℕ} {l m o : List ℕ} → at + rest_room ≤ length xs
    → b ≡ at + length (monitors_text s most_monitors) → l ≡ put xs at (monitors_text s most_monitors)
    → c ≡ b + length (pairs_text s n) → m ≡ put l b (pairs_text s n)
    → d ≡ c + length (end_text u n) → o ≡ put m c (end_text u n)
    → u ≡ length (live_below s most_monitors) → n ≡ at_most (get_or s count_at 0) most_pairs
    → (d ≡ at + length (rest_text s)) × (o ≡ put xs at (rest_text s))
unfolding rest_text pairs_in
rest_put s xs at u n {b} {c} {d} {l} {m} {o} r pb pl pc pm pd po pu pn =
    let ms = monitors_text s most_monitors in
    let ps = pairs_text s n in
    let z = end_text u n in
    let e2 : length (ms ++ ps) ≡ length ms + length ps = length-append ms ps in
    let e3 : length (ms ++ ps ++ z) ≡ length (ms ++ ps) + length z = length-append (ms ++ ps) z in
    let q2 : m ≡ put xs at (ms ++ ps) = put_then xs at ms b ps (omega arith) pl (omega arith) pm refl in
    rw (← pu, ← pn) (omega arith, put_then xs at (ms ++ ps) c z (omega arith) q2 (omega arith) po refl)

pub parts-put : (s xs : List ℕ) {a d : ℕ} {k o : List ℕ} → a ≡ length (head_text s) → k ≡ put xs 0 (head_text s)
    → d ≡ a + length (rest_text s) → o ≡ put k a (rest_text s) → (d ≡ length (saved_text s))
    × (o ≡ put xs 0 (saved_text s))
unfolding saved_text
parts-put s xs {a} {d} {k} {o} pa pk pd po =
    let e : length (head_text s ++ rest_text s) ≡ length (head_text s) + length (rest_text s) =
    length-append (head_text s) (rest_text s) in
    (omega arith, put_then xs 0 (head_text s) a (rest_text s) (omega arith) pk (omega arith) po refl)

-- whether a part is written
module _ (need : ℕ) (s out text : List ℕ) where
  pub part-sized : (length s ≡ block_size → ⊥)
      → (0 ≡ pick (saves_in need s (length out)) (length text) 0)
      × (out ≡ put_if (saves_in need s (length out)) out 0 text)
  unfolding saves_in
  part-sized h =
      let e : (eqb (length s) block_size && leb need (length out)) ≡ false =
      ap (λ (b : Bool). b && leb need (length out)) (ne_eqb (length s) block_size h) in
      (sym (pick-false (length text) 0 e), put-if-false out 0 text e)

  pub part-short : length out < need
      → (0 ≡ pick (saves_in need s (length out)) (length text) 0)
      × (out ≡ put_if (saves_in need s (length out)) out 0 text)
  unfolding saves_in
  part-short h =
      let e : (eqb (length s) block_size && leb need (length out)) ≡ false =
      and-not-right (eqb (length s) block_size) (leb need (length out)) (lt-leb need (length out) h) in
      (sym (pick-false (length text) 0 e), put-if-false out 0 text e)

  pub part-done : {r : ℕ} {after : List ℕ} → length s ≡ block_size → need ≤ length out → r ≡ length text
      → after ≡ put out 0 text
      → (r ≡ pick (saves_in need s (length out)) (length text) 0)
      × (after ≡ put_if (saves_in need s (length out)) out 0 text)
  unfolding saves_in
  part-done h k p q =
      let e : (eqb (length s) block_size && leb need (length out)) ≡ true =
      and_both (eq-eqb (length s) block_size h) (le-leb need (length out) k) in
      (p ∙ sym (pick_true (length text) 0 e), q ∙ put-if-true out 0 text e)

-- whether save writes
module _ (s : List ℕ) (room : ℕ) where
  pub saves-not-block : (length s ≡ block_size → ⊥) → saves s room ≡ false
  unfolding saves
  saves-not-block h = rw (ne_eqb (length s) block_size h)

  pub saves-short : room < core_room → saves s room ≡ false
  unfolding saves
  saves-short h = and-not-right (eqb (length s) block_size) (leb core_room room) (lt-leb core_room room h)

  pub saves-done : length s ≡ block_size → core_room ≤ room → saves s room ≡ true
  unfolding saves
  saves-done h k = rw (eq-eqb (length s) block_size h, le-leb core_room room k)
