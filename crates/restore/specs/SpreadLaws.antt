-- The row of a line of at most 97 octets with its name: as its place has it, of either version of a monitor. Document
-- 01, The image; document 02, T-13 (A5). Assumes nothing.
use Prim.Native.Nat.{ℕ, suc, ◌+◌, ◌-◌, ◌≤◌}
use Rattle.std.specs.Prelude.{Bool, leb, ◌≡◌, refl, drop, get_or}
use Rattle.std.proofs.Math.Path.{sym, ap}
use Rattle.std.proofs.Common.{◌∙◌, length-append, length-take, drop_at, drop-drop}
use mathlib.Core.List.{List, [], ◌∷◌, ◌++◌, append_assoc, append-nil}
use Rattle.std.proofs.Math.Option.{Option, none, some}
use native.Mathlib.Omega.{arith}
use Rattle.std.proofs.Math.ListN.{length, take, replicate, length-replicate}
use Rattle.std.proofs.lemmas.List.{replicate-append-replicate}
use Rattle.std.proofs.Math.Seq.{take_at}
use Rattle.laws.specs.Put.{put, put_if}
use Rattle.laws.specs.PutLaws.{put_of, put_right, length-put}
use Rattle.laws.specs.RowsLaws.{put_whole}
use Rattle.octets.specs.Numbers.{at_most}
use Rattle.octets.specs.NumbersLaws.{at-is}
use Rattle.model.specs.Types.{Monitor}
use Rattle.model.specs.Image.{monitor_row, extra_text, name_of, monitor_text}
use Rattle.model.specs.Block.{pad_to, extra_row}
use Rattle.blocks.specs.RowsLaws.{length-monitor_row}
use Rattle.blocks.specs.Monitors.{Sized, row_of}
use Rattle.blocks.specs.MonitorsLaws.{length_fields}
use Rattle.restore.specs.Lines.{stored, stored_monitor, second_end, spread_of}
use Rattle.restore.specs.LinesLaws.{name-monitor, name-second}
use Rattle.restore.specs.RowsLaws.{put-zeros}
use Rattle.model.specs.Layout.{condition_at, condition_length_at, extra_at, extra_size, line_row, monitor_size, most_condition}

-- the octets of a row behind its name

pub take-pad_to : (n k : ℕ) (r : List ℕ) → length r ≤ k → k ≤ n → take k (pad_to n r) ≡ pad_to k r
unfolding pad_to
take-pad_to n k r h b =
    let z : List ℕ = replicate (k - length r) 0 in
    let y : List ℕ = replicate (n - k) 0 in
    let e : k - length r + (n - k) ≡ n - length r = omega arith in
    let s : replicate (n - length r) 0 ≡ z ++ y =
    ap (λ (j : ℕ). replicate j 0) (sym e) ∙ sym (replicate-append-replicate (k - length r) (n - k) 0) in
    let l : length z ≡ k - length r = length-replicate {A = ℕ} (k - length r) 0 in
    let m : length (r ++ z) ≡ k = rw (length-append r z) (omega arith) in
    rw (s, ← append_assoc r z y) (take_at (r ++ z) y k m)

-- a name and a row in 97 octets: the row in the octets that its place has
pub behind-name : (name k : ℕ) (r : List ℕ) → length r ≤ k → k ≤ monitor_size
    → take k (drop 1 (pad_to line_row (name ∷ r))) ≡ pad_to k r
unfolding pad_to
behind-name name k r h b =
    let e : line_row - suc (length r) ≡ monitor_size - length r = omega arith in
    ap (λ (j : ℕ). take k (r ++ replicate j 0)) e ∙ take-pad_to monitor_size k r h b

pub name-of : (name : ℕ) (r : List ℕ) → get_or (pad_to line_row (name ∷ r)) 0 0 ≡ name
unfolding pad_to
name-of name r = refl

-- more zeros behind a row
pub pad_to-more : (n k : ℕ) (r : List ℕ) → length r ≤ k → k ≤ n → pad_to n r ≡ pad_to k r ++ replicate (n - k) 0
unfolding pad_to
pad_to-more n k r h b =
    let e : k - length r + (n - k) ≡ n - length r = omega arith in
    ap (λ (j : ℕ). r ++ replicate j 0) (sym e)
    ∙ ap (λ (x : List ℕ). r ++ x) (sym (replicate-append-replicate (k - length r) (n - k) 0))
    ∙ sym (append_assoc r (replicate (k - length r) 0) (replicate (n - k) 0))

-- version 2: the parts of its line, and the row that they make
module _ (x : ℕ × Monitor) (e : List ℕ) (s : Sized x.1) (n : length e ≡ extra_size) where
  abbrev line : List ℕ
  line = pad_to line_row (0xA5 ∷ (monitor_row x ++ e))

  line-end : second_end line ≡ 8 + length x.1.condition
  unfolding pad_to monitor_row
  line-end = ap (λ (k : ℕ). 1 + condition_at + k) (sym (at-is (length x.1.condition) most_condition s.short))
      ∙ omega arith

  line-rest : drop 1 line ≡ monitor_row x ++ (e ++ replicate (line_row - length (0xA5 ∷ (monitor_row x ++ e))) 0)
  unfolding pad_to
  line-rest = append_assoc (monitor_row x) e (replicate (line_row - length (0xA5 ∷ (monitor_row x ++ e))) 0)

  pub spread_row : spread_of line ≡ pad_to extra_at (monitor_row x) ++ e
  unfolding spread_of
  spread_row =
      let c : ℕ = length x.1.condition in
      let z : List ℕ = replicate (line_row - length (0xA5 ∷ (monitor_row x ++ e))) 0 in
      let l : length (monitor_row x) ≡ 7 + c = length-monitor_row x in
      let k : second_end line - 1 ≡ 7 + c = omega (arith, line-end) in
      let f : take (second_end line - 1) (drop 1 line) ≡ monitor_row x =
      ap (λ (j : ℕ). take j (drop 1 line)) k ∙ ap (take (7 + c)) line-rest
      ∙ take_at (monitor_row x) (e ++ z) (7 + c) l in
      let i : second_end line ≡ 1 + (7 + c) = omega (arith, line-end) in
      let a : take extra_size (drop (second_end line) line) ≡ e =
      ap (λ (j : ℕ). take extra_size (drop j line)) i ∙ ap (take extra_size) (sym (drop-drop (7 + c) 1 line))
      ∙ ap (λ (y : List ℕ). take extra_size (drop (7 + c) y)) line-rest
      ∙ ap (take extra_size) (drop_at (monitor_row x) (e ++ z) (7 + c) l)
      ∙ take_at e z extra_size n in
      let p : List ℕ = pad_to extra_at (monitor_row x) in
      let q : length p ≡ extra_at = length_fields x s in
      let o : length {A = ℕ} (replicate extra_size 0) ≡ length e = length-replicate {A = ℕ} extra_size 0 ∙ sym n in
      rw (f, a) (ap (λ (y : List ℕ). put y extra_at e) (put-zeros monitor_size (monitor_row x) (omega (arith, s.short))
      ∙ pad_to-more monitor_size extra_at (monitor_row x) (omega (arith, s.short)) (omega arith))
      ∙ ap (λ (j : ℕ). put (p ++ replicate extra_size 0) j e) (sym q ∙ omega arith)
      ∙ put_right p (replicate extra_size 0) 0 e ∙ ap (λ (y : List ℕ). p ++ y) (put_whole (replicate extra_size 0) e o))

-- the row that the code makes of such a line, in a cleared one
pub spread-made : (l : List ℕ) (n : ℕ) {a b : Bool} {r t : List ℕ} → length l ≡ line_row
    → n ≡ at_most (get_or l (1 + condition_length_at) 0) most_condition → n ≤ most_condition
    → (a ≡ leb (0 + length (take (8 + n - 1) (drop 1 l))) (length {A = ℕ} (replicate monitor_size 0)))
    × (r ≡ put_if a (replicate monitor_size 0) 0 (take (8 + n - 1) (drop 1 l)))
    → (b ≡ leb (extra_at + length (take (8 + n + extra_size - (8 + n)) (drop (8 + n) l))) (length r))
    × (t ≡ put_if b r extra_at (take (8 + n + extra_size - (8 + n)) (drop (8 + n) l))) → t ≡ spread_of l
unfolding spread_of
spread-made l n {a} {b} {r} {t} h e k p q =
    let z : List ℕ = replicate monitor_size 0 in
    let f : List ℕ = take (8 + n - 1) (drop 1 l) in
    let g : List ℕ = take (8 + n + extra_size - (8 + n)) (drop (8 + n) l) in
    let j : 8 + n + extra_size - (8 + n) ≡ extra_size = omega arith in
    let y : length f ≤ 7 + n = simp length-take (omega arith) in
    let w : length g ≤ extra_size = simp length-take (omega arith) in
    let i : r ≡ put z 0 f = put_of z 0 f (length f) (length z) p.0 (omega arith) p.1 in
    let c : length (put z 0 f) ≡ length z = length-put z 0 f (omega arith) in
    let m : length r ≡ monitor_size = ap length i ∙ c in
    let o : t ≡ put r extra_at g = put_of r extra_at g (length g) (length r) q.0 (omega arith) q.1 in
    o ∙ ap (λ (x : List ℕ). put x extra_at g) i ∙ ap (λ (x : ℕ). put (put z 0 f) extra_at (take x (drop (8 + n) l))) j
    ∙ ap (λ (x : ℕ). put (put z 0 (take (1 + condition_at + x - 1) (drop 1 l))) extra_at
    (take extra_size (drop (1 + condition_at + x) l))) e

-- the line of a monitor of either version, stored
pub line-stored : (t : List ℕ) (x : ℕ × Monitor) → Sized x.1
    → stored t (pad_to line_row (monitor_text x)) ≡ stored_monitor t (row_of x.0 x.1)
unfolding monitor_text name_of extra_text extra_row
line-stored t x s = go x.1.extra s.extra
  where
    go : (o : Option (List ℕ)) → length (extra_row o) ≡ extra_size
        → stored t (pad_to line_row (name_of o ∷ (monitor_row x ++ extra_text o)))
        ≡ stored_monitor t (pad_to extra_at (monitor_row x) ++ extra_row o)
    go none n =
        let l : length (monitor_row x) ≡ 7 + length x.1.condition = length-monitor_row x in
        let e : take monitor_size (drop 1 (pad_to line_row (0xA1 ∷ monitor_row x))) ≡ pad_to extra_at (monitor_row x)
        ++ replicate extra_size 0 =
        behind-name 0xA1 monitor_size (monitor_row x) (omega (arith, s.short)) (omega arith)
        ∙ pad_to-more monitor_size extra_at (monitor_row x) (omega (arith, s.short)) (omega arith) in
        ap (λ (r : List ℕ). stored t (pad_to line_row (0xA1 ∷ r))) (append-nil (monitor_row x))
        ∙ sym (name-monitor t (pad_to line_row (0xA1 ∷ monitor_row x)) (name-of 0xA1 (monitor_row x)) refl)
        ∙ ap (stored_monitor t) e
    go (some a) n =
        sym (name-second t (pad_to line_row (0xA5 ∷ (monitor_row x ++ a))) (name-of 0xA5 (monitor_row x ++ a)) refl)
        ∙ ap (stored_monitor t) (spread_row x a s n)
