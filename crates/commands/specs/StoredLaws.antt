-- Laws of the definitions in Stored.
use Rattle.std.specs.Prelude.{ℕ, ◌+◌, ◌-◌, ◌≤◌, ◌<◌, ◌≡◌, Bool, leb, set}
use Rattle.std.proofs.Math.Path.{refl, sym, ap}
use Rattle.std.proofs.Common.{◌∙◌, length-append, length-set, length-take-le, take_all}
use Rattle.std.proofs.Math.Bool.{true, false}
use mathlib.Core.List.{List, [], ◌∷◌, ◌++◌, append-nil}
use Rattle.std.proofs.Math.Option.{none, some}
use native.Mathlib.Omega.{arith}
use Rattle.std.proofs.Math.ListN.{length, take, drop, get_or, replicate, length-drop}
use Rattle.laws.specs.Tests.{pick}
use Rattle.laws.specs.Put.{put, put_if}
use Rattle.laws.specs.PutLaws.{put_of, put_then, put-push, set-put, length-put}
use Rattle.model.specs.Monitors.{monitor_of, is_second, type_in, extra_of}
use Rattle.model.specs.Image.{monitor_row}
use Rattle.model.specs.Block.{pad_to, extra_row}
use Rattle.blocks.specs.Monitors.{Sized, row_of}
use Rattle.blocks.specs.MonitorsLaws.{length_fields}
use Rattle.model.specs.Layout.{extra_at, extra_size, first_type_in, monitor_size, most_condition, second_type_in}
use Rattle.commands.specs.Stored.{Enough, fields_of, added_of}

-- a write that told whether it was done, where there is room
pub put-made : (xs : List ℕ) (at : ℕ) (ys : List ℕ) (k : ℕ) {r : Bool} {m : List ℕ}
    → (r ≡ leb (at + k) (length xs)) × (m ≡ put_if r xs at ys) → at + k ≤ length xs → m ≡ put xs at ys
put-made xs at ys k e h = put_of xs at ys k (length xs) e.0 h e.1

-- the settings of a parameter list, as they stand in a row
pub settings-row : (l : List ℕ) → 6 ≤ length l
    → take 4 (drop 1 l) ≡ get_or l 1 0 ∷ get_or l 2 0 ∷ get_or l 3 0 ∷ get_or l 4 0 ∷ []
settings-row [] h = absurd (omega arith)
settings-row (a ∷ []) h = absurd (omega arith)
settings-row (a ∷ b ∷ []) h = absurd (omega arith)
settings-row (a ∷ b ∷ c ∷ []) h = absurd (omega arith)
settings-row (a ∷ b ∷ c ∷ d ∷ []) h = absurd (omega arith)
settings-row (a ∷ b ∷ c ∷ d ∷ e ∷ []) h = absurd (omega arith)
settings-row (a ∷ b ∷ c ∷ d ∷ e ∷ f ∷ l) h = refl

-- what the row has room for
pub extra-sized : (l : List ℕ) → type_in l < length l → length (extra_row (extra_of l)) ≡ extra_size
unfolding extra_of extra_row type_in pick
extra-sized l = go (is_second l)
  where
    go : (t : Bool) → pick t second_type_in first_type_in < length l
        → length (extra_row (pick t (some (take extra_size (drop first_type_in l))) none)) ≡ extra_size
    go true h = let d = length-drop first_type_in l in length-take-le extra_size (drop first_type_in l) (omega arith)
    go false h = refl

pub enough-sized : (at : ℕ) (l : List ℕ) → Enough at l → Sized (monitor_of l)
unfolding monitor_of
enough-sized at l f =
    let d : length (drop (type_in l + 1) l) ≡ length l - (type_in l + 1) = length-drop (type_in l + 1) l in
    record { short = omega (arith, f.place, f.most); extra = extra-sized l (omega (arith, f.place, f.type)) }

module _ (h at : ℕ) (l : List ℕ) (f : Enough at l) where
  fields-row : fields_of h at l ≡ pad_to extra_at (monitor_row (h, monitor_of l))
  unfolding fields_of pad_to monitor_row monitor_of
  fields-row =
      let t : type_in l ≡ at = sym f.place in
      let n : length (drop (at + 1) l) ≡ length l - (at + 1) = length-drop (at + 1) l in
      let k : length l - at - 1 ≡ length (drop (at + 1) l) = omega (arith, f.type) in
      let z : most_condition - length (drop (at + 1) l)
      ≡ extra_at - length
      (h ∷ get_or l 1 0 ∷ get_or l 2 0 ∷ get_or l 3 0 ∷ get_or l 4 0 ∷ get_or l at 0 ∷ length (drop (at + 1) l)
      ∷ drop (at + 1) l) =
      omega arith in
      rw (settings-row l (omega (arith, f.least, f.type)), t, k, z)

  added-row : added_of at l ≡ extra_row (extra_of l)
  unfolding added_of extra_of extra_row type_in pick
  added-row = go (is_second l) f.place
    where
      go : (t : Bool) → at ≡ pick t second_type_in first_type_in
          → take (at - 5) (drop 5 l) ++ replicate (extra_size - (at - 5)) 0
          ≡ extra_row (pick t (some (take extra_size (drop first_type_in l))) none)
      go true e = rw e (append-nil (take extra_size (drop first_type_in l)))
      go false e = rw e refl

  pub row_made : fields_of h at l ++ added_of at l ≡ row_of h (monitor_of l)
  unfolding monitor_of
  row_made = ap (λ (x : List ℕ). x ++ added_of at l) fields-row
      ∙ ap (λ (x : List ℕ). pad_to extra_at (monitor_row (h, monitor_of l)) ++ x) added-row

-- the writes of A1's fields, one after another
pub fields-stored : (s : List ℕ) (row h at : ℕ) (l : List ℕ) {s2 s5 s6 : List ℕ} {r2 r5 r6 : Bool} → 5 ≤ at
    → at < length l
    → length l ≤ at + 1 + most_condition → row + monitor_size ≤ length s
    → (r2 ≡ leb (row + 1 + length (take 4 (drop 1 l))) (length (set s row h)))
    × (s2 ≡ put_if r2 (set s row h) (row + 1) (take 4 (drop 1 l)))
    → (r5 ≡ leb (row + 7 + length (take (length l - (at + 1)) (drop (at + 1) l)))
    (length (set (set s2 (row + 5) (get_or l at 0)) (row + 6) (length l - at - 1))))
    × (s5 ≡ put_if r5 (set (set s2 (row + 5) (get_or l at 0)) (row + 6) (length l - at - 1)) (row + 7)
    (take (length l - (at + 1)) (drop (at + 1) l)))
    → (r6 ≡ leb (row + 7 + (length l - at - 1) + (most_condition - (length l - at - 1))) (length s5))
    × (s6 ≡ put_if r6 s5 (row + 7 + (length l - at - 1)) (replicate (most_condition - (length l - at - 1)) 0))
    → s6 ≡ put s row (fields_of h at l)
unfolding fields_of
fields-stored s row h at l {s2} {s5} {s6} a b c r e2 e5 e6 =
    let k : ℕ = length l - at - 1 in
    let s1 : List ℕ = set s row h in
    let s3 : List ℕ = set s2 (row + 5) (get_or l at 0) in
    let s4 : List ℕ = set s3 (row + 6) k in
    let d : List ℕ = take (length l - (at + 1)) (drop (at + 1) l) in
    let n : length (drop (at + 1) l) ≡ length l - (at + 1) = length-drop (at + 1) l in
    let i : d ≡ drop (at + 1) l = take_all (length l - (at + 1)) (drop (at + 1) l) (omega arith) in
    let j : length (drop 1 l) ≡ length l - 1 = length-drop 1 l in
    let v : length (take 4 (drop 1 l)) ≡ 4 = length-take-le 4 (drop 1 l) (omega arith) in
    let w : length d ≡ k = ap length i ∙ omega arith in
    let a1 : List ℕ = h ∷ [] in
    let a2 : List ℕ = h ∷ take 4 (drop 1 l) in
    let a3 : List ℕ = a2 ++ (get_or l at 0 ∷ []) in
    let a4 : List ℕ = a3 ++ (k ∷ []) in
    let a5 : List ℕ = a4 ++ drop (at + 1) l in
    let z : List ℕ = replicate (most_condition - k) 0 in
    let n3 : length a3 ≡ 6 = length-append a2 (get_or l at 0 ∷ []) ∙ omega arith in
    let n4 : length a4 ≡ 7 = length-append a3 (k ∷ []) ∙ omega arith in
    let n5 : length a5 ≡ 7 + k = length-append a4 (drop (at + 1) l) ∙ omega arith in
    let l1 : length s1 ≡ length s = length-set s row h in
    let p2 : s2 ≡ put s1 (row + 1) (take 4 (drop 1 l)) =
    put-made s1 (row + 1) (take 4 (drop 1 l)) (length (take 4 (drop 1 l))) e2 (omega arith) in
    let q2 : s2 ≡ put s row a2 =
    put_then s row a1 (row + 1) (take 4 (drop 1 l)) (omega arith) (set-put s row h (omega arith)) refl p2 refl in
    let l2 : length s2 ≡ length s = ap length q2 ∙ length-put s row a2 (omega arith) in
    let q3 : s3 ≡ put s row a3 = put-push s row a2 (get_or l at 0) {n = row + 5} (omega arith) (omega arith) q2 in
    let l3 : length s3 ≡ length s = length-set s2 (row + 5) (get_or l at 0) ∙ l2 in
    let q4 : s4 ≡ put s row a4 = put-push s row a3 k {n = row + 6} (omega arith) (omega arith) q3 in
    let l4 : length s4 ≡ length s = length-set s3 (row + 6) k ∙ l3 in
    let p5 : s5 ≡ put s4 (row + 7) d = put-made s4 (row + 7) d (length d) e5 (omega arith) in
    let q5 : s5 ≡ put s row a5 =
    put_then s row a4 (row + 7) (drop (at + 1) l) (omega arith) q4 (omega arith) (p5 ∙ ap (put s4 (row + 7)) i) refl in
    let l5 : length s5 ≡ length s = ap length q5 ∙ length-put s row a5 (omega arith) in
    let p6 : s6 ≡ put s5 (row + 7 + k) z = put-made s5 (row + 7 + k) z (most_condition - k) e6 (omega arith) in
    put_then s row a5 (row + 7 + k) z (omega arith) q5 (omega arith) p6 refl

-- the writes of what is added
pub added-stored : (s : List ℕ) (to at : ℕ) (l : List ℕ) {s1 s2 : List ℕ} {r1 r2 : Bool} → 5 ≤ at → at ≤ second_type_in
    → at < length l
    → to + extra_size ≤ length s
    → (r1 ≡ leb (to + length (take (at - 5) (drop 5 l))) (length s)) × (s1 ≡ put_if r1 s to (take (at - 5) (drop 5 l)))
    → (r2 ≡ leb (to + (at - 5) + (extra_size - (at - 5))) (length s1))
    × (s2 ≡ put_if r2 s1 (to + (at - 5)) (replicate (extra_size - (at - 5)) 0))
    → s2 ≡ put s to (added_of at l)
unfolding added_of
added-stored s to at l {s1} {s2} a b c r e1 e2 =
    let f : List ℕ = take (at - 5) (drop 5 l) in
    let z : List ℕ = replicate (extra_size - (at - 5)) 0 in
    let d : length (drop 5 l) ≡ length l - 5 = length-drop 5 l in
    let n : length f ≡ at - 5 = length-take-le (at - 5) (drop 5 l) (omega arith) in
    let p : s1 ≡ put s to f = put-made s to f (length f) e1 (omega arith) in
    let m : length s1 ≡ length s = ap length p ∙ length-put s to f (omega arith) in
    put_then s to f (to + (at - 5)) z (omega arith) p (omega arith)
    (put-made s1 (to + (at - 5)) z (extra_size - (at - 5)) e2 (omega arith)) refl

-- the row: its fields, then what is added
pub row-stored : (s : List ℕ) (row h at : ℕ) (l : List ℕ) {s1 s2 : List ℕ} → Enough at l → row + monitor_size ≤ length s
    → s1 ≡ put s row (fields_of h at l) → s2 ≡ put s1 (row + extra_at) (added_of at l)
    → s2 ≡ put s row (row_of h (monitor_of l))
row-stored s row h at l f r p q =
    let n : length (fields_of h at l) ≡ extra_at =
    ap length (fields-row h at l f) ∙ length_fields (h, monitor_of l) (enough-sized at l f) in
    put_then s row (fields_of h at l) (row + extra_at) (added_of at l) (omega arith) p (omega arith) q (row_made h at l f)
