-- Laws of the definitions in Writing.
use Rattle.std.specs.Prelude.{ℕ, suc, ◌+◌, ◌*◌, ◌≤◌, ◌<◌, ◌≡◌, refl, Bool, true, false, leb, ℤ, pos, negsuc, nat_abs, take, drop, set}
use Rattle.std.proofs.Math.Path.{sym, ap}
use Rattle.std.proofs.Common.{◌∙◌, subst, add_assoc, add-one, arith, drop_of_length-le, to_z, of_z, le-ltb, le-leb}
use Rattle.std.proofs.lemmas.Bool.{false≢true, lt-leb}
use mathlib.Core.List.{List, [], ◌∷◌, ◌++◌, append_assoc, append-nil}
use Rattle.std.proofs.Math.Nat.{zero-add}
use Rattle.std.specs.Int.Signed.{lt_z, mag}
use Rattle.std.proofs.Math.ListN.{length, get_or, length-append}
use Rattle.std.proofs.Math.Seq.{drop-cons}
use Rattle.std.specs.Int.{w64}
use Rattle.std.proofs.lemmas.Int.{to_z-of_z}
use Rattle.laws.specs.TestsLaws.{pick_true, pick-false}
use Rattle.laws.specs.Put.{put, put_if}
use Rattle.laws.specs.PutLaws.{put_of, put-nil, put-put, put-push, set-put, take_put, length-put}
use Rattle.decimals.specs.Decimals.{decimal, decimal_in, written_in as digits_in}
use Rattle.decimals.specs.WritingTurns.{digits-most, written_in_lem}
use Rattle.totals.specs.declared.Row.{Row}
use Rattle.totals.specs.Table.{table_rows}
use Rattle.sheets.specs.Sheet.{names, names_then, signed, row_then, lines_from, sheet_text, names_octets, line_octets, room, written_in}
use Rattle.sheets.specs.Writing.{count_then, sum_then}

pub count_most : (n e : ℕ) → length (count_then n e) ≤ 21
unfolding count_then decimal
count_most n e = let h = digits-most 19 n in simp length-append (omega (arith, h))

pub sum-most : (z : ℤ) → length (sum_then z) ≤ 22
unfolding sum_then signed decimal
sum-most (pos n) = let h = digits-most 19 n in simp length-append (omega (arith, h))
sum-most (negsuc n) = let h = digits-most 19 (suc n) in simp length-append (omega (arith, h))

-- the digits of a number in a buffer of their own
pub record Digits (n k : ℕ) (d : List ℕ) : Type 0 where
  pub many : k ≡ length (decimal n)
  pub most : k ≤ 20
  pub are : take k d ≡ decimal n

pub digits-so : (n k : ℕ) (d d' : List ℕ) → length d ≡ 20 → (k ≡ length (digits_in 19 n (length d)))
    × (d' ≡ put d 0 (digits_in 19 n (length d))) → Digits n k d'
unfolding decimal
digits-so n k d d' l p =
    let w = written_in_lem 19 n k d d' (omega arith) p in
    let m = digits-most 19 n in
    record {
      many = w.0;
      most = omega (arith, w.0, m);
      are = rw (w.0, w.1) (take_put d 0 (decimal_in 19 n) (omega arith));
    }

-- a number put, and the octet behind it
pub count-put : (n e at k : ℕ) (d out out₁ : List ℕ) {b : Bool} → at + 21 ≤ length out → Digits n k d
    → b ≡ leb (at + length (take k d)) (length out) → out₁ ≡ put_if b out at (take k d)
    → (at + k + 1 ≡ at + length (count_then n e)) × (set out₁ (at + k) e ≡ put out at (count_then n e))
unfolding count_then
count-put n e at k d out out₁ h g p q =
    let i = g.many in
    let m = g.most in
    let w : out₁ ≡ put out at (decimal n) =
    put_of out at (decimal n) (length (decimal n)) (length out)
    (p ∙ ap (λ (l : List ℕ). leb (at + length l) (length out)) g.are)
    (omega (arith, i, m)) (q ∙ ap (put_if _ out at) g.are) in (
      simp length-append (omega (arith, i)),
      put-push out at (decimal n) e (omega (arith, i, m))
          (ap (λ (x : ℕ). at + x) i) w,
    )

-- a piece behind pieces
pub piece : (out : List ℕ) (at : ℕ) (ws zs : List ℕ) {i j : ℕ} {l m : List ℕ} → at ≤ length out → (i ≡ at + length ws)
    × (l ≡ put out at ws)
    → (j ≡ i + length zs) × (m ≡ put l i zs) → (j ≡ at + length (ws ++ zs)) × (m ≡ put out at (ws ++ zs))
piece out at ws zs h p q =
    (rw (q.0, p.0) (simp (length-append, add_assoc)), rw (q.1, p.0, p.1) (put-put out at ws zs h))

-- a sum
pub sum-minus : (z : ℤ) (out : List ℕ) (at k : ℕ) {r : ℕ} {out₁ : List ℕ} → lt_z z (pos 0) ≡ true → k ≡ nat_abs z
    → at < length out
    → (r ≡ at + 1 + length (count_then k 10)) × (out₁ ≡ put (set out at 45) (at + 1) (count_then k 10))
    → (r ≡ at + length (sum_then z)) × (out₁ ≡ put out at (sum_then z))
unfolding sum_then signed count_then
sum-minus (pos n) out at k e s h p = absurd (false≢true (sym (le-ltb n 0 (omega arith)) ∙ e))
sum-minus (negsuc n) out at k {r} {out₁} e s h p =
    piece out at (45 ∷ []) (count_then (suc n) 10) (omega arith) (refl, set-put out at 45 h)
    (subst (λ (x : ℕ). (r ≡ at + 1 + length (count_then x 10))
    × (out₁ ≡ put (set out at 45) (at + 1) (count_then x 10))) s p)

pub sum-plain : (z : ℤ) (out : List ℕ) (at k : ℕ) {r : ℕ} {out₁ : List ℕ} → lt_z z (pos 0) ≡ false → k ≡ nat_abs z
    → (r ≡ at + length (count_then k 10)) × (out₁ ≡ put out at (count_then k 10)) → (r ≡ at + length (sum_then z))
    × (out₁ ≡ put out at (sum_then z))
unfolding sum_then signed count_then
sum-plain (pos n) out at k {r} {out₁} e s p =
    subst (λ (x : ℕ). (r ≡ at + length (count_then x 10)) × (out₁ ≡ put out at (count_then x 10))) s p
sum-plain (negsuc n) out at k e s p = absurd (false≢true (sym e))

-- a line, and the text behind it
abbrev words : ℕ → Row → List ℕ
words h r = (((count_then h 44 ++ count_then r.packets 44) ++ count_then r.reports 44) ++ count_then r.ticks 44)
    ++ sum_then r.sum

row_words : (h : ℕ) (r : Row) → words h r ≡ row_then h r []
unfolding count_then sum_then row_then
row_words h r = simp append_assoc

pub row-then : (h : ℕ) (r : Row) (rest : List ℕ) → row_then h r rest ≡ row_then h r [] ++ rest
unfolding row_then
row-then h r rest = simp append_assoc

pub row-most : (h : ℕ) (r : Row) → length (row_then h r []) ≤ line_octets
row-most h r =
    let a = count_most h 44 in
    let b = count_most r.packets 44 in
    let c = count_most r.reports 44 in
    let d = count_most r.ticks 44 in
    let e = sum-most r.sum in
    rw (← row_words h r) (simp length-append (omega (arith, a, b, c, d, e)))

pub row_put_lem : (h : ℕ) (r : Row) (out : List ℕ) (at : ℕ) {i j k l m : ℕ} {o₁ o₂ o₃ o₄ o₅ : List ℕ} → at ≤ length out
    → (i ≡ at + length (count_then h 44)) × (o₁ ≡ put out at (count_then h 44))
    → (j ≡ i + length (count_then r.packets 44)) × (o₂ ≡ put o₁ i (count_then r.packets 44))
    → (k ≡ j + length (count_then r.reports 44)) × (o₃ ≡ put o₂ j (count_then r.reports 44))
    → (l ≡ k + length (count_then r.ticks 44)) × (o₄ ≡ put o₃ k (count_then r.ticks 44))
    → mag r.sum < 9223372036854775808 → (m ≡ l + length (sum_then (to_z w64 (of_z w64 r.sum))))
    × (o₅ ≡ put o₄ l (sum_then (to_z w64 (of_z w64 r.sum))))
    → (m ≡ at + length (row_then h r [])) × (o₅ ≡ put out at (row_then h r []))
row_put_lem h r out at {l = l} {m = m} {o₄ = o₄} {o₅ = o₅} g a b c d f e₀ =
    let a₂ = piece out at (count_then h 44) (count_then r.packets 44) g a b in
    let a₃ = piece out at _ (count_then r.reports 44) g a₂ c in
    let a₄ = piece out at _ (count_then r.ticks 44) g a₃ d in
    let e = subst (λ (z : ℤ). (m ≡ l + length (sum_then z)) × (o₅ ≡ put o₄ l (sum_then z)))
    (to_z-of_z w64 r.sum (record { sfits = f })) e₀ in
    subst (λ (w : List ℕ). (m ≡ at + length w) × (o₅ ≡ put out at w)) (row_words h r)
    (piece out at _ (sum_then r.sum) g a₄ e)

-- the loop over the rows: behind the line of names and h lines
pub record Putting (out₀ : List ℕ) (rows : List Row) (out : List ℕ) (at h : ℕ) : Type 0 where
  pub done : List ℕ
  pub text : done ++ lines_from h (drop h rows) ≡ lines_from 0 rows
  pub is : out ≡ put out₀ names_octets done
  pub end : at ≡ names_octets + length done
  pub low : length done ≤ line_octets * h
  pub most : h ≤ table_rows

module _ (out₀ : List ℕ) (rows : List Row) (n : room ≤ length out₀) where
  pub putting-start : Putting out₀ rows out₀ names_octets 0
  putting-start = record {
    done = [];
    text = refl;
    is = sym (put-nil out₀ names_octets);
    end = refl;
    low = omega arith;
    most = omega arith;
  }

  module _ (out : List ℕ) (at h : ℕ) (g : Putting out₀ rows out at h) where
    pub putting-length : length out ≡ length out₀
    putting-length = let l = g.low in let m =
        g.most in rw g.is (length-put out₀ names_octets g.done (omega (arith, l, m)))

    pub putting-room : h < table_rows → at + line_octets ≤ length out
    putting-room k = let l = g.low in let e = g.end in let p = putting-length in omega (arith, l, e, p)

    pub putting-on : (d : Row) {r : ℕ} {m : List ℕ} → length rows ≡ table_rows → h < table_rows
        → (r ≡ at + length (row_then h (get_or rows h d) [])) × (m ≡ put out at (row_then h (get_or rows h d) []))
        → Putting out₀ rows m r (h + 1)
    unfolding lines_from
    putting-on d {r} {m} e k p =
        let x : Row = get_or rows h d in
        let c = drop-cons rows h d (omega arith) in
        let q = piece out₀ names_octets g.done (row_then h x []) (omega arith) (g.end, g.is) p in
        let t : lines_from h (drop h rows) ≡ row_then h x [] ++ lines_from (suc h) (drop (suc h) rows) =
        ap (lines_from h) c ∙ row-then h x (lines_from (suc h) (drop (suc h) rows)) in
        let w = row-most h x in
        let l = g.low in
        record {
          done = g.done ++ row_then h x [];
          text = rw (add-one h)
              (append_assoc g.done (row_then h x []) (lines_from (suc h) (drop (suc h) rows))
              ∙ ap (λ (y : List ℕ). g.done ++ y) (sym t) ∙ g.text);
          is = q.1;
          end = q.0;
          low = simp length-append (omega (arith, w, l));
          most = omega arith;
        }

    pub putting-end : (entry : List ℕ) → length rows ≡ table_rows → table_rows ≤ h → room ≤ length entry
        → out₀ ≡ put entry 0 names
        → (at ≡ length (sheet_text rows)) × (out ≡ put entry 0 (sheet_text rows))
    unfolding lines_from sheet_text names_then
    putting-end entry e k s q =
        let d : g.done ≡ lines_from 0 rows =
        sym (append-nil g.done)
        ∙ ap (λ (y : List ℕ). g.done ++ y)
        (sym (ap (lines_from h) (drop_of_length-le rows {i = h} (omega arith)))) ∙ g.text in
        let w = piece entry 0 names (lines_from 0 rows) (omega arith) (refl, q)
        (g.end ∙ ap (λ (y : List ℕ). names_octets + length y) d, g.is ∙ ap (put out₀ names_octets) d) in
        (w.0 ∙ zero-add _, w.1)

-- a text with room, and one without
pub written-some : (rows : List Row) (out out₁ : List ℕ) {r : ℕ} → room ≤ length out → (r ≡ length (sheet_text rows))
    × (out₁ ≡ put out 0 (sheet_text rows))
    → (r ≡ length (written_in (length out) rows)) × (out₁ ≡ put out 0 (written_in (length out) rows))
unfolding written_in
written-some rows out out₁ h p = rw (pick_true {A = List ℕ} (sheet_text rows) [] (le-leb room (length out) h)) p

pub written_none : (rows : List Row) (out : List ℕ) → length out < room → (0 ≡ length (written_in (length out) rows))
    × (out ≡ put out 0 (written_in (length out) rows))
unfolding written_in
written_none rows out h =
    rw (pick-false {A = List ℕ} (sheet_text rows) [] (lt-leb room (length out) h)) (refl, sym (put-nil out 0))

-- what was written lies within the buffer, and is what is read again
pub again-low : (out ys : List ℕ) {r : ℕ} {out₁ : List ℕ} → (r ≡ length ys) × (out₁ ≡ put out 0 ys) → r ≤ length out₁
unfolding put
again-low out ys p = rw (p.0, p.1) (simp length-append (omega arith))

pub again : (rows : List Row) (out out₁ : List ℕ) (r : ℕ) → room ≤ length out
    → (r ≡ length (written_in (length out) rows)) × (out₁ ≡ put out 0 (written_in (length out) rows))
    → take r out₁ ≡ sheet_text rows
unfolding written_in
again rows out out₁ r h p =
    let e : written_in (length out) rows ≡ sheet_text rows =
    pick_true (sheet_text rows) [] (le-leb room (length out) (omega arith)) in
    rw (p.0, p.1, e) (take_put out 0 (sheet_text rows) (omega arith))
