-- Laws of the definitions in Table.
use Prim.Native.Nat.{ℕ, zero, suc, ◌+◌, ◌-◌, ◌*◌, ◌≤◌, ◌<◌}
use Rattle.std.specs.Prelude.{◌≡◌, refl, length, take, get_or, replicate}
use Rattle.std.proofs.Math.Path.{sym, ap}
use Rattle.std.proofs.Common.{◌∙◌, add-zero, take_at, drop_at}
use mathlib.Core.Bool.{Bool, true, false}
use mathlib.Core.List.{List, [], ◌∷◌, ◌++◌, map, append_assoc}
use native.Mathlib.Omega.{arith}
use borrow.Author.Tests.{eq-eqb, ne_eqb}
use Rattle.std.proofs.Math.Dec.{eqb}
use Rattle.laws.specs.Tests.{pick, sames}
use Rattle.laws.specs.TestsLaws.{sames-eq, eq-sames}
use Rattle.laws.specs.Loops.{every}
use Rattle.laws.specs.LoopsLaws.{part, part_step, part_end}
use Rattle.laws.specs.Rows.{rows, flat}
use Rattle.laws.specs.RowsLaws.{row_at, length-rows}
use Rattle.octets.specs.Little.{little, value, octets_of, is_octet}
use Rattle.octets.specs.LittleLaws.{octets-value, little-row}
use Rattle.rule.specs.Base.{All}
use Rattle.model.specs.Layout.{most_pairs}
use Rattle.wholes.specs.Layout.{entry_size, entries_size}
use Rattle.wholes.specs.Index.{IndexEntry, entry_row, entry_table}
use Rattle.wholes.specs.Sizes.{Fitting}
use Rattle.wholes.proofs.SizesLaws.{length-entry_row}
use Rattle.index.specs.Table.{place_in, Tabled}

-- octets of one length that make one number are the same
pub value_same : (a b : List ℕ) → length a ≡ length b → every is_octet a ≡ true → every is_octet b ≡ true
    → value a ≡ value b → a ≡ b
value_same a b n oa ob e =
    sym (octets-value a oa) ∙ ap (λ (k : ℕ). octets_of k (value a)) n ∙ ap (octets_of (length b)) e ∙ octets-value b ob

-- so a device is told by its number
pub value-test : (x d : List ℕ) → length x ≡ length d → every is_octet x ≡ true → every is_octet d ≡ true
    → eqb (value x) (value d) ≡ sames x d
value-test x d n a b = go (sames x d) refl
  where
    go : (t : Bool) → sames x d ≡ t → eqb (value x) (value d) ≡ t
    go true e = eq-eqb (value x) (value d) (ap value (sames-eq x d e))
    go false e = ne_eqb (value x) (value d) (λ q. clash (sym e ∙ eq-sames x d (value_same x d n a b q)))
      where
        clash : false ≡ true → ⊥
        clash q = mathlib.Core.Bool.false≢true q

-- the search: what is left at j
module _ (t : List ℕ) (k dev : ℕ) (l : length t ≡ entries_size) (b : k ≤ most_pairs) where
  abbrev rs : List (List ℕ)
  rs = rows entry_size most_pairs t

  many : k ≤ length rs
  many = let n : length rs ≡ most_pairs = length-rows entry_size most_pairs t in omega arith

  there : (j : ℕ) → j < most_pairs → little 7 (get_or rs j []) 0 ≡ little 7 t (entry_size * j)
  there j h =
      ap (λ (r : List ℕ). little 7 r 0) (row_at entry_size most_pairs j t h) ∙ little-row 7 entry_size j 0 t (omega arith)
      ∙ ap (little 7 t) (add-zero (entry_size * j))

  pub place-start : place_in dev (take k rs) ≡ 0 + place_in dev (part 0 k rs)
  unfolding part
  place-start = omega arith

  module _ (j : ℕ) (h : j < k) (q : place_in dev (take k rs) ≡ j + place_in dev (part j k rs)) {v : ℕ}
      (is : v ≡ little 7 t (entry_size * j)) where
    pub place-hit : v ≡ dev → j ≡ place_in dev (take k rs)
    unfolding place_in pick
    place-hit e =
        let z : eqb (little 7 (get_or rs j []) 0) dev ≡ true = eq-eqb _ dev (there j (omega arith) ∙ sym is ∙ e) in
        let y : place_in dev (part j k rs) ≡ 0 = ap (place_in dev) (part_step rs k j [] h many) ∙ rw z in omega arith

    pub place-miss : (v ≡ dev → ⊥) → place_in dev (take k rs) ≡ j + 1 + place_in dev (part (j + 1) k rs)
    unfolding place_in pick
    place-miss n =
        let z : eqb (little 7 (get_or rs j []) 0) dev ≡ false =
        ne_eqb _ dev (λ w. n (is ∙ sym (there j (omega arith)) ∙ w)) in
        let y : place_in dev (part j k rs) ≡ suc (place_in dev (part (j + 1) k rs)) =
        ap (place_in dev) (part_step rs k j [] h many) ∙ rw z in omega arith

  pub place_end : (j : ℕ) → j ≤ k → k ≤ j → place_in dev (take k rs) ≡ j + place_in dev (part j k rs)
      → k ≡ place_in dev (take k rs)
  unfolding place_in
  place_end j a c q = let y : place_in dev (part j k rs) ≡ 0 = ap (place_in dev) (part_end rs k j c) in omega arith

-- the rows of a table are its entries' rows
front-rows : (es : List IndexEntry) (n : ℕ) (z : List ℕ) → All Fitting es → length es ≤ n
    → take (length es) (rows entry_size n (flat (map entry_row es) ++ z)) ≡ map entry_row es
unfolding rows flat
front-rows [] n z a h = refl
front-rows (e ∷ es) zero z a h = absurd (omega arith)
front-rows (e ∷ es) (suc n) z a h =
    let l : length (entry_row e) ≡ entry_size = length-entry_row e a.0 in
    let w : (entry_row e ++ flat (map entry_row es)) ++ z ≡ entry_row e ++ (flat (map entry_row es) ++ z) =
    append_assoc (entry_row e) (flat (map entry_row es)) z in
    rw (
      w,
      take_at (entry_row e) (flat (map entry_row es) ++ z) entry_size l,
      drop_at (entry_row e)
          (flat (map entry_row es) ++ z) entry_size l,
    )
    (ap (λ (x : List (List ℕ)). entry_row e ∷ x) (front-rows es n z a.1 (omega arith)))

pub table-rows : (es : List IndexEntry) (k : ℕ) (t : List ℕ) → Tabled es k t
    → take k (rows entry_size most_pairs t) ≡ map entry_row es
unfolding entry_table
table-rows es k t w =
    ap (λ (x : List ℕ). take k (rows entry_size most_pairs x)) w.table
    ∙ ap (λ (n : ℕ). take n (rows entry_size most_pairs (entry_table es))) w.count
    ∙ front-rows es most_pairs (replicate (entry_size * (most_pairs - length es)) 0) w.fits w.most
