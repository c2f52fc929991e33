-- Laws of the definitions in Joins.
use Prim.Native.Nat.{ℕ, suc, ◌+◌, ◌<◌}
use Rattle.std.specs.Prelude.{◌≡◌, refl, Bool, true, false, ◌&&◌, List, [], ◌∷◌, length, drop, get_or, replicate, Ok, Err}
use Rattle.std.proofs.Common.{sym, ap, ◌∙◌, add-one, arith}
use Rattle.std.proofs.lemmas.Bool.{false≢true}
use Rattle.std.proofs.Math.Seq.{drop-cons}
use Rattle.laws.specs.Tests.{pick}
use Rattle.laws.specs.TestsLaws.{pick_true, pick-false, and_left, and_right}
use Rattle.totals.specs.declared.Row.{Row}
use Rattle.totals.specs.Two.{every_two, map_two}
use Rattle.totals.specs.Table.{table_rows, empty, row_fits, row_sum}
use Rattle.sheets.specs.Joins.{first_off, joined_rows, joined}

-- where one is refused, and where none is
pub off-some : (t d : List Row) → length t ≡ length d → every_two row_fits t d ≡ false → first_off t d < length t
unfolding first_off every_two pick
off-some [] d n e = absurd (false≢true (sym e))
off-some (a ∷ t) [] n e = absurd (false≢true (sym e))
off-some (a ∷ t) (b ∷ d) n e = go (row_fits a b) e (off-some t d (omega arith))
  where
    go : (f : Bool) → (f && every_two row_fits t d) ≡ false → (every_two row_fits t d ≡ false → first_off t d < length t)
        → pick f (suc (first_off t d)) 0 < suc (length t)
    go true h k = let l = k h in omega (arith, l)
    go false h k = omega arith

pub off-none : (t d : List Row) → length t ≡ length d → every_two row_fits t d ≡ true → first_off t d ≡ length t
unfolding first_off every_two
off-none [] d n e = refl
off-none (a ∷ t) [] n e = absurd (omega arith)
off-none (a ∷ t) (b ∷ d) n e =
    pick_true (suc (first_off t d)) 0 (and_left (row_fits a b) (every_two row_fits t d) e)
    ∙ ap suc (off-none t d (omega arith) (and_right (row_fits a b) (every_two row_fits t d) e))

-- the turns of the loop: a join that fits, one that does not, the end
module _ (t d : List Row) (h : ℕ) (r : Row) where
  pub off-step : h < length t → h < length d → row_fits (get_or t h r) (get_or d h r) ≡ true
      → h + first_off (drop h t) (drop h d) ≡ first_off t d
      → (h + 1) + first_off (drop (h + 1) t) (drop (h + 1) d) ≡ first_off t d
  unfolding first_off
  off-step k l e q =
      let c : first_off (drop h t) (drop h d) ≡ suc (first_off (drop (suc h) t) (drop (suc h) d)) =
      rw (drop-cons t h r k, drop-cons d h r l) (pick_true (suc (first_off (drop (suc h) t) (drop (suc h) d))) 0 e) in
      rw (add-one h) (omega (arith, c, q))

  pub off-stop : h < length t → h < length d → row_fits (get_or t h r) (get_or d h r) ≡ false
      → h + first_off (drop h t) (drop h d) ≡ first_off t d → h ≡ first_off t d
  unfolding first_off
  off-stop k l e q =
      let c : first_off (drop h t) (drop h d) ≡ 0 =
      rw (drop-cons t h r k, drop-cons d h r l)
      (pick-false (suc (first_off (drop (suc h) t) (drop (suc h) d))) 0 e) in
      omega (arith, c, q)

-- the two ways of a join
pub joined-fits : (t d : List Row) {r : List Row} → every_two row_fits t d ≡ true → r ≡ map_two row_sum t d
    → Ok r ≡ joined t d
unfolding joined joined_rows
joined-fits t d {r} e q =
    sym (pick_true (Ok (joined_rows t d)) (Err (first_off t d)) e
    ∙ ap Ok (pick_true (map_two row_sum t d) (replicate table_rows empty) e ∙ sym q))

pub joined-off : (t d : List Row) {h : ℕ} → every_two row_fits t d ≡ false → h ≡ first_off t d → Err h ≡ joined t d
unfolding joined
joined-off t d {h} e q = ap Err q ∙ sym (pick-false (Ok (joined_rows t d)) (Err (first_off t d)) e)
