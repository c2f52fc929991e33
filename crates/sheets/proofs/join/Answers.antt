use Rattle.std.proofs.Common.{◌≡◌, refl, sym, ◌∙◌, arith, rules, length}
use native.Mathlib.Nat.{zero-add}
use Rattle.laws.specs.PutLaws.{put-nil}
use Rattle.totals.specs.Table.{row_fits, row_sum}
use Rattle.totals.specs.TwoLaws.{every-two-step, every-two-stop, every-two-end, map-two-turn, map-two-end}
use Rattle.totals.proofs.JoinLaws.{some-fits, some_row, none-passes}
use Rattle.sheets.specs.JoinsLaws.{off-step, off-stop, joined-fits, joined-off}
use Rattle.sheets.proofs.join.Goals as goal

pub loop-h-init : goal.loop-h-init
loop-h-init c = record { within = omega arith; off = zero-add _; told = refl; summed = sym (put-nil _ 0) }

pub loop-h-preserved : goal.loop-h-preserved
loop-h-preserved c =
    let x = c.args in
    let l = c.loop-h in
    let n : length x.t ≡ 16 = search rules in
    let m : length x.d ≡ 16 = search rules in
    let j = c.join.ensures in
    let e = c.in-Some.is in
    let f = some-fits _ _ j.fits j.row e in
    record {
      within = omega arith;
      off = off-step x.t x.d l.h _ (omega arith) (omega arith) f l.invariant.off;
      told = every-two-step row_fits _ _ l.h _ (omega arith) (omega arith) f ∙ l.invariant.told;
      summed = map-two-turn row_sum x.t x.d (omega arith) l.h l.invariant.summed _ (omega arith)
          (some_row _ _ j.fits j.row e);
    }

pub returns-in_default : goal.returns-in_default
returns-in_default c =
    let x = c.args in
    let l = c.loop-h in
    let n : length x.t ≡ 16 = search rules in
    let m : length x.d ≡ 16 = search rules in
    let j = c.join.ensures in
    let f = none-passes _ _ j.fits j.row (search rules) in
    joined-off x.t x.d
    (sym (every-two-stop row_fits _ _ l.h _ (omega arith) (omega arith) f ∙ l.invariant.told))
    (off-stop x.t x.d l.h _ (omega arith) (omega arith) f l.invariant.off)

pub returns : goal.returns
returns c =
    let x = c.args in
    let l = c.loop-h in
    let n : length x.t ≡ 16 = search rules in
    let m : length x.d ≡ 16 = search rules in
    joined-fits x.t x.d (sym (every-two-end row_fits x.t x.d l.h (omega arith) ∙ l.invariant.told))
    (map-two-end row_sum x.t x.d (omega arith) l.h l.invariant.summed (omega arith))
