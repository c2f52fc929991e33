use Rattle.std.proofs.Common.{true, ◌+◌, ◌≡◌, [], ◌∷◌, ◌++◌, sym, ◌∙◌, arith, rules, length, ne_eqb, length-append}
use Rattle.std.proofs.lemmas.Slice.Zip.{zip_turn, zip_end}
use Rattle.totals.specs.GainsLaws.{gain-other}
use Rattle.totals.specs.Table.{empty}
use Rattle.totals.specs.Gains.{no_gain}
use Rattle.totals.proofs.FitLaws.{fit-stop, fit-step, fit-end}
use Rattle.totals.proofs.gains_fit.Goals as goal

pub returns-then-rows-ne-TABLE : goal.returns-then-rows-ne-TABLE
returns-then-rows-ne-TABLE c =
    let a = c.args in
    (gain-other true a.rows.now a.d.now (ne_eqb (length a.rows.now) 16 c.if-rows-ne-TABLE.true)).0

pub returns-then-is_none : goal.returns-then-is_none
returns-then-is_none c =
    let a = c.args in
    let l = c.loop-row in
    let p = c.in-Some in
    let m : length a.d.now ≡ 16 = search rules in
    let z = zip_turn a.rows.now a.d.now l.yielded c.into_iter-row-iterator.result l.row-iterator c.next.new.self
    c.next.result (search rules) (search rules) l.yielded_by (p.row, p.gain) p.is c.next.ensures.steps in
    fit-stop a.rows.now a.d.now l.invariant.sixteen m (length l.yielded) z.0 (z.2 empty) (z.3 no_gain) c.from.ensures
    l.invariant.told (sym c.join.ensures.fits ∙ c.if-is_none.ensures)

pub loop-row-preserved : goal.loop-row-preserved
loop-row-preserved c =
    let a = c.args in
    let l = c.loop-row in
    let p = c.in-Some in
    let m : length a.d.now ≡ 16 = search rules in
    let z = zip_turn a.rows.now a.d.now l.yielded c.into_iter-row-iterator.result l.row-iterator c.next.new.self
    c.next.result (search rules) (search rules) l.yielded_by (p.row, p.gain) p.is c.next.ensures.steps in
    let one : length (l.yielded ++ (p.row, p.gain) ∷ []) ≡ length l.yielded + 1 = length-append _ _ in
    record {
      sixteen = l.invariant.sixteen;
      told = rw one (fit-step a.rows.now a.d.now l.invariant.sixteen m (length l.yielded) z.0 (z.2 empty) (z.3 no_gain)
          c.from.ensures l.invariant.told (sym c.join.ensures.fits ∙ c.if-is_none.ensures));
    }

pub returns : goal.returns
returns c =
    let a = c.args in
    let l = c.loop-row in
    let m : length a.d.now ≡ 16 = search rules in
    let z = zip_end a.rows.now a.d.now l.yielded c.into_iter-row-iterator.result l.row-iterator c.next.new.self
    c.next.result (search rules) (search rules) l.yielded_by c.in-None.is c.next.ensures.steps in
    fit-end a.rows.now a.d.now l.invariant.sixteen m (length l.yielded) (omega arith) l.invariant.told
