use Rattle.std.proofs.Common.{◌≡◌, ◌<◌, true, sym, ap, ◌∙◌, arith, rules, length, set, get_or, List, ne_eqb}
use Rattle.totals.specs.declared.Row.{Row}
use Rattle.totals.specs.Table.{empty}
use Rattle.totals.specs.Gains.{wide_row, kept_row}
use Rattle.totals.specs.GainsLaws.{gain-other, gain-within, upto-none, upto-at, upto-more, upto-end}
use Rattle.totals.proofs.JoinLaws.{kept}
use Rattle.totals.proofs.add_gains.Goals as goal

pub loop-i-init : goal.loop-i-init
loop-i-init c =
    let a = c.args in
    let n = c.if-rows-eq-TABLE.true in
    let m : length a.d.now ≡ 16 = search rules in
    record {
      within = omega arith;
      sixteen = n;
      turned = sym (upto-none a.rows.now a.d.now true n m);
    }

pub loop-i-preserved : goal.loop-i-preserved
loop-i-preserved c =
    let a = c.args in
    let l = c.loop-i in
    let n = l.invariant.sixteen in
    let m : length a.d.now ≡ 16 = search rules in
    let less : l.i < 16 = c.loop-i-test.true in
    let is : get_or l.rows l.i empty ≡ get_or a.rows.now l.i empty =
    ap (λ (u : List Row). get_or u l.i empty) l.invariant.turned ∙ upto-at a.rows.now a.d.now true n m l.i l.invariant.within in
    let g = gain-within a.d.now l.i (record { packets = 0; reports = 0; ticks = 0; level = 0 }) (omega arith) in
    let k = kept (get_or l.rows l.i empty) c.from.result c.join.result c.join.ensures.fits c.join.ensures.row in
    let w = c.from.ensures ∙ ap wide_row g in
    record {
      within = omega arith;
      sixteen = n;
      turned = ap (λ (u : List Row). set u l.i c.unwrap_or.result) l.invariant.turned
          ∙ upto-more a.rows.now a.d.now true n m l.i less is
          (c.unwrap_or.ensures ∙ k ∙ ap (kept_row true (get_or l.rows l.i empty)) w);
    }

pub returns-after-loop-i : goal.returns-after-loop-i
returns-after-loop-i c =
    let a = c.args in
    let l = c.loop-i in
    let m : length a.d.now ≡ 16 = search rules in
    l.invariant.turned ∙ upto-end a.rows.now a.d.now true l.invariant.sixteen m l.i (omega arith)

pub returns-else-rows-eq-TABLE : goal.returns-else-rows-eq-TABLE
returns-else-rows-eq-TABLE c =
    let a = c.args in
    (gain-other true a.rows.now a.d.now (ne_eqb (length a.rows.now) 16 c.if-rows-eq-TABLE.false)).1
