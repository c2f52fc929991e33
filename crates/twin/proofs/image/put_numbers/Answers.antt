use Rattle.std.proofs.Common.{◌≡◌, length, set, ◌∙◌, arith, length-set}
use Rattle.twin.specs.PairRowsLaws.{numbers-written}
use Rattle.twin.proofs.image.put_numbers.Goals as goal

pub bounds-row-23 : goal.bounds-row-23
bounds-row-23 c = let j : length (set c.put16.new.out 10 c.phase.result) ≡ length
    c.put16.new.out = simp length-set in
    let e = c.put64.auto.out ∙ c.put32.auto.out ∙ j ∙ c.put16.auto.out in
    omega (
      arith,
      e,
      c.requires.0,
    )

pub shape_of-row : goal.shape_of-row
shape_of-row c = let j : length (set c.put16.new.out 10 c.phase.result) ≡ length
    c.put16.new.out = simp length-set in
    let e = c.put64.auto.out ∙ c.put32.auto.out ∙ j ∙ c.put16.auto.out in
    let i : length (set c.put64.new.out 23 c.kept_rssi.result) ≡ length
    c.put64.new.out = simp length-set in
    i ∙ e

pub returns : goal.returns
returns c = numbers-written c.args.t.now c.args.n c.args.a c.args.k c.args.row.now
    c.requires.0 c.window_of-w.ensures c.silent.ensures
    c.phase.ensures.0 c.kept_rssi.ensures c.put16.ensures
    c.put32.ensures c.put64.ensures
