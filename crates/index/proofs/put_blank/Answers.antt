use native.Mathlib.Omega.{arith}
use mathlib.Core.Path.{refl}
use lib.ListN.{length-take}
use Rattle.index.specs.BegunLaws.{blank-not, blank-in}
use Rattle.index.proofs.put_blank.Goals as goal

pub returns-then-s-ne-SIZE : goal.returns-then-s-ne-SIZE
returns-then-s-ne-SIZE c = blank-not c.args.s.now (λ e. c.if-s-ne-SIZE.true e)

pub slice_bounds-put_blank-end-2 : goal.slice_bounds-put_blank-end-2
slice_bounds-put_blank-end-2 c = simp length-take (let k = c.fill.auto.out in omega arith)

pub returns : goal.returns
returns c = let a = c.args in
    blank-in a.s.now (omega arith) c.fill.ensures.0 c.fill.ensures.1
    c.put_blank.ensures refl c.put_first.ensures
