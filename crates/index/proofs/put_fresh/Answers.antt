use native.Mathlib.Omega.{arith}
use mathlib.Core.Path.{refl}
use lib.ListN.{length-take}
use Rattle.index.specs.BegunLaws.{begun-not, begun-in}
use Rattle.index.proofs.put_fresh.Goals as goal

pub returns-then-s-ne-SIZE : goal.returns-then-s-ne-SIZE
returns-then-s-ne-SIZE c = let a = c.args in (
  c.put_fresh.ensures.0,
  begun-not a.s.now a.opcode a.prefix.now
      (λ e. c.if-s-ne-SIZE.true e),
)

pub slice_bounds-put_fresh-end-3 : goal.slice_bounds-put_fresh-end-3
slice_bounds-put_fresh-end-3 c = simp length-take (let k = c.fill.auto.out in omega arith)

pub returns : goal.returns
returns c = let a = c.args in (
  c.put_fresh-answer.ensures.0,
  begun-in a.s.now
      a.opcode a.prefix.now (omega arith) c.fill.ensures.0 c.fill.ensures.1
      c.put_fresh-answer.ensures.1 refl c.put_first.ensures,
)
