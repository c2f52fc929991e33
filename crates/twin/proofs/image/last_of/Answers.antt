use Rattle.twin.specs.PairRowsLaws.{last-sifted, last-window}
use Rattle.twin.proofs.image.last_of.Goals as goal

pub returns-then-is_sifting : goal.returns-then-is_sifting
returns-then-is_sifting c = (
  c.last_reason.ensures.0,
  last-sifted c.args.t.now
      c.args.a c.args.k
      c.args.n c.last_reason.result c.is_sifting.ensures
      c.if-is_sifting.true c.last_reason.ensures.1,
)

pub returns : goal.returns
returns c = (
  c.window_of-w.ensures.number,
  last-window c.args.t.now
      c.args.a c.args.k
      c.args.n c.window_of-w.result.last
      c.is_sifting.ensures
      c.if-is_sifting.false c.window_of-w.ensures.last-is,
)
