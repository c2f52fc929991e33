use Rattle.prefixes.specs.ForceLaws.{enforced-not, enforced-is}
use Rattle.prefixes.proofs.enforce.Goals as goal

pub returns-then-s-ne-SIZE : goal.returns-then-s-ne-SIZE
returns-then-s-ne-SIZE c = enforced-not c.args.n c.args.s.now c.if-s-ne-SIZE.true

pub returns : goal.returns
returns c = enforced-is c.args.n c.args.s.now _ c.if-s-ne-SIZE.false c.force_row.auto.row
    c.force_row.ensures c.copy.ensures.0 c.copy.ensures.1
