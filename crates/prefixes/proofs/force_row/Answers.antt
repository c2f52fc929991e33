use Rattle.prefixes.specs.ForceLaws.{forced-row, forced-none}
use Rattle.prefixes.proofs.force_row.Goals as goal

pub returns-then-k-gt0 : goal.returns-then-k-gt0
returns-then-k-gt0 c = forced-row c.args.s.now c.args.n _ _ c.in_force-k.ensures c.if-k-gt0.true
    c.prefix_at.ensures

pub returns-else-k-gt0 : goal.returns-else-k-gt0
returns-else-k-gt0 c = forced-none c.args.s.now c.args.n _ _ c.in_force-k.ensures c.if-k-gt0.false c.requires.1
