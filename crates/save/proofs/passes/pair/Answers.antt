use lib.ListN.{length-take}
use native.Mathlib.Omega.{arith}
use Rattle.model.specs.Layout.{monitor_line}
use Rattle.save.specs.Text.{pair_text}
use Rattle.save.specs.TextLaws.{length-pair_text}
use Rattle.save.specs.PassedLaws.{one-line-at}
use Rattle.save.proofs.passes.pair.Goals as goal

pub slice_bounds-line-end : goal.slice_bounds-line-end
slice_bounds-line-end c = (one-line-at (pair_text c.args.row.now) monitor_line
    (omega (arith, length-pair_text c.args.row.now))
    c.put_pair-n.ensures).within

pub slice_bounds-past-end : goal.slice_bounds-past-end
slice_bounds-past-end c = simp length-take (omega (
  arith,
  (one-line-at (pair_text c.args.row.now)
      monitor_line (omega (arith, length-pair_text c.args.row.now))
      c.put_pair-n.ensures).within,
))

pub returns : goal.returns
returns c = rw (one-line-at (pair_text c.args.row.now) monitor_line
    (omega (arith, length-pair_text c.args.row.now)) c.put_pair-n.ensures).text at
    c.past.ensures
