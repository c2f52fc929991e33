use lib.ListN.{length-take}
use native.Mathlib.Omega.{arith}
use Rattle.model.specs.Layout.{monitor_line}
use Rattle.save.specs.Text.{head_text}
use Rattle.save.specs.TextLaws.{length-head_text}
use Rattle.save.specs.PassedLaws.{one_line}
use Rattle.save.proofs.passes.head.Goals as goal

pub slice_bounds-line-end : goal.slice_bounds-line-end
slice_bounds-line-end c = (one_line (head_text c.args.s.now) monitor_line
    (omega (arith, length-head_text c.args.s.now))
    c.put_head-n.ensures).within

pub slice_bounds-past-end : goal.slice_bounds-past-end
slice_bounds-past-end c = simp length-take (omega (
  arith,
  (one_line (head_text c.args.s.now) monitor_line
      (omega (arith, length-head_text c.args.s.now)) c.put_head-n.ensures).within,
))

pub returns : goal.returns
returns c = rw (one_line (head_text c.args.s.now) monitor_line (omega (arith, length-head_text c.args.s.now))
    c.put_head-n.ensures).text at c.past.ensures
