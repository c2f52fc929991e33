use native.Mathlib.Omega.{arith}
use Rattle.model.specs.Layout.{most_monitors}
use Rattle.save.specs.TextLaws.{length-monitors_text, length-pairs_text}
use Rattle.save.specs.StepsTurns.{rest_put}
use Rattle.save.proofs.put_rest.Goals as goal

pub put_pairs-c-requires : goal.put_pairs-c-requires
put_pairs-c-requires c = (
  omega arith,
  omega (arith, c.at_most-n.ensures.1),
  omega (
    arith,
    c.put_monitors-b.ensures.0,
    length-monitors_text
        c.args.s.now most_monitors,
  ),
)

pub put_end-requires : goal.put_end-requires
put_end-requires c = (
  omega (
    arith,
    c.at_most-n.ensures.1,
    c.put_monitors-b.ensures.0,
    c.put_pairs-c.ensures.0,
    length-monitors_text
        c.args.s.now most_monitors,
    length-pairs_text
        c.args.s.now c.at_most-n.result,
  ),
  omega
      (arith, c.live_in-u.ensures.1),
  omega
      (arith, c.at_most-n.ensures.1),
)

pub returns : goal.returns
returns c = rest_put _ _ c.args.at c.live_in-u.result c.at_most-n.result (omega arith)
    c.put_monitors-b.ensures.0 c.put_monitors-b.ensures.1
    c.put_pairs-c.ensures.0 c.put_pairs-c.ensures.1
    c.put_end.ensures.0 c.put_end.ensures.1
    c.live_in-u.ensures.0 c.at_most-n.ensures.0
