use native.Mathlib.Omega.{arith}
use Rattle.save.specs.TextLaws.{length-head_text}
use Rattle.save.specs.StepsTurns.{parts-put}
use Rattle.save.proofs.put_image.Goals as goal

pub put_rest-requires : goal.put_rest-requires
put_rest-requires c = (
  omega arith,
  omega (
    arith,
    c.put_head-a.ensures.0,
    length-head_text
        c.args.s.now,
  ),
)

pub returns : goal.returns
returns c = parts-put _ _ c.put_head-a.ensures.0 c.put_head-a.ensures.1
    c.put_rest.ensures.0 c.put_rest.ensures.1
