use Rattle.state.specs.StartLaws.{blank-not, blank-put}
use Rattle.std.proofs.Common.{arith}
use Rattle.state.proofs.put_blank.Goals as goal

pub returns-then-block-ne-SIZE : goal.returns-then-block-ne-SIZE
returns-then-block-ne-SIZE c = blank-not c.args.block.now c.if-block-ne-SIZE.true

pub returns : goal.returns
returns c = blank-put c.args.block.now (omega arith) c.fill.ensures.0 c.fill.ensures.1
    c.set_settings.ensures
