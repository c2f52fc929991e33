use Rattle.std.proofs.Common.{◌≡◌, arith}
use Rattle.model.specs.Layout.{most_monitors}
use Rattle.packets.specs.HandlesLaws.{no-start-more}
use Rattle.packets.proofs.starts.is_start.Goals as goal

pub loop-a-init : goal.loop-a-init
loop-a-init c = λ e j b. absurd (omega arith)

pub loop-a-preserved : goal.loop-a-preserved
loop-a-preserved c = let l = c.loop-a in
    λ e. no-start-more c.args.acts.now l.a-index l.invariant e

pub returns : goal.returns
returns c = let l = c.loop-a in
    let e : l.a-index ≡ most_monitors = omega arith in
    rw e at l.invariant
