use Rattle.std.proofs.Common.{◌≡◌, ◌-◌, arith}
use Rattle.model.specs.Layout.{most_pairs}
use Rattle.packets.specs.ShutLaws.{none-less-more}
use Rattle.packets.proofs.room.is_weaker.Goals as goal

pub loop-j-init : goal.loop-j-init
loop-j-init c = (omega arith, λ e j b. absurd (omega arith))

pub loop-j-smaller : goal.loop-j-smaller
loop-j-smaller c = omega arith

pub loop-j-preserved : goal.loop-j-preserved
loop-j-preserved c = let l = c.loop-j in (
  omega arith,
  λ e. none-less-more c.args.s.now
      c.args.level l.j l.invariant.1 c.kept_at.ensures e,
)

pub returns : goal.returns
returns c = let l = c.loop-j in
    let e : l.j ≡ most_pairs = omega arith in
    rw e at l.invariant.1
