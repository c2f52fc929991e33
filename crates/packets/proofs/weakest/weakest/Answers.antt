use Rattle.std.proofs.Common.{◌≡◌, refl, arith}
use Rattle.model.specs.Layout.{most_pairs}
use Rattle.packets.specs.Weakest.{weakest_below}
use Rattle.packets.specs.WeakestLaws.{weaker-turn, weakest-low}
use Rattle.packets.proofs.weakest.weakest.Goals as goal

pub loop-j-init : goal.loop-j-init
unfolding weakest_below
loop-j-init c = (refl, c.kept_at.ensures)

pub loop-j-preserved : goal.loop-j-preserved
loop-j-preserved c = let l = c.loop-j in
    weaker-turn c.args.s.now l.j l.weak.at c.kept_at-in-loop-j.ensures l.invariant.1 l.invariant.0 c.weaker-weak.ensures.0
    c.weaker-weak.ensures.1

pub returns : goal.returns
returns c = let l = c.loop-j in
    let s = c.args.s.now in
    let e : l.j ≡ most_pairs = omega arith in
    let i : l.weak.at ≡ weakest_below s most_pairs = rw e at l.invariant.0 in
    (omega (arith, i, weakest-low s 63), i, l.invariant.1)
