use Rattle.parts.specs.PartsLaws.{shift-turn}
use Rattle.laws.specs.PutLaws.{put-nil}
use native.Mathlib.Omega.{arith}
use mathlib.Core.Path.{sym}
use Rattle.parts.proofs.shift_in.Goals as goal

pub loop-j-init : goal.loop-j-init
loop-j-init c = sym (put-nil _ _)

pub loop-j-preserved : goal.loop-j-preserved
loop-j-preserved c = let a = c.args in
    let l = c.loop-j in
    shift-turn a.t.now a.to a.from a.n l.j (omega arith) (omega arith) (omega arith) l.invariant
