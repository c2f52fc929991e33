use lib.Seq.{take_all}
use Rattle.laws.specs.Put.{put}
use Rattle.laws.specs.PutLaws.{put-nil, put_copy}
use native.Mathlib.Omega.{arith}
use mathlib.Core.Path.{refl, sym, ap, ◌∙◌}
use Rattle.parts.proofs.copy_in.Goals as goal

pub loop-i-init : goal.loop-i-init
loop-i-init c = sym (put-nil _ _)

pub loop-i-preserved : goal.loop-i-preserved
loop-i-preserved c = let a = c.args in
    let l = c.loop-i in
    put_copy a.out.now a.at a.src.now l.i 0 (omega arith) (omega arith) refl l.invariant

pub returns : goal.returns
returns c = let a = c.args in
    let l = c.loop-i in
    l.invariant ∙ ap (put a.out.now a.at) (take_all l.i a.src.now (omega arith))
