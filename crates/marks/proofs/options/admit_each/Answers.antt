use Prim.Native.Nat.{◌-◌}
use mathlib.Core.Path.{◌≡◌, refl, sym, ◌∙◌}
use native.Mathlib.Omega.{arith}
use lib.ListN.{get_or, length-set}
use Rattle.laws.specs.Tests.{pick}
use Rattle.laws.specs.Loops.{up_to}
use Rattle.laws.specs.PutLaws.{put-nil}
use Rattle.model.specs.Frames.{packet_of}
use Rattle.model.specs.Layout.{most_monitors}
use Rattle.marks.proofs.MarksLaws.{marks-turn}
use Rattle.marks.specs.Admitted.{admits_at, admitted}
use Rattle.marks.proofs.AdmittedLaws.{admitted-end, not_yet}
use Rattle.marks.proofs.options.admit_each.Goals as goal

pub loop-h-init : goal.loop-h-init
unfolding up_to
loop-h-init c = (omega arith, refl, sym (put-nil _ _))

pub loop-h-smaller : goal.loop-h-smaller
loop-h-smaller c = omega arith

pub loop-h-preserved : goal.loop-h-preserved
loop-h-preserved c = let a = c.args in
    let l = c.loop-h in (
      omega arith,
      simp length-set l.invariant.1,
      rw (
        c.admit_at.ensures,
        not_yet
            (λ g. pick (admits_at a.s.now (packet_of a.payload.now) g) (get_or a.acts.now g 0) 0)
            a.acts.now
            l.acts l.h l.invariant.2,
      )
          (marks-turn (λ g. pick (admits_at a.s.now (packet_of a.payload.now) g) (get_or a.acts.now g 0) 0)
          a.acts.now l.h (omega arith) (omega arith) l.invariant.2),
    )

pub shape_of-acts : goal.shape_of-acts
shape_of-acts c = c.loop-h.invariant.1

pub returns : goal.returns
unfolding admitted
returns c = let a = c.args in
    let l = c.loop-h in
    let e : l.h ≡ most_monitors = omega arith in
    rw e at l.invariant.2 ∙ admitted-end a.acts.now a.s.now (packet_of a.payload.now) a.acts.now
    (omega arith)
