use borrow.Author.Rules.{rules}
use Prim.Native.Nat.{◌-◌}
use mathlib.Core.Path.{◌≡◌, refl, sym, ◌∙◌}
use native.Mathlib.Omega.{arith}
use lib.ListN.{get_or, drop, length-set}
use Rattle.laws.specs.Loops.{up_to}
use Rattle.laws.specs.Rows.{row}
use Rattle.laws.specs.PutLaws.{put-nil}
use Rattle.model.specs.Frames.{packet_of}
use Rattle.model.specs.Layout.{monitor_size, monitors_at, most_monitors}
use Rattle.marks.proofs.MarksLaws.{marks-turn}
use Rattle.marks.specs.Monitors.{met_mark}
use Rattle.marks.specs.Admitted.{met_if}
use Rattle.marks.proofs.AdmittedLaws.{met-if-end}
use Rattle.marks.proofs.KeyedLaws.{told_at_lem, flag-some}
use Rattle.marks.specs.Asked.{asked_of, mark_if}
use Rattle.marks.proofs.AskedLaws.{ask-said}
use Rattle.marks.proofs.mark_each.Goals as goal

pub loop-h-init : goal.loop-h-init
unfolding up_to
loop-h-init c = (omega arith, refl, sym (put-nil _ _))

pub mark_asked-requires : goal.mark_asked-requires
mark_asked-requires c = let a = c.args in
    let p = c.requires in
    let l = c.loop-h in (
      p.1,
      omega arith,
      p.3,
      search rules,
      λ n. told_at_lem a.met.now a.s.now (asked_of a.held.now a.s.now a.reach) a.payload.now l.h
          (omega arith) p.4
          (λ e. flag-some _ n (ask-said a.held.now a.s.now a.reach l.h (omega arith) c.ask_at-ask.ensures ∙ e)),
    )

pub loop-h-smaller : goal.loop-h-smaller
loop-h-smaller c = omega arith

pub loop-h-preserved : goal.loop-h-preserved
loop-h-preserved c = let a = c.args in
    let l = c.loop-h in (
      omega arith,
      simp length-set l.invariant.1,
      rw (
        c.mark_asked.ensures,
        ask-said a.held.now a.s.now a.reach l.h (omega arith)
            c.ask_at-ask.ensures,
      )
          (marks-turn (λ g. mark_if (get_or (asked_of a.held.now a.s.now a.reach) g 0)
          (met_mark (row monitor_size g (drop monitors_at a.s.now)) (packet_of a.payload.now))) a.acts.now
          l.h (omega arith) (omega arith) l.invariant.2),
    )

pub shape_of-acts : goal.shape_of-acts
shape_of-acts c = c.loop-h.invariant.1

pub returns : goal.returns
unfolding met_if
returns c = let a = c.args in
    let l = c.loop-h in
    let e : l.h ≡ most_monitors = omega arith in
    rw e at l.invariant.2 ∙ met-if-end (asked_of a.held.now a.s.now a.reach) a.s.now
    (packet_of a.payload.now) a.acts.now (omega arith)
