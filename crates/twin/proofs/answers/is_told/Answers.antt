use Rattle.twin.specs.TickingLaws.{watches-at, watches-looks}
use Rattle.twin.specs.MarksLaws.{looks-at}
use Rattle.twin.specs.ReportedLaws.{told_by, told_at_lem, told-all}
use Rattle.twin.specs.StartsLaws.{some-hit, some-miss, some_end}
use Rattle.laws.specs.Loops.{some as some_of}
use Rattle.twin.specs.Seen.{no_begun}
use Rattle.std.proofs.Common.{◌<◌, length, slice_index_or, sym, refl, ap, ◌∙◌, arith}
use Rattle.twin.proofs.answers.is_told.Goals as goal

pub loop-b-init : goal.loop-b-init
loop-b-init c = ap (some_of (told_by c.args.t.now c.args.i)) c.list-b-items.ensures

pub is_reason-requires : goal.is_reason-requires
is_reason-requires c = let b = slice_index_or c.list-b-items.result.now c.loop-b.b-index no_begun in (
  looks-at c.args.t.now c.args.i _ _ b c.from.ensures c.from-in-loop-b.ensures
      (watches-looks c.args.t.now c.args.i _ b c.requires.0 refl
      (rw c.list-b-items.ensures (watches-at c.args.t.now c.args.i c.args.seen c.loop-b.b-index c.requires.2
      (rw c.list-b-items.ensures at c.loop-b-test.true)))).1,
  c.requires.1,
  c.requires.0.formed
      c.args.i (omega arith),
)

pub returns-then-is_reason : goal.returns-then-is_reason
returns-then-is_reason c = sym (some-hit (told_by c.args.t.now c.args.i) c.list-b-items.result.now c.loop-b.b-index c.loop-b-test.true
    (told_at_lem c.args.t.now c.args.i _ _ _ c.from.ensures c.from-in-loop-b.ensures c.is_reason.ensures)
    c.if-is_reason.true) ∙ c.loop-b.invariant
    ∙ told-all c.args.t.now c.args.i c.args.seen c.requires.2

pub loop-b-preserved : goal.loop-b-preserved
loop-b-preserved c =
    sym
    (some-miss (told_by c.args.t.now c.args.i) c.list-b-items.result.now c.loop-b.b-index c.loop-b-test.true
    (told_at_lem c.args.t.now c.args.i _ _ _ c.from.ensures c.from-in-loop-b.ensures c.is_reason.ensures)
    c.if-is_reason.false) ∙ c.loop-b.invariant

pub returns : goal.returns
returns c = sym (some_end (told_by c.args.t.now c.args.i) c.list-b-items.result.now c.loop-b.b-index c.loop-b-test.false)
    ∙ c.loop-b.invariant
    ∙ told-all c.args.t.now c.args.i c.args.seen c.requires.2
