use Rattle.twin.specs.ReportedLaws.{turn-off, turn-asked, sent-next, live-added}
use Rattle.std.proofs.Common.{ℕ, get_or, ap, ◌∙◌}
use Rattle.twin.proofs.answers.turn_tells.Goals as goal

pub returns-then-not-started : goal.returns-then-not-started
returns-then-not-started c = turn-off c.args.started _ (c.if-not-started.true)

pub allows-requires : goal.allows-requires
allows-requires c = (
  live-added c.args.t.now
      c.args.i c.args.seen
      c.args.h _ _ c.requires.2
      (c.requires.3 (c.if-not-started.false))
      c.wide.ensures.0 c.wide-a.ensures.0,
  sent-next
      c.args.t.now c.args.i
      c.requires.0,
)

pub returns : goal.returns
returns c = turn-asked c.args.t.now c.args.i c.wide-a.result _ c.args.started
    (c.if-not-started.false)
    (c.wide-a.ensures.0 ∙ ap (λ (j : ℕ). get_or c.args.seen.live j 0)
    c.wide.ensures.0) c.allows.ensures
