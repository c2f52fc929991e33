use Rattle.twin.specs.ReportedLaws.{reason-sampled, reason-unheard, reason-barred, reason-asked, sent-next}
use Rattle.twin.specs.NumberedLaws.{start-added}
use Rattle.twin.specs.FiltersLaws.{added-long}
use Rattle.std.proofs.Common.{arith}
use Rattle.twin.proofs.answers.is_reason.Goals as goal

pub bounds-params_of-4 : goal.bounds-params_of-4
bounds-params_of-4 c = omega (
  arith,
  added-long c.args.t.now c.args.a _
      (start-added c.args.t.now c.args.a
      c.args.k c.requires.0.start)
      c.params_of.ensures,
)

pub returns-then-params_of-ne0 : goal.returns-then-params_of-ne0
returns-then-params_of-ne0 c = λ h. reason-sampled c.args.t.now
    c.args.i c.args.a
    c.args.k h c.requires.1
    c.requires.2 c.requires.0.order _
    c.params_of.ensures c.if-params_of-ne0.true

pub returns-then-not-is_heard : goal.returns-then-not-is_heard
returns-then-not-is_heard c = λ h. reason-unheard c.args.t.now c.args.i c.args.a c.args.k h c.requires.1
    c.requires.2 c.requires.0.order c.is_heard.ensures (c.if-not-is_heard.true)

pub allows-requires : goal.allows-requires
allows-requires c = (
  start-added c.args.t.now
      c.args.a c.args.k c.requires.0.start,
  sent-next
      c.args.t.now c.args.i c.requires.1,
)

pub returns-then-not-allows : goal.returns-then-not-allows
returns-then-not-allows c = λ h. reason-barred c.args.t.now c.args.i c.args.a c.args.k h c.requires.1
    c.requires.2 c.requires.0.order _ c.params_of.ensures c.if-params_of-ne0.false
    c.is_heard.ensures (c.if-not-is_heard.false) c.allows.ensures
    (c.if-not-allows.true)

pub duplicates-requires : goal.duplicates-requires
duplicates-requires c = (
  start-added c.args.t.now
      c.args.a c.args.k c.requires.0.start,
  c.last_reason.ensures.0.sent,
  sent-next
      c.args.t.now c.args.i c.requires.1,
)

pub returns : goal.returns
returns c = λ h. reason-asked c.args.t.now c.args.i c.args.a c.args.k h c.requires.1
    c.requires.2 c.requires.0.order _ c.params_of.ensures c.if-params_of-ne0.false
    c.is_heard.ensures (c.if-not-is_heard.false) c.allows.ensures
    c.last_reason.result (c.if-not-allows.false)
    (c.last_reason.ensures.1 h) c.duplicates.ensures
