use Rattle.twin.specs.ReasonsLaws.{reason-again, reason-barred, reason-new, reason-unheard}
use Rattle.twin.specs.GatheredLaws.{sent-number}
use Rattle.twin.specs.NumberedLaws.{start-added}
use Rattle.std.proofs.Common.{sym, ◌∙◌}
use Rattle.twin.proofs.pairs.reason_after.Goals as goal

pub returns-then-not-is_heard : goal.returns-then-not-is_heard
returns-then-not-is_heard c = reason-unheard c.args.t.now c.args.a
    c.args.k c.args.r c.args.i
    c.is_heard.ensures (c.if-not-is_heard.true)

pub allows-requires : goal.allows-requires
allows-requires c = (
  start-added c.args.t.now c.args.a
      c.args.k c.requires.0,
  sent-number
      c.args.t.now c.args.a
      c.args.k c.args.i c.requires.1
      (sym c.is_heard.ensures ∙ c.if-not-is_heard.false),
)

pub returns-then-not-allows : goal.returns-then-not-allows
returns-then-not-allows c = reason-barred c.args.t.now
    c.args.a c.args.k
    c.args.r c.args.i
    c.is_heard.ensures (c.if-not-is_heard.false)
    c.allows.ensures (c.if-not-allows.true)

pub alike-requires : goal.alike-requires
alike-requires c = (
  c.requires.2,
  sent-number
      c.args.t.now c.args.a
      c.args.k c.args.i
      c.requires.1
      (sym c.is_heard.ensures ∙ c.if-not-is_heard.false),
)

pub returns-then-alike : goal.returns-then-alike
returns-then-alike c = reason-again c.args.t.now c.args.a c.args.k c.args.r c.args.i
    c.is_heard.ensures (c.if-not-is_heard.false) c.allows.ensures
    (c.if-not-allows.false) c.alike.ensures c.if-alike.true

pub returns : goal.returns
returns c = reason-new c.args.t.now c.args.a c.args.k c.args.r c.args.i
    c.is_heard.ensures (c.if-not-is_heard.false) c.allows.ensures
    (c.if-not-allows.false) c.alike.ensures c.if-alike.false
