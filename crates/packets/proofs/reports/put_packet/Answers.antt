use Rattle.std.proofs.Common.{sym, ◌∙◌, arith}
use Rattle.marks.proofs.FieldsLaws.{framed-facts}
use Rattle.packets.specs.AnswersTurns.{reports-done, reports-form, reports-not, reports-room}
use Rattle.packets.proofs.reports.put_packet.Goals as goal

pub returns-then-n-lt-BOTH : goal.returns-then-n-lt-BOTH
returns-then-n-lt-BOTH c = let a = c.args in
    reports-not a.out.now a.at a.payload.now
    (reports-room a.out.now a.at a.payload.now (omega arith))

pub returns-then-n-at : goal.returns-then-n-at
returns-then-n-at c = let a = c.args in
    reports-not a.out.now a.at a.payload.now
    (reports-room a.out.now a.at a.payload.now (omega arith))

pub returns-then-not-is_framed : goal.returns-then-not-is_framed
returns-then-not-is_framed c = let a = c.args in
    reports-not a.out.now a.at a.payload.now
    (reports-form a.out.now a.at a.payload.now
    (sym c.is_framed.ensures ∙ c.if-not-is_framed.true))

pub put_reports-requires : goal.put_reports-requires
put_reports-requires c = (
  omega arith,
  framed-facts c.args.payload.now
      (sym c.is_framed.ensures ∙ c.if-not-is_framed.false),
)

pub returns : goal.returns
returns c = let a = c.args in
    reports-done a.out.now a.at a.payload.now (omega arith)
    (sym c.is_framed.ensures ∙ c.if-not-is_framed.false)
    c.put_reports.ensures
