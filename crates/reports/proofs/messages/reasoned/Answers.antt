use mathlib.Core.Path.{◌∙◌}
use Rattle.reports.specs.MessagesLaws.{reason-some, reason-none}
use Rattle.texts.specs.Text.{told}
use Rattle.model.specs.Quoted.{codes}
use Rattle.names.specs.NamesLaws.{table_of, looked-up}
use Rattle.names.specs.Refusals.{refusal_rows, refusal_name}
use Rattle.reports.proofs.messages.reasoned.Goals as goal

pub returns-then-name-eq0 : goal.returns-then-name-eq0
unfolding refusal_name refusal_rows table_of codes
returns-then-name-eq0 c = reason-none (told c.args.t)
    c.args.number
    (c.find-name.ensures
    ∙ looked-up refusal_rows c.args.number) c.if-name-eq0.true
    c.with.ensures

pub returns : goal.returns
unfolding refusal_name refusal_rows table_of codes
returns c = reason-some (told c.args.t) c.args.number
    (c.find-name.ensures ∙ looked-up refusal_rows c.args.number) c.if-name-eq0.false
    c.with-open.ensures c.with-named.ensures c.with-2.ensures
