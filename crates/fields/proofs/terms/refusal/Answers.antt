use mathlib.Core.Path.{◌∙◌}
use Rattle.words.specs.SaysLaws.{same}
use Rattle.names.specs.NamesLaws.{table_of, looked-up}
use Rattle.names.specs.Refusals.{refusal_rows, refusal_name}
use Rattle.model.specs.Quoted.{codes}
use Rattle.fields.proofs.terms.refusal.Goals as goal

pub returns : goal.returns
unfolding refusal_name refusal_rows table_of codes
returns c = same (c.find.ensures ∙ looked-up refusal_rows c.args.x)
    c.put.ensures
