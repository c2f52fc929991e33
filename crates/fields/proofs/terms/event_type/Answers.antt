use Rattle.words.specs.SaysLaws.{same}
use Rattle.words.specs.PiecesLaws.{name-rows}
use Rattle.names.specs.NamesLaws.{table_of}
use Rattle.fields.specs.Names.{event_rows, event_text}
use Rattle.model.specs.Quoted.{codes}
use Rattle.fields.proofs.terms.event_type.Goals as goal

pub returns : goal.returns
unfolding event_text event_rows table_of codes
returns c = same (name-rows event_rows "event type 0x" c.args.x) c.name.ensures
