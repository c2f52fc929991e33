use Rattle.words.specs.SaysLaws.{same}
use Rattle.words.specs.PiecesLaws.{name-rows}
use Rattle.names.specs.NamesLaws.{table_of}
use Rattle.fields.specs.Names.{status_rows, status_text}
use Rattle.model.specs.Quoted.{codes}
use Rattle.fields.proofs.terms.status.Goals as goal

pub returns : goal.returns
unfolding status_text status_rows table_of codes
returns c = same (name-rows status_rows "status 0x" c.args.x) c.name.ensures
