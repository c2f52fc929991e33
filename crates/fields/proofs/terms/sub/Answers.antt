use Rattle.words.specs.SaysLaws.{same}
use Rattle.words.specs.PiecesLaws.{name-rows}
use Rattle.names.specs.NamesLaws.{table_of}
use Rattle.fields.specs.Names.{sub_rows, sub_text}
use Rattle.model.specs.Quoted.{codes}
use Rattle.fields.proofs.terms.sub.Goals as goal

pub returns : goal.returns
unfolding sub_text sub_rows table_of codes
returns c = same (name-rows sub_rows "sub-opcode 0x" c.args.x) c.name.ensures
