use Rattle.words.specs.SaysLaws.{same}
use Rattle.words.specs.PiecesLaws.{name-rows}
use Rattle.names.specs.NamesLaws.{table_of}
use Rattle.fields.specs.Names.{ad_rows, ad_text}
use Rattle.model.specs.Quoted.{codes}
use Rattle.fields.proofs.terms.ad.Goals as goal

pub returns : goal.returns
unfolding ad_text ad_rows table_of codes
returns c = same (name-rows ad_rows "AD type 0x" c.args.x) c.name.ensures
