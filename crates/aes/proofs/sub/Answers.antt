use Rattle.fips197.specs.TablesLaws.{table_at}
use Rattle.aes.proofs.sub.Goals as goal

pub returns : goal.returns
returns c = let a = c.args in table_at a.t.now.entries a.t.now.is_table a.i c.requires
