use Rattle.commands.specs.StoredLaws.{added-stored}
use Rattle.commands.proofs.put_added.Goals as goal

pub returns : goal.returns
returns c = let a = c.args in
    let p = c.requires in
    added-stored a.s.now a.to a.at a.params.now p.1 p.2 p.3 p.0 c.copy.ensures
    c.fill.ensures
