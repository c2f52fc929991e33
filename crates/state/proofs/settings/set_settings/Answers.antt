use Rattle.state.specs.StartLaws.{settings-put}
use Rattle.std.proofs.Common.{rules}
use Rattle.state.proofs.settings.set_settings.Goals as goal

pub returns : goal.returns
returns c = let a = c.args in
    settings-put a.block.now a.opcode
    a.prefix.now {m = c.put16.new.out} {n = c.put8.new.out} (search rules) (search rules)
    (search rules) (search rules) c.put16.ensures.0 c.put16.ensures.1
    c.put8.ensures.0 c.put8.ensures.1 c.copy.ensures.0
    c.copy.ensures.1
