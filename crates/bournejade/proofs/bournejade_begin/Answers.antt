use native.Mathlib.Omega.{arith}
use mathlib.Core.Path.{ap, ◌∙◌}
use Rattle.index.specs.BegunLaws.{begun-is}
use Rattle.bournejade.specs.Gives.{number_in}
use Rattle.bournejade.specs.GivesLaws.{number-settings}
use Rattle.bournejade.proofs.bournejade_begin.Goals as goal

pub returns : goal.returns
returns c = let a = c.args in
    let f = c.put_fresh-answer.ensures in record {
      value = c.number.ensures ∙ ap number_in f.0 ∙ number-settings a.opcode a.prefix.now;
      state_after = f.1 ∙ begun-is a.state.now a.opcode a.prefix.now (omega arith);
    }
