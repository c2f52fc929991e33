use Rattle.refusals.specs.declared.Refusal.{Refusal}
use Rattle.std.specs.Prelude.{Result}
use Prim.Native.Nat.{ℕ}
use Rattle.lines.specs.Hex.{text_of}
use mathlib.Core.Path.{ap, ◌∙◌}
use Rattle.bournejade.specs.Gives.{number_in, count_in}
use Rattle.lines.specs.Answers.{after_write}
use Rattle.bournejade.proofs.bournejade_write_line.Goals as goal

pub returns : goal.returns
returns c = let a = c.args in
    let w = c.write_line-r.ensures in record {
      value = c.told.ensures.0 ∙ ap number_in w.0;
      wrote_after = c.told.ensures.1 ∙ ap count_in w.0;
      out_after = w.1 ∙ ap (λ (r : Result ℕ Refusal). after_write r a.out.now (text_of a.frame.now)) w.0;
    }
