use Rattle.std.specs.Prelude.{ℕ, pos, min}
use Rattle.std.proofs.Common.{ap, ◌∙◌}
use native.Mathlib.Nat.{zero-add}
use Rattle.sheets.specs.Least.{most}
use Rattle.sheets.proofs.SignsLaws.{above-held, held_back}
use Rattle.sheets.proofs.reads.above.Goals as goal

pub returns : goal.returns
returns c =
    let n = c.args.n in
    held_back (pos n)
    (c.saturating_add_unsigned.ensures ∙ ap (λ (k : ℕ). pos (min k most)) (zero-add n) ∙ above-held n)
