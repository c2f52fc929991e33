use Rattle.decimals.specs.ReadingLaws.{read-empty, read_number}
use Rattle.decimals.specs.Decimals.{number_from}
use mathlib.Core.Path.{ap, ◌∙◌}
use native.Mathlib.Omega.{arith}
use Rattle.decimals.proofs.read.Goals as goal

pub returns-then-word-eq0 : goal.returns-then-word-eq0
returns-then-word-eq0 c = read-empty c.args.word.now (omega arith)

pub returns : goal.returns
returns c = let a = c.args in
    c.number_of.ensures ∙ ap number_from c.value_of.ensures ∙ read_number a.word.now (omega arith)
