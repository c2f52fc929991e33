use lib.Seq.{length-take-le}
use Rattle.reports.specs.ChoicesLaws.{option-short, option-long}
use Rattle.model.specs.Quoted.{codes}
use mathlib.Core.Path.{sym}
use native.Mathlib.Omega.{arith}
use Rattle.reports.proofs.options.is_option.Goals as goal

pub returns-then-word-lt2 : goal.returns-then-word-lt2
unfolding codes
returns-then-word-lt2 c = option-short c.args.word.now (omega arith)

pub slice_bounds-same-end : goal.slice_bounds-same-end
slice_bounds-same-end c = sym (length-take-le 2 c.args.word.now (omega arith))

pub returns : goal.returns
unfolding codes
returns c = option-long c.args.word.now c.same.result (omega arith)
    c.same.ensures
