use mathlib.Core.Path.{ap}
use Rattle.marks.specs.Marks.{flag}
use Rattle.marks.proofs.KeyedLaws.{flag-some}
use Rattle.marks.proofs.MonitorsLaws.{mark-unmet, mark-met}
use Rattle.marks.proofs.mark_at.Goals as goal

pub returns-then-not-met : goal.returns-then-not-met
unfolding flag
returns-then-not-met c = let a = c.args in
    mark-unmet a.s.now a.h a.payload.now c.requires.3 (ap flag c.if-not-met.true)

pub returns : goal.returns
returns c = let a = c.args in
    mark-met a.s.now a.h a.payload.now c.requires.3 (flag-some _ c.if-not-met.false)
    c.filtering_of.ensures c.row_bits.ensures
