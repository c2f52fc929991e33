use Rattle.std.proofs.Common.{ap, ◌∙◌, arith}
use Rattle.months.specs.Counts.{one}
use Rattle.counts.specs.TicksLaws.{from-one, tick-gain}
use Rattle.counts.proofs.tick.gain_at.Goals as goal

pub overflow_cast-result : goal.overflow_cast-result
overflow_cast-result c = record { fits = omega (arith, c.count_closed.ensures.0) }

pub returns : goal.returns
returns c = let a = c.args in
    λ m k w. tick-gain m a.h (c.count_closed.ensures.1 m k w)
    (from-one _ _ c.from.ensures ∙ ap one (c.is_watching.ensures m w))
