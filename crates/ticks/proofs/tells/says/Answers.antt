use mathlib.Core.Bool.{true}
use Rattle.ticks.specs.WrittenLaws.{says_of, says-open}
use mathlib.Core.Path.{sym, ◌∙◌}
use native.Mathlib.Omega.{arith}
use Rattle.ticks.proofs.tells.says.Goals as goal

pub returns-then-not-closes : goal.returns-then-not-closes
returns-then-not-closes c = let a = c.args in
    says-open true a.period a.filters.now a.r.now
    (sym c.closes.ensures ∙ c.if-not-closes.true)

pub overflow_cast-r : goal.overflow_cast-r
overflow_cast-r c = omega (arith, c.shared_slice_known-4-1.given 0)

pub returns : goal.returns
returns c = let a = c.args in
    says_of true a.period a.filters.now a.r.now (omega arith)
    (sym c.closes.ensures ∙ c.if-not-closes.false) c.get32-packets.ensures
    c.octet_at-filter.ensures c.lets_through-through.ensures
