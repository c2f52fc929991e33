use mathlib.Core.Path.{sym, ◌∙◌}
use Rattle.packets.specs.Moves.{pair_at}
use Rattle.counts.specs.TicksLaws.{closed-not, closed-own}
use Rattle.counts.proofs.tick.is_closed.Goals as goal

pub returns-then-not-is_watched : goal.returns-then-not-is_watched
returns-then-not-is_watched c = let a = c.args in
    λ m k w. closed-not m a.h (pair_at m a.i)
    (sym (c.if-not-is_watched.true) ∙ c.is_watched.ensures m w)

pub returns : goal.returns
returns c = let a = c.args in
    λ m k w. closed-own m a.h (pair_at m a.i)
    (sym (c.if-not-is_watched.false) ∙ c.is_watched.ensures m w) (c.says.ensures m k w)
