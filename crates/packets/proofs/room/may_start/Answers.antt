use Rattle.std.proofs.Common.{ℕ, ◌≤◌, sym, subst, arith}
use mathlib.Core.Bool.{false≢true}
use Rattle.packets.specs.Weakest.{level_at}
use Rattle.packets.proofs.room.may_start.Goals as goal

pub returns-then-n-ge-PAIRS : goal.returns-then-n-ge-PAIRS
returns-then-n-ge-PAIRS c = λ e. (
  omega arith,
  λ j b. subst (λ (k : ℕ). k ≤ level_at c.args.s.now j)
      c.level_of.ensures (c.is_weaker.ensures e j b),
)

pub returns : goal.returns
returns c = λ e. absurd (false≢true (sym e))
