use Prim.Native.Nat.{ℕ}
use mathlib.Core.Bool.{◌||◌, not}
use mathlib.Core.Path.{ap}
use lib.Dec.{eqb, ltb}
use Rattle.marks.specs.Marks.{flag}
use Rattle.marks.specs.Asked.{ask_at}
use Rattle.marks.proofs.asks.ask_at.Goals as goal

pub returns : goal.returns
unfolding ask_at
returns c = let a = c.args in
    ap (λ (x : ℕ). flag (not (eqb a.held 0) || ltb x a.reach))
    c.level_of-high.ensures
