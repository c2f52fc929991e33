use Prim.Native.Nat.{ℕ, ◌+◌}
use mathlib.Core.Path.{sym, ap, ◌∙◌}
use Rattle.laws.specs.TestsLaws.{pick_true, pick-false}
use Rattle.marks.specs.Asked.{reach_of}
use Rattle.marks.proofs.asks.reach_of.Goals as goal

pub returns-then-may : goal.returns-then-may
unfolding reach_of
returns-then-may c = ap (λ (x : ℕ). x + 1) c.level_of-reached.ensures ∙ sym (pick_true _ 0 c.if-may.true)

pub returns : goal.returns
unfolding reach_of
returns c = sym (pick-false _ 0 c.if-may.false)
