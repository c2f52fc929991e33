use Prim.Native.Nat.{◌+◌, ◌*◌}
use mathlib.Core.Path.{sym, ◌∙◌}
use native.Mathlib.Omega.{arith}
use Rattle.octets.specs.NumbersLaws.{number-of}
use Rattle.model.specs.Layout.{pair_size, pairs_at}
use Rattle.counts.specs.SearchLaws.{weak-met, weak-own}
use Rattle.counts.proofs.packet.is_weak.Goals as goal

pub returns-then-is_met : goal.returns-then-is_met
returns-then-is_met c = let a = c.args in
    λ m p w g e. weak-met m a.s.now a.i p w
    (sym c.if-is_met.true ∙ c.is_met.ensures m p a.s.now a.i w g
    (number-of 8 a.s.now (pairs_at + pair_size * a.i) c.key_at-key.ensures (omega arith)))

pub returns : goal.returns
returns c = let a = c.args in
    λ m p w g e. weak-own m a.s.now a.i p w
    (sym c.if-is_met.false
    ∙ c.is_met.ensures m p a.s.now a.i w g
    (number-of 8 a.s.now (pairs_at + pair_size * a.i) c.key_at-key.ensures (omega arith)))
    c.level_of.ensures e
