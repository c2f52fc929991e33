use mathlib.Core.Path.{sym, ◌∙◌}
use native.Mathlib.Omega.{arith}
use Rattle.soundness.specs.TailsLaws.{zeros-on, zeros-not}
use Rattle.soundness.proofs.tails.zeros_four.Goals as goal

pub returns-then-get32-ne0 : goal.returns-then-get32-ne0
returns-then-get32-ne0 c = let a = c.args in
    zeros-not a.r.now 4 a.i (omega arith) c.get32.ensures c.if-get32-ne0.true

pub returns : goal.returns
returns c = let a = c.args in
    c.zeros_two-2.ensures ∙ sym (zeros-on a.r.now 4 a.i (omega arith) c.get32.ensures
    c.if-get32-ne0.false)
