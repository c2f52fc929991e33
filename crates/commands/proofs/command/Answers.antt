use Rattle.commands.specs.CommandLaws.{answered, position-moved}
use Rattle.steps.specs.SteppedLaws.{taken_not, taken-on, ready-facts}
use Rattle.model.specs.Frames.{command}
use Rattle.model.specs.Block.{ready}
use Rattle.laws.specs.TestsLaws.{and_both, and-not-left}
use mathlib.Core.Bool.{true}
use mathlib.Core.Path.{◌≡◌, refl, sym, ◌∙◌}
use lib.ListN.{length}
use Rattle.commands.proofs.command.Goals as goal

pub returns-then-not-ready : goal.returns-then-not-ready
returns-then-not-ready c = let a = c.args in
    λ o. taken_not (command o a.params.now) true a.s.now a.out.now
    (and-not-left _ true (sym c.ready.ensures ∙ c.if-not-ready.true))

pub execute-n-requires : goal.execute-n-requires
execute-n-requires c = let a = c.args in
    ready-facts a.s.now a.out.now
    (sym c.ready.ensures ∙ c.if-not-ready.false)

pub returns : goal.returns
returns c = let a = c.args in
    let y : ready a.s.now a.out.now ≡ true =
    (sym c.ready.ensures ∙ c.if-not-ready.false) in
    let f = ready-facts a.s.now a.out.now y in
    let x = c.execute-n.ensures in
    let n : length c.execute-n.new.s ≡ length a.s.now = c.execute-n.auto.s in
    λ o. taken-on (command o a.params.now) true a.s.now a.out.now (and_both y refl)
    (answered a.params.now a.s.now a.out.now x
    (position-moved c.execute-n.new.s (n ∙ f.0) c.advance.ensures) o)
    (c.advance.auto.block ∙ n) c.execute-n.auto.out x.1
