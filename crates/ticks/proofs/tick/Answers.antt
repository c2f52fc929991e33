use Rattle.steps.specs.SteppedLaws.{taken_not, taken-on, ready-facts, within-put}
use Rattle.model.specs.Frames.{tick}
use Rattle.laws.specs.TestsLaws.{and_both, and-not-left}
use mathlib.Core.Bool.{true}
use mathlib.Core.List.{[]}
use Rattle.laws.specs.PutLaws.{put-nil}
use mathlib.Core.Path.{refl, sym, ◌∙◌}
use native.Mathlib.Omega.{arith}
use Rattle.ticks.specs.BlockLaws.{quiet}
use Rattle.ticks.proofs.tick.Goals as goal

pub returns-then-not-ready : goal.returns-then-not-ready
returns-then-not-ready c = let a = c.args in
    taken_not tick true a.s.now a.out.now
    (and-not-left _ true (sym c.ready.ensures ∙ c.if-not-ready.true))

pub bounds-s-5224 : goal.bounds-s-5224
bounds-s-5224 c = let a = c.args in
    let f = ready-facts a.s.now a.out.now
    (sym c.ready.ensures ∙ c.if-not-ready.false) in
    omega (arith, f.0)

pub returns-then-s-eq0 : goal.returns-then-s-eq0
returns-then-s-eq0 c = let a = c.args in
    taken-on tick true a.s.now a.out.now
    (and_both (sym c.ready.ensures ∙ c.if-not-ready.false) refl)
    (λ m z q h. quiet a.s.now a.out.now m z q h c.if-s-eq0.true c.advance.ensures)
    c.advance.auto.block refl
    (within-put a.out.now [] (sym (put-nil a.out.now 0)) refl (omega arith))

pub tick_in-requires : goal.tick_in-requires
tick_in-requires c = let a = c.args in
    ready-facts a.s.now a.out.now
    (sym c.ready.ensures ∙ c.if-not-ready.false)

pub returns : goal.returns
returns c = let a = c.args in
    taken-on tick true a.s.now a.out.now
    (and_both (sym c.ready.ensures ∙ c.if-not-ready.false) refl)
    c.tick_in.ensures.0 c.tick_in.auto.s c.tick_in.auto.out
    c.tick_in.ensures.1
