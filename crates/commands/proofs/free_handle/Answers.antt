use native.Mathlib.Omega.{arith}
use Rattle.std.proofs.Common.{ap, lt-ltb, le-ltb}
use Rattle.std.specs.Prelude.{ltb}
use Rattle.commands.specs.HandlesLaws.{lowest-taken, lowest-free, lowest-none}
use Rattle.model.specs.Layout.{most_monitors}
use mathlib.Core.Path.{refl, sym, ◌∙◌}
use Rattle.commands.proofs.free_handle.Goals as goal

pub loop-h-init : goal.loop-h-init
loop-h-init c = refl

pub returns-then-not-busy : goal.returns-then-not-busy
returns-then-not-busy c = let l = c.loop-h in
    let e = lowest-free _ l.h (omega arith) l.invariant (sym c.busy.ensures ∙ c.if-not-busy.true) in
    record { handle = e; room = sym (lt-ltb _ most_monitors (omega (arith, e))) }

pub loop-h-preserved : goal.loop-h-preserved
loop-h-preserved c = let l = c.loop-h in
    lowest-taken _ l.h (omega arith) l.invariant (sym c.busy.ensures ∙ c.if-not-busy.false)

pub returns : goal.returns
returns c = let l = c.loop-h in
    let e = lowest-none _ l.h (omega arith) l.invariant in
    record { handle = e; room = sym (le-ltb _ most_monitors (omega (arith, e))) }
