use Rattle.commands.specs.Handles.{lowest}
use mathlib.Core.Path.{◌≡◌}
use Prim.Native.Nat.{◌-◌}
use Rattle.model.specs.Layout.{most_monitors}
use Rattle.commands.proofs.free_handle.Given as goal

abbrev pub invariant-loop-h : goal.invariant-loop-h
invariant-loop-h l =
    lowest l.s (most_monitors - l.h) l.h ≡ lowest l.s most_monitors 0
