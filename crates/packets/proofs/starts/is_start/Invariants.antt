use Rattle.std.proofs.Common.{◌≡◌, false}
use Rattle.packets.specs.Handles.{NoStart}
use Rattle.packets.proofs.starts.is_start.Given as goal

abbrev pub invariant-loop-a : goal.invariant-loop-a
invariant-loop-a l =
    l.some ≡ false → NoStart l.acts l.a-index
