use Rattle.twin.specs.Told.{tells_to}
use Rattle.twin.specs.Seen.{Turns}
use Rattle.std.proofs.Common.{◌≡◌, ◌-◌, ◌≤◌, false}
use Rattle.twin.proofs.answers.starts_tell.Given as goal

abbrev pub invariant-loop-h : goal.invariant-loop-h
invariant-loop-h l =
    (l.h ≤ 16) × Turns l.t l.i l.h l.next × (tells_to l.t l.i l.h ≡ false)
