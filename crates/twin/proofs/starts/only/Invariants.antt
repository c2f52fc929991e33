use Rattle.std.proofs.Common.{take}
use Rattle.twin.specs.StartsLaws.{Passed}
use Rattle.twin.proofs.starts.only.Given as goal

abbrev pub invariant-loop-b : goal.invariant-loop-b
invariant-loop-b g l = Passed (λ b o. goal.F-post g l.stays b o) l.fn.seen (take l.b-index l.b-items) l.next
