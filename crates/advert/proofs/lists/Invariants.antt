use Rattle.std.proofs.Common.{◌≡◌, ◌-◌, ◌≤◌, length, drop}
use Rattle.advert.specs.Uuid.{lists_uuid}
use Rattle.advert.proofs.lists.Given as goal

abbrev pub invariant-loop-i : goal.invariant-loop-i
invariant-loop-i l =
    (l.i ≤ length l.content) × (lists_uuid l.uuid l.content ≡ lists_uuid l.uuid (drop l.i l.content))

abbrev pub decreases-loop-i : goal.decreases-loop-i
decreases-loop-i l =
    length l.content - l.i
