use Rattle.std.proofs.Common.{◌+◌, ◌-◌, ◌≤◌, length}
use Rattle.advert.specs.SectionsLaws.{Passed}
use Rattle.advert.proofs.lookup.find_section.Given as goal

abbrev pub invariant-loop-e : goal.invariant-loop-e
invariant-loop-e l =
    (l.at ≤ l.i) × (l.i ≤ length l.adv) × (l.seen + l.at ≤ l.i) × Passed l.t l.u l.adv l.at l.i l.seen

abbrev pub decreases-loop-e : goal.decreases-loop-e
decreases-loop-e l =
    length l.adv - l.i
