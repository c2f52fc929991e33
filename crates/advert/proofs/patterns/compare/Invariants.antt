use Rattle.std.proofs.Common.{◌≡◌, ◌+◌, ◌-◌, ◌≤◌, length, take, drop}
use Rattle.laws.specs.Tests.{sames}
use Rattle.advert.specs.Pattern.{holds_at}
use Rattle.advert.specs.Cost.{octets_cost, same_cost}
use Rattle.advert.proofs.patterns.compare.Given as goal

abbrev pub invariant-loop-j : goal.invariant-loop-j
invariant-loop-j l =
    (l.j ≤ l.n)
    × (holds_at l.at l.octets l.text ≡ sames (drop l.j l.octets) (take (length l.octets - l.j) (drop (l.at + l.j) l.text)))
    × (octets_cost l.at l.octets l.text ≡ l.j + same_cost (drop l.j l.octets) (drop (l.at + l.j) l.text))

abbrev pub decreases-loop-j : goal.decreases-loop-j
decreases-loop-j l =
    l.n - l.j
