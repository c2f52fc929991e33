use Rattle.std.proofs.Common.{◌≡◌, ◌-◌, ◌≤◌, length, drop}
use Rattle.advert.specs.Parts.{parts}
use Rattle.advert.specs.Pattern.{patterns_form, fills}
use Rattle.advert.proofs.patterns.patterns_form.Given as goal

abbrev pub invariant-loop-i : goal.invariant-loop-i
invariant-loop-i l =
    (l.i ≤ length l.condition)
    × (patterns_form l.condition ≡ fills l.left (length l.condition - l.i) (parts 3 (drop l.i l.condition)))

abbrev pub decreases-loop-i : goal.decreases-loop-i
decreases-loop-i l =
    length l.condition - l.i
