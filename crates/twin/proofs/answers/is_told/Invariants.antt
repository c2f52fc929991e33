use Rattle.twin.specs.ReportedLaws.{told_by}
use Rattle.twin.specs.Seen.{list_of}
use Rattle.laws.specs.Loops.{some as some_of}
use Rattle.std.proofs.Common.{◌≡◌, drop}
use Rattle.twin.proofs.answers.is_told.Given as goal

abbrev pub invariant-loop-b : goal.invariant-loop-b
invariant-loop-b l =
    some_of (told_by l.t l.i) (drop l.b-index l.b-items) ≡ some_of (told_by l.t l.i) (list_of l.fn.seen)
