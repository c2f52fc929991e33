use Rattle.std.proofs.Common.{◌≡◌, map, length, take}
use Rattle.laws.specs.Put.{put}
use Rattle.visit.specs.Book.{heard_row}
use Rattle.visit.proofs.Book.hear.Given as goal

abbrev pub invariant-loop-row : goal.invariant-loop-row
invariant-loop-row l =
    (length l.row-items ≡ 64)
    × (l.row-items ≡ put l.fn.self.rows 0 (map (heard_row l.device l.level) (take l.row-index l.fn.self.rows)))
