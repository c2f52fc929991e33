use Rattle.std.proofs.Common.{◌≡◌, ◌≤◌, length, take, map, true}
use Rattle.laws.specs.Put.{put}
use Rattle.totals.specs.Two.{map_two}
use Rattle.totals.specs.Gains.{wide_row, kept_row}
use Rattle.totals.proofs.add_gains.Given as goal

-- the first i rows are those of the table at the end
abbrev pub invariant-loop-i : goal.invariant-loop-i
invariant-loop-i l = record {
  within : l.i ≤ 16;
  sixteen : length l.fn.rows ≡ 16;
  turned : l.rows ≡ put l.fn.rows 0 (take l.i (map_two (kept_row true) l.fn.rows (map wide_row l.d)));
}
