use Rattle.std.proofs.Common.{◌+◌, ◌≤◌, ◌≡◌, take, drop}
use Rattle.laws.specs.Put.{put}
use Rattle.totals.specs.Two.{every_two, map_two}
use Rattle.totals.specs.Table.{row_fits, row_sum}
use Rattle.sheets.specs.Joins.{first_off}
use Rattle.sheets.proofs.join.Given as goal

-- the first h rows are sums, and what is left tells whether all fit and which does not
abbrev pub invariant-loop-h : goal.invariant-loop-h
invariant-loop-h l = record {
  within : l.h ≤ 16;
  off : l.h + first_off (drop l.h l.t) (drop l.h l.d) ≡ first_off l.t l.d;
  told : every_two row_fits (drop l.h l.t) (drop l.h l.d) ≡ every_two row_fits l.t l.d;
  summed : l.rows ≡ put l.t 0 (take l.h (map_two row_sum l.t l.d));
}
