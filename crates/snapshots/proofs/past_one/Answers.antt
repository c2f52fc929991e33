use native.Mathlib.Omega.{arith}
use Prim.Native.Nat.{◌-◌}
use lib.ListN.{length-take}
use Rattle.editions.specs.Block.{edition_line}
use Rattle.save.specs.PassedLaws.{one-line-at}
use Rattle.snapshots.specs.Saved.{line_at}
use Rattle.snapshots.specs.SavedLaws.{length-line_at}
use Rattle.snapshots.proofs.past_one.Goals as goal

pub slice_bounds-line-end : goal.slice_bounds-line-end
slice_bounds-line-end c = (one-line-at (line_at c.args.s.now
    c.args.i) edition_line
    (length-line_at c.args.s.now
    c.args.i) c.put_one-n.ensures).within

pub slice_bounds-past-end : goal.slice_bounds-past-end
slice_bounds-past-end c = simp length-take (omega (
  arith,
  (one-line-at
      (line_at c.args.s.now c.args.i) edition_line (length-line_at c.args.s.now
      c.args.i) c.put_one-n.ensures).within,
))

pub returns : goal.returns
returns c = rw (one-line-at (line_at c.args.s.now c.args.i) edition_line
    (length-line_at c.args.s.now c.args.i) c.put_one-n.ensures).text at
    c.past.ensures
