use native.Mathlib.Omega.{arith}
use mathlib.Core.Path.{refl}
use lib.ListN.{length-take}
use Rattle.snapshots.specs.StoredLaws.{stored-edition, stored_core}
use Rattle.snapshots.proofs.store_line.Goals as goal

pub returns-then-line : goal.returns-then-line
returns-then-line c = stored-edition c.args.s.now c.args.line.now c.if-line.true
    c.store_edition.ensures

pub slice_bounds-store_line-end-2 : goal.slice_bounds-store_line-end-2
slice_bounds-store_line-end-2 c = simp length-take (omega arith)

pub returns : goal.returns
returns c = stored_core c.args.s.now c.args.line.now c.requires.0 c.requires.1 c.if-line.false
    c.store_line.ensures refl
