use native.Mathlib.Omega.{arith}
use mathlib.Core.Path.{refl}
use Rattle.editions.specs.Block.{edition_size}
use Rattle.snapshots.specs.StoredLaws.{stored-full, stored_one}
use Rattle.snapshots.proofs.store_edition.Goals as goal

pub returns-then-c-ge-EDITIONS : goal.returns-then-c-ge-EDITIONS
returns-then-c-ge-EDITIONS c = let w = c.wide-c.ensures.0 in
    stored-full c.args.s.now _ (omega arith)

pub returns : goal.returns
returns c = stored_one c.args.s.now c.args.line.now c.wide-c.result edition_size c.requires.0 c.requires.1
    c.wide-c.ensures.0 (omega arith) refl c.copy.ensures.0
    c.copy.ensures.1
