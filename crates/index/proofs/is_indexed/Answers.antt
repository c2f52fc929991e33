use mathlib.Core.Path.{refl}
use Rattle.model.specs.Layout.{pairs_size}
use Rattle.wholes.specs.Layout.{entries_size}
use Rattle.index.specs.RenewedLaws.{indexed-not, indexed-is, pairs-held}
use Rattle.index.proofs.is_indexed.Goals as goal

pub returns-then-s-ne-SIZE : goal.returns-then-s-ne-SIZE
returns-then-s-ne-SIZE c = indexed-not c.args.s.now c.if-s-ne-SIZE.true

pub returns : goal.returns
returns c = indexed-is c.args.s.now c.if-s-ne-SIZE.false entries_size _
    (pairs-held c.args.s.now _ pairs_size _ c.if-s-ne-SIZE.false c.at_most-n.ensures.0 refl refl) refl
    c.is_table.ensures
