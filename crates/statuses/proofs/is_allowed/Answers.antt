use Rattle.statuses.specs.SecondLaws.{allowed-length, allowed-fields}
use Rattle.statuses.proofs.is_allowed.Goals as goal

pub returns-then-added-ne-EXTRA : goal.returns-then-added-ne-EXTRA
returns-then-added-ne-EXTRA c = allowed-length c.args.added.now _ _ c.if-added-ne-EXTRA.true

pub returns : goal.returns
returns c = allowed-fields c.args.added.now _ _ c.if-added-ne-EXTRA.false c.zeros-keyless.ensures
