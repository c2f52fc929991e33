use Rattle.std.proofs.Common.{sym, arith}
use Rattle.advert.specs.Uuid.{uuid_size}
use Rattle.advert.proofs.UuidLaws.{uuid-none, uuid-form}
use Rattle.advert.proofs.uuid_form.Goals as goal

pub returns-then-condition-eq0 : goal.returns-then-condition-eq0
returns-then-condition-eq0 c = uuid-none _ (omega arith)

pub returns : goal.returns
unfolding uuid_size
returns c = sym (uuid-form c.args.condition.now (omega arith))
