use Rattle.std.proofs.Common.{sym, arith}
use Rattle.advert.proofs.AddressLaws.{address-none, address-form}
use Rattle.advert.proofs.address_form.Goals as goal

pub returns-then-condition-eq0 : goal.returns-then-condition-eq0
returns-then-condition-eq0 c = address-none _ (omega arith)

pub returns : goal.returns
returns c = sym (address-form c.args.condition.now (omega arith))
