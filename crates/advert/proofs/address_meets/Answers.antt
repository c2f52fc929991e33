use Rattle.advert.proofs.AddressLaws.{address-other, address-meets}
use Rattle.std.proofs.Common.{sym, arith}
use Rattle.advert.proofs.address_meets.Goals as goal

pub returns-then-condition-eq0 : goal.returns-then-condition-eq0
returns-then-condition-eq0 c = address-other _ _ _ (λ z. omega arith)

pub returns-then-condition-address : goal.returns-then-condition-address
returns-then-condition-address c = address-other _ _ _ (λ z. c.if-condition-address.true (omega arith))

pub returns : goal.returns
returns c = let a = c.args in
    rw c.compare-c.ensures.0
    (sym (address-meets a.condition.now a.address_type a.address.now (omega arith)))
