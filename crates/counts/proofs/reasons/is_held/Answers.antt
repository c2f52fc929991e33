use Rattle.std.specs.Prelude.{true, false}
use Rattle.std.proofs.Common.{sym, ◌∙◌, arith, rules, refl}
use Rattle.std.proofs.lemmas.Iterator.{cases_from_any, YieldsList-from_range}
use Rattle.model.specs.Types.{device_of}
use Rattle.model.specs.Watch.{is_pair, holds}
use Rattle.counts.specs.AnyLaws.{Tells, any-told}
use Rattle.counts.proofs.reasons.is_held.Goals as goal

pub returns : goal.returns
unfolding holds
returns c =
    let a = c.args in
    λ m p h w x.
    let f = is_pair h (device_of p) in
    any-told m a.s.now a.n w f c.any.result
    (cases_from_any _ _ _ (Tells m a.s.now f true) (Tells m a.s.now f false)
    c.any.ensures.ran (YieldsList-from_range 0 a.n a.n refl (omega arith))
    (λ y q k. λ z. search rules) (λ y q k. (search rules, λ z. search rules)))
