use Rattle.std.specs.Prelude.{true, false}
use Rattle.std.proofs.Common.{sym, ◌∙◌, arith, rules, refl}
use Rattle.std.proofs.lemmas.Iterator.{cases_from_any, YieldsList-from_range}
use Rattle.model.specs.Frames.{packet_of}
use Rattle.counts.specs.Causes.{wanted, wants_for}
use Rattle.counts.specs.AnyLaws.{Tells, any-told}
use Rattle.counts.proofs.reasons.is_wanted.Goals as goal

pub returns : goal.returns
unfolding wanted
returns c =
    let a = c.args in
    λ m h dev acts w g low is o.
    let f = wants_for m (packet_of a.payload.now) h in
    any-told m a.s.now a.n w f c.any.result
    (cases_from_any _ _ _ (Tells m a.s.now f true) (Tells m a.s.now f false)
    c.any.ensures.ran (YieldsList-from_range 0 a.n a.n refl (omega arith))
    (λ y q k. λ z. search rules) (λ y q k. (search rules, λ z. search rules)))
