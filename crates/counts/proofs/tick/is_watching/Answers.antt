use Rattle.std.proofs.Common.{sym, ◌∙◌, arith, rules, refl}
use Rattle.std.specs.Prelude.{true, false}
use Rattle.std.proofs.lemmas.Iterator.{cases_from_any, YieldsList-from_range}
use Rattle.counts.specs.Ticks.{watched_for}
use Rattle.counts.specs.TicksLaws.{watching-is}
use Rattle.counts.specs.AnyLaws.{Tells, any-told}
use Rattle.counts.proofs.tick.is_watching.Goals as goal

pub returns : goal.returns
returns c =
    let a = c.args in
    λ m w.
    any-told m a.s.now a.n w (watched_for m a.h) c.any.result
    (cases_from_any _ _ _ (Tells m a.s.now (watched_for m a.h) true) (Tells m a.s.now (watched_for m a.h) false)
    c.any.ensures.ran (YieldsList-from_range 0 a.n a.n refl (omega arith))
    (λ x q k. λ p. search rules) (λ x q k. (search rules, λ p. search rules)))
    ∙ sym (watching-is m a.h)
