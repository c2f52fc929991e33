use mathlib.Core.Path.{sym, ap, ◌∙◌}
use native.Mathlib.Omega.{arith}
use Rattle.marks.specs.Marks.{flag}
use Rattle.marks.proofs.KeyedLaws.{key-alike}
use Rattle.marks.proofs.AskedLaws.{ask-said}
use Rattle.marks.proofs.keys.met_key.Goals as goal

pub returns-then-not-ask_at : goal.returns-then-not-ask_at
unfolding flag
returns-then-not-ask_at c = let a = c.args in
    λ n k. absurd (n (sym (ask-said a.held.now a.s.now a.reach a.h (omega arith)
    c.ask_at.ensures) ∙ ap flag c.if-not-ask_at.true))

pub returns-in-Some : goal.returns-in-Some
returns-in-Some c = let a = c.args in
    let p = c.requires in
    let f = c.in-Some.ensures in
    λ n k. key-alike a.s.now a.payload.now _ a.h f.2 k (p.6 _ f.0 f.1)

pub returns-in-None : goal.returns-in-None
returns-in-None c = λ n k. c.resolved_at.ensures
