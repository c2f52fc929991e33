use mathlib.Core.Path.{refl, sym, ap, ◌∙◌}
use mathlib.Core.List.{List}
use Prim.Native.Nat.{ℕ}
use native.Mathlib.Omega.{arith}
use lib.ListN.{length}
use Rattle.model.specs.Frames.{packet_of}
use Rattle.marks.proofs.FieldsLaws.{fits-facts}
use Rattle.marks.specs.Asked.{asked_of}
use Rattle.marks.proofs.AskedLaws.{marks_if, held-short, held-not, held-done, asked-for}
use Rattle.marks.specs.Admitted.{admitted}
use Rattle.marks.proofs.AdmittedLaws.{both-passes}
use borrow.Author.Rules.{rules}
use Rattle.marks.proofs.mark_held.Goals as goal

pub returns-then-held-ne-MONITORS : goal.returns-then-held-ne-MONITORS
returns-then-held-ne-MONITORS c = let a = c.args in
    held-short a.may a.held.now a.acts.now a.s.now a.payload.now c.if-held-ne-MONITORS.true

pub returns-then-not-is_fit : goal.returns-then-not-is_fit
returns-then-not-is_fit c = let a = c.args in
    held-not a.may a.held.now a.acts.now a.s.now a.payload.now c.is_fit.ensures
    (c.if-not-is_fit.true)

pub overflow_sub-payload : goal.overflow_sub-payload
overflow_sub-payload c = let a = c.args in
    let f = fits-facts (length a.acts.now) a.s.now a.payload.now
    (sym c.is_fit.ensures ∙ c.if-not-is_fit.false) in
    omega (arith, f.2.0)

pub bounds-payload-payload : goal.bounds-payload-payload
bounds-payload-payload c = let a = c.args in
    let f = fits-facts (length a.acts.now) a.s.now a.payload.now
    (sym c.is_fit.ensures
    ∙ c.if-not-is_fit.false) in
    omega (arith, f.2.0)

pub find_keys-met-requires : goal.find_keys-met-requires
find_keys-met-requires c = let a = c.args in
    let f = fits-facts (length a.acts.now) a.s.now a.payload.now
    (sym c.is_fit.ensures ∙ c.if-not-is_fit.false) in (
      f.1,
      omega (arith, c.if-held-ne-MONITORS.false),
      f.2,
    )

pub mark_each-requires : goal.mark_each-requires
mark_each-requires c = let a = c.args in
    let f = fits-facts (length a.acts.now) a.s.now a.payload.now
    (sym c.is_fit.ensures ∙ c.if-not-is_fit.false) in (
      f.0,
      f.1,
      omega
          (arith, c.if-held-ne-MONITORS.false),
      f.2,
      c.find_keys-met.ensures,
    )

pub admit_each-requires : goal.admit_each-requires
admit_each-requires c = let a = c.args in
    let f = fits-facts (length a.acts.now) a.s.now a.payload.now
    (sym c.is_fit.ensures ∙ c.if-not-is_fit.false) in
    (omega (arith, f.0, c.mark_each.auto.acts), f.1, f.2)

pub returns : goal.returns
unfolding packet_of
returns c = let a = c.args in
    let l : List ℕ = a.payload.now in
    held-done a.may a.held.now a.acts.now a.s.now l (omega (
      arith,
      c.if-held-ne-MONITORS.false,
    )) c.is_fit.ensures (c.if-not-is_fit.false)
    (c.admit_each.ensures ∙ ap (λ (k : List ℕ). admitted k a.s.now (packet_of l))
    c.mark_each.ensures ∙ both-passes _ a.s.now (packet_of l)
    ∙ ap (λ (x : ℕ). marks_if (asked_of a.held.now a.s.now x) a.s.now (packet_of l))
    c.reach_of-reach.ensures ∙ asked-for a.may a.held.now a.s.now (packet_of l))
