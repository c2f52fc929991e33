use mathlib.Core.Path.{refl, sym, ap, ◌∙◌}
use mathlib.Core.List.{List}
use Prim.Native.Nat.{ℕ}
use native.Mathlib.Omega.{arith}
use lib.ListN.{length, get_or-replicate}
use Rattle.model.specs.Frames.{packet_of}
use Rattle.model.specs.Layout.{most_monitors}
use Rattle.marks.proofs.FieldsLaws.{fits-facts, marked-not, marked-done}
use Rattle.marks.proofs.AskedLaws.{all_asked}
use Rattle.marks.specs.Admitted.{admitted}
use Rattle.marks.proofs.AdmittedLaws.{both-passes}
use borrow.Author.Rules.{rules}
use Rattle.marks.proofs.mark_all.Goals as goal

pub returns-then-not-is_fit : goal.returns-then-not-is_fit
returns-then-not-is_fit c = let a = c.args in
    marked-not a.acts.now a.s.now a.payload.now c.is_fit.ensures
    (c.if-not-is_fit.true)

pub find_keys-met-requires : goal.find_keys-met-requires
find_keys-met-requires c = let a = c.args in
    let f = fits-facts (length a.acts.now) a.s.now a.payload.now
    (sym c.is_fit.ensures ∙ c.if-not-is_fit.false) in
    (f.1, refl, f.2)

pub mark_each-requires : goal.mark_each-requires
mark_each-requires c = let a = c.args in
    let f = fits-facts (length a.acts.now) a.s.now a.payload.now
    (sym c.is_fit.ensures ∙ c.if-not-is_fit.false) in (
      f.0,
      f.1,
      refl,
      f.2,
      c.find_keys-met.ensures,
    )

pub admit_each-requires : goal.admit_each-requires
admit_each-requires c = let a = c.args in
    let f = fits-facts (length a.acts.now) a.s.now a.payload.now
    (sym c.is_fit.ensures ∙ c.if-not-is_fit.false) in
    (omega (arith, f.0, c.mark_each.auto.acts), f.1, f.2)

pub returns : goal.returns
returns c = let a = c.args in
    marked-done a.acts.now a.s.now a.payload.now c.is_fit.ensures
    (c.if-not-is_fit.false)
    (c.admit_each.ensures
    ∙ ap (λ (l : List ℕ). admitted l a.s.now (packet_of a.payload.now)) c.mark_each.ensures
    ∙ both-passes _ a.s.now (packet_of a.payload.now)
    ∙ all_asked _ a.s.now 0 (packet_of a.payload.now) (λ h l. get_or-replicate most_monitors h 1 0 l))
