use Rattle.advert.specs.Either.{text_of}
use Rattle.advert.proofs.EitherLaws.{text-second, text-first, found_here, found-there, found-second, handed-none, handed, part_some}
use Rattle.advert.specs.declared.lookup.Span.{Span}
use Rattle.advert.specs.Sections.{Lookup}
use Rattle.advert.specs.Spans.{Looked}
use Rattle.advert.specs.SpansLaws.{looked-short}
use Rattle.std.specs.Prelude.{Option, true, false}
use Rattle.std.proofs.Common.{ℕ, ◌-◌, List, take, drop, refl, ap, subst, ◌∙◌, arith}
use Rattle.laws.specs.Tests.{pick}
use Rattle.advert.proofs.lookup.next_section.Goals as goal

pub returns-in-Some : goal.returns-in-Some
returns-in-Some c = let a = c.args in
    let s = c.find_section-s.result in
    let p = c.in-Some.p in
    let k : Lookup a.t a.u c.text_of-text.result.now a.at.now true s.seen p.from p.to =
    subst (λ (z : Option Span). Looked a.t a.u c.text_of-text.result.now a.at.now s.seen z) c.in-Some.is
    c.find_section-s.ensures in (
      handed _ _ _ _ _ _ (found_here _ _ a.adv.now a.scan.now a.second.now _ _ _ _ refl
          (rw c.text_of-text.ensures at k)) refl
          (ap (λ (x : List ℕ). take (p.to - (p.from - 1)) (drop (p.from - 1) x)) c.text_of-text.ensures),
      part_some c.text_of-text.result.now p.from p.to (omega (arith, k.low refl)) (k.order refl) (k.high refl),
    )

pub returns-then-second : goal.returns-then-second
returns-then-second c = let a = c.args in
    let s = c.find_section-s.result in
    let y = c.if-second.true in
    let k : Lookup a.t a.u c.text_of-text.result.now a.at.now false s.seen 0 0 =
    subst (λ (z : Option Span). Looked a.t a.u c.text_of-text.result.now a.at.now s.seen z) c.in_default.is
    c.find_section-s.ensures in
    handed-none _ _ _ _ _ _ (found-there _ _ _ _ _ _ _ _ _
    (rw (c.text_of-text.ensures ∙ text-second _ _ y) at k) y) c.requires refl refl

pub overflow_add-seen : goal.overflow_add-seen
overflow_add-seen c = let a = c.args in
    let s = c.find_section-s.result in
    let r = c.find_section-r.result in
    let e = c.text_of-text.ensures ∙ text-first _ _ c.if-second.false in
    let p = looked-short a.t a.u a.adv.now a.at.now s.seen s.span (rw e at c.find_section-s.ensures) in
    let q = looked-short a.t a.u a.scan.now 0 r.seen r.span c.find_section-r.ensures in
    omega (arith, p, q, c)

pub returns-in-Some-span : goal.returns-in-Some-span
unfolding text_of pick
returns-in-Some-span c = let a = c.args in
    let s = c.find_section-s.result in
    let r = c.find_section-r.result in
    let q = c.in-Some-span.q in
    let n = c.if-second.false in
    let e = c.text_of-text.ensures ∙ text-first _ _ n in
    let k : Lookup a.t a.u c.text_of-text.result.now a.at.now false s.seen 0 0 =
    subst (λ (z : Option Span). Looked a.t a.u c.text_of-text.result.now a.at.now s.seen z) c.in_default.is
    c.find_section-s.ensures in
    let l : Lookup a.t a.u a.scan.now 0 true r.seen q.from q.to =
    subst (λ (z : Option Span). Looked a.t a.u a.scan.now 0 r.seen z) c.in-Some-span.is c.find_section-r.ensures in (
      handed _ _ _ _ _ _ (found-second _ _ _ _ _ _ _ _ _ _ (rw (text-first _ _ n) at c.requires) refl
          (rw e at k) l n) refl refl,
      part_some a.scan.now q.from q.to (omega (arith, l.low refl)) (l.order refl) (l.high refl),
    )

pub returns : goal.returns
returns c = let a = c.args in
    let s = c.find_section-s.result in
    let r = c.find_section-r.result in
    let n = c.if-second.false in
    let e = c.text_of-text.ensures ∙ text-first _ _ n in
    let k : Lookup a.t a.u c.text_of-text.result.now a.at.now false s.seen 0 0 =
    subst (λ (z : Option Span). Looked a.t a.u c.text_of-text.result.now a.at.now s.seen z) c.in_default.is
    c.find_section-s.ensures in
    let l : Lookup a.t a.u a.scan.now 0 false r.seen 0 0 =
    subst (λ (z : Option Span). Looked a.t a.u a.scan.now 0 r.seen z) c.in_default-span.is c.find_section-r.ensures in
    handed-none _ _ _ _ _ _ (found-second _ _ _ _ _ _ _ _ _ _ (rw (text-first _ _ n) at c.requires)
    refl (rw e at k) l n) c.requires refl refl
