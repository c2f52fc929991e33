use mathlib.Core.Path.{◌≡◌, sym, ap, ◌∙◌}
use Rattle.words.specs.SaysLaws.{taken, left}
use mathlib.Core.Bool.{true, false, ◌&&◌}
use borrow.Author.Tests.{eq-eqb, ne_eqb}
use Rattle.laws.specs.TestsLaws.{pick_true, pick-false}
use Rattle.octets.specs.Numbers.{number_at}
use Rattle.shown.specs.Line.{octets_why, is_fine, is_digits, is_number, refused_in, refusal_in, is_refusal, words_of, is_line}
use Rattle.lines.specs.Hex.{octets_in}
use Rattle.shown.proofs.line.Goals as goal

pub returns-then-get8-eq-ZERO : goal.returns-then-get8-eq-ZERO
unfolding words_of is_line is_refusal
returns-then-get8-eq-ZERO c = let t : is_refusal c.args.text.now ≡ false =
    rw (eq-eqb (number_at 1 c.args.text.now 0) 48 (sym c.get8.ensures ∙ c.if-get8-eq-ZERO.true)) in (
      left _ _ t c.of_text.ensures.0,
      c.of_text.ensures.1
          ∙ sym (pick-false true (is_digits c.args.text.now
          && is_fine (octets_why (octets_in c.args.text.now))) t),
    )

pub returns-in-Some : goal.returns-in-Some
unfolding words_of is_line is_refusal is_number refused_in
returns-in-Some c = let e = sym c.refusal_in.ensures ∙ c.in-Some.is in
    let t : is_refusal c.args.text.now ≡ true =
    rw (ne_eqb (number_at 1 c.args.text.now 0) 48 (λ q. c.if-get8-eq-ZERO.false (c.get8.ensures ∙ q)), e) in (
      taken _ _ t (rw e c.of_refusal.ensures.0),
      c.of_refusal.ensures.1
          ∙ sym (pick_true true (is_digits c.args.text.now
          && is_fine (octets_why (octets_in c.args.text.now))) t),
    )

pub returns-in-None : goal.returns-in-None
unfolding words_of is_line is_refusal is_number
returns-in-None c = let e = sym c.refusal_in.ensures ∙ c.in-None.is in
    let t : is_refusal c.args.text.now ≡ false =
    rw (ne_eqb (number_at 1 c.args.text.now 0) 48 (λ q. c.if-get8-eq-ZERO.false (c.get8.ensures ∙ q)), e) in (
      left _ _ t c.of_text-in-None.ensures.0,
      c.of_text-in-None.ensures.1
          ∙ sym (pick-false true (is_digits c.args.text.now
          && is_fine (octets_why (octets_in c.args.text.now))) t),
    )
