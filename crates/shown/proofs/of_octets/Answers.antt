use mathlib.Core.Path.{◌≡◌, sym, refl, ◌∙◌}
use Rattle.std.specs.Prelude.{Some, None}
use Rattle.fields.specs.declared.terms.Fault.{Fault}
use Rattle.shown.specs.Line.{octets_why, octets_text, said_of, is_fine}
use Rattle.shown.proofs.of_octets.Goals as goal

pub returns-in-Some : goal.returns-in-Some
unfolding octets_text said_of is_fine
returns-in-Some c = let e = sym c.octets_why.ensures ∙ c.in-Some.is in
    rw e (c.no_line.ensures.0, c.no_line.ensures.1)

pub returns-in-None : goal.returns-in-None
unfolding octets_text said_of is_fine
returns-in-None c = let e = sym c.octets_why.ensures ∙ c.in-None.is in
    rw e (c.octets_in_words.ensures, refl)
