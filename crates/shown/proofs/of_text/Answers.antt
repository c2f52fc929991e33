use Prim.Native.Nat.{ℕ}
use mathlib.Core.Path.{sym, ap, ◌∙◌}
use Rattle.words.specs.SaysLaws.{same, taken, left}
use lib.ListN.{take}
use mathlib.Core.List.{List}
use mathlib.Core.Bool.{Bool, ◌&&◌}
use Rattle.shown.specs.Line.{octets_why, octets_text, is_fine, text_words}
use Rattle.shown.specs.ReadLaws.{read-digits, read-octets, read_short, not-digits}
use Rattle.lines.specs.Hex.{octets_in}
use Rattle.shown.proofs.of_text.Goals as goal

pub of_read-requires : goal.of_read-requires
of_read-requires c = let e = sym c.take_text-read.ensures.0 ∙ c.in-Ok.is in
    read_short c.args.text.now c.in-Ok.k e

pub returns-in-Ok : goal.returns-in-Ok
unfolding text_words
returns-in-Ok c = let e = sym c.take_text-read.ensures.0 ∙ c.in-Ok.is in
    let o = ap (λ (l : List ℕ). take c.in-Ok.k l) c.take_text-read.ensures.1
    ∙ read-octets c.args.text.now _ c.in-Ok.k e in
    let d = read-digits c.args.text.now c.in-Ok.k e in (
      taken _ _ d (same (ap octets_text o) c.of_read.ensures.0),
      c.of_read.ensures.1
          ∙ ap (λ (l : List ℕ). is_fine (octets_why l)) o ∙ sym (ap (λ (b : Bool). b && is_fine (octets_why (octets_in c.args.text.now))) d),
    )

pub returns-in-Err : goal.returns-in-Err
unfolding text_words
returns-in-Err c = let e = sym c.take_text-read.ensures.0 ∙ c.in-Err.is in
    let d = not-digits c.args.text.now _ e in (
      left _ _ d (rw c.why_no_text.ensures at c.no_line.ensures.0),
      c.no_line.ensures.1
          ∙ sym (ap (λ (b : Bool). b && is_fine (octets_why (octets_in c.args.text.now))) d),
    )
