use mathlib.Core.Path.{sym, ◌∙◌}
use Rattle.words.specs.SaysLaws.{taken, left}
use Rattle.words.specs.Pieces.{number_text}
use Rattle.fields.specs.Data.{character_text}
use Rattle.model.specs.Quoted.{codes}
use Rattle.fields.proofs.data.character.Goals as goal

pub returns-then-is_plain : goal.returns-then-is_plain
unfolding character_text number_text codes
returns-then-is_plain c = taken _ _
    (sym c.is_plain.ensures ∙ c.if-is_plain.true)
    c.put.ensures

pub returns : goal.returns
unfolding character_text number_text codes
returns c = left _ _
    (sym c.is_plain.ensures
    ∙ c.if-is_plain.false) c.number.ensures
