use mathlib.Core.Path.{ap, ◌∙◌}
use Rattle.words.specs.SaysLaws.{same, then}
use Rattle.words.specs.Pieces.{dbm}
use Rattle.words.specs.PiecesLaws.{level-held}
use Rattle.model.specs.Quoted.{codes}
use Rattle.texts.specs.Words.{level_text}
use Rattle.words.proofs.level.Goals as goal

pub returns : goal.returns
unfolding dbm codes
returns c = then c.put-a.ensures
    (then (same (level-held _ c.blank.ensures c.level.ensures
    ∙ ap level_text (c.level_of-x.ensures ∙ ap Rattle.model.specs.Level.level c.get8.ensures))
    c.text-b.ensures) c.put.ensures)
