use Rattle.reports.specs.MessagesLaws.{piece-so, piece-none}
use Rattle.texts.specs.Text.{told}
use Rattle.model.specs.Quoted.{codes}
use mathlib.Core.Path.{sym, ◌∙◌}
use Rattle.reports.proofs.messages.pieced.Goals as goal

pub returns-then-has_piece : goal.returns-then-has_piece
unfolding codes
returns-then-has_piece c = let a = c.args in
    piece-so (told a.t) a.next a.size (sym c.has_piece.ensures ∙ c.if-has_piece.true)
    c.with.ensures c.sized-piece.ensures c.with-then-has_piece.ensures

pub returns : goal.returns
unfolding codes
returns c = let a = c.args in
    piece-none (told a.t) a.next a.size
    (sym c.has_piece.ensures ∙ c.if-has_piece.false) c.with-2.ensures
