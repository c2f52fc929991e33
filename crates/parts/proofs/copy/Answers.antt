use Rattle.laws.specs.Put.{put_if}
use borrow.Author.Tests.{leb-true}
use mathlib.Core.Path.{sym, ◌∙◌, refl}
use Rattle.parts.proofs.copy.Goals as goal

pub copy_in-requires : goal.copy_in-requires
copy_in-requires c = leb-true _ _ (sym c.room.ensures ∙ c.if-room.true)

pub returns-then-room : goal.returns-then-room
unfolding put_if
returns-then-room c = (
  sym c.if-room.true
      ∙ c.room.ensures,
  c.copy_in.ensures,
)

pub returns : goal.returns
unfolding put_if
returns c = (sym c.if-room.false ∙ c.room.ensures, refl)
