use native.Mathlib.Omega.{arith}
use Rattle.laws.specs.Put.{put_if}
use borrow.Author.Tests.{leb-true, le-leb, lt-leb}
use mathlib.Core.Path.{sym, ◌∙◌, refl}
use Rattle.parts.proofs.shift.Goals as goal

pub returns-then-from-to : goal.returns-then-from-to
unfolding put_if
returns-then-from-to c = let a = c.args in (rw (lt-leb a.to a.from (omega arith)), refl)

pub shift_in-requires : goal.shift_in-requires
shift_in-requires c = (omega arith, leb-true _ _ (sym c.room.ensures ∙ c.if-room.true))

pub returns-then-room : goal.returns-then-room
unfolding put_if
returns-then-room c = let a = c.args in (
  rw (le-leb a.to a.from (omega arith))
      (sym c.if-room.true ∙ c.room.ensures),
  c.shift_in.ensures,
)

pub returns : goal.returns
unfolding put_if
returns c = let a = c.args in
    (rw (le-leb a.to a.from (omega arith)) (sym c.if-room.false ∙ c.room.ensures), refl)
