use Rattle.std.proofs.Common.{sym, le-ltb, lt-ltb}
use Rattle.laws.specs.TestsLaws.{pick_true, pick-false}
use Rattle.twin.specs.Seen.{begun_at}
use Rattle.twin.specs.MarksLaws.{marked-looks}
use Rattle.twin.proofs.turns.lower.Goals as goal

pub level_at-requires : goal.level_at-requires
unfolding begun_at
level_at-requires c = marked-looks _ _ _ c.requires.0 c.requires.4

pub level_at-requires-2 : goal.level_at-requires-2
unfolding begun_at
level_at-requires-2 c = marked-looks _ _ _ c.requires.0 c.requires.3

pub returns-then-level_at : goal.returns-then-level_at
unfolding begun_at
returns-then-level_at c = sym (pick_true _ _
    (rw (← c.level_at.ensures, ← c.level_at-2.ensures) (lt-ltb _ _ c.if-level_at.true)))

pub returns : goal.returns
unfolding begun_at
returns c = sym
    (pick-false _ _ (rw (← c.level_at.ensures, ← c.level_at-2.ensures)
    (le-ltb _ _ c.if-level_at.false)))
