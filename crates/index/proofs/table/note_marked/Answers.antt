use mathlib.Core.Path.{refl}
use native.Mathlib.Omega.{arith}
use Rattle.index.specs.SeenLaws.{kept_new, kept-old}
use Rattle.index.proofs.table.note_marked.Goals as goal

pub returns-then-seen-w-eq0 : goal.returns-then-seen-w-eq0
returns-then-seen-w-eq0 c = let f = c.put_entry in (
  omega arith,
  λ es d w s e. kept_new es d c.args.table.now c.args.seen.now c.args.k c.args.h _ c.requires.1 w
      e c.mark_of-m.ensures.0 c.if-seen-w-eq0.true c.bit_of.ensures
      _ refl (f.ensures es d w.tabled s e),
)

pub returns : goal.returns
returns c = let f = c.note in (
  f.ensures.0,
  λ es d w s e. kept-old es d c.args.table.now c.args.seen.now c.args.k c.args.h _ c.requires.1 w
      e c.mark_of-m.ensures.0 c.if-seen-w-eq0.false (f.ensures.1 es d w.tabled s e),
)
