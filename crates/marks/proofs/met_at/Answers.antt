use mathlib.Core.Path.{refl, sym, ◌∙◌}
use Rattle.marks.specs.Marks.{flag}
use Rattle.marks.proofs.MonitorsLaws.{met-unused, met-used}
use Rattle.marks.proofs.KeyedLaws.{key-none}
use Rattle.marks.proofs.met_at.Goals as goal

pub returns-then-s-at-eq0 : goal.returns-then-s-at-eq0
unfolding flag
returns-then-s-at-eq0 c = let a = c.args in
    met-unused a.s.now a.h a.payload.now c.if-s-at-eq0.true

pub returns-in-Some : goal.returns-in-Some
returns-in-Some c = let a = c.args in
    let k = rw c.in-Some.is at c.requires.4.keyed in
    met-used a.s.now a.h a.payload.now c.if-s-at-eq0.false refl (k c.if-s-at-eq-IRK.true)

pub returns-in-None : goal.returns-in-None
returns-in-None c = let a = c.args in
    met-used a.s.now a.h a.payload.now c.if-s-at-eq0.false refl
    (key-none a.s.now a.h a.payload.now c.if-s-at-eq-IRK.true (sym (rw c.in-None.is at c.requires.4.is)))

pub returns : goal.returns
returns c = let a = c.args in
    met-used a.s.now a.h a.payload.now c.if-s-at-eq0.false refl c.matches_at.ensures
