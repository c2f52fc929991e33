use Rattle.commands.specs.StoredLaws.{fields-stored}
use native.Mathlib.Omega.{arith}
use mathlib.Core.Path.{◌≡◌, ◌∙◌}
use lib.ListN.{length, length-set}
use Rattle.commands.proofs.put_fields.Goals as goal

pub bounds-s-row-2 : goal.bounds-s-row-2
bounds-s-row-2 c = let e : length c.copy.new.out ≡ length c.args.s.now = simp length-set at
    c.s-1.given in
    omega arith

pub bounds-s-row-3 : goal.bounds-s-row-3
bounds-s-row-3 c = let e : length c.copy.new.out ≡ length c.args.s.now = simp length-set at
    c.s-1.given in
    simp length-set (omega arith)

pub shape_of-s : goal.shape_of-s
shape_of-s c = let e1 : length c.copy.new.out ≡ length c.args.s.now = simp length-set at
    c.s-1.given in
    let e2 : length c.copy-2.new.out ≡ length c.copy.new.out = simp length-set at
    c.s-2-1.given in
    c.s-3-1.given ∙ e2 ∙ e1

pub returns : goal.returns
returns c = let a = c.args in
    let p = c.requires in
    fields-stored a.s.now a.row a.h a.at a.params.now p.1 p.2 p.3 p.0
    c.copy.ensures c.copy-2.ensures c.fill.ensures
