use mathlib.Core.Path.{refl, ◌∙◌}
use native.Mathlib.Omega.{arith}
use lib.ListN.{length-set}
use Rattle.index.specs.RenewedLaws.{renewed-not}
use Rattle.index.specs.InPlaceLaws.{cleared, renewed-in}
use Rattle.index.proofs.renew.Goals as goal

pub returns-then-s-ne-SIZE : goal.returns-then-s-ne-SIZE
returns-then-s-ne-SIZE c = renewed-not c.args.s.now c.if-s-ne-SIZE.true

pub note_all-k-requires : goal.note_all-k-requires
note_all-k-requires c = let f = c.fill.ensures in
    let q = cleared c.args.s.now (omega arith) f.0 f.1 in
    (q.0, omega arith, q.1)

pub shape_of-s : goal.shape_of-s
shape_of-s c = simp length-set (c.note_all-k.auto.s ∙ c.fill.auto.out)

pub returns : goal.returns
returns c = let m = c.at_most-n in
    let f = c.fill.ensures in
    let k = c.note_all-k in
    renewed-in c.args.s.now (omega arith) m.result k.result _ m.ensures.0 refl f.0 f.1
    k.ensures.1
