use native.Mathlib.Omega.{arith}
use Prim.Native.Nat.{◌-◌}
use mathlib.Core.Path.{refl, ap, ◌∙◌}
use mathlib.Core.Bool.{◌&&◌}
use lib.Dec.{eqb}
use Rattle.state.specs.StartLaws.{octets-known}
use Rattle.index.specs.Compared.{pairs_of}
use Rattle.index.specs.ComparedLaws.{walks-few, walks-stop, walks-end}
use Rattle.index.proofs.walk.is_table.Goals as goal

pub returns-in_default : goal.returns-in_default
returns-in_default c = walks-stop (pairs_of c.args.n c.args.pairs.now) c.args.table.now c.walk.new.masks 0 c.args.count
    c.in_default.ensures

pub is_gathered-same-requires : goal.is_gathered-same-requires
is_gathered-same-requires c = let h = walks-few (pairs_of c.args.n c.args.pairs.now) c.args.table.now _ _
    c.in-Some.ensures in
    (c.requires.0, c.walk.auto.masks, h)

pub overflow_mul-from : goal.overflow_mul-from
overflow_mul-from c = let h = walks-few (pairs_of c.args.n c.args.pairs.now) c.args.table.now _ _
    c.in-Some.ensures in
    omega arith

pub slice_bounds-zeros-count : goal.slice_bounds-zeros-count
slice_bounds-zeros-count c = let h = walks-few (pairs_of c.args.n c.args.pairs.now) c.args.table.now _ _
    c.in-Some.ensures in
    omega arith

pub slice_bounds-zeros-start : goal.slice_bounds-zeros-start
slice_bounds-zeros-start c = let h = walks-few (pairs_of c.args.n c.args.pairs.now) c.args.table.now _ _
    c.in-Some.ensures in
    omega arith

pub returns : goal.returns
returns c = ap (λ x. eqb x c.in-Some.k
    && (c.is_gathered-same.result && c.zeros-behind.result)) c.wide.ensures.0
    ∙ walks-end (pairs_of c.args.n c.args.pairs.now) c.args.table.now _ _ c.requires.0
    (octets-known c.args.table.now (λ i. omega (
      arith,
      c.shared_slice_known-1.given i,
    ))) c.args.count _ c.in-Some.ensures
    c.is_gathered-same.ensures refl c.zeros-behind.ensures
