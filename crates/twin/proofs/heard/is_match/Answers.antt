use Rattle.std.proofs.Common.{refl, arith}
use Rattle.twin.specs.HeardLaws.{match_none, match-first, match-second, second_is, type-in, extra-length}
use Rattle.twin.proofs.heard.is_match.Goals as goal

pub returns-then-not-meets : goal.returns-then-not-meets
returns-then-not-meets c = match_none c.args.params.now
    c.args.payload.now c.meets.ensures (c.if-not-meets.true)

pub returns-then-at-eq5 : goal.returns-then-at-eq5
returns-then-at-eq5 c = match-first c.args.params.now c.args.payload.now _ c.type_at-at.ensures c.if-at-eq5.true
    c.meets.ensures (c.if-not-meets.false)

pub slice_bounds-admits_by-count : goal.slice_bounds-admits_by-count
slice_bounds-admits_by-count c = let k = second_is c.args.params.now c.type_at-at.result c.type_at-at.ensures
    c.if-at-eq5.false in
    omega (arith, k.1)

pub slice_bounds-admits_by-start : goal.slice_bounds-admits_by-start
slice_bounds-admits_by-start c = let k = second_is c.args.params.now c.type_at-at.result c.type_at-at.ensures
    c.if-at-eq5.false in
    omega (arith, k.1)

pub slice_bounds-admits_by-end : goal.slice_bounds-admits_by-end
slice_bounds-admits_by-end c = let k = type-in c.args.params.now c.type_at-at.result c.requires.0
    c.type_at-at.ensures in
    omega (arith, k)

pub admits_by-requires : goal.admits_by-requires
admits_by-requires c = (
  extra-length c.args.params.now
      c.type_at-at.result c.requires.0
      c.type_at-at.ensures c.if-at-eq5.false,
  c.requires.1,
)

pub returns : goal.returns
returns c = match-second c.args.params.now c.args.payload.now _ c.type_at-at.ensures
    c.if-at-eq5.false c.meets.ensures (c.if-not-meets.false) refl
    c.admits_by.ensures
