use Rattle.std.proofs.Common.{refl, arith}
use Rattle.advert.specs.Sections.{is_type}
use Rattle.advert.specs.SectionsLaws.{passed_none, passed-skip, lookup-none, lookup-hit}
use Rattle.advert.proofs.lookup.find_section.Goals as goal

pub loop-e-init : goal.loop-e-init
loop-e-init c = (omega arith, omega arith, omega arith, passed_none _ _ _ _)

pub part_end-requires : goal.part_end-requires
part_end-requires c = c.loop-e.invariant.1

pub bounds-adv-i : goal.bounds-adv-i
bounds-adv-i c = let k = c.in-Some.ensures in omega (arith, k.0.room k.1, k.0.high)

pub returns-then-hit : goal.returns-then-hit
unfolding is_type
returns-then-hit c = let l = c.loop-e in
    let k = c.in-Some.ensures in
    lookup-hit _ _ _ _ l.i l.seen l.invariant.3 _ (omega arith) k.0 k.1 c.if-hit.true

pub loop-e-smaller : goal.loop-e-smaller
loop-e-smaller c = let k = c.in-Some.ensures in omega (arith, k.0.high, k.1)

pub loop-e-preserved : goal.loop-e-preserved
unfolding is_type
loop-e-preserved c = let k = c.in-Some.ensures in
    let p = k.0 in
    let b = k.1 in
    let l = c.loop-e in (
      omega arith,
      omega arith,
      omega arith,
      passed-skip _ _ _ _ l.i l.seen l.invariant.3 _ p b c.if-hit.false,
    )

pub returns : goal.returns
returns c = let l = c.loop-e in
    lookup-none _ _ _ _ l.i l.seen l.invariant.3 _ _ (omega arith) c.in_default.ensures refl
