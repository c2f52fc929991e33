use Rattle.advert.proofs.EitherLaws.{left-all, rest_all, seen_most, tried-none, tried-hit, tried-miss, tried-done}
use Rattle.advert.proofs.CostLaws.{count-all, count_none, count-hit, count-miss, count-done}
use Rattle.advert.proofs.CostMostLaws.{compared-most}
use Rattle.laws.specs.Loops.{some}
use Rattle.std.proofs.Common.{refl, sym, ap, ◌∙◌, arith}
use Rattle.advert.proofs.cost.some_cost.Goals as goal

pub loop-part-init : goal.loop-part-init
loop-part-init c = let a = c.args in (
  omega arith,
  ap (some _) (sym (left-all _ _ _ _)),
  count-all _ _ _ _ _ _,
  omega (arith, rest_all a.adv.now a.scan.now),
)

pub next_section-requires : goal.next_section-requires
next_section-requires c = c.loop-part.invariant.0

pub overflow_add-count : goal.overflow_add-count
overflow_add-count c = let h = c.loop-part.invariant.3 in
    let s = seen_most c.in-Some.ensures.0 in
    omega arith

pub slice_bounds-compare-count : goal.slice_bounds-compare-count
slice_bounds-compare-count c = let h = c.in-Some.ensures.1 in omega arith

pub overflow_add-count-in-Some : goal.overflow_add-count-in-Some
overflow_add-count-in-Some c = let l = c.loop-part in
    let p = c.in-Some.ensures.0 in
    let k = compared-most _ _ c.in-Some.part.now c.compare-c.ensures.1 in
    let h = l.invariant.3 in
    let w = p.less c.in-Some.ensures.1 in
    omega (arith, k, h, w, l, c)

pub returns-then-c : goal.returns-then-c
returns-then-c c = let l = c.loop-part in
    let p = c.in-Some.ensures.0 in
    let y = sym c.compare-c.ensures.0 ∙ c.if-c.true in (
      tried-hit _ _ _ _ _ _ _ l.invariant.1 p c.in-Some.ensures.1 y,
      count-hit _ _ _ _ _ _ _ _ _ l.invariant.2 p c.in-Some.ensures.1
          c.compare-c.ensures.1 y,
    )

pub returns-then-not-has_more : goal.returns-then-not-has_more
returns-then-not-has_more c = let l = c.loop-part in
    let p = c.in-Some.ensures.0 in
    let n = c.in-Some.ensures.1 in
    let y = sym c.compare-c.ensures.0 ∙ c.if-c.false in
    let z = c.has_more.ensures (c.if-not-has_more.true) in (
      tried-done _ _ _ _ _ _ _ (tried-miss _ _ _ _ _ _ _ l.invariant.1 p n y) z,
      count-done _ _ _ _ _ _ _ _ _
          (count-miss _ _ _ _ _ _ _ _ _ l.invariant.2 p n c.compare-c.ensures.1 y) z,
    )

pub loop-part-smaller : goal.loop-part-smaller
loop-part-smaller c = let w = c.in-Some.ensures.0.less c.in-Some.ensures.1 in
    omega arith

pub loop-part-preserved : goal.loop-part-preserved
loop-part-preserved c = let l = c.loop-part in
    let p = c.in-Some.ensures.0 in
    let n = c.in-Some.ensures.1 in
    let y = sym c.compare-c.ensures.0 ∙ c.if-c.false in
    let k = compared-most _ _ c.in-Some.part.now c.compare-c.ensures.1 in (
      p.high,
      tried-miss _ _ _ _ _ _ _ l.invariant.1 p n y,
      count-miss _ _ _ _ _ _ _ _ _ l.invariant.2 p n c.compare-c.ensures.1 y,
      (let h = l.invariant.3 in let w = p.less n in omega arith),
    )

pub overflow_add-result : goal.overflow_add-result
overflow_add-result c = let h = c.loop-part.invariant.3 in
    let s = seen_most c.in_default.ensures in
    omega arith

pub returns : goal.returns
returns c = let l = c.loop-part in let p = c.in_default.ensures in (
  tried-none _ _ _ _ _ _ _ l.invariant.1 p refl,
  count_none _ _ _ _ _ _ _ _ _ l.invariant.2 p refl,
)
