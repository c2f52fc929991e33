use Rattle.advert.proofs.EitherLaws.{left-all, tried-none, tried-hit, tried-miss, tried-done}
use Rattle.laws.specs.Loops.{some}
use Rattle.std.proofs.Common.{refl, sym, ap, ◌∙◌, arith}
use Rattle.advert.proofs.some_lists.Goals as goal

pub loop-part-init : goal.loop-part-init
loop-part-init c = (omega arith, ap (some _) (sym (left-all _ _ _ _)))

pub next_section-requires : goal.next_section-requires
next_section-requires c = c.loop-part.invariant.0

pub slice_bounds-lists-count : goal.slice_bounds-lists-count
slice_bounds-lists-count c = let h = c.in-Some.ensures.1 in omega arith

pub returns-then-lists : goal.returns-then-lists
returns-then-lists c = let k = c.in-Some.ensures in
    tried-hit _ _ _ _ _ _ _ c.loop-part.invariant.1 k.0 k.1 (sym c.lists.ensures ∙ c.if-lists.true)

pub returns-then-not-has_more : goal.returns-then-not-has_more
returns-then-not-has_more c = let k = c.in-Some.ensures in
    let y = sym c.lists.ensures ∙ c.if-lists.false in
    tried-done _ _ _ _ _ _ _ (tried-miss _ _ _ _ _ _ _ c.loop-part.invariant.1 k.0 k.1 y)
    (c.has_more.ensures (c.if-not-has_more.true))

pub loop-part-smaller : goal.loop-part-smaller
loop-part-smaller c = let k = c.in-Some.ensures in
    let w = k.0.less k.1 in
    omega arith

pub loop-part-preserved : goal.loop-part-preserved
loop-part-preserved c = let k = c.in-Some.ensures in
    let y = sym c.lists.ensures ∙ c.if-lists.false in (
      k.0.high,
      tried-miss _ _ _ _ _ _ _ c.loop-part.invariant.1 k.0 k.1 y,
    )

pub returns : goal.returns
returns c = tried-none _ _ _ _ _ _ _ c.loop-part.invariant.1 c.in_default.ensures refl
