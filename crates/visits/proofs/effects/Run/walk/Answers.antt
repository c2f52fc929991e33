use Rattle.std.proofs.Common.{◌-◌, arith}
use Rattle.visits.proofs.effects.Run.walk.Goals as goal

pub loop-at-init : goal.loop-at-init
loop-at-init c = omega arith

pub overflow_add-e : goal.overflow_add-e
overflow_add-e c = let e = c.event_octets in
    omega (arith, e.ensures.1 (omega arith), e.ensures.2 (omega arith))

pub slice_bounds-follow-count : goal.slice_bounds-follow-count
slice_bounds-follow-count c = let e = c.event_octets in
    omega (arith, e.ensures.1 (omega arith), e.ensures.2 (omega arith))

pub slice_bounds-follow-start : goal.slice_bounds-follow-start
slice_bounds-follow-start c = let e = c.event_octets in
    omega (arith, e.ensures.1 (omega arith), e.ensures.2 (omega arith))

pub slice_bounds-follow-end : goal.slice_bounds-follow-end
slice_bounds-follow-end c = let e = c.event_octets in
    omega (arith, e.ensures.1 (omega arith), e.ensures.2 (omega arith))

pub loop-at-smaller : goal.loop-at-smaller
loop-at-smaller c = let e = c.event_octets in
    omega (arith, e.ensures.1 (omega arith), e.ensures.2 (omega arith))

pub loop-at-preserved : goal.loop-at-preserved
loop-at-preserved c = let e = c.event_octets in
    omega (arith, e.ensures.1 (omega arith), e.ensures.2 (omega arith))
