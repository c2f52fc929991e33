use mathlib.Core.Path.{refl}
use Rattle.save.specs.StepsTurns.{unused-put, used-put, second-put, second-room}
use Rattle.lines.specs.StepsTurns.{put-done}
use lib.ListN.{length, take, drop, length-take}
use Prim.Native.Nat.{◌+◌, ◌-◌, ◌*◌}
use native.Mathlib.Omega.{arith}
use Rattle.model.specs.Layout.{extra_at}
use Rattle.save.proofs.put_monitor.Goals as goal

pub returns-then-row-eq0 : goal.returns-then-row-eq0
returns-then-row-eq0 c = unused-put _ _ _ c.if-row-eq0.true

pub slice_bounds-put_line-end : goal.slice_bounds-put_line-end
slice_bounds-put_line-end c = simp length-take (omega (arith, c.at_most-n.ensures.1))

pub put_line-requires : goal.put_line-requires
put_line-requires c = simp length-take (omega (arith, c.at_most-n.ensures.1))

pub returns-then-row-eq0-2 : goal.returns-then-row-eq0-2
returns-then-row-eq0-2 c = used-put _ _ _ (λ e. c.if-row-eq0.false e) c.at_most-n.ensures.0 c.if-row-eq0-2.true
    c.put_line.ensures

pub slice_bounds-put_line-end-2 : goal.slice_bounds-put_line-end-2
slice_bounds-put_line-end-2 c = simp length-take (omega (arith, c.at_most-n.ensures.1))

pub put_line-next-requires : goal.put_line-next-requires
put_line-next-requires c = simp length-take (omega (arith, c.at_most-n.ensures.1))

pub overflow_sub-next : goal.overflow_sub-next
overflow_sub-next c = let at-most = c.at_most-n in
    (second-room c.args.at at-most.result (length c.args.out.now) c.args.row.now
    c.put_line-next.ensures.0 at-most.ensures.1 c.requires.0 c.requires.1).some

pub overflow_add-result : goal.overflow_add-result
overflow_add-result c = let at-most = c.at_most-n in
    let r = second-room c.args.at at-most.result (length c.args.out.now) c.args.row.now
    c.put_line-next.ensures.0 at-most.ensures.1 c.requires.0 c.requires.1 in
    omega (arith, r.end)

pub returns : goal.returns
returns c = let at-most = c.at_most-n in
    let put-line2 = c.put_line-next in
    let r = second-room c.args.at at-most.result (length c.args.out.now) c.args.row.now
    put-line2.ensures.0 at-most.ensures.1 c.requires.0 c.requires.1 in
    let x = take (length c.args.row.now - extra_at) (drop extra_at c.args.row.now) in
    second-put _ _ _ (λ e. c.if-row-eq0.false e) at-most.ensures.0 c.requires.0 c.requires.1 c.if-row-eq0-2.false
    put-line2.ensures refl (put-done _ _ _ (put-line2.result - 1 + 2 * length x + 1) _
    c.put_text.ensures.0 (omega (arith, r.text)) c.put_text.ensures.1)
