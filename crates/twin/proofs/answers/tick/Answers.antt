use Rattle.twin.specs.TickingLaws.{ticks-none, ticks-more, ticks-all, watches-at}
use Rattle.twin.specs.PassedLaws.{frames-less}
use Rattle.twin.specs.StartsLaws.{list_length}
use Rattle.commands.specs.Replies.{prefix_in}
use Rattle.std.proofs.Common.{◌<◌, ◌≤◌, length, refl, ◌∙◌, arith}
use Rattle.twin.proofs.answers.tick.Goals as goal

pub after_all-seen-requires : goal.after_all-seen-requires
after_all-seen-requires c = frames-less c.args.t.now _ c.args.i (omega arith)
    c.requires.1

pub loop-b-init : goal.loop-b-init
loop-b-init c = (
  omega arith,
  refl,
  ticks-none
      (prefix_in c.args.head.now) c.args.t.now
      c.args.i c.after_all-seen.result c.after_all-seen.ensures
      c.args.out.now,
)

pub put_tick-at-requires : goal.put_tick-at-requires
put_tick-at-requires c =
    let h = rw c.list-b-items.ensures at c.loop-b-test.true in
    let n = list_length c.after_all-seen.result c.after_all-seen.ensures.shows.held in (
      c.requires.0,
      c.requires.1,
      c.requires.2,
      rw c.list-b-items.ensures (watches-at c.args.t.now c.args.i c.after_all-seen.result c.loop-b.b-index
          c.after_all-seen.ensures h),
      c.after_all-seen.ensures.shows.filter,
      omega (
        arith,
        c.loop-b.invariant.0,
        c.loop-b.invariant.1,
        c.requires.3,
        h,
        n,
        c.after_all-seen.ensures.shows.held.few,
      ),
    )

pub overflow_add-at : goal.overflow_add-at
overflow_add-at c =
    let h = rw c.list-b-items.ensures at c.loop-b-test.true in
    let n = list_length c.after_all-seen.result c.after_all-seen.ensures.shows.held in
    omega (
      arith,
      c.loop-b.invariant.0,
      c.put_tick-at.ensures.0,
      h,
      n,
      c.after_all-seen.ensures.shows.held.few,
    )

pub loop-b-preserved : goal.loop-b-preserved
loop-b-preserved c =
    let h = rw c.list-b-items.ensures at c.loop-b-test.true in
    let n = list_length c.after_all-seen.result c.after_all-seen.ensures.shows.held in
    let v = rw c.list-b-items.ensures at c.loop-b.invariant.2 in
    let w = rw c.list-b-items.ensures at c.put_tick-at.ensures.1 in (
      omega
          (arith, c.loop-b.invariant.0, c.put_tick-at.ensures.0),
      c.put_tick-at.auto.out
          ∙ c.loop-b.invariant.1,
      rw c.list-b-items.ensures (ticks-more
          (prefix_in c.args.head.now) c.args.t.now c.args.i
          c.after_all-seen.result c.after_all-seen.ensures
          c.loop-b.b-index h (omega (
            arith,
            c.loop-b.invariant.0,
            c.requires.3,
            h,
            n,
            c.after_all-seen.ensures.shows.held.few,
          )) v w),
    )

pub returns : goal.returns
returns c = ticks-all (prefix_in c.args.head.now) c.args.t.now c.args.i
    c.after_all-seen.result c.after_all-seen.ensures c.loop-b.b-index
    (rw c.list-b-items.ensures at c.loop-b-test.false) (rw c.list-b-items.ensures at c.loop-b.invariant.2)
