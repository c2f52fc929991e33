use Rattle.twin.specs.declared.watch.Begun.{Begun}
use Rattle.twin.specs.Seen.{no_begun}
use Rattle.twin.specs.StartsLaws.{all_get_d, list_length, passed_none, passed-room, passed-on, passed-off, passed-end}
use Rattle.std.proofs.Common.{◌≤◌, length, ap, ◌∙◌, arith, rules}
use Rattle.twin.proofs.starts.only.Goals as goal
use Rattle.twin.proofs.starts.only.Goals.{then-stays, else-stays}

pub loop-b-init : goal.loop-b-init
loop-b-init g c = passed_none _ _ _ c.requires.held c.emptied-next.ensures

pub stays-requires : goal.stays-requires
stays-requires g c =
    let h = rw (← c.list-b-items.ensures) at c.requires.pre in
    let p = all_get_d (λ (b : Begun). goal.F-pre g c.args.stays b) c.list-b-items.result.now c.loop-b.b-index no_begun h
    c.loop-b-test.true in
    search rules

pub push-next-requires : goal.push-next-requires
push-next-requires g c =
    let e = ap length c.list-b-items.ensures in
    let n = list_length c.args.seen c.requires.held in
    let f = c.requires.held.few in
    passed-room _ c.args.seen _ _ _ c.loop-b-test.true c.loop-b.invariant (omega (arith, e, n, f))

pub loop-b-preserved : goal.loop-b-preserved
loop-b-preserved g c =
    let e = ap length c.list-b-items.ensures in
    let n = list_length c.args.seen c.requires.held in
    let f = c.requires.held.few in
    let m : length c.list-b-items.result.now ≤ 64 = omega (arith, e, n, f) in
    elim c.if-stays.branch [
      | then-stays w ↦
          let p = rw w.if-stays.true at c.stays.ensures in
          passed-on (λ b o. goal.F-post g c.args.stays b o) c.args.seen c.loop-b.next c.list-b-items.result.now
          c.loop-b.b-index c.loop-b-test.true c.loop-b.invariant c.if-stays.next m p
          (w.next-is ∙ w.push-next.ensures)
      | else-stays w ↦
          let p = rw w.if-stays.false at c.stays.ensures in
          rw w.next-is
          (passed-off (λ b o. goal.F-post g c.args.stays b o) c.args.seen c.loop-b.next c.list-b-items.result.now
          c.loop-b.b-index c.loop-b-test.true c.loop-b.invariant p)
    ]

pub returns : goal.returns
returns g c = λ f k. passed-end _ _ _ _ c.loop-b.b-index c.list-b-items.ensures c.loop-b-test.false
    c.loop-b.invariant f k
