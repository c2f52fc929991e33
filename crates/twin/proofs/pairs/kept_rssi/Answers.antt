use Rattle.std.proofs.Common.{◌-◌, sym, refl, ◌∙◌, arith}
use Rattle.twin.specs.SilentLaws.{hears-sends}
use Rattle.twin.specs.LatestLaws.{last-heard, last-other, last-start}
use Rattle.twin.proofs.pairs.kept_rssi.Goals as goal

pub loop-i-init : goal.loop-i-init
loop-i-init c = let o = c.requires.order in (o, omega arith, λ h. refl)

pub is_heard-requires : goal.is_heard-requires
is_heard-requires c = (
  c.requires.start,
  (c.requires.formed (c.loop-i.i - 1)
      (let m = c.loop-i.invariant.1 in let n = c.loop-i-test.true in omega (arith, m, n))),
)

pub rssi_at-requires : goal.rssi_at-requires
rssi_at-requires c = hears-sends c.args.t.now
    c.args.a c.args.k
    (c.loop-i.i - 1)
    (c.requires.formed (c.loop-i.i - 1)
    (let m = c.loop-i.invariant.1 in let n = c.loop-i-test.true in omega
    (arith, m, n))) c.is_heard.ensures c.if-is_heard.true

pub returns-then-is_heard : goal.returns-then-is_heard
returns-then-is_heard c = λ h. c.rssi_at.ensures ∙ sym
    (c.loop-i.invariant.2 h ∙ last-heard c.args.t.now c.args.a c.args.k h
    c.loop-i.i c.loop-i-test.true
    (c.requires.formed (c.loop-i.i - 1) (let m = c.loop-i.invariant.1 in
    let n = c.loop-i-test.true in omega (arith, m, n))) c.is_heard.ensures
    c.if-is_heard.true)

pub loop-i-preserved : goal.loop-i-preserved
loop-i-preserved c = let n = c.loop-i-test.true in
    let m = c.loop-i.invariant in (
      omega (arith, n, m.0),
      omega (arith, n, m.1),
      λ h. m.2 h
          ∙ last-other c.args.t.now
          c.args.a c.args.k h
          c.loop-i.i c.loop-i-test.true
          (c.requires.formed (c.loop-i.i - 1)
          (let m = c.loop-i.invariant.1 in let n = c.loop-i-test.true in omega
          (arith, m, n))) c.is_heard.ensures c.if-is_heard.false,
    )

pub overflow_sub-k : goal.overflow_sub-k
overflow_sub-k c = c.requires.start.packet

pub rssi_at-requires-2 : goal.rssi_at-requires-2
rssi_at-requires-2 c = c.requires.start.sends

pub returns : goal.returns
returns c = λ h. c.rssi_at-2.ensures
    ∙ sym (c.loop-i.invariant.2 h
    ∙ last-start c.args.t.now c.args.a
    c.args.k h c.loop-i.i
    (omega (arith, c.loop-i-test.false)))
