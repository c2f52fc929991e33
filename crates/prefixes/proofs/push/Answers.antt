use native.Mathlib.Omega.{arith}
use Prim.Native.Nat.{◌≤◌, ◌<◌}
use lib.ListN.{length}
use Rattle.laws.specs.TestsLaws.{cases-le}
use Rattle.model.specs.Layout.{most_prefix}
use Rattle.editions.specs.Editions.{most_editions}
use Rattle.prefixes.specs.MoreLaws.{push-sized, push-long, push-full, push-can, pushed-not, pushed-is}
use Rattle.prefixes.proofs.push.Goals as goal

pub returns-then-s-ne-SIZE : goal.returns-then-s-ne-SIZE
returns-then-s-ne-SIZE c = (
  push-sized c.args.s.now c.args.prefix.now c.if-s-ne-SIZE.true,
  pushed-not c.args.number
      c.args.prefix.now c.args.s.now,
)

pub returns-then-n-gt-PREFIX : goal.returns-then-n-gt-PREFIX
returns-then-n-gt-PREFIX c = (
  push-long c.args.s.now c.args.prefix.now c.if-n-gt-PREFIX.true,
  pushed-not c.args.number
      c.args.prefix.now c.args.s.now,
)

pub returns-then-count-eq-EDITIONS : goal.returns-then-count-eq-EDITIONS
returns-then-count-eq-EDITIONS c = (
  push-full c.args.s.now c.args.prefix.now c.count_of-count.ensures.0 c.if-count-eq-EDITIONS.true,
  pushed-not c.args.number c.args.prefix.now c.args.s.now,
)

pub returns : goal.returns
returns c = let k = c.count_of-count in
    let h : k.result < most_editions = let m = k.ensures.1 in
    let n = c.if-count-eq-EDITIONS.false in cases-le most_editions k.result (λ g. absurd (n (omega arith))) (λ g. g) in
    let p : length c.args.prefix.now ≤ most_prefix = c.if-n-gt-PREFIX.false in (
      push-can c.args.s.now c.args.prefix.now
          c.if-s-ne-SIZE.false p k.ensures.0 h,
      pushed-is c.args.s.now
          c.args.prefix.now c.args.number k.result c.if-s-ne-SIZE.false p k.ensures.0 h
          c.put32.ensures.0 c.put32.ensures.1 c.put8.ensures.0
          c.put8.ensures.1 c.copy.ensures.0
          c.copy.ensures.1 c.put8-2.ensures.0
          c.put8-2.ensures.1,
    )
