use Rattle.std.proofs.Common.{◌≡◌, ◌+◌, ◌-◌, ◌<◌, arith}
use Rattle.twin.specs.StartsLaws.{all-at, below-pairs, least-one, least-turn}
use Rattle.twin.specs.Seen.{begun_at, level_in}
use Rattle.twin.proofs.turns.weakest.Goals as goal

pub loop-j-init : goal.loop-j-init
loop-j-init c = (
  omega arith,
  c.requires.2,
  least-one
      (λ m. level_in c.args.t.now (c.args.i + 1) (begun_at c.args.seen m)),
)

pub lower-found-requires : goal.lower-found-requires
lower-found-requires c = let s = c.args.seen in
    let v = c.requires.1 in
    let h = c.loop-j-test.true in
    let w : c.loop-j.found < c.args.seen.count =
    let k = c.loop-j.invariant.2.within in omega (arith, k, h) in (
      c.requires.0,
      below-pairs s v _ w,
      below-pairs s v _ h,
      all-at s v
          _ _ c.requires.3 w,
      all-at s v _ _ c.requires.3 h,
    )

pub loop-j-preserved : goal.loop-j-preserved
loop-j-preserved c = let h = c.loop-j-test.true in (
  omega arith,
  omega (arith, h),
  least-turn
      (λ m. level_in c.args.t.now
      (c.args.i + 1)
      (begun_at c.args.seen m)) c.loop-j.j
      c.loop-j.found c.loop-j.invariant.2 c.lower-found.ensures,
)

pub returns : goal.returns
returns c = let e : c.loop-j.j ≡ c.args.seen.count = omega
    (arith, c.loop-j-test.false, c.loop-j.invariant.1) in
    rw e at c.loop-j.invariant.2
