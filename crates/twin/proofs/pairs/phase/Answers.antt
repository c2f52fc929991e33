use Rattle.twin.specs.WindowsLaws.{phase-none, phase-some, windowed-least}
use Rattle.twin.specs.FiltersLaws.{added-long, sampling-read}
use Rattle.twin.specs.NumberedLaws.{start-added}
use Rattle.std.proofs.Common.{◌∙◌, mod-lt, arith}
use Rattle.twin.proofs.pairs.phase.Goals as goal

pub returns-then-not-windowed : goal.returns-then-not-windowed
returns-then-not-windowed c = (
  phase-none c.args.t.now c.args.a
      c.args.k c.args.n c.windowed.ensures
      (c.if-not-windowed.true),
  omega arith,
)

pub bounds-params_of-4 : goal.bounds-params_of-4
bounds-params_of-4 c = let k = added-long c.args.t.now c.args.a _
    (start-added c.args.t.now c.args.a c.args.k c.requires.start)
    c.params_of.ensures in
    omega (arith, k)

pub nonzero_rem-result : goal.nonzero_rem-result
nonzero_rem-result c = let w = windowed-least c.args.t.now c.args.a c.args.k c.args.n
    c.wide.result c.windowed.ensures (c.if-not-windowed.false)
    (c.wide.ensures.0 ∙ sampling-read c.args.t.now c.args.a _
    c.params_of.ensures) in
    omega (arith, w.0)

pub returns : goal.returns
returns c = let y = c.wide.ensures.0 ∙ sampling-read c.args.t.now c.args.a _
    c.params_of.ensures in
    let w = windowed-least c.args.t.now c.args.a c.args.k c.args.n
    c.wide.result c.windowed.ensures (c.if-not-windowed.false) y in (
      phase-some c.args.t.now
          c.args.a c.args.k c.args.n c.ticks.result
          c.wide.result c.windowed.ensures
          (c.if-not-windowed.false) c.ticks.ensures y,
      let m = mod-lt c.ticks.result {m = c.wide.result} (omega (arith, w.0)) in omega
          (arith, m, w.1),
    )
