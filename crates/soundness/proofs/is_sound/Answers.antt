use mathlib.Core.Bool.{not}
use Rattle.std.proofs.Common.{ap}
use native.Mathlib.Omega.{arith}
use mathlib.Core.Path.{sym, ◌∙◌}
use Rattle.soundness.specs.ThereLaws.{loose-size, loose-few}
use Rattle.soundness.specs.SameLaws.{whole-loose, whole-others}
use Rattle.soundness.proofs.is_sound.Goals as goal

pub returns-else-is_loose : goal.returns-else-is_loose
returns-else-is_loose c = c.if-is_loose.false ∙ whole-loose c.args.s.now
    (λ k. omega (arith, c.shared_slice_known-1.given k)) c.is_loose.ensures (ap not c.if-is_loose.false)

pub bounds-s-5224 : goal.bounds-s-5224
bounds-s-5224 c = let n = loose-size c.args.s.now
    (sym c.is_loose.ensures ∙ c.if-is_loose.true) in
    omega arith

pub are_others-requires : goal.are_others-requires
are_others-requires c = let l = sym c.is_loose.ensures ∙ c.if-is_loose.true in (
  loose-size
      c.args.s.now l,
  let n = loose-few
      c.args.s.now l in let w = c.wide.ensures.0 in omega arith,
)

pub returns-then-is_loose : goal.returns-then-is_loose
returns-then-is_loose c = whole-others c.args.s.now (λ k. omega (arith, c.shared_slice_known-1.given k))
    c.is_loose.ensures (ap not c.if-is_loose.true) c.wide.ensures.0 c.are_others.ensures
