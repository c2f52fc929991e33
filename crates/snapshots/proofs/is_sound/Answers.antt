use native.Mathlib.Omega.{arith}
use mathlib.Core.Path.{sym, ◌∙◌}
use lib.Seq.{length-take-le}
use Rattle.model.specs.Layout.{block_size}
use Rattle.snapshots.specs.AcceptedLaws.{whole-short, whole-unsound, whole-unprefixed, whole-sound}
use Rattle.snapshots.proofs.is_sound.Goals as goal

pub returns-then-s-ne-SIZE : goal.returns-then-s-ne-SIZE
returns-then-s-ne-SIZE c = whole-short c.args.s.now c.if-s-ne-SIZE.true

pub slice_bounds-is_loose-end : goal.slice_bounds-is_loose-end
slice_bounds-is_loose-end c = sym (length-take-le block_size c.args.s.now (let z = c.if-s-ne-SIZE.false in omega arith))

pub returns-then-not-is_loose : goal.returns-then-not-is_loose
returns-then-not-is_loose c = whole-unsound c.args.s.now c.if-s-ne-SIZE.false
    (λ k. omega (arith, c.shared_slice_known-1.given k))
    (sym c.is_loose.ensures ∙ c.if-not-is_loose.true)

pub returns-then-not-is_prefixed : goal.returns-then-not-is_prefixed
returns-then-not-is_prefixed c = whole-unprefixed c.args.s.now c.if-s-ne-SIZE.false
    (λ k. omega (arith, c.shared_slice_known-1.given k)) c.is_prefixed.ensures
    (c.if-not-is_prefixed.true)

pub returns : goal.returns
returns c = whole-sound c.args.s.now c.if-s-ne-SIZE.false
    (λ k. omega (arith, c.shared_slice_known-1.given k))
    (sym c.is_loose.ensures ∙ c.if-not-is_loose.false)
    c.is_prefixed.ensures (c.if-not-is_prefixed.false) c.is_indexed.ensures
