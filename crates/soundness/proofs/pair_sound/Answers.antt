use mathlib.Core.Bool.{not}
use Rattle.std.proofs.Common.{ap}
use native.Mathlib.Omega.{arith}
use Rattle.soundness.specs.CodePairsLaws.{pair-high, pair-unseen, pair-seen}
use mathlib.Core.Path.{refl, ◌∙◌}
use Rattle.soundness.proofs.pair_sound.Goals as goal

pub returns-then-h-ge-MONITORS : goal.returns-then-h-ge-MONITORS
returns-then-h-ge-MONITORS c = pair-high c.args.s.now c.requires.0 c.args.i c.wide-h.result c.wide-h.ensures.0
    c.if-h-ge-MONITORS.true

pub returns-else-seen_sound : goal.returns-else-seen_sound
returns-else-seen_sound c = c.if-seen_sound.false ∙ pair-unseen c.args.s.now c.requires.0 c.args.i c.wide-h.result c.requires.1
    (λ k. omega (arith, c.shared_slice_known-1.given k)) c.wide-h.ensures.0
    (omega arith) refl refl c.seen_sound.ensures (ap not c.if-seen_sound.false)

pub returns-then-seen_sound : goal.returns-then-seen_sound
unfolding Rattle.soundness.specs.Fields.sifts_at
returns-then-seen_sound c = pair-seen c.args.s.now c.requires.0 c.args.i c.wide-h.result c.requires.1 (λ k. omega (
  arith,
  c.shared_slice_known-1.given k,
)) c.wide-h.ensures.0 (omega arith) refl refl
    c.seen_sound.ensures (ap not c.if-seen_sound.true) c.rest_sound.ensures
