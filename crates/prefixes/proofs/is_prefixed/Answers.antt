use native.Mathlib.Omega.{arith}
use mathlib.Core.Path.{refl, sym, ◌∙◌}
use Rattle.state.specs.StartLaws.{octets-known}
use Rattle.wholes.specs.Heads.{prefix_size}
use Rattle.prefixes.specs.SoundLaws.{prefixed-short, prefixed-falling, prefixed-other, prefixed-head}
use Rattle.prefixes.proofs.is_prefixed.Goals as goal

pub returns-then-s-ne-SIZE : goal.returns-then-s-ne-SIZE
returns-then-s-ne-SIZE c = prefixed-short c.args.s.now c.if-s-ne-SIZE.true

pub returns-then-not-is_rising : goal.returns-then-not-is_rising
returns-then-not-is_rising c = prefixed-falling c.args.s.now c.if-s-ne-SIZE.false
    (octets-known c.args.s.now (λ i. omega (arith, c.shared_slice_known-1.given i)))
    (sym c.is_rising.ensures ∙ c.if-not-is_rising.true)

pub returns-then-not-is_laid : goal.returns-then-not-is_laid
returns-then-not-is_laid c = prefixed-other c.args.s.now c.if-s-ne-SIZE.false
    (octets-known c.args.s.now (λ i. omega (arith, c.shared_slice_known-1.given i)))
    c.is_laid.ensures (c.if-not-is_laid.true)

pub returns : goal.returns
returns c = let at = c.get32 in
    prefixed-head c.args.s.now c.if-s-ne-SIZE.false (octets-known c.args.s.now (λ i. omega (
      arith,
      c.shared_slice_known-1.given i,
    ))) prefix_size at.result _ (sym c.is_rising.ensures ∙ c.if-not-is_rising.false)
    c.is_laid.ensures (c.if-not-is_laid.false) at.ensures
    c.force_row.ensures refl c.same.ensures
