use native.Mathlib.Omega.{arith}
use Prim.Native.Nat.{◌-◌}
use mathlib.Core.Path.{◌≡◌, ap, ◌∙◌}
use Rattle.laws.specs.Loops.{up_to}
use Rattle.prefixes.specs.Held.{edition_count}
use Rattle.save.specs.Passed.{passed}
use Rattle.snapshots.specs.Saved.{line_at, lines_text}
use Rattle.snapshots.specs.SavedLaws.{lines-begin, line-passed}
use Rattle.snapshots.proofs.past_lines.Goals as goal

pub loop-i-init : goal.loop-i-init
loop-i-init c = (
  omega arith,
  lines-begin c.args.s.now c.args.text.now c.requires.0 c.requires.1
      c.args.from,
)

pub past_one-at-requires : goal.past_one-at-requires
past_one-at-requires c = let k = c.at_most-count.ensures.1 in (omega arith, omega arith)

pub loop-i-smaller : goal.loop-i-smaller
loop-i-smaller c = omega arith

pub loop-i-preserved : goal.loop-i-preserved
unfolding edition_count
loop-i-preserved c = let l = c.loop-i in
    let z : c.at_most-count.result ≡ edition_count c.args.s.now = c.at_most-count.ensures.0 in (
      omega arith,
      line-passed c.args.s.now c.args.text.now c.requires.0 c.requires.1 c.args.from
          l.i l.invariant.1 c.past_one-at.ensures,
    )

pub returns : goal.returns
unfolding edition_count lines_text
returns c = let l = c.loop-i in
    let z : c.at_most-count.result ≡ edition_count
    c.args.s.now = c.at_most-count.ensures.0 in
    let y : l.i ≡ edition_count c.args.s.now = omega arith in
    l.invariant.1 ∙ ap (λ j. passed c.args.text.now c.args.from (up_to (line_at c.args.s.now) j)) y
