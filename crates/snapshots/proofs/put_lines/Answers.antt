use native.Mathlib.Omega.{arith}
use Prim.Native.Nat.{◌+◌, ◌-◌}
use mathlib.Core.Path.{◌≡◌, refl, sym, ap, ◌∙◌}
use lib.ListN.{length}
use Rattle.laws.specs.Put.{put}
use Rattle.laws.specs.PutLaws.{put-nil}
use Rattle.laws.specs.Loops.{up_to}
use Rattle.prefixes.specs.Held.{edition_count}
use Rattle.snapshots.specs.Saved.{line_at, lines_text}
use Rattle.snapshots.specs.SavedLaws.{length-lines, lines_more}
use Rattle.snapshots.proofs.put_lines.Goals as goal

pub loop-i-init : goal.loop-i-init
unfolding up_to
loop-i-init c = let a = c.args in
    (omega arith, refl, omega arith, sym (put-nil a.out.now a.from))

pub put_one-at-requires : goal.put_one-at-requires
put_one-at-requires c = let l = c.loop-i in
    let k = c.at_most-count.ensures.1 in
    let b = length-lines c.args.s.now l.i in
    let d = l.invariant.2 in
    let e = l.invariant.1 in
    (c.requires.0, omega arith, omega arith)

pub loop-i-smaller : goal.loop-i-smaller
loop-i-smaller c = omega arith

pub loop-i-preserved : goal.loop-i-preserved
unfolding edition_count
loop-i-preserved c = let l = c.loop-i in
    let k = c.at_most-count.ensures.1 in
    let z : c.at_most-count.result ≡ edition_count c.args.s.now = c.at_most-count.ensures.0 in
    let w = lines_more c.args.s.now c.args.out.now c.args.from l.i c.requires.1 (omega arith)
    l.invariant.2 l.invariant.3 c.put_one-at.ensures.1 in (
      omega arith,
      c.put_one-at.auto.out
          ∙ l.invariant.1,
      c.put_one-at.ensures.0 ∙ w.0,
      w.1,
    )

pub shape_of-out : goal.shape_of-out
shape_of-out c = c.loop-i.invariant.1

pub returns : goal.returns
unfolding edition_count lines_text
returns c = let l = c.loop-i in
    let z : c.at_most-count.result ≡ edition_count
    c.args.s.now = c.at_most-count.ensures.0 in
    let y : l.i ≡ edition_count c.args.s.now = omega arith in (
      l.invariant.2 ∙ ap (λ j. c.args.from + length (up_to (line_at c.args.s.now) j)) y,
      l.invariant.3
          ∙ ap (λ j. put c.args.out.now c.args.from (up_to (line_at c.args.s.now) j)) y,
    )
