use Prim.Native.Nat.{◌+◌, ◌-◌, ◌*◌}
use mathlib.Core.Path.{◌≡◌, refl, sym, ◌∙◌, subst}
use native.Mathlib.Omega.{arith}
use Rattle.wholes.specs.Layout.{editions_at, editions_count_at}
use Rattle.editions.specs.Block.{edition_size}
use Rattle.prefixes.specs.LaidLaws.{Laid, laid-all, laid_more, laid-not, laid-other, laid-zeros}
use Rattle.prefixes.proofs.is_laid.Goals as goal

pub loop-i-init : goal.loop-i-init
loop-i-init c = (omega arith, λ l. laid-all c.args.s.now l)

pub returns-then-not-is_row : goal.returns-then-not-is_row
returns-then-not-is_row c = let l = c.loop-i in
    let k = c.count_of-count.ensures.0 in
    laid-not c.args.s.now c.requires l.i (omega arith) (l.invariant.1 c.requires) c.is_row.ensures
    (c.if-not-is_row.true)

pub loop-i-preserved : goal.loop-i-preserved
loop-i-preserved c = let l = c.loop-i in
    let k = c.count_of-count.ensures.0 in (
      omega arith,
      λ n. laid_more c.args.s.now n l.i (omega arith) (l.invariant.1 n) c.is_row.ensures
          (c.if-not-is_row.false),
    )

pub returns-then-wide-count : goal.returns-then-wide-count
returns-then-wide-count c = let l = c.loop-i in
    let k = c.count_of-count.ensures.0 in
    let i : l.i ≡ c.count_of-count.result = omega arith in
    laid-other c.args.s.now c.requires l.i (editions_count_at - (editions_at + edition_size * l.i)) (omega arith)
    (l.invariant.1 c.requires) refl (λ q. c.if-wide-count.true (c.wide.ensures.0 ∙ q ∙ i))

pub returns : goal.returns
returns c = let l = c.loop-i in
    let n = c.count_of-count in
    let k = n.ensures.0 in
    let i : l.i ≡ n.result = omega arith in
    laid-zeros c.args.s.now c.requires n.result (editions_count_at - (editions_at + edition_size * n.result)) k
    (subst (λ j. Laid c.args.s.now c.requires j) i (l.invariant.1 c.requires)) refl
    (sym c.wide.ensures.0 ∙ c.if-wide-count.false) c.zeros.ensures
