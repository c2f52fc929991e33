use Rattle.snapshots.specs.Stored.{stored_all_on}
use Rattle.snapshots.specs.StoredLaws.{rest-start, rest-turn, rest-stays, rest_end, placed_on}
use mathlib.Core.Path.{refl}
use Prim.Native.Nat.{◌-◌}
use native.Mathlib.Omega.{arith}
use borrow.Author.Rules.{rules}
use Rattle.snapshots.proofs.store_lines.Goals as goal

pub loop-at-init : goal.loop-at-init
loop-at-init c = (omega arith, refl, λ rs a e. rest-start _ _ rs a e)

pub store_text-e-requires : goal.store_text-e-requires
store_text-e-requires c = (search rules, omega arith)

pub returns-then-e-at : goal.returns-then-e-at
returns-then-e-at c = λ rs p e. let a = c.args in
    let l = c.loop-at in rest-stays a.text.now l.at l.s (stored_all_on a.s.now rs)
    (l.invariant.2 rs p e) (omega arith) c.store_text-e.ensures c.if-e-at.true

pub loop-at-smaller : goal.loop-at-smaller
loop-at-smaller c = let a = c.args in
    let l = c.loop-at in
    omega (
      arith,
      placed_on a.text.now l.at l.s _ c.store_text-e.result
          c.store_text-e.ensures (λ z. c.if-e-at.false z),
      c.store_text-e.ensures.within,
    )

pub loop-at-preserved : goal.loop-at-preserved
loop-at-preserved c = let a = c.args in
    let l = c.loop-at in (
      c.store_text-e.ensures.within,
      search rules,
      λ rs p e. (rest-turn a.text.now
          l.at l.s (stored_all_on a.s.now rs) (l.invariant.2 rs p e) (omega arith)
          c.store_text-e.ensures).1,
    )

pub shape_of-s : goal.shape_of-s
shape_of-s c = c.loop-at.invariant.1

pub returns : goal.returns
returns c = λ rs p e. rest_end c.args.text.now c.loop-at.at
    c.loop-at.s (stored_all_on c.args.s.now rs)
    (c.loop-at.invariant.2 rs p e) (omega arith)
