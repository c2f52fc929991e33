use Prim.Native.Nat.{ℕ, ◌+◌, ◌-◌}
use mathlib.Core.Path.{◌≡◌, refl, ap, ◌∙◌}
use native.Mathlib.Omega.{arith}
use Rattle.names.specs.NamesLaws.{met-end, met-last, met-past, met-found, met-other}
use lib.ListN.{drop, take}
use Rattle.names.proofs.find.Goals as goal

pub loop-i-init : goal.loop-i-init
loop-i-init c = (refl, omega arith, refl)

pub returns-then-n-i-lt2 : goal.returns-then-n-i-lt2
returns-then-n-i-lt2 c = met-last c.args.table.now
    c.loop-i.i c.args.x
    c.loop-i.invariant.2 (omega arith)

pub returns-then-n-from : goal.returns-then-n-from
returns-then-n-from c = met-past c.args.table.now c.loop-i.i c.args.x c.loop-i.invariant.2
    c.wide-k.result c.wide-k.ensures.0 (omega arith) (omega arith)

pub returns-then-table-i : goal.returns-then-table-i
returns-then-table-i c = let e : c.loop-i.i + 2 + c.wide-k.result -
    (c.loop-i.i + 2) ≡ c.wide-k.result = omega arith in
    ap (λ (n : ℕ). take n (drop (c.loop-i.i + 2) c.args.table.now)) e
    ∙ met-found c.args.table.now c.loop-i.i c.args.x c.loop-i.invariant.2
    c.wide-k.result c.wide-k.ensures.0 (omega arith) (omega arith) c.if-table-i.true

pub loop-i-preserved : goal.loop-i-preserved
loop-i-preserved c = (
  refl,
  omega arith,
  met-other
      c.args.table.now c.loop-i.i c.args.x c.loop-i.invariant.2
      c.wide-k.result c.wide-k.ensures.0 (omega arith) (omega arith) c.if-table-i.false,
)

pub returns : goal.returns
returns c = met-end c.args.table.now c.loop-i.i
    c.args.x c.loop-i.invariant.2 (omega arith)
