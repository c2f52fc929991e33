use Prim.Native.Nat.{◌+◌, ◌-◌}
use mathlib.Core.Path.{◌≡◌, refl}
use native.Mathlib.Omega.{arith}
use Rattle.fields.specs.CutsLaws.{left-turn, left_end}
use Rattle.fields.specs.Data.{uuids_text}
use Rattle.fields.specs.Turns.{uuids-end, uuids-next}
use Rattle.fields.proofs.data.uuids.Goals as goal

pub loop-i-init : goal.loop-i-init
loop-i-init c = (refl, omega arith, λ o r t. t)

pub loop-i-preserved : goal.loop-i-preserved
loop-i-preserved c = (
  refl,
  omega arith,
  let k : c.loop-i.i +
      c.min.result - c.loop-i.i ≡ c.min.result = omega arith in left-turn
      (uuids_text c.args.k) c.args.s.now c.loop-i.i
      (c.loop-i.i + c.min.result) (uuids-next c.args.s.now c.loop-i.i
      c.args.k c.min.result c.requires (omega arith)
      c.min.ensures) c.loop-i.invariant.2 (rw k at c.next_uuid-end.ensures),
)

pub returns : goal.returns
returns c = left_end (uuids_text c.args.k) c.args.s.now
    c.loop-i.i
    (uuids-end c.args.s.now c.loop-i.i c.args.k
    (omega arith)) c.loop-i.invariant.2
