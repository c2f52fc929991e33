use Prim.Native.Nat.{◌-◌}
use mathlib.Core.Path.{refl, ap}
use native.Mathlib.Omega.{arith}
use lib.ListN.{length, length-set}
use Rattle.model.specs.Frames.{packet_of, packet as packet_frame}
use Rattle.months.specs.Counts.{row_in}
use Rattle.counts.specs.Turns.{table_none, table-turn, table-end}
use Rattle.counts.proofs.packet.turn_all.Goals as goal

pub no_gains-gains-requires : goal.no_gains-gains-requires
no_gains-gains-requires c = tt

pub loop-h-init : goal.loop-h-init
loop-h-init c = (
  omega arith,
  ap length c.no_gains-gains.ensures,
  λ m w g e. (
    e,
    table_none (row_in m (packet_frame (packet_of c.args.payload.now)))
        c.no_gains-gains.result,
  ),
)

pub loop-h-smaller : goal.loop-h-smaller
loop-h-smaller c = omega arith

pub loop-h-preserved : goal.loop-h-preserved
loop-h-preserved c = let a = c.args in
    let l = c.loop-h in (
      omega arith,
      simp length-set l.invariant.1,
      λ m w g e.
          let x = l.invariant.2 m w g e in
          let t = c.turn_at-turn.ensures.1 m a.acts.now w g refl x.0 in (
            t.1,
            table-turn (row_in m (packet_frame (packet_of a.payload.now))) l.h l.gains _ t.0
                (omega (arith, l.invariant.1)) x.1,
          ),
    )

pub returns : goal.returns
returns c = let l = c.loop-h in
    λ m w g e. table-end (row_in m (packet_frame (packet_of c.args.payload.now))) l.h l.gains (omega arith)
    l.invariant.1 (l.invariant.2 m w g e).1
