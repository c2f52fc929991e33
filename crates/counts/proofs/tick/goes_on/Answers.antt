use Prim.Native.Nat.{◌+◌, ◌*◌}
use native.Mathlib.Omega.{arith}
use Rattle.octets.specs.NumbersLaws.{number-of}
use Rattle.model.specs.Layout.{pair_size, pairs_at, since_good_at}
use Rattle.counts.specs.TicksLaws.{no-handle, goes-own}
use Rattle.counts.proofs.tick.goes_on.Goals as goal

pub returns-then-h-ge-MONITORS : goal.returns-then-h-ge-MONITORS
returns-then-h-ge-MONITORS c = let a = c.args in
    λ m w. no-handle m a.s.now a.i w c.wide-h.ensures.0 (omega arith)

pub returns : goal.returns
returns c = let a = c.args in
    λ m w. goes-own m a.s.now a.i w c.wide-h.ensures.0 (omega arith)
    (number-of 2 a.s.now (pairs_at + pair_size * a.i + since_good_at) c.get16.ensures (omega arith))
    c.ticks-run.ensures c.stays.ensures
