use Prim.Native.Nat.{◌+◌, ◌*◌}
use native.Mathlib.Omega.{arith}
use Rattle.octets.specs.NumbersLaws.{number-of}
use Rattle.model.specs.Layout.{packets_at, pair_size, pairs_at}
use Rattle.counts.specs.TicksLaws.{no-handle, says-open, says-empty, says-full}
use Rattle.counts.proofs.tick.says.Goals as goal

pub returns-then-h-ge-MONITORS : goal.returns-then-h-ge-MONITORS
returns-then-h-ge-MONITORS c = let a = c.args in
    λ m k w. no-handle m a.s.now a.i w c.wide-h.ensures.0 (omega arith)

pub returns-then-not-closes : goal.returns-then-not-closes
returns-then-not-closes c = let a = c.args in
    λ m k w. says-open m a.s.now a.i w c.wide-h.ensures.0 (omega arith) c.closes.ensures
    (c.if-not-closes.true)

pub returns-then-get32-eq0 : goal.returns-then-get32-eq0
returns-then-get32-eq0 c = let a = c.args in
    λ m k w. says-empty m a.s.now a.i w c.wide-h.ensures.0 (omega arith)
    (number-of 4 a.s.now (pairs_at + pair_size * a.i + packets_at) c.get32.ensures (omega arith))
    c.if-get32-eq0.true

pub returns : goal.returns
returns c = let a = c.args in
    λ m k w. says-full m a.s.now a.i w c.wide-h.ensures.0 (omega arith)
    c.closes.ensures (c.if-not-closes.false)
    (number-of 4 a.s.now (pairs_at + pair_size * a.i + packets_at) c.get32.ensures (omega arith))
    c.if-get32-eq0.false (c.is_through.ensures m k)
