use Rattle.std.proofs.Common.{◌+◌, ◌*◌, length, arith}
use Rattle.packets.specs.MovesLaws.{refresh-done, refresh-left}
use Rattle.octets.specs.Little.{octets_of}
use Rattle.laws.specs.PutLaws.{put_of}
use Rattle.model.specs.Layout.{pair_size, pairs_at}
use Rattle.packets.proofs.refresh.Goals as goal

pub returns-then-a-eq1 : goal.returns-then-a-eq1
returns-then-a-eq1 c = let a = c.args in
    λ m w. refresh-done m a.s.now a.i a.a w (omega arith)
    (put_of a.s.now (pairs_at + pair_size * a.i + 8) (octets_of 2 0) 2 (length a.s.now)
    c.put16.ensures.0 (omega arith) c.put16.ensures.1)

pub returns-else-a-eq1 : goal.returns-else-a-eq1
returns-else-a-eq1 c = let a = c.args in λ m w. refresh-left m a.s.now a.i a.a w c.if-a-eq1.false
