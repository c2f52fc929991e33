use Rattle.std.proofs.Common.{arith}
use Rattle.packets.specs.StartsLaws.{start-free}
use Rattle.packets.proofs.starts.start_free.Goals as goal

pub returns : goal.returns
returns c = let a = c.args in (
  omega (arith, c.put_event.ensures.0),
  c.put_event.ensures.1,
  λ m p x y w q z.
      start-free m a.s.now a.n p x y a.key a.rssi w q (omega arith)
      c.push_row.ensures (λ g v. c.put_event.ensures.2 g v (omega arith)),
)
