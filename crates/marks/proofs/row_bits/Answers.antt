use mathlib.Core.Path.{refl}
use Rattle.marks.proofs.KeyedLaws.{flag-from}
use Rattle.marks.proofs.MonitorsLaws.{bits-made}
use Rattle.marks.proofs.row_bits.Goals as goal

pub returns : goal.returns
returns c = let a = c.args in
    bits-made a.high a.low a.sampling a.rssi a.filtering a.event c.level_of-l.ensures
    c.level_of-lowest.ensures c.level_of-highest.ensures (flag-from _ c.from-good.ensures)
    (flag-from _ c.from-windowed.ensures) (flag-from _ c.from-strong.ensures) c.lets_through-through.ensures
    (flag-from _ c.from-instant.ensures) refl (flag-from _ c.from-told.ensures)
