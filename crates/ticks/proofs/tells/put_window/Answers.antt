use Rattle.ticks.specs.WrittenLaws.{window-appended}
use Rattle.octets.specs.NumbersLaws.{number-of}
use Rattle.octets.specs.Little.{little}
use native.Mathlib.Omega.{arith}
use mathlib.Core.Path.{◌≡◌}
use Rattle.model.specs.Layout.{packets_at}
use Rattle.ticks.proofs.tells.put_window.Goals as goal

pub mean_of-rssi-requires : goal.mean_of-rssi-requires
mean_of-rssi-requires c = let a = c.args in
    let p : c.get32-packets.result ≡ little 4 a.r.now packets_at = number-of 4 a.r.now 11
    c.get32-packets.ensures (omega arith) in
    omega arith

pub returns : goal.returns
returns c = let a = c.args in
    window-appended a.out.now a.at a.r.now (omega arith) (omega arith) (omega arith)
    c.get32-packets.ensures c.get64.ensures c.mean_of-rssi.ensures
    c.put_report.ensures.0 c.put_report.ensures.1
