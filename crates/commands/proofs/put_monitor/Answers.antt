use Rattle.commands.specs.StoredLaws.{row-stored}
use native.Mathlib.Omega.{arith}
use Prim.Native.Nat.{◌+◌, ◌*◌}
use Rattle.model.specs.Layout.{monitor_size, monitors_at}
use Rattle.commands.proofs.put_monitor.Goals as goal

pub returns : goal.returns
returns c = let a = c.args in
    row-stored a.s.now (monitors_at + monitor_size * a.h) a.h a.at a.params.now c.requires.2
    (omega (
      arith,
      c.requires.0,
      c.requires.1,
    )) c.put_fields.ensures c.put_added.ensures
