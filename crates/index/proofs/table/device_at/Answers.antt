use native.Mathlib.Omega.{arith}
use Rattle.state.specs.StartLaws.{octets-known}
use Rattle.wholes.specs.Layout.{entry_size}
use Rattle.index.specs.ReadLaws.{device-read}
use Prim.Native.Nat.{◌*◌, ◌-◌, ◌+◌}
use Rattle.index.proofs.table.device_at.Goals as goal

pub returns : goal.returns
returns c = device-read c.args.table.now (entry_size * c.args.j) (entry_size * c.args.j + 8 - entry_size * c.args.j)
    (omega arith) (omega arith) (octets-known c.args.table.now
    (λ i. omega (arith, c.shared_slice_known-1.given i))) c.get64.ensures
