use native.Mathlib.Omega.{arith}
use mathlib.Core.Path.{refl}
use Rattle.state.specs.StartLaws.{octets-known}
use Rattle.model.specs.Types.{device}
use Rattle.wholes.specs.Layout.{entries_size}
use Rattle.index.specs.ReadLaws.{device-seven}
use Rattle.index.specs.RenewedLaws.{mask-said}
use Rattle.index.proofs.mask_for.Goals as goal

pub returns : goal.returns
returns c = let d = device c.args.kind c.args.address.now in
    mask-said c.args.s.now d _ entries_size _ c.requires.0 c.at_most-n.ensures.0 refl (omega arith)
    (c.mask_of.ensures d (device-seven c.args.kind c.args.address.now (omega arith) c.requires.1
    (octets-known c.args.address.now
    (λ i. omega (arith, c.shared_slice_known-2-1.given i))))
    c.device_number-dev.ensures)
