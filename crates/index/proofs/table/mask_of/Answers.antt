use Prim.Native.Nat.{◌+◌, ◌*◌}
use native.Mathlib.Omega.{arith}
use Rattle.octets.specs.NumbersLaws.{number-of}
use Rattle.state.specs.StartLaws.{octets-known}
use Rattle.wholes.specs.Layout.{entry_size, mask_at}
use Rattle.index.specs.FoundLaws.{mask-none, mask-there}
use Rattle.index.proofs.table.mask_of.Goals as goal

pub returns-then-j-k : goal.returns-then-j-k
returns-then-j-k c = λ d s e. mask-none c.args.table.now c.args.k c.requires.0 c.requires.1
    (octets-known c.args.table.now (λ i. omega (arith, c.shared_slice_known-1.given i))) d s e
    c.place-j.ensures.1 c.if-j-k.true

pub returns : goal.returns
returns c = λ d s e. mask-there c.args.table.now c.args.k c.requires.0 c.requires.1
    (octets-known c.args.table.now (λ i. omega (arith, c.shared_slice_known-1.given i))) d
    s e c.place-j.ensures.1 (omega arith)
    (number-of 2 c.args.table.now (entry_size * c.place-j.result + mask_at) c.get16.ensures
    (omega arith))
