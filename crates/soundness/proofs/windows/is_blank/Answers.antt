use native.Mathlib.Omega.{arith}
use mathlib.Core.Path.{sym}
use lib.Seq.{length-take-le}
use Rattle.soundness.specs.BlankLaws.{blank-counted, blank-idle}
use Rattle.model.specs.Layout.{rssi_at}
use Rattle.soundness.proofs.windows.is_blank.Goals as goal

pub returns-then-get32-ne0 : goal.returns-then-get32-ne0
returns-then-get32-ne0 c = blank-counted c.args.r.now c.requires c.get32.ensures c.if-get32-ne0.true

pub slice_bounds-zeros_from-end : goal.slice_bounds-zeros_from-end
slice_bounds-zeros_from-end c = sym (length-take-le rssi_at c.args.r.now
    (omega arith))

pub zeros_from-sum-requires : goal.zeros_from-sum-requires
zeros_from-sum-requires c = let n = length-take-le rssi_at c.args.r.now (omega arith) in
    omega arith

pub returns : goal.returns
returns c = blank-idle c.args.r.now c.requires c.get32.ensures c.if-get32-ne0.false
    c.zeros_from-sum.ensures c.zeros_from-latest.ensures
