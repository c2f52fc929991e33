use Rattle.index.specs.WrittenLaws.{bit-low, bit_high}
use Rattle.index.proofs.table.bit_of.Goals as goal

pub returns-then-h-lt-HANDLES : goal.returns-then-h-lt-HANDLES
returns-then-h-lt-HANDLES c = bit-low c.args.h c.if-h-lt-HANDLES.true

pub returns : goal.returns
returns c = bit_high c.args.h c.if-h-lt-HANDLES.false
