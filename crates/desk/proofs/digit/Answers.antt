use native.Mathlib.Omega.{arith}
use Rattle.desk.specs.WrittenLaws.{digit-below, digit-number, digit-between, digit-upper, digit-among, digit-lower, digit-above}
use Rattle.desk.proofs.digit.Goals as goal

pub returns-then-c-lt48 : goal.returns-then-c-lt48
returns-then-c-lt48 c = (digit-below c.args.c (omega arith), omega arith)

pub returns-then-c-le57 : goal.returns-then-c-le57
returns-then-c-le57 c = (digit-number c.args.c (omega arith) (omega arith), omega arith)

pub returns-then-c-lt65 : goal.returns-then-c-lt65
returns-then-c-lt65 c = (digit-between c.args.c (omega arith) (omega arith), omega arith)

pub returns-then-c-le70 : goal.returns-then-c-le70
returns-then-c-le70 c = (digit-upper c.args.c (omega arith) (omega arith), omega arith)

pub returns-then-c-lt97 : goal.returns-then-c-lt97
returns-then-c-lt97 c = (
  digit-among c.args.c (omega arith) (omega arith),
  omega
      arith,
)

pub returns-then-c-le102 : goal.returns-then-c-le102
returns-then-c-le102 c = (
  digit-lower c.args.c (omega arith) (omega arith),
  omega arith,
)

pub returns : goal.returns
returns c = (digit-above c.args.c (omega arith), omega arith)
