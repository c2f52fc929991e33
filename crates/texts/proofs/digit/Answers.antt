use Rattle.laws.specs.Tests.{pick}
use Rattle.lines.specs.Hex.{digit}
use borrow.Author.Tests.{le-leb, lt-leb}
use native.Mathlib.Omega.{arith}
use Rattle.texts.proofs.digit.Goals as goal

pub returns-then-d-le9 : goal.returns-then-d-le9
unfolding digit pick
returns-then-d-le9 c = rw (le-leb c.args.d 9 (omega arith))

pub returns : goal.returns
unfolding digit pick
returns c = rw (lt-leb c.args.d 9 (omega arith))
