use lib.ListN.{length}
use native.Mathlib.Omega.{arith}
use borrow.Author.Tests.{le-leb, lt-leb}
use Rattle.reports.specs.Options.{is_dashed}
use Rattle.reports.proofs.is_dashed.Goals as goal

pub returns-then-word-lt2 : goal.returns-then-word-lt2
unfolding is_dashed
returns-then-word-lt2 c = rw (lt-leb 2 (length c.args.word.now) (omega arith))

pub returns : goal.returns
unfolding is_dashed
returns c = rw (le-leb 2 (length c.args.word.now) (omega arith), c.get8.ensures)
