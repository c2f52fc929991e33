use Rattle.reports.specs.ChoicesLaws.{load-so, load_full}
use mathlib.Core.Path.{sym}
use native.Mathlib.Omega.{arith}
use lib.Seq.{length-take-le}
use borrow.Author.Rules.{rules}
use Rattle.reports.proofs.load.Goals as goal

pub slice_bounds-load-end : goal.slice_bounds-load-end
slice_bounds-load-end c = sym (length-take-le c.args.count c.args.text (omega arith))

pub returns-then-count-lt-IMAGE_ROOM : goal.returns-then-count-lt-IMAGE_ROOM
returns-then-count-lt-IMAGE_ROOM c = load-so c.args.text c.args.count c.load.result
    (search rules) c.load.ensures

pub returns : goal.returns
returns c = load_full c.args.text c.args.count
    c.load-2.result (search rules) (omega arith) c.load-2.ensures
