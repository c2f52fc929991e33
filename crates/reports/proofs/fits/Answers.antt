use native.Mathlib.Omega.{arith}
use Rattle.reports.specs.ChoicesLaws.{fits-few, fits-good, fits-bad}
use Rattle.reports.proofs.fits.Goals as goal

pub returns-then-words-first : goal.returns-then-words-first
returns-then-words-first c = let a = c.args in
    fits-few a.asked a.words c.first_name-first.result c.first_name-first.ensures.0
    (omega arith)

pub returns-then-asked : goal.returns-then-asked
returns-then-asked c = let a = c.args in
    fits-good a.asked a.words c.first_name-first.result c.if-asked.true
    c.first_name-first.ensures.0 (omega arith)

pub returns : goal.returns
returns c = fits-bad c.args.asked c.args.words c.if-asked.false
