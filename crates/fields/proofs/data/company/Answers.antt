use Rattle.words.specs.SaysLaws.{then, taken, left}
use Rattle.fields.specs.Data.{company_text}
use Rattle.model.specs.Quoted.{codes}
use borrow.Author.Tests.{lt-ltb, le-ltb}
use Rattle.fields.proofs.data.company.Goals as goal

pub returns-then-s-lt-COMPANY : goal.returns-then-s-lt-COMPANY
unfolding company_text
returns-then-s-lt-COMPANY c = taken _ _ (lt-ltb _ _ c.if-s-lt-COMPANY.true) c.plain.ensures

pub returns : goal.returns
unfolding company_text codes
returns c = left _ _ (le-ltb _ _ c.if-s-lt-COMPANY.false)
    (then (rw c.part.ensures at c.number-a.ensures)
    (rw c.behind.ensures at c.plain-2.ensures))
