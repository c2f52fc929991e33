use Rattle.words.specs.SaysLaws.{then, taken, left}
use Rattle.words.specs.Pieces.{uuid_number}
use Rattle.model.specs.Quoted.{codes}
use borrow.Author.Tests.{eq-eqb, ne_eqb}
use Rattle.words.proofs.uuid_number.Goals as goal

pub returns-then-n-eq16 : goal.returns-then-n-eq16
unfolding uuid_number codes
returns-then-n-eq16 c = then c.put-a.ensures
    (taken _ _ (eq-eqb _ _ c.if-n-eq16.true) c.groups.ensures)

pub returns-then-n : goal.returns-then-n
unfolding uuid_number codes
returns-then-n c = then c.put-a.ensures
    (left _ _ (ne_eqb _ _ c.if-n-eq16.false)
    (taken _ _ c.if-n.true c.number.ensures))

pub returns : goal.returns
unfolding uuid_number codes
returns c = then c.put-a.ensures
    (left _ _ (ne_eqb _ _ c.if-n-eq16.false)
    (left _ _ c.if-n.false c.hex.ensures))
