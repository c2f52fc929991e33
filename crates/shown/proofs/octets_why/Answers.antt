use lib.ListN.{length}
use borrow.Author.Tests.{eq-eqb, ne_eqb}
use Rattle.laws.specs.Tests.{pick}
use Rattle.shown.specs.Line.{octets_why}
use Rattle.shown.proofs.octets_why.Goals as goal

pub returns-then-s-eq0 : goal.returns-then-s-eq0
unfolding octets_why Rattle.laws.specs.Tests.pick
returns-then-s-eq0 c = rw (eq-eqb (length c.args.s.now) 0 c.if-s-eq0.true)

pub returns : goal.returns
unfolding octets_why Rattle.laws.specs.Tests.pick
returns c = rw
    (c.why_not.ensures, ne_eqb (length c.args.s.now) 0 c.if-s-eq0.false)
