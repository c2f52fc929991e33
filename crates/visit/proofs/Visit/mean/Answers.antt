use Rattle.visit.specs.BookLaws.{mean-none, mean-some}
use Rattle.visit.proofs.Visit.mean.Goals as goal

pub returns-then-self-eq0 : goal.returns-then-self-eq0
returns-then-self-eq0 c = mean-none c.args.self.now.packets c.args.self.now.sum c.if-self-eq0.true

pub returns : goal.returns
returns c = mean-some c.args.self.now.packets c.args.self.now.sum c.if-self-eq0.false
