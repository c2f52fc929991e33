use Rattle.reports.specs.ChoicesLaws.{behind-there, behind-not}
use Rattle.reports.proofs.options.behind.Goals as goal

pub returns-then-there : goal.returns-then-there
returns-then-there c = behind-there c.args.i c.args.there c.if-there.true

pub returns : goal.returns
returns c = behind-not c.args.i c.args.there c.if-there.false
