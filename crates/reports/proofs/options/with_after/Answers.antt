use Rattle.reports.specs.Options.{with_after}
use mathlib.Core.Path.{sym, ap}
use Rattle.reports.proofs.options.with_after.Goals as goal

pub returns-in-Some : goal.returns-in-Some
unfolding with_after
returns-in-Some c = sym (ap (with_after c.args.asked) c.in-Some.is)

pub returns-in-None : goal.returns-in-None
unfolding with_after
returns-in-None c = sym (ap (with_after c.args.asked) c.in-None.is)
