use Rattle.reports.specs.ChoicesLaws.{first_so}
use native.Mathlib.Omega.{arith}
use Rattle.reports.proofs.options.first_name.Goals as goal

pub returns : goal.returns
returns c = (
  first_so c.args.asked _ _ _ _
      c.behind.ensures.0 c.behind-flags.ensures.0
      c.behind-2.ensures.0 c.behind-3.ensures.0,
  omega (
    arith,
    c.behind.ensures.1,
    c.behind-flags.ensures.1,
    c.behind-2.ensures.1,
    c.behind-3.ensures.1,
  ),
)
