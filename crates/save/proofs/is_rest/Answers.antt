use native.Mathlib.Omega.{arith}
use Rattle.save.specs.TextLaws.{length-rest_text}
use Rattle.save.specs.PassedLaws.{rest-none, rest-long, rest-there}
use Rattle.save.proofs.is_rest.Goals as goal

pub returns-then-s-ne-SIZE : goal.returns-then-s-ne-SIZE
returns-then-s-ne-SIZE c = rest-none c.args.s.now _ (λ e. c.if-s-ne-SIZE.true e)

pub returns-then-text-gt-IMAGE : goal.returns-then-text-gt-IMAGE
returns-then-text-gt-IMAGE c = let a = c.args in
    rest-long a.s.now a.text.now (omega (arith, length-rest_text a.s.now))

pub returns : goal.returns
returns c = let a = c.args in
    rest-there a.s.now a.text.now _ (omega arith) (omega arith) c.rest.ensures
