use Rattle.reports.specs.Texts.{next}
use native.Mathlib.Omega.{arith}
use Rattle.reports.proofs.messages.next.Goals as goal

pub returns-then-n-lt18446744073709551615 : goal.returns-then-n-lt18446744073709551615
unfolding next
returns-then-n-lt18446744073709551615 c = omega arith

pub returns : goal.returns
unfolding next
returns c = omega arith
