use native.Mathlib.Omega.{arith}
use Rattle.save.specs.PassedLaws.{passed_none, passed-short, passed-there, passed-other}
use Rattle.save.proofs.past.Goals as goal

pub returns-then-k-eq0 : goal.returns-then-k-eq0
returns-then-k-eq0 c = let a = c.args in
    passed_none a.text.now a.at a.line.now (omega arith) (omega arith)

pub returns-then-n-at : goal.returns-then-n-at
returns-then-n-at c = let a = c.args in
    passed-short a.text.now a.at a.line.now (omega arith) (λ x e. c.if-k-eq0.false e)

pub returns-then-n-at-2 : goal.returns-then-n-at-2
returns-then-n-at-2 c = let a = c.args in
    passed-short a.text.now a.at a.line.now (omega arith) (λ x e. omega arith)

pub returns-then-same : goal.returns-then-same
returns-then-same c = let a = c.args in
    passed-there a.text.now a.at a.line.now (omega arith) c.same.ensures c.if-same.true

pub returns : goal.returns
returns c = let a = c.args in
    passed-other a.text.now a.at a.line.now (omega arith) c.same.ensures c.if-same.false
