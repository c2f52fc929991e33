use Rattle.decimals.specs.WritingTurns.{written-put, written_none}
use native.Mathlib.Omega.{arith}
use Rattle.decimals.proofs.write.Goals as goal

pub returns-then-k-text : goal.returns-then-k-text
returns-then-k-text c = let a = c.args in
    written-put a.k a.n _ a.text.now _ (omega arith) c.put_digits.ensures

pub returns : goal.returns
returns c = let a = c.args in written_none a.k a.n a.text.now (omega arith)
