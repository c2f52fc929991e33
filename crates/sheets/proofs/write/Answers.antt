use native.Mathlib.Omega.{arith}
use Rattle.sheets.proofs.WritingLaws.{written-some, written_none}
use Rattle.sheets.proofs.write.Goals as goal

pub returns-then-out-lt-ROOM : goal.returns-then-out-lt-ROOM
returns-then-out-lt-ROOM c = let a = c.args in written_none a.rows a.out.now (omega arith)

pub returns : goal.returns
returns c = let a = c.args in
    written-some a.rows a.out.now _ (omega arith) c.put_rows.ensures
