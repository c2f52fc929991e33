use lib.ListN.{length}
use Rattle.laws.specs.PutLaws.{put_of}
use Rattle.restore.specs.LinesLaws.{pair-full, pair-more}
use native.Mathlib.Omega.{arith}
use Rattle.restore.proofs.store_pair.Goals as goal

pub returns-then-n-ge-MOST_PAIRS : goal.returns-then-n-ge-MOST_PAIRS
returns-then-n-ge-MOST_PAIRS c = pair-full _ _ (omega arith)

pub returns : goal.returns
returns c = let a = c.args in
    pair-more _ _ (omega arith) (omega arith) (omega arith)
    (put_of _ _ _ (length a.row.now) (length a.s.now) c.copy.ensures.0 (omega arith)
    c.copy.ensures.1)
