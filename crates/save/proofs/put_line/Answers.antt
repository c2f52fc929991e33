use lib.ListN.{length}
use Prim.Native.Nat.{◌+◌, ◌*◌}
use Rattle.lines.specs.StepsTurns.{put-done}
use Rattle.save.specs.StepsTurns.{line-put, line-length}
use native.Mathlib.Omega.{arith}
use Rattle.save.proofs.put_line.Goals as goal

pub returns : goal.returns
returns c = let a = c.args in (
  line-length a.at a.name _,
  line-put a.out.now a.at a.name a.row.now
      c.requires (put-done _ _ _ (a.at + 2 * 1 + 1) (length a.out.now)
      c.put_text.ensures.0 (omega (arith, c.requires))
      c.put_text.ensures.1)
      (put-done _ _ _ (a.at + 2 + 2 * length a.row.now + 1) _ c.put_text-2.ensures.0
      (omega (arith, c.requires)) c.put_text-2.ensures.1),
)
