use Prim.Native.Nat.{◌-◌}
use mathlib.Core.Path.{sym}
use native.Mathlib.Omega.{arith}
use lib.ListN.{length, drop, length-drop, drop_of_length-le}
use lib.Seq.{take_all}
use Rattle.words.proofs.behind.Goals as goal

pub returns-then-len-from : goal.returns-then-len-from
returns-then-len-from c = sym (drop_of_length-le c.args.s.now {i = c.args.from} (omega arith))

pub returns : goal.returns
returns c = take_all (length c.args.s.now - c.args.from)
    (drop c.args.from c.args.s.now) (simp length-drop (omega arith))
