use Rattle.std.proofs.Common.{sym, le-ltb, lt-ltb}
use Rattle.laws.specs.TestsLaws.{pick_true, pick-false}
use Rattle.packets.proofs.weakest.weaker.Goals as goal

pub returns-then-kept-w : goal.returns-then-kept-w
returns-then-kept-w c = let t = lt-ltb _ _ c.if-kept-w.true in (sym (pick_true _ _ t), sym (pick_true _ _ t))

pub returns : goal.returns
returns c = let t = le-ltb _ _ c.if-kept-w.false in (sym (pick-false _ _ t), sym (pick-false _ _ t))
