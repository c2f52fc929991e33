use lib.ListN.{length, take, drop, length-take, length-drop}
use Rattle.laws.specs.PutLaws.{put_of}
use Rattle.restore.specs.LinesLaws.{name-head, name-monitor, name-second, name-pair, name-other}
use native.Mathlib.Omega.{arith}
use Rattle.model.specs.Layout.{head_size}
use Rattle.restore.proofs.put_line.Goals as goal

pub returns-then-name : goal.returns-then-name
returns-then-name c = let a = c.args in
    name-head _ _ c.if-name.true
    (put_of _ _ _ (length (take head_size (drop 1 a.line.now))) (length a.s.now)
    c.copy.ensures.0 (simp (length-take, length-drop) (omega arith))
    c.copy.ensures.1)

pub returns-then-name-2 : goal.returns-then-name-2
returns-then-name-2 c = name-monitor _ _ c.if-name-2.true
    c.store_monitor.ensures

pub returns-then-name-3 : goal.returns-then-name-3
returns-then-name-3 c = name-second _ _ c.if-name-3.true
    c.store_second.ensures

pub returns-then-name-4 : goal.returns-then-name-4
returns-then-name-4 c = name-pair _ _ c.if-name-4.true
    c.store_pair.ensures

pub returns : goal.returns
returns c = name-other _ _ (λ e. c.if-name.false e) (λ e. c.if-name-2.false e)
    (λ e. c.if-name-3.false e) (λ e. c.if-name-4.false e)
