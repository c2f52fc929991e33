use Prim.Native.Nat.{ℕ, ◌-◌}
use mathlib.Core.Path.{◌≡◌, sym, ap}
use native.Mathlib.Omega.{arith}
use Rattle.words.specs.SaysLaws.{same, nothing, then}
use Rattle.words.specs.Pieces.{number_text}
use Rattle.words.specs.PiecesLaws.{number-turn}
use lib.ListN.{drop}
use lib.Seq.{drop-length}
use Rattle.words.proofs.number.Goals as goal

pub loop-i-init : goal.loop-i-init
unfolding number_text
loop-i-init c = same (sym (ap number_text (drop-length c.args.s.now))) (nothing _ _)

pub loop-i-preserved : goal.loop-i-preserved
loop-i-preserved c = number-turn
    c.args.s.now (c.loop-i.i - 1) c.loop-i.i (omega arith)
    (omega arith) c.loop-i.invariant c.pair-end.ensures

pub returns : goal.returns
returns c = let e : c.loop-i.i ≡ 0 = omega arith in
    then c.put-end.ensures
    (same (ap (λ (j : ℕ). number_text (drop j c.args.s.now)) e) c.loop-i.invariant)
