use mathlib.Core.Path.{◌≡◌, ap}
use native.Mathlib.Omega.{arith}
use Rattle.words.specs.SaysLaws.{same, nothing, then}
use Rattle.words.specs.PiecesLaws.{hex-turn}
use lib.ListN.{take}
use lib.Seq.{take_all}
use Rattle.lines.specs.Hex.{hex_of}
use Rattle.words.proofs.hex.Goals as goal

pub loop-x-init : goal.loop-x-init
unfolding hex_of
loop-x-init c = nothing _ _

pub loop-x-preserved : goal.loop-x-preserved
loop-x-preserved c =
    hex-turn
    c.args.s.now c.loop-x.x-index (omega arith) c.loop-x.invariant c.pair-end.ensures

pub returns : goal.returns
returns c = let e : take c.loop-x.x-index c.args.s.now ≡ c.args.s.now = take_all c.loop-x.x-index
    c.args.s.now (omega arith) in
    then c.put-end.ensures (same (ap hex_of e) c.loop-x.invariant)
