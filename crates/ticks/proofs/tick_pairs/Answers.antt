use lib.ListN.{length}
use mathlib.Core.Path.{◌≡◌}
use Rattle.ticks.specs.TableLaws.{passed-cleared}
use native.Mathlib.Omega.{arith}
use Rattle.ticks.proofs.tick_pairs.Goals as goal

pub returns : goal.returns
returns c = let a = c.args in
    let e = c.tick_rows-turn.ensures in
    let k : length c.tick_rows-turn.new.t ≡ length a.t.now = c.tick_rows-turn.auto.t in
    passed-cleared a.t.now a.out.now _ _ a.n e.0 e.1 (omega arith) e.2
    c.fill.ensures.0 c.fill.ensures.1
