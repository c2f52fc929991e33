use Rattle.std.proofs.Common.{◌+◌, sym, ap, ◌∙◌}
use Rattle.laws.specs.Loops.{some as some_of}
use Rattle.twin.specs.Seen.{Marked, list_of, pair_in}
use Rattle.twin.specs.StartsLaws.{all_get_d, some-hit, some-miss, some_end}
use Rattle.twin.proofs.turns.holds.Goals as goal

pub loop-b-init : goal.loop-b-init
loop-b-init c = ap (some_of (pair_in c.args.t.now c.args.i c.args.h)) c.list-b-items.ensures

pub is_pair-requires : goal.is_pair-requires
is_pair-requires c = (
  c.requires.0,
  rw c.list-b-items.ensures
      (all_get_d (Marked c.args.t.now (c.args.i + 1)) (list_of c.args.seen) c.loop-b.b-index _ c.requires.2
      (rw c.list-b-items.ensures at c.loop-b-test.true)),
)

pub returns-then-is_pair : goal.returns-then-is_pair
returns-then-is_pair c = sym (some-hit (pair_in c.args.t.now c.args.i c.args.h) c.list-b-items.result.now c.loop-b.b-index
    c.loop-b-test.true c.is_pair.ensures c.if-is_pair.true) ∙ c.loop-b.invariant

pub loop-b-preserved : goal.loop-b-preserved
loop-b-preserved c = sym (some-miss (pair_in c.args.t.now c.args.i c.args.h) c.list-b-items.result.now c.loop-b.b-index
    c.loop-b-test.true c.is_pair.ensures c.if-is_pair.false) ∙ c.loop-b.invariant

pub returns : goal.returns
returns c = sym (some_end (pair_in c.args.t.now c.args.i c.args.h) c.list-b-items.result.now c.loop-b.b-index
    c.loop-b-test.false) ∙ c.loop-b.invariant
