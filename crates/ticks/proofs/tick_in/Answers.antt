use Rattle.steps.specs.SteppedLaws.{within-put}
use native.Mathlib.Omega.{arith}
use Rattle.ticks.specs.BlockLaws.{ticked}
use borrow.Rule.Slice.PartMut.{put_mid, same_len_mid}
use lib.ListN.{length-set}
use mathlib.Core.Path.{◌∙◌}
use Rattle.model.specs.Layout.{count_at, pairs_at, pairs_size}
use Rattle.ticks.proofs.tick_in.Goals as goal

pub bounds-s-5224-2 : goal.bounds-s-5224-2
bounds-s-5224-2 c = let a = c.args in
    let l = same_len_mid pairs_at pairs_size a.s.now c.tick_pairs-turn.new.t
    c.tick_pairs-turn.auto.t in
    omega (
      arith,
      l,
      c.requires.0,
    )

pub shape_of-s : goal.shape_of-s
shape_of-s c = let a = c.args in
    c.advance.auto.block
    ∙ length-set (put_mid pairs_at pairs_size a.s.now c.tick_pairs-turn.new.t) count_at
    c.tick_pairs-turn.result.kept
    ∙ same_len_mid pairs_at pairs_size a.s.now c.tick_pairs-turn.new.t
    c.tick_pairs-turn.auto.t

pub returns : goal.returns
returns c = let a = c.args in (
  λ m z q h.
      ticked a.s.now a.out.now m z q h c.head_of-head.ensures
      c.column-intervals.ensures c.column-periods.ensures c.filters_of-filters.ensures
      c.at_most-n.ensures.2 c.at_most-end.ensures.2
      c.tick_pairs-turn.ensures c.advance.ensures,
  within-put a.out.now _
      c.tick_pairs-turn.ensures.octets c.tick_pairs-turn.ensures.count (omega (
        arith,
        c.tick_pairs-turn.ensures.wrote-most,
        c.at_most-n.ensures.1,
        c.requires.1,
      )),
)
