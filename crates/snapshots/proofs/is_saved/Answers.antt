use native.Mathlib.Omega.{arith}
use mathlib.Core.Path.{refl}
use Prim.Native.Nat.{◌-◌}
use lib.ListN.{length, length-take}
use Rattle.snapshots.specs.SavedLaws.{other_text, same_text}
use Rattle.snapshots.proofs.is_saved.Goals as goal

pub slice_bounds-past_head-end : goal.slice_bounds-past_head-end
slice_bounds-past_head-end c = simp length-take (omega arith)

pub returns-then-text-b : goal.returns-then-text-b
returns-then-text-b c = other_text c.args.s.now c.args.text.now c.requires.0 c.requires.1 c.past_head-a.ensures
    c.past_lines-b.ensures c.if-text-b.true

pub slice_bounds-is_rest-end : goal.slice_bounds-is_rest-end
slice_bounds-is_rest-end c = simp length-take (omega arith)

pub returns : goal.returns
returns c = same_text c.args.s.now c.args.text.now c.requires.0 c.requires.1 c.past_head-a.ensures
    c.past_lines-b.ensures (omega arith)
    (length c.args.text.now - c.past_lines-b.result) refl c.is_rest.ensures
