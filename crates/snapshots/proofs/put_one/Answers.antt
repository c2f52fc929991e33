use native.Mathlib.Omega.{arith}
use Prim.Native.Nat.{◌+◌, ◌-◌}
use mathlib.Core.Path.{refl, sym}
use lib.ListN.{take}
use lib.Seq.{length-take-le}
use Rattle.snapshots.specs.Saved.{place_of, length_at}
use Rattle.snapshots.specs.SavedLaws.{line_row_lem, line-put}
use Rattle.snapshots.proofs.put_one.Goals as goal

pub slice_bounds-put_text-end : goal.slice_bounds-put_text-end
unfolding length_at
slice_bounds-put_text-end c = let k = c.at_most-k.ensures.1 in
    let w = line_row_lem c.args.s.now _ c.args.i c.at_most-k.result c.requires.0 c.requires.1
    c.at_most-k.ensures.0 refl
    (place_of c.args.i + 5 + c.at_most-k.result - place_of c.args.i) (omega arith)
    c.copy.ensures.0 c.copy.ensures.1 in
    sym (length-take-le (6 + c.at_most-k.result) c.copy.new.out (let z = w.1 in omega arith))

pub returns : goal.returns
unfolding length_at
returns c = let k = c.at_most-k.ensures.1 in
    let w = line_row_lem c.args.s.now _ c.args.i c.at_most-k.result c.requires.0 c.requires.1
    c.at_most-k.ensures.0 refl
    (place_of c.args.i + 5 + c.at_most-k.result - place_of c.args.i) (omega arith)
    c.copy.ensures.0 c.copy.ensures.1 in
    line-put c.args.s.now c.args.out.now c.args.i c.args.at c.at_most-k.result
    (take (6 + c.at_most-k.result) c.copy.new.out) c.at_most-k.ensures.0 w.0
    (length-take-le (6 + c.at_most-k.result) c.copy.new.out (let z = w.1 in omega arith))
    (omega arith) c.put_text.ensures.0 c.put_text.ensures.1
