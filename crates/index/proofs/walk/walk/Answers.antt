use native.Mathlib.Omega.{arith}
use Prim.Native.Nat.{◌-◌}
use mathlib.Core.Path.{◌≡◌, refl, sym, ◌∙◌, subst}
use mathlib.Core.Bool.{true}
use Rattle.std.specs.Prelude.{Some}
use Rattle.state.specs.StartLaws.{octets-known}
use Rattle.index.specs.Seen.{marks}
use Rattle.index.specs.Compared.{Walks, pairs_of}
use Rattle.index.specs.ComparedLaws.{walk_none, walk-stops, walk-goes, walked-few}
use Rattle.index.proofs.walk.walk.Goals as goal

pub loop-i-init : goal.loop-i-init
loop-i-init c = let g = walk_none c.args.pairs.now c.args.table.now c.args.masks.now _ marks refl in
    (omega arith, c.requires.2, refl, g.0, g.1)

pub key_at-key-requires : goal.key_at-key-requires
key_at-key-requires c = (c.requires.1, omega arith)

pub slice_bounds-note_once-end : goal.slice_bounds-note_once-end
slice_bounds-note_once-end c = sym c.loop-i.invariant.2

pub note_once-requires : goal.note_once-requires
note_once-requires c = let l = c.loop-i in
    let w = walked-few c.args.pairs.now l.i (omega arith) l.k c.args.table.now l.masks l.slots
    l.invariant.3 in
    (c.requires.0, l.invariant.1, l.invariant.2, omega arith, l.invariant.3.slotted)

pub returns-in_err-k : goal.returns-in_err-k
returns-in_err-k c = let l = c.loop-i in
    let f = c.note_once in
    rw c.from_residual.ensures (walk-stops c.args.pairs.now c.requires.1
    (octets-known c.args.pairs.now (λ i. omega (
      arith,
      c.shared_slice_known-2-1.given i,
    ))) c.args.n c.requires.3 l.i (omega arith) c.args.table.now l.k l.masks l.slots
    l.invariant.3 l.invariant.4 c.key_at-key.result
    c.key_at-key.ensures f.result f.new.masks f.new.slots f.ensures c.in_err-k.was)

pub loop-i-smaller : goal.loop-i-smaller
loop-i-smaller c = omega arith

pub loop-i-preserved : goal.loop-i-preserved
loop-i-preserved c = let l = c.loop-i in
    let f = c.note_once in
    let g = walk-goes c.args.pairs.now c.requires.1
    (octets-known c.args.pairs.now (λ i. omega (
      arith,
      c.shared_slice_known-2-1.given i,
    ))) c.args.n c.requires.3 l.i (omega arith) c.args.table.now l.k l.masks l.slots
    l.invariant.3 l.invariant.4 c.key_at-key.result c.key_at-key.ensures f.result
    f.new.masks f.new.slots f.ensures _ c.in_ok-k.was in
    (omega arith, f.auto.masks ∙ l.invariant.1, f.auto.slots ∙ l.invariant.2, g.0, g.1)

pub returns : goal.returns
returns c = let l = c.loop-i in
    let e : l.i ≡ c.args.n = omega arith in
    subst (λ j. Walks (pairs_of j c.args.pairs.now) c.args.table.now l.masks (Some l.k)) e
    (l.invariant.3.tally, l.invariant.4)
