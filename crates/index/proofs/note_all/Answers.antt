use Prim.Native.Nat.{◌-◌}
use mathlib.Core.Path.{◌≡◌, refl, ◌∙◌}
use native.Mathlib.Omega.{arith}
use Rattle.state.specs.StartLaws.{octets-known}
use Rattle.index.specs.InPlaceLaws.{noting-none, noting-more, noting-done, table-long, pairs-long}
use Rattle.index.proofs.note_all.Goals as goal

pub loop-i-init : goal.loop-i-init
loop-i-init c = (omega arith, omega arith, noting-none c.args.s.now _ c.requires.0 refl c.requires.2)

pub key_at-key-requires : goal.key_at-key-requires
key_at-key-requires c = let l = c.loop-i in (pairs-long l.s l.invariant.2.long, omega arith)

pub note_marked-k-requires : goal.note_marked-k-requires
note_marked-k-requires c = let l = c.loop-i in
    (table-long l.s l.invariant.2.long, l.invariant.2.marked, omega arith, omega arith)

pub loop-i-smaller : goal.loop-i-smaller
loop-i-smaller c = omega arith

pub loop-i-preserved : goal.loop-i-preserved
loop-i-preserved c = let l = c.loop-i in
    let f = c.note_marked-k in
    let key = c.key_at-key in (
      omega arith,
      omega (arith, f.ensures.0),
      noting-more c.args.s.now l.s l.seen l.i l.k c.requires.0
          (octets-known c.args.s.now (λ i. omega (
            arith,
            c.slice_known-1.given i,
          ))) (omega arith) l.invariant.2 key.result key.ensures f.result f.new.table f.new.seen _
          (f.auto.table ∙ table-long l.s l.invariant.2.long) f.auto.seen f.ensures.1 refl,
    )

pub returns : goal.returns
returns c = let l = c.loop-i in
    let e : l.i ≡ c.args.n = omega arith in
    (omega arith, noting-done c.args.n l.i l.k c.args.s.now l.s l.seen e l.invariant.2)
