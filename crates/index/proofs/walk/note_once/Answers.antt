use native.Mathlib.Omega.{arith}
use mathlib.Core.Path.{refl, sym, ◌∙◌}
use mathlib.Core.Logic.{inl, inr}
use borrow.Author.Tests.{eq-eqb, ne_eqb}
use Rattle.index.specs.WalkLaws.{strange, bit-new, bit-old, tallied-new, tallied-old}
use Rattle.index.proofs.walk.note_once.Goals as goal

pub returns-then-h-ge-HANDLES : goal.returns-then-h-ge-HANDLES
returns-then-h-ge-HANDLES c = λ es d w s e. inl c.if-h-ge-HANDLES.true

pub returns-then-device_at-dev : goal.returns-then-device_at-dev
returns-then-device_at-dev c = let p = c.place_by-j.ensures in
    λ es d w s e. inr (inr (strange es c.args.k c.args.table.now c.args.masks.now w.tally d _ s c.requires.1
    e p.1 c.if-j-k.true (λ q. c.if-device_at-dev.true (c.device_at.ensures ∙ q))))

pub returns-then-j-k : goal.returns-then-j-k
returns-then-j-k c = let p = c.place_by-j.ensures in
    let t = sym c.device_at.ensures ∙ c.if-device_at-dev.false in
    λ es d w s e. (
      record {
        tally = tallied-new es c.args.k c.args.table.now c.args.masks.now w.tally d _ s
            c.requires.1 e p.1 c.if-j-k.true (omega arith) t c.bit_of-bit.ensures;
        slotted = p.3 c.if-j-k.true t;
      },
      omega arith,
      bit-new es c.args.k c.args.table.now
          c.args.masks.now w.tally d _ s c.requires.1 e p.1 c.if-j-k.true,
    )

pub returns-then-mask-h-eq1 : goal.returns-then-mask-h-eq1
unfolding Rattle.wholes.specs.Watched.has_bit
returns-then-mask-h-eq1 c = let p = c.place_by-j.ensures in
    λ es d w s e. inr (inl (
      omega arith,
      bit-old es c.args.k c.args.table.now c.args.masks.now w.tally d _ s
          c.requires.1 e p.1 (omega arith) ∙ eq-eqb _ 1 c.if-mask-h-eq1.true,
    ))

pub returns : goal.returns
unfolding Rattle.wholes.specs.Watched.has_bit
returns c = let p = c.place_by-j.ensures in
    let b = c.bit_of-bit.ensures in
    λ es d w s e. (
      record {
        tally = tallied-old es c.args.k c.args.table.now c.args.masks.now w.tally d _ s
            c.requires.1 e p.1 (omega arith) b;
        slotted = p.2 (omega arith);
      },
      omega arith,
      bit-old es c.args.k
          c.args.table.now c.args.masks.now w.tally d _ s c.requires.1 e p.1 (omega arith)
          ∙ ne_eqb _ 1 c.if-mask-h-eq1.false,
    )
