use native.Mathlib.Omega.{arith}
use mathlib.Core.Path.{refl, sym, ◌∙◌}
use Rattle.index.specs.SlotsLaws.{slot_small, slot-none, slot-first, slotted-old, slotted-new}
use Rattle.index.proofs.walk.place_by.Goals as goal

pub returns-then-slot-eq0 : goal.returns-then-slot-eq0
returns-then-slot-eq0 c = (
  omega arith,
  slot-none c.args.table.now c.args.slots.now c.args.k c.args.dev
      (omega arith) c.requires.3 _ _ c.mark_of-m.ensures.0 c.wide-slot.ensures.0
      c.if-slot-eq0.true,
  λ h. absurd (omega arith),
  λ e f. slotted-new c.args.table.now c.args.slots.now
      c.args.k c.args.dev (omega arith) c.requires.3 _ _ c.mark_of-m.ensures.0
      c.wide-slot.ensures.0 f c.requires.1 c.if-slot-eq0.true refl,
)

pub device_at-requires : goal.device_at-requires
device_at-requires c = let s = slot_small c.args.table.now c.args.slots.now c.args.k c.args.dev (omega arith)
    c.requires.3 _ _ c.mark_of-m.ensures.0 c.wide-slot.ensures.0 in
    (c.requires.0, omega arith)

pub returns-then-device_at-dev : goal.returns-then-device_at-dev
returns-then-device_at-dev c = let s = slot_small c.args.table.now c.args.slots.now c.args.k c.args.dev (omega arith)
    c.requires.3 _ _ c.mark_of-m.ensures.0 c.wide-slot.ensures.0 in (
      omega arith,
      slot-first c.args.table.now
          c.args.slots.now c.args.k c.args.dev (omega arith) c.requires.3 _ _
          c.mark_of-m.ensures.0 c.wide-slot.ensures.0
          c.if-slot-eq0.false refl (sym c.device_at.ensures ∙ c.if-device_at-dev.true),
      λ h. c.requires.3,
      λ e f.
          slotted-old c.args.table.now c.args.slots.now c.args.k c.args.dev (omega arith)
          c.requires.3 _ _
          c.mark_of-m.ensures.0 c.wide-slot.ensures.0 f c.if-slot-eq0.false,
    )

pub returns : goal.returns
returns c = (
  c.place.ensures.0,
  c.place.ensures.1,
  λ h. c.requires.3,
  λ e f. slotted-old c.args.table.now
      c.args.slots.now c.args.k c.args.dev (omega arith) c.requires.3 _ _
      c.mark_of-m.ensures.0 c.wide-slot.ensures.0 f c.if-slot-eq0.false,
)
