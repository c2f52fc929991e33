use Rattle.std.proofs.Common.{sym, ◌∙◌}
use Rattle.marks.proofs.FieldsLaws.{framed-facts}
use Rattle.packets.specs.AlikeLaws.{no_block, no_row, no-frame, reason-at}
use Rattle.packets.proofs.reasons.is_reason.Goals as goal

pub returns-then-s-ne-SIZE : goal.returns-then-s-ne-SIZE
returns-then-s-ne-SIZE c = let a = c.args in
    no_block a.s.now a.i a.payload.now a.a c.if-s-ne-SIZE.true

pub returns-then-i-ge-PAIRS : goal.returns-then-i-ge-PAIRS
returns-then-i-ge-PAIRS c = let a = c.args in
    no_row a.s.now a.i a.payload.now a.a c.if-i-ge-PAIRS.true

pub returns-then-not-is_framed : goal.returns-then-not-is_framed
returns-then-not-is_framed c = let a = c.args in
    no-frame a.s.now a.i a.payload.now a.a
    (sym c.is_framed.ensures ∙ c.if-not-is_framed.true)

pub is_reason_in-requires : goal.is_reason_in-requires
is_reason_in-requires c = (
  c.if-s-ne-SIZE.false,
  c.if-i-ge-PAIRS.false,
  framed-facts c.args.payload.now
      (sym c.is_framed.ensures ∙ c.if-not-is_framed.false),
)

pub returns : goal.returns
returns c = let a = c.args in
    c.is_reason_in.ensures ∙ reason-at a.s.now a.i a.payload.now a.a c.if-s-ne-SIZE.false
    c.if-i-ge-PAIRS.false (sym c.is_framed.ensures ∙ c.if-not-is_framed.false)
