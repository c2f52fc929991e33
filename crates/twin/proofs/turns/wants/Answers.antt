use Rattle.twin.specs.MarksLaws.{packet-framed-at, wants-none, wants-weak, wants-asked}
use Rattle.twin.specs.FiltersLaws.{added-adds, added-long}
use Rattle.std.proofs.Common.{arith}
use Rattle.twin.proofs.turns.wants.Goals as goal

pub is_match-requires : goal.is_match-requires
is_match-requires c = (
  added-adds _ _ _ c.requires.1 c.params_of-params.ensures,
  packet-framed-at _ _ _
      c.requires.0 c.payload_at.ensures,
)

pub returns-then-not-is_match : goal.returns-then-not-is_match
returns-then-not-is_match c = wants-none _ _ _ _ c.args.seen
    c.params_of-params.ensures c.payload_at.ensures
    c.is_match.ensures (c.if-not-is_match.true)

pub bounds-params-1 : goal.bounds-params-1
bounds-params-1 c = let n = added-long _ _ _ c.requires.1 c.params_of-params.ensures in
    omega (arith, n)

pub returns-then-level_of : goal.returns-then-level_of
returns-then-level_of c = wants-weak _ _ _ _ c.args.seen c.params_of-params.ensures
    c.payload_at.ensures c.is_match.ensures (c.if-not-is_match.false) _ _ _
    c.rssi_at.ensures c.level_of.ensures c.level_of-2.ensures
    c.if-level_of.true

pub returns : goal.returns
returns c = wants-asked _ _ _ _ c.args.seen c.params_of-params.ensures
    c.payload_at.ensures c.is_match.ensures (c.if-not-is_match.false) _ _ _
    c.rssi_at.ensures c.level_of.ensures c.level_of-2.ensures
    c.if-level_of.false c.holds.ensures
