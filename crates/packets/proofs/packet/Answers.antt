use Rattle.std.proofs.Common.{◌≡◌, ℕ, true, List, sym, ◌∙◌}
use Rattle.laws.specs.TestsLaws.{and_both, and-not-left, and-not-right}
use Rattle.model.specs.Frames.{packet, packet_of, has_packet}
use Rattle.model.specs.Block.{ready}
use Rattle.steps.specs.SteppedLaws.{taken_not, taken-on, ready-facts}
use Rattle.marks.proofs.FieldsLaws.{packet-framed}
use Rattle.packets.proofs.packet.Goals as goal

pub returns-then-not-ready : goal.returns-then-not-ready
returns-then-not-ready c = let a = c.args in
    let l : List ℕ = a.payload.now in
    taken_not (packet (packet_of l)) (has_packet l) a.s.now a.out.now
    (and-not-left _ (has_packet l) (sym c.ready.ensures
    ∙ c.if-not-ready.true))

pub returns-then-not-has_packet : goal.returns-then-not-has_packet
returns-then-not-has_packet c = let a = c.args in
    let l : List ℕ = a.payload.now in
    taken_not (packet (packet_of l)) (has_packet l) a.s.now a.out.now
    (and-not-right (ready a.s.now a.out.now) (has_packet l)
    (sym c.has_packet.ensures ∙ c.if-not-has_packet.true))

pub step-requires : goal.step-requires
step-requires c = let a = c.args in
    let l : List ℕ = a.payload.now in
    let f = ready-facts a.s.now a.out.now
    (sym c.ready.ensures ∙ c.if-not-ready.false) in (
      f.0,
      f.1,
      packet-framed l
          (sym c.has_packet.ensures
          ∙ c.if-not-has_packet.false),
    )

pub returns : goal.returns
returns c = let a = c.args in
    let l : List ℕ = a.payload.now in
    let k : has_packet l ≡ true = (sym c.has_packet.ensures
    ∙ c.if-not-has_packet.false) in
    taken-on (packet (packet_of l)) (has_packet l) a.s.now a.out.now
    (and_both (sym c.ready.ensures ∙ c.if-not-ready.false) k)
    (c.step.ensures.1 k) c.step.auto.s c.step.auto.out
    c.step.ensures.0
