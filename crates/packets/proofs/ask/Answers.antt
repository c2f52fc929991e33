use Rattle.std.proofs.Common.{false, sym, refl, ◌∙◌}
use Rattle.model.specs.Frames.{packet_of}
use Rattle.marks.proofs.AskedLaws.{held_of, none-asked}
use Rattle.packets.proofs.ask.Goals as goal

pub returns-then-zeros : goal.returns-then-zeros
unfolding packet_of
returns-then-zeros c = let a = c.args in
    let pre = c.requires in
    let m = c.may_start-may in
    record {
      may = false;
      shut = λ e. m.ensures (c.if-not-may.true);
      octets = pre.0 ∙ none-asked a.held.now a.s.now (packet_of a.payload.now) pre.3
          (sym c.zeros.ensures ∙ c.if-zeros.true);
    }

pub returns : goal.returns
unfolding packet_of
returns c = let a = c.args in
    let pre = c.requires in
    let m = c.may_start-may in
    record {
      may = m.result;
      shut = m.ensures;
      octets = held_of m.result a.held.now a.acts.now a.s.now a.payload.now pre.3
          (rw pre.0 refl) pre.1 pre.2 c.mark_held.ensures;
    }
