use native.Mathlib.Omega.{arith}
use lib.ListN.{length, get_or}
use Prim.Native.Nat.{ℕ, ◌+◌, ◌/◌, ◌≤◌}
use mathlib.Core.List.{List}
use mathlib.Core.Path.{refl, ap, ◌∙◌}
use Rattle.octets.specs.NumbersLaws.{number-of}
use Rattle.model.specs.Level.{level}
use Rattle.model.specs.Frames.{packet_of}
use Rattle.sessions.specs.Machine.{last_number}
use Rattle.marks.proofs.FieldsLaws.{clamped, marked-of}
use Rattle.packets.specs.Starts.{Holding}
use Rattle.packets.specs.WholeLaws.{packet-rssi}
use Rattle.counts.specs.GivenLaws.{begun}
use Rattle.counts.specs.Turns.{room-first}
use Rattle.counts.proofs.packet.gains_of.Goals as goal

pub turn_all-requires : goal.turn_all-requires
turn_all-requires c = (
  c.requires.0,
  c.at_most-n.ensures.1,
  c.mark_all.auto.acts,
  omega arith,
  c.requires.1,
)

pub returns : goal.returns
unfolding last_number
returns c = let a = c.args in
    λ m e b h k.
    let s : List ℕ = a.s.now in
    let l : List ℕ = a.payload.now in
    let p = packet_of l in
    let acts : List ℕ = c.mark_all.new.acts in
    let dev : ℕ = c.get64-dev.result / 256 in
    let n : ℕ = c.at_most-n.result in
    let f : 10 + get_or l 8 0 ≤ length l = c.requires.1.0 in
    let x = begun m s l acts dev n e b (λ i. omega (
      arith,
      c.shared_slice_known-2-1.given i,
    )) k (marked-of _ s l refl c.requires.0 c.requires.1 c.mark_all.ensures)
    (ap (λ (x : ℕ). x / 256) (number-of 8 l 0 c.get64-dev.ensures
    (omega arith))) (clamped c.at_most-n.ensures) in
    let w : Holding m s n = x.0 in
    c.turn_all.ensures m w x.1 (room-first m p w.count
    (c.count_weak-weak.ensures.1 m p w x.1
    (c.level_of-least.ensures ∙ ap level (packet-rssi l))))
