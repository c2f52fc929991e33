use Rattle.std.proofs.Common.{◌≡◌, ℕ, ◌+◌, ◌/◌, ◌≤◌, List, length, get_or, ap, ◌∙◌, arith}
use Rattle.octets.specs.NumbersLaws.{number-of}
use Rattle.model.specs.Types.{Packet}
use Rattle.model.specs.Frames.{packet_of}
use Rattle.sessions.specs.Machine.{last_number}
use Rattle.marks.proofs.FieldsLaws.{clamped}
use Rattle.packets.specs.Device.{Sender}
use Rattle.packets.specs.Starts.{Holding}
use Rattle.packets.specs.Whole.{Begun, after_moves}
use Rattle.packets.specs.WholeLaws.{begun, block-holding, packet-sender, moves-holding, moves-settled, starts-holding, turns-wrote, turns-told, packet-stepped, answer-within}
use Rattle.packets.proofs.step.Goals as goal

pub move_rows-reason-requires : goal.move_rows-reason-requires
move_rows-reason-requires c = let p = c.requires in (
  p.0,
  c.end_of-to.ensures.0,
  omega (
    arith,
    c.end_of-to.ensures.1,
    c.at_most-n.ensures.1,
  ),
  c.ask.auto.acts,
  p.2,
)

pub start_all-turn-requires : goal.start_all-turn-requires
start_all-turn-requires c = let p = c.requires in (
  c.move_rows-reason.auto.s
      ∙ p.0,
  c.at_most-n.ensures.1,
  c.ask.auto.acts,
  c.held_in-held.ensures.0,
  omega arith,
  p.1,
  p.2,
)

pub is_told-told-requires : goal.is_told-told-requires
is_told-told-requires c = c.start_all-turn.auto.s ∙ c.move_rows-reason.auto.s ∙ c.requires.0

pub put_told-r-requires : goal.put_told-r-requires
put_told-r-requires c = let p = c.requires in
    let a = c.args in
    let k : length c.start_all-turn.new.out ≡ length
    a.out.now = c.start_all-turn.auto.out in
    (omega (arith, c.start_all-turn.ensures.1, p.1), p.2)

pub returns : goal.returns
unfolding last_number
returns c = let a = c.args in
    let pre = c.requires in
    let s : List ℕ = a.s.now in
    let l : List ℕ = a.payload.now in
    let p : Packet = packet_of l in
    let acts : List ℕ = c.ask.new.acts in
    let held : List ℕ = c.held_in-held.result in
    let dev : ℕ = c.get64-dev.result / 256 in
    let n : ℕ = c.at_most-n.result in
    let from : ℕ = c.first_of-from.result in
    let to : ℕ = c.end_of-to.result in
    let f : 10 + get_or l 8 0 ≤ length l = pre.2.0 in
    let z = c.start_all-turn in (
      answer-within a.out.now _
          (omega (
            arith,
            z.ensures.1,
            c.put_told-r.ensures.0,
            pre.1,
          )) z.auto.out z.ensures.2 c.put_told-r.ensures.1,
      λ k m e b h.
          let w : Holding m s n = block-holding m s n e b (clamped c.at_most-n.ensures) in
          let t : Sender p dev = packet-sender l dev (λ i. omega (
            arith,
            c.shared_slice_known-1.given i,
          )) k (ap (λ (x : ℕ). x / 256) (number-of 8 l 0 c.get64-dev.ensures (omega arith))) in
          let none = c.first_of-from.ensures.1 m p w t in
          let over = c.end_of-to.ensures.2 m p w t in
          let most : to ≤ n = c.end_of-to.ensures.1 in
          let flags = c.held_in-held.ensures.1 m p n w t most none in
          let marks = c.ask.ensures in
          let g : Begun m s l acts held dev n = begun m s l acts held dev n to e h w t marks most over flags in
          let v = c.move_rows-reason.ensures m
          held n g (record { most = omega (arith, w.count); below = none; behind = over }) in
          let hm = moves-holding m s l acts held dev n g v.1 in
          let x = z.ensures.3 (after_moves m p) hm (moves-settled m s l acts held dev n g) in
          let hs = starts-holding m s l acts held dev n g x in
          packet-stepped m s l acts held dev n g hs (c.is_told-told.ensures m p _ hs
          v.0 (turns-told m s l acts held dev n g x)) (turns-wrote m s l acts held dev n g x)
          c.put_told-r.ensures.1 c.advance.ensures,
    )
