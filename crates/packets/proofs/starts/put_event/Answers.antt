use Rattle.marks.proofs.FieldsLaws.{clamped}
use Rattle.std.proofs.Common.{◌≡◌, ℕ, ◌+◌, ◌-◌, ◌*◌, ◌≤◌, List, length, take, drop, ap, arith, length-drop, length-take}
use Rattle.packets.specs.AnswersTurns.{event-most, event-rest, event-wrote}
use Rattle.model.specs.Layout.{most_prefix, pair_size, pairs_at, prefix_at}
use Rattle.packets.proofs.starts.put_event.Goals as goal

pub returns : goal.returns
returns c = let a = c.args in
    let s : List ℕ = a.s.now in
    let n : ℕ = c.at_most-end.result in
    let e : 8 + n - 8 ≡ n = omega arith in
    let f : pairs_at + pair_size * a.i + 8 - (pairs_at + pair_size * a.i) ≡ 8 = omega arith in
    let b : n ≤ most_prefix = c.at_most-end.ensures.1 in
    let pre : List ℕ = take (8 + n - 8) (drop prefix_at s) in
    let r8 : List ℕ = take (pairs_at + pair_size * a.i + 8 - (pairs_at + pair_size * a.i))
    (drop (pairs_at + pair_size * a.i) s) in
    let lp : length pre ≤ most_prefix = simp (length-take, length-drop) (omega arith) in
    let lr : 8 ≤ length r8 = simp (length-take, length-drop) (omega arith) in (
      event-most a.out.now a.at pre r8 a.state lp lr c.put_event.ensures.0,
      λ h. event-rest a.out.now a.at pre r8 a.state h c.put_event.ensures,
      λ m w h.
          event-wrote m s a.i w a.state a.out.now a.at n
          (clamped c.at_most-end.ensures) h (omega arith) (omega arith)
          (ap (λ (k : ℕ). take k (drop prefix_at s)) e) (ap (λ (k : ℕ). take k (drop (pairs_at + pair_size * a.i) s)) f)
          c.put_event.ensures,
    )
