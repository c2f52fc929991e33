use Rattle.std.proofs.Common.{◌≡◌, ℕ, ◌+◌, ◌≤◌, List, length, drop, sym, ap, ◌∙◌, arith}
use Rattle.model.specs.Layout.{event_most}
use Rattle.steps.specs.SteppedLaws.{rest-further}
use Rattle.packets.specs.StartsLaws.{start-full}
use Rattle.packets.proofs.starts.start_full.Goals as goal

pub returns : goal.returns
returns c = let a = c.args in
    let out : List ℕ = a.out.now in
    let o : List ℕ = c.put_event-stop.new.out in
    let u : List ℕ = c.put_event-start.new.out in
    let l : length o ≡ length out = c.put_event-stop.auto.out in
    let stop : ℕ = c.put_event-stop.result in
    let start : ℕ = c.put_event-start.result in
    let e : a.at + stop + start ≡ a.at + (stop + start) = omega arith in
    let b1 : stop ≤ event_most = c.put_event-stop.ensures.0 in
    let b2 : start ≤ event_most = c.put_event-start.ensures.0 in (
      omega arith,
      ap (λ (k : ℕ). drop k u) (sym e) ∙ c.put_event-start.ensures.1 (omega arith)
          ∙ rest-further o out (a.at + stop) (a.at + stop + start) (omega arith)
          (c.put_event-stop.ensures.1 (omega arith)) ∙ ap (λ (k : ℕ). drop k out) e,
      λ m p n x y w q f i b.
          start-full m a.s.now n p x y a.key a.rssi w q a.i f i (rw (← q.rssi) b) (omega arith)
          (λ v. c.put_event-stop.ensures.2 m v (omega arith)) c.replace_row.ensures
          (λ g v. c.put_event-start.ensures.2 g v (omega arith)),
    )
