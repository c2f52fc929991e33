use Prim.Native.Nat.{ℕ, ◌+◌, ◌-◌, ◌*◌}
use mathlib.Core.Path.{◌≡◌, refl, ap}
use native.Mathlib.Omega.{arith}
use lib.ListN.{take, drop}
use Rattle.marks.proofs.OptionsLaws.{peer-off, peer-other, peer-asked}
use Rattle.model.specs.Layout.{address_size, extra_at, monitor_size, monitors_at, peer_in, peer_type_in}
use Rattle.marks.proofs.options.is_peer_at.Goals as goal

pub returns-then-s-at-ne1 : goal.returns-then-s-at-ne1
returns-then-s-at-ne1 c = let a = c.args in
    peer-off a.s.now a.h a.payload.now c.if-s-at-ne1.true

pub returns-then-s-at : goal.returns-then-s-at
returns-then-s-at c = let a = c.args in
    peer-other a.s.now a.h a.payload.now c.if-s-at.true

pub returns : goal.returns
returns c = let a = c.args in
    let k : monitors_at + monitor_size * a.h + (extra_at + peer_type_in) -
    (monitors_at + monitor_size * a.h + (extra_at + peer_in)) ≡ address_size = omega arith in
    peer-asked a.s.now a.h a.payload.now c.if-s-at-ne1.false c.if-s-at.false
    (ap (λ (i : ℕ). take i (drop (monitors_at + monitor_size * a.h + (extra_at + peer_in)) a.s.now)) k) refl
    c.same.ensures
