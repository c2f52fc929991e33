use Prim.Native.Nat.{ℕ, ◌+◌, ◌-◌, ◌*◌}
use mathlib.Core.Path.{◌≡◌, refl, ap}
use native.Mathlib.Omega.{arith}
use lib.ListN.{take, drop}
use Rattle.marks.proofs.OptionsLaws.{key-off, key-public, key-asked}
use Rattle.model.specs.Layout.{extra_at, irk_in, irk_size, monitor_size, monitors_at}
use Rattle.marks.proofs.options.is_owner_at.Goals as goal

pub returns-then-s-at-ne1 : goal.returns-then-s-at-ne1
returns-then-s-at-ne1 c = let a = c.args in
    key-off a.s.now a.h a.payload.now c.if-s-at-ne1.true

pub returns-then-payload-ne1 : goal.returns-then-payload-ne1
returns-then-payload-ne1 c = let a = c.args in
    key-public a.s.now a.h a.payload.now c.if-payload-ne1.true

pub returns : goal.returns
returns c = let a = c.args in
    let k : monitors_at + monitor_size * a.h + monitor_size -
    (monitors_at + monitor_size * a.h + (extra_at + irk_in)) ≡ irk_size = omega arith in
    key-asked a.s.now a.h a.payload.now c.if-s-at-ne1.false c.if-payload-ne1.false
    (ap (λ (i : ℕ). take i (drop (monitors_at + monitor_size * a.h + (extra_at + irk_in)) a.s.now)) k) refl
    c.resolves.ensures
