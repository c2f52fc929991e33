use Prim.Native.Nat.{ℕ, ◌+◌, ◌-◌, ◌*◌}
use mathlib.Core.List.{List}
use mathlib.Core.Path.{◌≡◌, refl, ap}
use native.Mathlib.Omega.{arith}
use lib.ListN.{take, drop}
use Rattle.marks.proofs.FieldsLaws.{clamped}
use Rattle.marks.proofs.KeyedLaws.{key-asked}
use Rattle.model.specs.Layout.{monitor_size, monitors_at}
use Rattle.marks.proofs.keys.resolved_at.Goals as goal

pub returns : goal.returns
returns c = let a = c.args in
    let p = c.requires in
    let s : List ℕ = a.s.now in
    let m = c.at_most in
    let k : monitors_at + monitor_size * a.h + 7 + m.result -
    (monitors_at + monitor_size * a.h + 7) ≡ m.result = omega arith in
    key-asked s a.h a.payload.now m.result p.4 p.3 (clamped m.ensures)
    (ap (λ (i : ℕ). take i (drop (monitors_at + monitor_size * a.h + 7) s)) k) refl c.resolves.ensures
