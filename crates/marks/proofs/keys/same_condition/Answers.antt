use Prim.Native.Nat.{ℕ, ◌+◌, ◌-◌, ◌*◌}
use mathlib.Core.List.{List}
use mathlib.Core.Path.{◌≡◌, sym, ap, ◌∙◌}
use native.Mathlib.Omega.{arith}
use lib.ListN.{take, drop}
use Rattle.model.specs.Layout.{monitor_size, monitors_at}
use Rattle.marks.proofs.FieldsLaws.{clamped}
use Rattle.marks.proofs.MonitorsLaws.{alike}
use mathlib.Core.Bool.{false≢true}
use Rattle.marks.proofs.keys.same_condition.Goals as goal

pub returns-then-s-a-eq0 : goal.returns-then-s-a-eq0
returns-then-s-a-eq0 c = λ e. absurd (false≢true e)

pub returns-then-s-a : goal.returns-then-s-a
returns-then-s-a c = λ e. absurd (false≢true e)

pub returns-then-s-a-2 : goal.returns-then-s-a-2
returns-then-s-a-2 c = λ e. absurd (false≢true e)

pub returns : goal.returns
returns c = λ e. let a = c.args in let s : List ℕ = a.s.now in let n : ℕ = c.at_most-n.result in
    let m : ℕ = c.at_most-m.result in
    let x : monitors_at + monitor_size * a.j + 7 + n - (monitors_at + monitor_size * a.j + 7) ≡ n = omega arith in
    let y : monitors_at + monitor_size * a.h + 7 + m -
    (monitors_at + monitor_size * a.h + 7) ≡ m = omega arith in alike s a.j a.h n m c.if-s-a-eq0.false
    c.if-s-a.false (clamped c.at_most-n.ensures) (clamped c.at_most-m.ensures)
    (ap (λ (i : ℕ). take i (drop (monitors_at + monitor_size * a.j + 7) s)) x)
    (ap (λ (i : ℕ). take i (drop (monitors_at + monitor_size * a.h + 7) s)) y) (sym c.same.ensures ∙ e)
