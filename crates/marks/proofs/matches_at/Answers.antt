use Rattle.marks.proofs.FieldsLaws.{clamped, scan-is}
use Prim.Native.Nat.{ℕ, ◌+◌, ◌-◌, ◌*◌}
use mathlib.Core.List.{List}
use mathlib.Core.Path.{◌≡◌, refl, ap, ◌∙◌}
use native.Mathlib.Omega.{arith}
use lib.ListN.{length, take, drop, get_or}
use Rattle.marks.proofs.MonitorsLaws.{match-asked}
use Rattle.model.specs.Layout.{monitor_size, monitors_at}
use Rattle.marks.proofs.matches_at.Goals as goal

pub returns : goal.returns
returns c = let a = c.args in
    let s : List ℕ = a.s.now in
    let l : List ℕ = a.payload.now in
    let m = c.at_most in
    let w = c.wide-end in
    let k : monitors_at + monitor_size * a.h + 7 + m.result -
    (monitors_at + monitor_size * a.h + 7) ≡ m.result = omega arith in
    let j : 9 + w.result - 9 ≡ get_or l 8 0 = omega (arith, w.ensures.0) in
    match-asked s a.h l m.result (clamped m.ensures)
    (ap (λ (i : ℕ). take i (drop (monitors_at + monitor_size * a.h + 7) s)) k) refl
    (ap (λ (i : ℕ). take i (drop 9 l)) j)
    (ap (λ (i : ℕ). take (length l - 1 - i) (drop i l)) c.requires.3 ∙ scan-is l c.requires.2.2)
    c.match_packet.ensures
