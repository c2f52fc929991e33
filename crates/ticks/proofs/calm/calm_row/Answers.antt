use Prim.Native.Nat.{ℕ, ◌+◌}
use mathlib.Core.Bool.{false≢true}
use mathlib.Core.Path.{◌≡◌, refl, sym, ap, ◌∙◌}
use native.Mathlib.Omega.{arith}
use lib.ListN.{get_or}
use Rattle.model.specs.Layout.{since_good_at, ticks_at}
use Rattle.octets.specs.Little.{little}
use Rattle.octets.specs.NumbersLaws.{number-of}
use Rattle.ticks.specs.Row.{closes_at, ticked_row, period_in}
use Rattle.ticks.specs.CalmLaws.{calm-on}
use Rattle.ticks.proofs.calm.calm_row.Goals as goal

pub returns-then-handle-ge-MONITORS : goal.returns-then-handle-ge-MONITORS
returns-then-handle-ge-MONITORS c = (λ e. refl, λ e. absurd (false≢true e))

pub returns-then-run-silent : goal.returns-then-run-silent
returns-then-run-silent c = (λ e. refl, λ e. absurd (false≢true e))

pub count_up-requires : goal.count_up-requires
count_up-requires c = let a = c.args in
    let p : c.get16.result ≡ little 2 a.r.now since_good_at = number-of 2 a.r.now 8
    c.get16.ensures (omega arith) in (
      omega arith,
      ap (λ (n : ℕ). n + 1) p,
    )

pub returns : goal.returns
unfolding period_in
returns c = let a = c.args in
    let w : c.wide-handle.result ≡ get_or a.r.now 0 0 = c.wide-handle.ensures.0 in
    let u = c.count_up in (
      λ e. u.ensures.0 e,
      λ e. record {
        on = calm-on a.intervals.now a.r.now (omega arith) (ap (λ (n : ℕ). get_or a.intervals.now n 0) w)
            c.ticks-run.ensures c.get16.ensures c.if-run-silent.false;
        still = ap (λ (n : ℕ). closes_at (get_or a.periods.now n 0) (get_or a.r.now ticks_at 0)) (sym w)
            ∙ (u.ensures.1 e).unclosed;
        row = (u.ensures.1 e).ticked ∙ ap (λ (n : ℕ). ticked_row (get_or a.periods.now n 0) a.r.now) w;
      },
    )
