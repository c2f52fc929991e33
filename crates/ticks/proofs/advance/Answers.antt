use Rattle.ticks.specs.Row.{windowed_by}
use Rattle.ticks.specs.WrittenLaws.{onward-of, ticked-still, advance-closed, advance-longer, open-below, period-below}
use Rattle.octets.specs.NumbersLaws.{number-of}
use Rattle.octets.specs.Little.{little}
use lib.ListN.{get_or}
use mathlib.Core.Bool.{true}
use mathlib.Core.Path.{◌≡◌, ◌∙◌, sym}
use native.Mathlib.Omega.{arith}
use Rattle.model.specs.Layout.{since_good_at, ticks_at}
use Rattle.ticks.proofs.advance.Goals as goal

pub overflow_add-silent : goal.overflow_add-silent
overflow_add-silent c = let a = c.args in
    let p : c.get16-silent.result ≡ little 2 a.r.now since_good_at = number-of 2 a.r.now 8
    c.get16-silent.ensures (omega arith) in
    omega arith

pub returns-then-not-windowed : goal.returns-then-not-windowed
returns-then-not-windowed c = let a = c.args in
    onward-of a.r.now (omega arith) c.get16-silent.ensures c.put16.ensures.0
    c.put16.ensures.1
    ∙ ticked-still a.period a.r.now (sym c.windowed.ensures ∙ c.if-not-windowed.true)

pub returns-then-closes : goal.returns-then-closes
returns-then-closes c = let a = c.args in
    advance-closed a.period a.r.now (omega arith)
    (onward-of a.r.now (omega arith) c.get16-silent.ensures c.put16.ensures.0
    c.put16.ensures.1) c.empty_window.ensures
    (sym c.windowed.ensures ∙ c.if-not-windowed.false)
    (sym c.closes.ensures ∙ c.if-closes.true)

pub overflow_add-r : goal.overflow_add-r
overflow_add-r c = let a = c.args in
    let w : windowed_by a.period ≡ true = sym c.windowed.ensures
    ∙ c.if-not-windowed.false in
    let h = open-below a.period (get_or a.r.now ticks_at 0) w (sym c.closes.ensures ∙ c.if-closes.false) in
    omega (arith, h, period-below a.period w)

pub returns : goal.returns
returns c = let a = c.args in
    advance-longer a.period a.r.now (omega arith)
    (onward-of a.r.now (omega arith) c.get16-silent.ensures c.put16.ensures.0
    c.put16.ensures.1)
    (sym c.windowed.ensures ∙ c.if-not-windowed.false)
    (sym c.closes.ensures ∙ c.if-closes.false)
