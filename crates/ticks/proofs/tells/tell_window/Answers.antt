use mathlib.Core.Bool.{true}
use Rattle.ticks.specs.WrittenLaws.{says, appended-none, appended-some}
use mathlib.Core.Path.{◌∙◌, sym}
use native.Mathlib.Omega.{arith}
use Rattle.ticks.proofs.tells.tell_window.Goals as goal

pub put_window-requires : goal.put_window-requires
put_window-requires c = let a = c.args in
    let f = says true a.period a.filters.now a.r.now
    (sym c.says.ensures ∙ c.if-says.true) in
    (omega arith, f.packets, f.short, omega arith)

pub returns-then-says : goal.returns-then-says
returns-then-says c = appended-some _ _ _ _
    (sym c.says.ensures ∙ c.if-says.true)
    c.put_window.ensures

pub returns : goal.returns
returns c = appended-none _ _ _ _ (sym c.says.ensures ∙ c.if-says.false)
