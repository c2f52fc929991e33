use mathlib.Core.Path.{sym, ap, ◌∙◌}
use Rattle.reports.specs.Texts.{addition_by, stop_text}
use Rattle.reports.specs.FitsLaws.{stop-whole}
use Rattle.reports.proofs.addition.Goals as goal

pub returns-in-Ok : goal.returns-in-Ok
unfolding addition_by
returns-in-Ok c = c.blank.ensures
    ∙ sym (ap (λ m. addition_by m c.args.lines) c.in-Ok.is)

pub returns-in-Err : goal.returns-in-Err
unfolding addition_by
returns-in-Err c = let a = c.args in
    stop-whole a.lines c.from.result 0 0 c.stopped.ensures
    ∙ ap (λ n. stop_text a.lines n 0 0) c.from.ensures
    ∙ sym (ap (λ m. addition_by m a.lines) c.in-Err.is)
