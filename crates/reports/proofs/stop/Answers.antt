use Rattle.reports.specs.Texts.{stop_by, stop_of, found_in, stop_text}
use Rattle.reports.specs.FitsLaws.{stop-whole}
use mathlib.Core.Path.{sym, ap, ◌∙◌}
use Rattle.reports.proofs.stop.Goals as goal

pub returns-in-Read : goal.returns-in-Read
unfolding stop_of stop_by
returns-in-Read c = let a = c.args in
    c.blank.ensures ∙ sym (ap (λ m. stop_by m a.flow.lines a.position (found_in a.text.now))
    c.in-Read.is)

pub returns-in-Again : goal.returns-in-Again
unfolding stop_of stop_by
returns-in-Again c = let a = c.args in
    c.blank-in-Again.ensures ∙ sym (ap (λ m. stop_by m a.flow.lines a.position (found_in a.text.now))
    c.in-Again.is)

pub returns-in-Ended : goal.returns-in-Ended
unfolding stop_of stop_by
returns-in-Ended c = let a = c.args in
    c.blank-in-Ended.ensures ∙ sym (ap (λ m. stop_by m a.flow.lines a.position (found_in a.text.now))
    c.in-Ended.is)

pub returns-in-Stopped : goal.returns-in-Stopped
unfolding stop_of stop_by
returns-in-Stopped c = let a = c.args in
    stop-whole a.flow.lines c.from.result a.position c.found_in.result
    c.stopped.ensures ∙ ap (λ n. stop_text a.flow.lines c.from.result a.position n)
    c.found_in.ensures
    ∙ ap (λ n. stop_text a.flow.lines n a.position (found_in a.text.now))
    c.from.ensures
    ∙ sym (ap (λ m. stop_by m a.flow.lines a.position (found_in a.text.now)) c.in-Stopped.is)
