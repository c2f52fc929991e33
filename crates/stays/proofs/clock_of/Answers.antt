use Rattle.std.proofs.Common.{sym, ◌∙◌, refl}
use Rattle.stays.specs.ClocksLaws.{clock-not, clock-h, clock-m, clock-s, clock-so}
use Rattle.stays.proofs.clock_of.Goals as goal

pub returns-then-not-form : goal.returns-then-not-form
returns-then-not-form c = clock-not c.args.word.now c.get8-first.ensures c.get8-second.ensures
    c.if-not-form.true

pub returns-in_err-h : goal.returns-in_err-h
returns-in_err-h c = clock-h c.args.word.now c.get8-first.ensures c.get8-second.ensures
    c.if-not-form.false (sym c.two_at.ensures.value ∙ c.in_err-h.was) c.from_residual.ensures

pub returns-in_err-m : goal.returns-in_err-m
returns-in_err-m c = clock-m c.args.word.now c.get8-first.ensures c.get8-second.ensures
    c.if-not-form.false (sym c.two_at.ensures.value ∙ c.in_ok-h.was)
    (sym c.two_at-2.ensures.value ∙ c.in_err-m.was) c.from_residual-in_err-m.ensures

pub returns-in_err-s : goal.returns-in_err-s
returns-in_err-s c = clock-s c.args.word.now c.get8-first.ensures c.get8-second.ensures
    c.if-not-form.false (sym c.two_at.ensures.value ∙ c.in_ok-h.was)
    (sym c.two_at-2.ensures.value ∙ c.in_ok-m.was)
    (sym c.two_at-3.ensures.value ∙ c.in_err-s.was) c.from_residual-in_err-s.ensures

pub returns : goal.returns
returns c = clock-so c.args.word.now c.get8-first.ensures c.get8-second.ensures
    c.if-not-form.false (sym c.two_at.ensures.value ∙ c.in_ok-h.was)
    (sym c.two_at-2.ensures.value ∙ c.in_ok-m.was)
    (sym c.two_at-3.ensures.value ∙ c.in_ok-s.was)
