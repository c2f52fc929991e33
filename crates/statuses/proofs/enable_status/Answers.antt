use Rattle.statuses.specs.AnswersLaws.{enable-wrong, enable-above, enable-again, enable-good}
use Rattle.statuses.proofs.enable_status.Goals as goal

pub returns-then-params-params_of : goal.returns-then-params-params_of
returns-then-params-params_of c = enable-wrong _ _ c.params_of.ensures c.if-params-params_of.true

pub returns-then-on-gt1 : goal.returns-then-on-gt1
returns-then-on-gt1 c = enable-above _ _ c.params_of.ensures c.if-params-params_of.false
    c.get8-on.ensures c.if-on-gt1.true

pub returns-then-on-filter : goal.returns-then-on-filter
returns-then-on-filter c = enable-again _ _ c.params_of.ensures
    c.if-params-params_of.false c.get8-on.ensures c.if-on-gt1.false c.if-on-filter.true

pub returns : goal.returns
returns c = enable-good _ _ c.params_of.ensures
    c.if-params-params_of.false c.get8-on.ensures c.if-on-gt1.false c.if-on-filter.false
