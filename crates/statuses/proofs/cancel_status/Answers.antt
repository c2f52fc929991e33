use Rattle.statuses.specs.AnswersLaws.{cancel-good, cancel-dead, cancel-wrong}
use Rattle.statuses.proofs.cancel_status.Goals as goal

pub returns-then-live : goal.returns-then-live
returns-then-live c = cancel-good _ _ c.params_of.ensures c.if-params-params_of.true c.if-live.true

pub returns-else-live : goal.returns-else-live
returns-else-live c = cancel-dead _ _ c.params_of.ensures c.if-params-params_of.true c.if-live.false

pub returns-else-params-params_of : goal.returns-else-params-params_of
returns-else-params-params_of c = cancel-wrong _ _ c.params_of.ensures c.if-params-params_of.false
