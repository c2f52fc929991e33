use Rattle.statuses.specs.AnswersLaws.{read-good, read-wrong}
use Rattle.statuses.proofs.read_status.Goals as goal

pub returns-then-params-params_of : goal.returns-then-params-params_of
returns-then-params-params_of c = read-good _ c.params_of.ensures c.if-params-params_of.true

pub returns : goal.returns
returns c = read-wrong _ c.params_of.ensures c.if-params-params_of.false
