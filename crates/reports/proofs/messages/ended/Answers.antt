use Rattle.reports.specs.Texts.{is_ended}
use borrow.Author.Rules.{rules}
use Rattle.reports.proofs.messages.ended.Goals as goal

pub returns-in-Read : goal.returns-in-Read
unfolding is_ended
returns-in-Read c = search rules

pub returns-in-Again : goal.returns-in-Again
unfolding is_ended
returns-in-Again c = search rules

pub returns-in-Ended : goal.returns-in-Ended
unfolding is_ended
returns-in-Ended c = search rules

pub returns-in-Stopped : goal.returns-in-Stopped
unfolding is_ended
returns-in-Stopped c = search rules
