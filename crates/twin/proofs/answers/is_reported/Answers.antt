use Rattle.twin.specs.ReportedLaws.{reported-off, reported-pair, reported-start}
use Rattle.twin.proofs.answers.is_reported.Goals as goal

pub returns-then-seen-eq0 : goal.returns-then-seen-eq0
returns-then-seen-eq0 c = reported-off c.args.t.now c.args.i
    c.args.seen c.requires.2 c.if-seen-eq0.true

pub returns-then-is_told : goal.returns-then-is_told
returns-then-is_told c = reported-pair c.args.t.now
    c.args.i c.args.seen
    c.requires.2 c.if-seen-eq0.false c.is_told.ensures
    c.if-is_told.true

pub returns : goal.returns
returns c = reported-start c.args.t.now c.args.i c.args.seen c.requires.2 c.if-seen-eq0.false
    c.is_told.ensures c.if-is_told.false c.starts_tell.ensures
