use Rattle.texts.specs.Text.{told}
use Rattle.stays.specs.RowsLaws.{moment-none, moment-some}
use Rattle.stays.proofs.Style.moment.Goals as goal

pub returns-then-frame-eq0 : goal.returns-then-frame-eq0
returns-then-frame-eq0 c = moment-none (told c.args.t) c.args.self
    c.args.clock c.args.frame c.args.tick c.if-frame-eq0.true c.none.ensures

pub returns : goal.returns
returns c = moment-some (told c.args.t) c.args.self c.args.clock
    c.args.frame c.args.tick c.if-frame-eq0.false
    c.quote-a.ensures c.moment-b.ensures c.quote.ensures
