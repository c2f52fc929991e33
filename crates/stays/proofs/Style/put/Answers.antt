use Rattle.texts.specs.Text.{told}
use Rattle.stays.specs.RowsLaws.{put-so}
use Rattle.stays.proofs.Style.put.Goals as goal

pub returns : goal.returns
returns c = put-so (told c.args.t) c.args.self c.args.csv.now c.args.json.now
    c.args.width (told c.args.value) _ _ c.lead-a.ensures c.append-b.ensures
    c.long.ensures c.gap-n.ensures.0 c.blanks.ensures
