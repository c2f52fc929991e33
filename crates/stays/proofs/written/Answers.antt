use Rattle.std.proofs.Common.{take, ◌++◌, ap, ◌∙◌}
use Rattle.model.specs.Quoted.{codes}
use Rattle.texts.specs.Text.{room, told}
use Rattle.stays.specs.Rows.{mean_or}
use Rattle.stays.specs.RowsLaws.{row-so}
use Rattle.stays.proofs.written.Goals as goal

pub returns : goal.returns
unfolding codes
returns c = row-so c.args.style c.args.clock c.args.row
    c.blank-o.ensures c.address-v1.ensures c.kind-v2.ensures
    c.said-v3.ensures c.frame-v4.ensures c.moment-v5.ensures
    c.frame-v6.ensures c.moment-v7.ensures c.ended-v8.ensures
    c.said-v9.ensures (c.mean-v10.ensures ∙ ap (λ m. take room (told c.blank-o.result ++ mean_or c.args.style m)) c.mean.ensures)
    c.put-p1.ensures
    c.put-p2.ensures c.put-p3.ensures c.put-p4.ensures c.put-p5.ensures
    c.put-p6.ensures c.put-p7.ensures c.put-p8.ensures c.put-p9.ensures
    c.put-p10.ensures c.end.ensures
