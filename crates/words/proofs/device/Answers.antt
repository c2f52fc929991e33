use Rattle.words.specs.SaysLaws.{same, then}
use Rattle.words.specs.Pieces.{device_text}
use Rattle.words.specs.PiecesLaws.{kind-held, address-held}
use Rattle.model.specs.Quoted.{codes}
use Rattle.words.proofs.device.Goals as goal

pub returns : goal.returns
unfolding device_text codes
returns c = then c.put-a.ensures
    (then (then (same (kind-held c.args.d c.blank.ensures c.kind.ensures)
    c.text-b.ensures) c.put-c.ensures)
    (same (address-held c.args.d c.blank-2.ensures c.address.ensures)
    c.text.ensures))
