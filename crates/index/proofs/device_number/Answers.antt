use Rattle.index.specs.ReadLaws.{device-value}
use Rattle.index.proofs.device_number.Goals as goal

pub returns : goal.returns
returns c = device-value c.args.kind c.args.address.now c.requires c.get32-low.ensures c.get16-high.ensures
