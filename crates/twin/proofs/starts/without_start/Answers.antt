use Rattle.twin.specs.StartsLaws.{but-moved}
use Rattle.std.proofs.Common.{refl}
use Rattle.twin.proofs.starts.without_start.Goals as goal

pub returns : goal.returns
returns c = but-moved c.args.seen _ c.args.gone c.requires.0 c.requires.1 c.copy_within.ensures.after
    c.copy_within.ensures.len refl
