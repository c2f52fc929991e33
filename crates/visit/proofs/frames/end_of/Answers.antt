use Rattle.visit.specs.FramesLaws.{end-silence, end-full}
use Rattle.visit.proofs.frames.end_of.Goals as goal

pub returns-then-is_kind : goal.returns-then-is_kind
returns-then-is_kind c = end-silence c.args.frame.now _ c.is_kind.ensures c.if-is_kind.true

pub returns : goal.returns
returns c = end-full c.args.frame.now _ c.is_kind.ensures c.if-is_kind.false
