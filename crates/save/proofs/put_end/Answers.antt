use Rattle.save.specs.Text.{end_text}
use Rattle.save.proofs.put_end.Goals as goal

pub returns : goal.returns
unfolding end_text
returns c = c.put_line.ensures
