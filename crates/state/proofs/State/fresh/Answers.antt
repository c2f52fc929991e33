use Rattle.std.proofs.Common.{ℕ, replicate, ◌∙◌}
use lib.ListN.{length-replicate}
use Rattle.model.specs.Layout.{block_size}
use Rattle.state.specs.StartLaws.{fresh-is}
use Rattle.state.proofs.State.fresh.Goals as goal

pub returns : goal.returns
returns c = let w = c.put_fresh-answer.ensures in
    (w.0, w.1 ∙ fresh-is (replicate block_size 0) _ _ (length-replicate {A = ℕ} block_size 0))
