-- Restoring what a save writes gives the whole block that was saved: the index, which is not in the image, is worked
-- out. Document 02, T-02. Assumes nothing.
use Rattle.std.specs.Prelude.{ℕ, ◌≡◌, true, List}
use Rattle.std.proofs.Common.{ap}
use Rattle.std.proofs.Math.Option.{some}
use Rattle.editions.proofs.ImagesLaws.{restores}
use Rattle.wholes.specs.Whole.{held_whole, sound_whole}
use Rattle.wholes.proofs.LaidLaws.{whole-good, whole-held}
use Rattle.wholes.specs.Engine.{engine, decode, whole_of}

pub engine-restores : (s : List ℕ) → sound_whole s ≡ true → engine.decode (engine.encode s) ≡ some s
unfolding decode whole_of
engine-restores s e = rw (restores (held_whole s) (whole-good s e)) (ap some (whole-held s e))
