use Rattle.octets.specs.Little.{octets_of}
use Rattle.laws.specs.Put.{put}
use lib.Seq.{sets-eq}
use native.Mathlib.Numerals.{add-one}
use lib.ListN.{length-set}
use native.Mathlib.Omega.{arith}
use Rattle.octets.proofs.U16InOctets.write_in.Goals as goal

pub bounds-out-at-2 : goal.bounds-out-at-2
bounds-out-at-2 c = simp length-set (omega arith)

pub returns : goal.returns
unfolding put octets_of
returns c = rw (add-one) (sets-eq _ _ _ c.requires)
