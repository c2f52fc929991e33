use Prim.Native.Nat.{◌+◌}
use lib.Dec.{leb}
use lib.ListN.{length}
use Rattle.laws.specs.Put.{put_if}
use Rattle.octets.specs.Little.{octets_of}
use borrow.Author.Tests.{le-leb}
use mathlib.Core.Path.{◌≡◌, ◌∙◌, refl}
use Rattle.octets.proofs.widths.U64Little.write.Goals as goal

pub returns : goal.returns
unfolding put_if
returns c = let a = c.args in
    let e = c.put64.ensures in
    let k = a.at + 8 in
    let p : c.put64.new.out ≡ put_if (leb k (length a.out.now)) a.out.now a.at (octets_of 8 a.self) =
    rw (← e.0) (e.1) in
    (λ h. p ∙ rw (le-leb k (length a.out.now) h) refl, p)
