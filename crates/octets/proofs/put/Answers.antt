use Rattle.laws.specs.Put.{put_if}
use borrow.Author.Tests.{leb-true}
use Prim.Native.Nat.{ℕ, ◌+◌}
use lib.Dec.{leb}
use lib.ListN.{length}
use mathlib.Core.Path.{◌≡◌, ap, sym, ◌∙◌, refl}
use Rattle.octets.proofs.put.Goals as goal

pub returns-then-fits : goal.returns-then-fits
unfolding put_if
returns-then-fits g c = let w : c.WIDTH.result ≡ g.T.Little.WIDTH = c.WIDTH.ensures in
    let e : c.room-fits.result ≡ leb (c.args.at + g.T.Little.WIDTH) (length c.args.out.now) =
    c.room-fits.ensures ∙ ap (λ (k : ℕ). leb (c.args.at + k) (length c.args.out.now)) w in
    (e, rw c.if-fits.true (c.write.ensures (leb-true _ _ (sym e ∙ c.if-fits.true))))

pub returns-else-fits : goal.returns-else-fits
unfolding put_if
returns-else-fits g c = let w : c.WIDTH.result ≡ g.T.Little.WIDTH = c.WIDTH.ensures in
    let e : c.room-fits.result ≡ leb (c.args.at + g.T.Little.WIDTH) (length c.args.out.now) =
    c.room-fits.ensures ∙ ap (λ (k : ℕ). leb (c.args.at + k) (length c.args.out.now)) w in
    (e, rw c.if-fits.false refl)
