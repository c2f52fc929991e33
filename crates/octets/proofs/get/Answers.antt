use Rattle.octets.specs.NumbersLaws.{number_in, number-out}
use borrow.Author.Tests.{leb-true}
use Prim.Native.Nat.{ℕ, ◌+◌}
use lib.Dec.{leb}
use lib.ListN.{length}
use mathlib.Core.Path.{◌≡◌, ap, sym, ◌∙◌}
use Rattle.octets.proofs.get.Goals as goal

pub returns-then-fits : goal.returns-then-fits
returns-then-fits g c = let w : c.WIDTH.result ≡ g.T.Little.WIDTH = c.WIDTH.ensures in
    let e : c.room-fits.result ≡ leb (c.args.at + g.T.Little.WIDTH) (length c.args.s.now) =
    c.room-fits.ensures ∙ ap (λ (k : ℕ). leb (c.args.at + k) (length c.args.s.now)) w in
    let t = sym e ∙ c.if-fits.true in
    number_in g.T.Little.WIDTH _ _ (c.read.ensures (leb-true _ _ t)) t

pub returns : goal.returns
returns g c = let w : c.WIDTH.result ≡ g.T.Little.WIDTH = c.WIDTH.ensures in
    let e : c.room-fits.result ≡ leb (c.args.at + g.T.Little.WIDTH) (length c.args.s.now) =
    c.room-fits.ensures ∙ ap (λ (k : ℕ). leb (c.args.at + k) (length c.args.s.now)) w in
    c.zero.ensures ∙ number-out g.T.Little.WIDTH _ _ (sym e ∙ c.if-fits.false)
