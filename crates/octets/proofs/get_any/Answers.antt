use Rattle.octets.specs.NumbersLaws.{number_in, number-out}
use borrow.Author.Tests.{leb-true}
use Prim.Native.Nat.{ℕ, ◌+◌}
use lib.Dec.{leb}
use lib.ListN.{length}
use mathlib.Core.Path.{◌≡◌, ap, sym, ◌∙◌}
use Rattle.octets.proofs.get_any.Goals as goal

pub read_in-requires : goal.read_in-requires
read_in-requires g c = let w : c.WIDTH.result ≡ g.T.InOctets.WIDTH = c.WIDTH.ensures in
    let e : c.room.result ≡ leb (c.args.at + g.T.InOctets.WIDTH) (length c.args.s.now) =
    c.room.ensures ∙ ap (λ (k : ℕ). leb (c.args.at + k) (length c.args.s.now)) w in
    leb-true _ _ (sym e ∙ c.if-room.true)

pub returns-then-room : goal.returns-then-room
returns-then-room g c = let w : c.WIDTH.result ≡ g.T.InOctets.WIDTH = c.WIDTH.ensures in
    let e : c.room.result ≡ leb (c.args.at + g.T.InOctets.WIDTH) (length c.args.s.now) =
    c.room.ensures ∙ ap (λ (k : ℕ). leb (c.args.at + k) (length c.args.s.now)) w in
    number_in g.T.InOctets.WIDTH _ _ c.read_in.ensures (sym e ∙ c.if-room.true)

pub returns : goal.returns
returns g c = let w : c.WIDTH.result ≡ g.T.InOctets.WIDTH = c.WIDTH.ensures in
    let e : c.room.result ≡ leb (c.args.at + g.T.InOctets.WIDTH) (length c.args.s.now) =
    c.room.ensures ∙ ap (λ (k : ℕ). leb (c.args.at + k) (length c.args.s.now)) w in
    c.zero.ensures ∙ number-out g.T.InOctets.WIDTH _ _ (sym e ∙ c.if-room.false)
