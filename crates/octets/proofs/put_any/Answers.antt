use Rattle.laws.specs.Put.{put_if}
use borrow.Author.Tests.{leb-true}
use Prim.Native.Nat.{ℕ, ◌+◌}
use lib.Dec.{leb}
use lib.ListN.{length}
use mathlib.Core.Path.{◌≡◌, ap, sym, ◌∙◌, refl}
use Rattle.octets.proofs.put_any.Goals as goal

pub write_in-requires : goal.write_in-requires
write_in-requires g c = let w : c.WIDTH.result ≡ g.T.InOctets.WIDTH = c.WIDTH.ensures in
    let e : c.room.result ≡ leb (c.args.at + g.T.InOctets.WIDTH) (length c.args.out.now) =
    c.room.ensures ∙ ap (λ (k : ℕ). leb (c.args.at + k) (length c.args.out.now)) w in
    leb-true _ _ (sym e ∙ c.if-room.true)

pub returns-then-room : goal.returns-then-room
unfolding put_if
returns-then-room g c = let w : c.WIDTH.result ≡ g.T.InOctets.WIDTH = c.WIDTH.ensures in
    let e : c.room.result ≡ leb (c.args.at + g.T.InOctets.WIDTH) (length c.args.out.now) =
    c.room.ensures ∙ ap (λ (k : ℕ). leb (c.args.at + k) (length c.args.out.now)) w in (
      sym c.if-room.true
          ∙ e,
      c.write_in.ensures,
    )

pub returns : goal.returns
unfolding put_if
returns g c = let w : c.WIDTH.result ≡ g.T.InOctets.WIDTH = c.WIDTH.ensures in
    let e : c.room.result ≡ leb (c.args.at + g.T.InOctets.WIDTH) (length c.args.out.now) =
    c.room.ensures ∙ ap (λ (k : ℕ). leb (c.args.at + k) (length c.args.out.now)) w in
    (sym c.if-room.false ∙ e, refl)
