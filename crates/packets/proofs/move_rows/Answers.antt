use Rattle.std.proofs.Common.{◌≡◌, ℕ, ◌-◌, get_or, take, refl, ◌∙◌, subst, arith}
use Rattle.laws.specs.Loops.{some as some_of}
use Rattle.packets.specs.Whole.{after_moves}
use Rattle.packets.specs.WholeLaws.{pair-given}
use Rattle.packets.specs.Moves.{pair_at}
use Rattle.packets.specs.Writes.{no_pair}
use Rattle.packets.specs.Held.{Given}
use Rattle.packets.specs.HeldLaws.{halfway, halfway-turn, told-turn, moves-begin, moves-end}
use Rattle.model.specs.Block.{padded}
use Rattle.model.specs.Frames.{packet_of}
use Rattle.model.specs.Types.{Model}
use Rattle.model.specs.Watch.{is_reason}
use Rattle.packets.proofs.move_rows.Goals as goal

pub loop-i-init : goal.loop-i-init
loop-i-init c = let a = c.args in (
  omega arith,
  omega arith,
  refl,
  λ m held n b x. moves-begin m (packet_of a.payload.now) b.measured
      b.sender.sent b.roomy a.from (omega (arith, x.most)) x.below b.block,
)

pub loop-i-smaller : goal.loop-i-smaller
loop-i-smaller c = omega arith

pub loop-i-preserved : goal.loop-i-preserved
loop-i-preserved c = let a = c.args in
    let l = c.loop-i in
    let t = c.move_row-reason in (
      omega arith,
      omega arith,
      t.auto.s ∙ l.invariant.2,
      λ m held n b x.
          let p = packet_of a.payload.now in
          let y = l.invariant.3 m held n b x in
          let given : (g : Model) → m.mons ≡ g.mons → pair_at g l.i ≡ get_or m.pairs l.i no_pair
          → Given g.mons p a.acts.now a.dev (pair_at g l.i) =
          λ g e q. subst (λ z. Given z p a.acts.now a.dev (pair_at g l.i)) e
          (rw q (pair-given m _ a.payload.now a.acts.now held a.dev n b l.i
          (omega (arith, x.most, b.count)))) in (
            told-turn m p b.measured b.sender.sent b.roomy l.i (omega (arith, x.most)) y.1 y.0
                (λ g w r e q. (t.ensures g w (given g e q) r).0),
            halfway-turn m p b.measured b.sender.sent b.roomy l.i (omega (arith, x.most)) y.1
                (λ g w r e q. (t.ensures g w (given g e q) r).1),
          ),
    )

pub shape_of-s : goal.shape_of-s
shape_of-s c = c.loop-i.invariant.2

pub returns : goal.returns
unfolding after_moves
returns c = let a = c.args in
    let l = c.loop-i in
    let e : l.i ≡ a.to = omega (arith, l.invariant.1) in
    λ m held n b x. moves-end m (packet_of a.payload.now) b.measured b.sender.sent b.roomy a.to
    x.most x.behind (subst (λ (j : ℕ).
    (l.told ≡ some_of (is_reason m.mons (packet_of a.payload.now)) (take j m.pairs))
    × (l.s ≡ padded (halfway m (packet_of a.payload.now) j))) e (l.invariant.3 m held n b x))
