use Prim.Native.Nat.{ℕ, ◌+◌, ◌*◌}
use mathlib.Core.Path.{refl, ap, ◌∙◌}
use native.Mathlib.Omega.{arith}
use Rattle.model.specs.Frames.{packet_of}
use Rattle.packets.specs.Starts.{Sought}
use Rattle.counts.specs.Turns.{row-none, left-none, row-matched, left-matched}
use Rattle.totals.specs.Gains.{wide_row}
use Rattle.totals.specs.GainsLaws.{no-gain-wide}
use Rattle.counts.proofs.packet.turn_at.Goals as goal

pub returns-then-a-lt-MATCHED : goal.returns-then-a-lt-MATCHED
returns-then-a-lt-MATCHED c = let a = c.args in (
  omega arith,
  λ m acts w g o l.
      let p = packet_of a.payload.now in (
        ap wide_row c.no_gain-none.ensures ∙ no-gain-wide
            ∙ row-none m p a.h acts a.dev a.a g c.requires.2 o
            (omega (arith, c.if-a-lt-MATCHED.true)),
        left-none m p a.h acts a.dev a.a g c.requires.2 o
            (omega (arith, c.if-a-lt-MATCHED.true)) l,
      ),
)

pub returns : goal.returns
returns c = let a = c.args in (
  c.left_after-rest.ensures.1,
  λ m acts w g o l.
      let p = packet_of a.payload.now in
      let low = c.requires.2 in
      let x : Sought p a.h (a.h + 256 * a.dev) =
      record { sent = g.sent; low = low; number = ap (λ (k : ℕ). a.h + 256 * k) g.number } in
      let s = c.is_start-start.ensures m p a.h w x in (
        row-matched m p a.h acts a.dev a.a g low o (omega arith) l s
            (c.is_cause-cause.ensures m a.h a.dev acts w g low refl o)
            c.gain_of-gain.ensures,
        left-matched m p a.h acts a.dev a.a g low o l s c.left_after-rest.ensures.0,
      ),
)
