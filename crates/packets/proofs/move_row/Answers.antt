use Rattle.std.proofs.Common.{◌+◌, ◌*◌, refl, ◌∙◌, arith}
use Rattle.model.specs.Frames.{packet_of}
use Rattle.octets.specs.NumbersLaws.{number-of}
use Rattle.model.specs.Layout.{pair_size, pairs_at}
use Rattle.packets.specs.HeldLaws.{row_other, row-own, told-other, told-own, handle-low}
use Rattle.packets.specs.AlikeLaws.{reason-pair}
use Rattle.packets.proofs.move_row.Goals as goal

pub returns-then-key-dev : goal.returns-then-key-dev
returns-then-key-dev c = let a = c.args in
    λ m w g r. (
      told-other m a.s.now a.i (packet_of a.payload.now) a.acts.now a.dev
          c.key_at-key.result w g
          (number-of 8 a.s.now (pairs_at + pair_size * a.i) c.key_at-key.ensures (omega arith))
          c.if-key-dev.true,
      row_other m a.s.now a.i (packet_of a.payload.now) a.acts.now a.dev
          c.key_at-key.result w g
          (number-of 8 a.s.now (pairs_at + pair_size * a.i) c.key_at-key.ensures (omega arith))
          c.if-key-dev.true,
    )

pub returns-then-h-ge-MONITORS : goal.returns-then-h-ge-MONITORS
returns-then-h-ge-MONITORS c = let a = c.args in
    λ m w g r. absurd (omega (
      arith,
      handle-low m a.s.now a.i (packet_of a.payload.now) a.acts.now a.dev
          c.key_at-key.result w g
          (number-of 8 a.s.now (pairs_at + pair_size * a.i) c.key_at-key.ensures (omega arith)),
      c.if-h-ge-MONITORS.true,
    ))

pub returns : goal.returns
returns c = let a = c.args in
    let key-at = c.key_at-key in
    let k = number-of 8 a.s.now (pairs_at + pair_size * a.i) key-at.ensures (omega arith) in
    let own = c.if-key-dev.false in
    λ m w g r. (
      told-own m a.s.now a.i (packet_of a.payload.now) a.acts.now a.dev key-at.result w g k _ own
          refl (c.is_reason_in-told.ensures
          ∙ reason-pair m a.s.now a.i w _ a.payload.now c.requires.3),
      row-own m a.s.now a.i (packet_of a.payload.now) a.acts.now a.dev key-at.result w g k _ own
          refl (c.change_row.ensures m w g.sender.sent r),
    )
