use Rattle.std.proofs.Common.{ℕ, ◌+◌, ◌*◌, ◌/◌, ◌%◌, refl, ap, ◌∙◌, arith, eq-eqb}
use Rattle.model.specs.Frames.{packet_of}
use Rattle.model.specs.Types.{device_of}
use Rattle.model.specs.Watch.{holds}
use Rattle.marks.specs.Marks.{opens, allowed}
use Rattle.packets.specs.DeviceLaws.{flag-set, flag-not}
use Rattle.packets.specs.StartsLaws.{start-weak, start-held}
use Rattle.packets.specs.BeginsLaws.{plain, plain-opens, plain-sifted, idle-weak, idle-held, turn-idle, turn-begun}
use Rattle.packets.specs.WholeLaws.{packet-rssi}
use Rattle.packets.proofs.starts.start_at.Goals as goal

pub returns-then-a-ne1 : goal.returns-then-a-ne1
returns-then-a-ne1 c = let a = c.args in (
  omega arith,
  omega arith,
  refl,
  λ m w x f. (
    start-weak m a.s.now a.n (packet_of a.payload.now) a.a a.h w a.out.now a.at
        c.if-a-ne1.true,
    idle-weak a.a a.h (packet_of a.payload.now) m.pairs c.if-a-ne1.true,
  ),
)

pub returns-then-held-ne0 : goal.returns-then-held-ne0
unfolding opens
returns-then-held-ne0 c = let a = c.args in (
  omega arith,
  omega arith,
  refl,
  λ m w x f.
      let e = flag-set (holds m.pairs a.h (device_of (packet_of a.payload.now)))
      (f (eq-eqb (a.a / 4 % 2) 1 c.if-a-ne1.false)) c.if-held-ne0.true in (
        start-held m a.s.now a.n (packet_of a.payload.now) a.a a.h w a.out.now a.at e,
        idle-held
            a.a a.h (packet_of a.payload.now) m.pairs e,
      ),
)

pub returns-then-wrote-eq0 : goal.returns-then-wrote-eq0
unfolding opens allowed
returns-then-wrote-eq0 c = let a = c.args in
    let t = c.start_new-turn in (
      t.ensures.0,
      t.ensures.1,
      t.ensures.2,
      λ m w x f.
          turn-idle m a.a a.h (packet_of a.payload.now)
          (t.ensures.4 m (packet_of a.payload.now) (plain a.a) a.h w (record {
            sought = (record {
              sent = x.sent;
              low = omega arith;
              number = ap (λ (j : ℕ). a.h + 256 * j)
                  x.number;
            });
            rssi = packet-rssi a.payload.now;
            strong = plain-opens a.a
                ∙ eq-eqb (a.a / 4 % 2) 1 c.if-a-ne1.false;
            plain = plain-sifted a.a;
            free = flag-not (holds m.pairs a.h (device_of (packet_of a.payload.now)))
                (f (eq-eqb (a.a / 4 % 2) 1 c.if-a-ne1.false)) c.if-held-ne0.false;
          })) c.if-wrote-eq0.true,
    )

pub returns : goal.returns
unfolding opens allowed
returns c = let a = c.args in
    let t = c.start_new-turn in (
      t.ensures.0,
      t.ensures.1,
      t.ensures.2,
      λ m w x f.
          turn-begun m a.a a.h (packet_of a.payload.now)
          (t.ensures.4 m (packet_of a.payload.now) (plain a.a) a.h w (record {
            sought = (record {
              sent = x.sent;
              low = omega arith;
              number = ap (λ (j : ℕ). a.h + 256 * j)
                  x.number;
            });
            rssi = packet-rssi a.payload.now;
            strong = plain-opens a.a
                ∙ eq-eqb (a.a / 4 % 2) 1 c.if-a-ne1.false;
            plain = plain-sifted a.a;
            free = flag-not (holds m.pairs a.h (device_of (packet_of a.payload.now)))
                (f (eq-eqb (a.a / 4 % 2) 1 c.if-a-ne1.false)) c.if-held-ne0.false;
          })) (omega (arith, c.if-wrote-eq0.false))
          w.measured (omega arith) x.sent (λ g v. c.keep_start.ensures g v x.sent),
    )
