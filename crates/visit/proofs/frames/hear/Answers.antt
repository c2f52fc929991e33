use Rattle.std.proofs.Common.{arith}
use Rattle.visit.specs.FramesLaws.{heard-packet, heard-other}
use Rattle.visit.proofs.frames.hear.Goals as goal

pub device_at-device-requires : goal.device_at-device-requires
device_at-device-requires c = omega (arith, c.is_packet.ensures.1 c.if-is_packet.true)

pub overflow_sub-frame : goal.overflow_sub-frame
overflow_sub-frame c = omega (arith, c.is_packet.ensures.1 c.if-is_packet.true)

pub returns-then-is_packet : goal.returns-then-is_packet
returns-then-is_packet c = let a = c.args in
    let p = c.is_packet in
    let t = c.if-is_packet.true in
    heard-packet a.frame.now a.book.now.rows _ p.ensures.0 _ _ _ t (p.ensures.1 t)
    c.device_at-device.ensures.0 c.get8.ensures c.level_of-level.ensures
    c.hear.ensures

pub returns-else-is_packet : goal.returns-else-is_packet
returns-else-is_packet c = let a = c.args in
    heard-other a.frame.now a.book.now.rows _ c.is_packet.ensures.0 c.if-is_packet.false
