use mathlib.Core.Bool.{not}
use Rattle.std.proofs.Common.{ap}
use native.Mathlib.Omega.{arith}
use Rattle.soundness.specs.CodeLaws.{rest-long}
use Rattle.soundness.specs.EarlyLaws.{rest-window, rest-empty, rest-behind}
use Rattle.soundness.proofs.windows.held_window_sound.Goals as goal

pub returns-then-n-gt-DATA : goal.returns-then-n-gt-DATA
returns-then-n-gt-DATA c = let a = c.args in
    rest-long a.position a.sampling a.sifts a.r.now (omega (arith, c.wide-n.ensures))

pub returns-then-not-window_sound : goal.returns-then-not-window_sound
returns-then-not-window_sound c = rest-window c.args.position c.args.sampling c.args.sifts c.args.r.now c.wide-n.result
    c.requires c.wide-n.ensures.0 (omega arith) c.get32-packets.ensures c.get64-sum.ensures
    c.window_sound.ensures (ap not c.if-not-window_sound.true)

pub returns-then-not-empty_sound : goal.returns-then-not-empty_sound
returns-then-not-empty_sound c = rest-empty c.args.position c.args.sampling c.args.sifts c.args.r.now c.wide-n.result
    c.requires c.wide-n.ensures.0 (omega arith) c.get32-packets.ensures c.get64-sum.ensures
    c.window_sound.ensures c.empty_sound.ensures (ap not c.if-not-empty_sound.true)

pub returns : goal.returns
returns c = rest-behind c.args.position c.args.sampling c.args.sifts c.args.r.now c.wide-n.result
    c.requires c.wide-n.ensures.0 (omega arith) c.get32-packets.ensures c.get64-sum.ensures
    c.window_sound.ensures c.empty_sound.ensures (ap not c.if-not-window_sound.false)
    (ap not c.if-not-empty_sound.false) c.zeros_from.ensures
