use Rattle.std.proofs.Common.{◌+◌, ◌-◌, length, set, replicate, ◌∙◌, arith, length-set}
use Rattle.laws.specs.PutLaws.{put_of}
use Rattle.packets.specs.WindowsLaws.{none_written}
use Rattle.model.specs.Layout.{latest_size}
use Rattle.packets.proofs.windows.put_none.Goals as goal

pub shape_of-s : goal.shape_of-s
shape_of-s c = let a = c.args in
    c.fill.auto.out ∙ length-set a.s.now a.at 255

pub returns : goal.returns
returns c = let a = c.args in
    let j = length-set a.s.now a.at 255 in
    none_written a.s.now a.at c.requires
    (put_of (set a.s.now a.at 255) (a.at + 1) (replicate (latest_size - 1) 0) (latest_size - 1)
    (length (set a.s.now a.at 255)) c.fill.ensures.0
    (omega (arith, j, c.requires)) c.fill.ensures.1)
