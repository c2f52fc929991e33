use lib.ListN.{length}
use Rattle.octets.specs.Little.{octets_of}
use Rattle.octets.specs.LittleLaws.{octets-add, octets-mod, length-octets}
use Rattle.laws.specs.PutLaws.{put_then}
use Prim.Native.Nat.{◌+◌, ◌%◌, ◌/◌}
use mathlib.Core.Path.{sym, ◌∙◌, ◌≡◌}
use native.Mathlib.Omega.{arith}
use Rattle.octets.proofs.U32InOctets.write_in.Goals as goal

pub returns : goal.returns
returns c = let a = c.args in
    let low = a.self % 65536 in
    let high = a.self / 65536 % 65536 in
    let n : length (octets_of 2 low) ≡ 2 = length-octets 2 low in
    put_then a.out.now a.at (octets_of 2 low) (a.at + 2) (octets_of 2 high) (omega arith)
    c.write_in.ensures (omega arith) c.write_in-2.ensures
    (sym (octets-add 2 2 a.self ∙ rw (octets-mod 2 a.self, octets-mod 2 (a.self / 65536))))
