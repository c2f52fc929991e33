use lib.ListN.{length}
use Rattle.octets.specs.Little.{octets_of}
use Rattle.octets.specs.LittleLaws.{octets-add, octets-mod, length-octets}
use Rattle.laws.specs.PutLaws.{put_then}
use Prim.Native.Nat.{◌+◌, ◌%◌, ◌/◌}
use mathlib.Core.Path.{sym, ◌∙◌, ◌≡◌}
use native.Mathlib.Omega.{arith}
use Rattle.octets.proofs.U64InOctets.write_in.Goals as goal

pub returns : goal.returns
returns c = let a = c.args in
    let low = a.self % 4294967296 in
    let high = a.self / 4294967296 % 4294967296 in
    let n : length (octets_of 4 low) ≡ 4 = length-octets 4 low in
    put_then a.out.now a.at (octets_of 4 low) (a.at + 4) (octets_of 4 high) (omega arith)
    c.write_in.ensures (omega arith) c.write_in-2.ensures
    (sym (octets-add 4 4 a.self ∙ rw (octets-mod 4 a.self, octets-mod 4 (a.self / 4294967296))))
