use Prim.Native.Nat.{◌%◌}
use Rattle.octets.specs.Little.{octets_of}
use Rattle.laws.specs.PutLaws.{set-put}
use mathlib.Core.Path.{◌≡◌}
use native.Mathlib.Omega.{arith}
use Rattle.octets.proofs.U8InOctets.write_in.Goals as goal

pub returns : goal.returns
unfolding octets_of
returns c = let a = c.args in
    let m : a.self % 256 ≡ a.self = omega arith in
    rw m (set-put a.out.now a.at a.self (omega arith))
