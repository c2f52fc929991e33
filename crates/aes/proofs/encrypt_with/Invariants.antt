use Prim.Native.Nat.{◌≤◌, ◌-◌}
use mathlib.Core.Path.{◌≡◌}
use Rattle.fips197.specs.Cipher.{power_of_x, round_key, rounds}
use Rattle.aes.specs.Blocks.{block_octets}
use Rattle.aes.proofs.encrypt_with.Given as goal

abbrev pub invariant-loop-n : goal.invariant-loop-n
invariant-loop-n l =
    (l.n ≤ 9) × (l.rc ≡ power_of_x l.n) × (block_octets l.k ≡ round_key (block_octets l.initial.k) l.n)
    × (block_octets l.s ≡ rounds (block_octets l.initial.k) (block_octets l.initial.s) l.n)

abbrev pub decreases-loop-n : goal.decreases-loop-n
decreases-loop-n l =
    9 - l.n
