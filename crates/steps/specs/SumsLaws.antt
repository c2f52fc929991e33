-- One packet more in a window: the sum of RSSI in two's complement of 8 octets stays in its range. Document 01, The
-- image ("sum from −127 × packets to 20 × packets"). Assumes nothing.
use Rattle.std.specs.Prelude.{ℕ, ◌+◌, ◌<◌, ◌≡◌, true}
use Rattle.std.proofs.Common.{arith}
use Rattle.model.specs.Level.{level, raised, in_range, add_rssi}
use Rattle.model.specs.Levels.{extended}
use Rattle.model.proofs.LevelsLaws.{Summed, range-of, add-extended}

-- the sum rises by the RSSI, and is not carried over
pub raised-add : (sum packets o : ℕ) → packets < 4294967295 → Summed sum packets
    → raised (add_rssi sum o) + 128 ≡ raised sum + level o
unfolding raised extended level
raised-add sum packets o few s = rw (add-extended sum o) (omega (arith, s.sum-least, s.sum-most))

pub summed-add : (sum packets o : ℕ) → packets < 4294967295 → in_range o ≡ true → Summed sum packets
    → Summed (add_rssi sum o) (packets + 1)
summed-add sum packets o few e s =
    let a : raised (add_rssi sum o) + 128 ≡ raised sum + level o = raised-add sum packets o few s in
    let r = range-of o e in
    record {
      sum-least = omega (arith, a, r.0, s.sum-least);
      sum-most = omega (arith, a, r.1, s.sum-most);
    }

pub sum_below : (sum o : ℕ) → add_rssi sum o < 18446744073709551616
sum_below sum o = rw (add-extended sum o) (omega arith)

-- an empty window
pub summed-none : Summed 0 0
unfolding raised
summed-none = record { sum-least = omega arith; sum-most = omega arith }
