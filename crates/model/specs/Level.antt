-- RSSI and sums of RSSI as whole numbers with a sign. Document 01, Sizes of the gateway ("RSSI is signed, −127 to
-- 20"), Watching, by history ("RSSI the greatest whole number not above sum / count"), The image ("sum from −127 ×
-- packets to 20 × packets"). An RSSI is kept as an octet and a sum as 8 octets, both in two's complement: here stands
-- which whole number they mean. The arithmetic of levels is a law (Levels).
use Rattle.std.specs.Prelude.{ℕ, ◌+◌, ◌-◌, ◌*◌, ◌/◌, ◌%◌, Bool, ◌&&◌, ℤ, pos, negsuc, neg_ℤ, ◌+ℤ◌}
use Rattle.std.proofs.Math.IntN.{sub_ℕ}
use Rattle.std.specs.Int.Signed.{le_z}

-- an RSSI octet in dBm: its level, 0 to 255, less 128
unfoldable pub level : ℕ → ℕ
level o = (o + 128) % 256

unfoldable pub d_bm : ℕ → ℤ
d_bm o = sub_ℕ (level o) 128

-- a sum of 8 octets
unfoldable pub raised : ℕ → ℕ
raised s = (s + 9223372036854775808) % 18446744073709551616

unfoldable pub signed : ℕ → ℤ
signed s = sub_ℕ (raised s) 9223372036854775808

-- the one of n numbers that stands for a whole number: 256 of an octet, 2^64 of 8 octets
unfoldable pub wrapped : ℕ → ℤ → ℕ
wrapped n (pos a) = a % n
wrapped n (negsuc a) = n - 1 - a % n

-- the greatest whole number not above z / n
unfoldable pub floor_of : ℤ → ℕ → ℤ
floor_of (pos a) n = pos (a / n)
floor_of (negsuc a) n = negsuc (a / n)

-- whether an RSSI octet stands for −127 to 20
unfoldable pub in_range : ℕ → Bool
in_range o = le_z (neg_ℤ (pos 127)) (d_bm o) && le_z (d_bm o) (pos 20)

-- "sum from −127 × packets to 20 × packets"
unfoldable pub sum_in_range : ℕ → ℕ → Bool
sum_in_range sum packets = le_z (neg_ℤ (pos (127 * packets))) (signed sum) && le_z (signed sum) (pos (20 * packets))

-- a sum with one RSSI more
unfoldable pub add_rssi : ℕ → ℕ → ℕ
add_rssi sum o = wrapped 18446744073709551616 (signed sum +ℤ d_bm o)

-- the octet of the mean: the greatest whole number not above sum / packets
unfoldable pub mean : ℕ → ℕ → ℕ
mean sum packets = wrapped 256 (floor_of (signed sum) packets)
