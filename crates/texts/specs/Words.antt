-- Addresses as people write them, times and levels in text. Definitions, and the laws of putting them together.
-- Assumes nothing.
use Rattle.std.specs.Prelude.{ℕ, ◌+◌, ◌-◌, ◌/◌, ◌%◌, List, [], ◌∷◌, ◌++◌, ltb, eqb}
use Rattle.laws.specs.Tests.{pick}
use Rattle.decimals.specs.Decimals.{decimal}
use Rattle.lines.specs.Hex.{digit}
use Rattle.model.specs.Quoted.{codes}

-- an octet as two hexadecimal digits
unfoldable pub pair_of : ℕ → List ℕ
pair_of x = digit (x / 16) ∷ digit (x % 16) ∷ []

-- a number's last octet behind a colon
unfoldable pub colon_pair : ℕ → List ℕ
colon_pair v = codes ":" ++ pair_of (v % 256)

-- A device is a number: its type, and 256 times its address, whose least octet comes first in a packet. People write
-- the most significant octet of an address first.
unfoldable pub address_text : ℕ → List ℕ
address_text d =
    pair_of (d / 281474976710656 % 256) ++ colon_pair (d / 1099511627776) ++ colon_pair (d / 4294967296)
    ++ colon_pair (d / 16777216)
    ++ colon_pair (d / 65536) ++ colon_pair (d / 256)

-- address type 0 is public, 1 random
unfoldable pub kind_text : ℕ → List ℕ
kind_text d = pick (eqb (d % 256) 0) (codes "public") (codes "random")

-- two decimal digits
unfoldable pub two_of : ℕ → List ℕ
two_of n = (48 + n / 10 % 10) % 256 ∷ (48 + n % 10) % 256 ∷ []

-- a time of so many ticks of 100 ms: h:mm:ss.t
unfoldable pub time_text : ℕ → List ℕ
time_text n =
    (codes "" ++ decimal (n / 36000)) ++ codes ":" ++ two_of (n / 600 % 60) ++ codes ":" ++ two_of (n / 10 % 60)
    ++ (codes "." ++ decimal (n % 10))

-- a level in dBm, kept as a number that is 128 more
unfoldable pub level_text : ℕ → List ℕ
level_text x = pick (ltb x 128) (codes "-" ++ decimal (128 - x)) (codes "" ++ decimal (x - 128))
