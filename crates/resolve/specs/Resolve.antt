-- Bluetooth Core Specification, Vol 3, Part H, 2.2.1 and 2.2.2: the functions e and ah; Vol 6, Part B, 1.3.2.2 and
-- 1.3.2.3: resolvable private addresses. There keys, blocks and addresses are numbers; a condition and a packet have
-- their octets, the least first (request T-03). Assumes nothing.
use Rattle.std.specs.Prelude.{ℕ, ◌/◌, ◌%◌, ◌^◌, Bool, ◌&&◌, List, reverse, eqb, length, get_or}
use Rattle.octets.specs.Little.{little, octets_of, value}
use Rattle.fips197.specs.Cipher.{cipher}

-- octets of an identity resolving key and of an address
abbrev pub key_size : ℕ
key_size = 16

abbrev pub address_size : ℕ
address_size = 6

-- the 16 octets of a number, the most significant first: in[0], key[0] of FIPS 197
unfoldable pub big_octets : ℕ → List ℕ
big_octets n = reverse (octets_of 16 n)

-- the number of octets of which the first is the most significant
unfoldable pub big_value : List ℕ → ℕ
big_value l = value (reverse l)

-- 2.2.1: e is AES-128
unfoldable pub e : (key plaintext : ℕ) → ℕ
e key plaintext = big_value (cipher (big_octets key) (big_octets plaintext))

-- 2.2.2: ah(k, r) = e(k, r') mod 2^24; r' is r under 104 zero bits, as a number r itself
unfoldable pub ah : (k r : ℕ) → ℕ
ah k r = e k r % 2 ^ 24

-- the number of a key
unfoldable pub key_of : List ℕ → ℕ
key_of key = little key_size key 0

-- an address's hash, its lower 24 bits, and its prand, its upper 24 bits
unfoldable pub hash_of : List ℕ → ℕ
hash_of address = little 3 address 0

unfoldable pub prand_of : List ℕ → ℕ
prand_of address = little 3 address 3

-- whether an address has six octets and its top two bits are 01: of the random ones, the resolvable private ones
unfoldable pub resolvable : List ℕ → Bool
resolvable address = eqb (length address) address_size && eqb (get_or address 5 0 / 64) 1

-- whether a key resolves an address: it is a resolvable private one, and its hash is ah of the key and its prand
unfoldable pub resolves_by : (key address : List ℕ) → Bool
resolves_by key address =
    eqb (length key) key_size && (resolvable address && eqb (hash_of address) (ah (key_of key) (prand_of address)))
