-- Laws of the definitions in Examples.
use Rattle.std.specs.Prelude.{ℕ, true, false, List, [], ◌∷◌, ◌≡◌, refl}
use Rattle.octets.specs.Little.{little}
use Rattle.resolve.specs.Resolve.{ah, key_of, hash_of, prand_of, resolvable, resolves_by}
use Rattle.resolve.specs.Computed.{computed}
use Rattle.resolve.specs.Examples.{sample_key}

pub sample : ah 0xec0234a357c8ad05341010a60a397d9b 0x708194 ≡ 0x0dfbaa
unfolding computed
sample = refl

-- another prand, the key with its least bit changed, the key in the other octet order: by OpenSSL
-- (crates/aes_run/vectors.py has the command)
another : ah 0xec0234a357c8ad05341010a60a397d9b 0x5a31c7 ≡ 0x79cdd6
unfolding computed
another = refl

bit-changed : ah 0xec0234a357c8ad05341010a60a397d9a 0x708194 ≡ 0x04a514
unfolding computed
bit-changed = refl

turned_round : ah 0x9b7d390aa610103405adc857a33402ec 0x708194 ≡ 0xa0cd8f
unfolding computed
turned_round = refl

unfoldable pub key_changed : List ℕ
key_changed =
    0x9a ∷ 0x7d ∷ 0x39 ∷ 0x0a ∷ 0xa6 ∷ 0x10 ∷ 0x10 ∷ 0x34
    ∷ 0x05 ∷ 0xad ∷ 0xc8 ∷ 0x57 ∷ 0xa3 ∷ 0x34 ∷ 0x02 ∷ 0xec ∷ []

unfoldable pub key_turned : List ℕ
key_turned =
    0xec ∷ 0x02 ∷ 0x34 ∷ 0xa3 ∷ 0x57 ∷ 0xc8 ∷ 0xad ∷ 0x05
    ∷ 0x34 ∷ 0x10 ∷ 0x10 ∷ 0xa6 ∷ 0x0a ∷ 0x39 ∷ 0x7d ∷ 0x9b ∷ []

-- addresses as a packet has them, the least octet first: the sample's, one of the same key a quarter of an hour
-- later, the sample's with the least bit of its hash changed
unfoldable pub address : List ℕ
address = 0xaa ∷ 0xfb ∷ 0x0d ∷ 0x94 ∷ 0x81 ∷ 0x70 ∷ []

unfoldable pub address_later : List ℕ
address_later = 0xd6 ∷ 0xcd ∷ 0x79 ∷ 0xc7 ∷ 0x31 ∷ 0x5a ∷ []

unfoldable pub address_off : List ℕ
address_off = 0xab ∷ 0xfb ∷ 0x0d ∷ 0x94 ∷ 0x81 ∷ 0x70 ∷ []

-- top two bits 00, 10 and 11, each with the hash that belongs to it
unfoldable pub top00 : List ℕ
top00 = 0x60 ∷ 0xa7 ∷ 0x61 ∷ 0x94 ∷ 0x81 ∷ 0x30 ∷ []

unfoldable pub top10 : List ℕ
top10 = 0x1b ∷ 0x0d ∷ 0xa8 ∷ 0x94 ∷ 0x81 ∷ 0xb0 ∷ []

unfoldable pub top11 : List ℕ
top11 = 0x6e ∷ 0x5e ∷ 0xfc ∷ 0x94 ∷ 0x81 ∷ 0xf0 ∷ []

-- what resolves
pub resolved : resolves_by sample_key address ≡ true
unfolding sample_key address resolves_by resolvable key_of hash_of prand_of little
resolved = rw sample

pub resolved-later : resolves_by sample_key address_later ≡ true
unfolding sample_key address_later resolves_by resolvable key_of hash_of prand_of little
resolved-later = rw another

-- and what does not
pub off-by-one : resolves_by sample_key address_off ≡ false
unfolding sample_key address_off resolves_by resolvable key_of hash_of prand_of little
off-by-one = rw sample

pub changed-key : resolves_by key_changed address ≡ false
unfolding key_changed address resolves_by resolvable key_of hash_of prand_of little
changed-key = rw bit-changed

pub turned-key : resolves_by key_turned address ≡ false
unfolding key_turned address resolves_by resolvable key_of hash_of prand_of little
turned-key = rw turned_round

pub not-resolvable : (resolves_by sample_key top00 ≡ false) × (resolves_by sample_key top10 ≡ false)
    × (resolves_by sample_key top11 ≡ false)
unfolding sample_key top00 top10 top11 resolves_by resolvable
not-resolvable = (refl, refl, refl)
