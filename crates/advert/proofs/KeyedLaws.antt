-- Both sides of conditions of type 3 (document 02, T-03), as rows that the checker computes: 15, 16 and 17 octets;
-- the public type; top bits 00, 10, 11; a hash off by one bit; a key with one bit changed; a key in the wrong octet
-- order. Keys, addresses and what the cipher says of them are those of resolve (Examples). Assumes nothing.
use Rattle.std.specs.Prelude.{◌≡◌, ℕ, Bool, true, false, List, [], ◌∷◌, drop, refl}
use Rattle.laws.specs.Tests.{pick}
use Rattle.resolve.specs.Examples.{sample_key}
use Rattle.resolve.specs.ExamplesLaws.{key_changed, key_turned, address, address_later, address_off, top00, top10, top11}
use Rattle.resolve.specs.ExamplesLaws.{resolved, resolved-later, off-by-one, changed-key, turned-key, not-resolvable}
use Rattle.advert.specs.Irk.{irk_form, irk_meets}
use Rattle.advert.specs.Condition.{well_formed, meets, form_of, form_status}

-- the match of a key and an address of that type; the texts do not count
abbrev key_meets : List ℕ → ℕ → List ℕ → Bool
key_meets condition t adr = meets 3 condition t adr [] []

-- the status of a condition of type 3 with 15, 16 and 17 octets, with none, and with 16 zeros
pub key-sizes : (form_status (form_of 3 (drop 1 sample_key)) ≡ 18) × (form_status (form_of 3 sample_key) ≡ 0)
    × (form_status (form_of 3 (0 ∷ sample_key)) ≡ 18)
    × (form_status (form_of 3 []) ≡ 18) × (form_status (form_of 3 (lib.ListN.replicate 16 0)) ≡ 0)
unfolding form_status form_of well_formed irk_form pick sample_key
key-sizes = (refl, refl, refl, refl, refl)

-- what matches: the sample's address, and the next one of the same key
pub key_meets_lem : (key_meets sample_key 1 address ≡ true) × (key_meets sample_key 1 address_later ≡ true)
unfolding meets pick irk_meets
key_meets_lem = (resolved, resolved-later)

-- what does not: the same address as a public one, the hash off by one bit, one bit of the key changed, the key in
-- the wrong order
pub key-fails : (key_meets sample_key 0 address ≡ false) × (key_meets sample_key 1 address_off ≡ false)
    × (key_meets key_changed 1 address ≡ false)
    × (key_meets key_turned 1 address ≡ false)
unfolding meets pick irk_meets
key-fails = (refl, off-by-one, changed-key, turned-key)

-- nor an address whose top two bits are not 01
pub key-tops : (key_meets sample_key 1 top00 ≡ false) × (key_meets sample_key 1 top10 ≡ false)
    × (key_meets sample_key 1 top11 ≡ false)
unfolding meets pick irk_meets
key-tops = not-resolvable
