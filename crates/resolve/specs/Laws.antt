-- Laws between the numbers of the definitions and the octets of the code. Assumes nothing.
use Rattle.std.specs.Prelude.{ℕ, zero, suc, ◌+◌, ◌*◌, ◌/◌, ◌%◌, ◌<◌, ◌≡◌, refl, true, false, List, [], ◌∷◌, ◌++◌, reverse, length, get_or}
use Rattle.std.proofs.Common.{sym, ap, ap₂, ◌∙◌, arith}
use borrow.Author.Tests.{eq-eqb, ne_eqb, eqb-true}
use Rattle.std.proofs.Math.Dec.{eqb}
use Rattle.laws.specs.TestsLaws.{and_left}
use Rattle.octets.specs.Little.{little, octets_of, value}
use Rattle.octets.specs.LittleLaws.{octets-add}
use Rattle.fips197.specs.Words.{octet, octets}
use Rattle.fips197.specs.Cipher.{cipher}
use Rattle.aes.specs.Blocks.{block_octets}
use Rattle.aes.specs.declared.Block.{Block}
use Rattle.resolve.specs.Resolve.{key_size, address_size, big_octets, big_value, e, ah, key_of, hash_of, prand_of, resolvable, resolves_by}

-- k elements from place i
unfoldable elements : ℕ → List ℕ → ℕ → List ℕ
elements zero l i = []
elements (suc k) l i = get_or l i 0 ∷ elements k l (i + 1)

-- the octets of a number that was read are those that were read
octets-little : (k : ℕ) (l : List ℕ) (i : ℕ) → ((j : ℕ) → get_or l j 0 < 256)
    → octets_of k (little k l i) ≡ elements k l i
unfolding elements octets_of little
octets-little zero l i b = refl
octets-little (suc k) l i b =
    let h : get_or l i 0 < 256 = b i in
    let m : (get_or l i 0 + 256 * little k l (i + 1)) % 256 ≡ get_or l i 0 = omega arith in
    let d : (get_or l i 0 + 256 * little k l (i + 1)) / 256 ≡ little k l (i + 1) = omega arith in
    rw (m, d, octets-little k l (i + 1) b)

-- a key as a block, by columns
pub key-block : (key : List ℕ) → ((j : ℕ) → get_or key j 0 < 256) → (p q u v : ℕ)
    → octets p ≡ get_or key 15 0 ∷ get_or key 14 0 ∷ get_or key 13 0 ∷ get_or key 12 0 ∷ []
    → octets q ≡ get_or key 11 0 ∷ get_or key 10 0 ∷ get_or key 9 0 ∷ get_or key 8 0 ∷ []
    → octets u ≡ get_or key 7 0 ∷ get_or key 6 0 ∷ get_or key 5 0 ∷ get_or key 4 0 ∷ []
    → octets v ≡ get_or key 3 0 ∷ get_or key 2 0 ∷ get_or key 1 0 ∷ get_or key 0 0 ∷ []
    → block_octets (record { a = p; b = q; c = u; d = v }) ≡ big_octets (key_of key)
unfolding block_octets big_octets key_of elements
key-block key b p q u v ep eq eu ev =
    (λ i. ep i ++ eq i ++ eu i ++ ev i) ∙ ap reverse (sym (octets-little key_size key 0 b))

-- three octets are a number below 2^24
little3-small : (l : List ℕ) (i : ℕ) → ((j : ℕ) → get_or l j 0 < 256) → little 3 l i / 16777216 ≡ 0
unfolding little
little3-small l i b =
    let h0 : get_or l i 0 < 256 = b i in
    let h1 : get_or l (i + 1) 0 < 256 = b (i + 1) in
    let h2 : get_or l (i + 1 + 1) 0 < 256 = b (i + 1 + 1) in
    omega arith

-- the octets of a number that three octets make: those three, then zeros
prand-octets : (l : List ℕ) (i : ℕ) → ((j : ℕ) → get_or l j 0 < 256)
    → octets_of 16 (little 3 l i) ≡ elements 3 l i ++ octets_of 13 0
prand-octets l i b =
    octets-add 3 13 (little 3 l i)
    ∙ ap₂ (λ (m : List ℕ) (n : ℕ). m ++ octets_of 13 n) (octets-little 3 l i b) (little3-small l i b)

-- a prand as a block, by columns
pub prand-block : (address : List ℕ) → ((j : ℕ) → get_or address j 0 < 256) → (v : ℕ)
    → octets v ≡ 0 ∷ get_or address 5 0 ∷ get_or address 4 0 ∷ get_or address 3 0 ∷ []
    → block_octets (record { a = 0; b = 0; c = 0; d = v }) ≡ big_octets (prand_of address)
unfolding block_octets big_octets prand_of elements octets octets_of
prand-block address b v ev =
    (λ i. octets 0 ++ octets 0 ++ octets 0 ++ ev i) ∙ ap reverse (sym (prand-octets address 3 b))

-- the lowest 24 bits of a number, by octets
cut : (x y z v : ℕ) → x < 256 → y < 256 → z < 256
    → (x + 256 * (y + 256 * (z + 256 * v))) % 16777216 ≡ x + 256 * y + 65536 * z
cut x y z v hx hy hz = omega arith

-- the last three octets of the cipher's block are ah
pub hash-of : (k r : ℕ) (s : Block) → block_octets s ≡ cipher (big_octets k) (big_octets r)
    → octet 3 s.d + 256 * octet 2 s.d + 65536 * octet 1 s.d ≡ ah k r
unfolding ah e big_value block_octets octets value
hash-of k r s h =
    let rest = reverse (octets s.a ++ octets s.b ++ octets s.c) in
    sym (cut (octet 3 s.d) (octet 2 s.d) (octet 1 s.d) (value (octet 0 s.d ∷ rest)) (omega arith)
    (omega arith) (omega arith))
    ∙ ap (λ (l : List ℕ). value (reverse l) % 16777216) h

-- the tests of an address's form
module _ (address : List ℕ) where
  pub by_size : (length address ≡ address_size → ⊥) → false ≡ resolvable address
  unfolding resolvable
  by_size h = rw (ne_eqb (length address) address_size h)

  pub by-top : length address ≡ address_size → eqb (get_or address 5 0 / 64) 1 ≡ resolvable address
  unfolding resolvable
  by-top a = rw (eq-eqb (length address) address_size a)

  -- what a resolvable one has
  pub sized : resolvable address ≡ true → length address ≡ address_size
  unfolding resolvable
  sized e = eqb-true (length address) address_size
      (and_left (eqb (length address) address_size) (eqb (get_or address 5 0 / 64) 1) e)

-- the tests of a resolution, in the order of the code
module _ (key address : List ℕ) where
  pub by_key : (length key ≡ key_size → ⊥) → false ≡ resolves_by key address
  unfolding resolves_by
  by_key h = rw (ne_eqb (length key) key_size h)

  module _ (k : length key ≡ key_size) where
    pub by_form : resolvable address ≡ false → false ≡ resolves_by key address
    unfolding resolves_by
    by_form h = rw (eq-eqb (length key) key_size k, h)

    pub by-hash : resolvable address ≡ true → {x y : ℕ} → x ≡ hash_of address → y ≡ ah (key_of key) (prand_of address)
        → eqb x y ≡ resolves_by key address
    unfolding resolves_by
    by-hash h p q = rw (eq-eqb (length key) key_size k, h) (λ i. eqb (p i) (q i))
