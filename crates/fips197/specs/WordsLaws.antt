-- Laws of the definitions in Words.
use Rattle.std.specs.Prelude.{ℕ, ◌+◌, ◌*◌, ◌/◌, ◌%◌, ◌^◌, ◌<◌, ◌≡◌, [], ◌∷◌}
use Rattle.std.proofs.Common.{sym, ap, ◌∙◌, div-add-mod', arith}
use Rattle.std.proofs.Math.Nat.{div-div-eq-div-mul}
use Rattle.std.specs.Int.Bits.{bit_xor}
use Rattle.std.proofs.lemmas.Nat.{xor_shr, xor_mod}
use Rattle.fips197.specs.Field.{◌⊕◌}
use Rattle.fips197.specs.Words.{word, sums, rotated, octet, octets}

-- the exclusive or of two numbers at eight bits from place k
xor-part : (k x y : ℕ) → bit_xor x y / 2 ^ k % 256 ≡ bit_xor (x / 2 ^ k % 256) (y / 2 ^ k % 256)
xor-part k x y = ap (λ (n : ℕ). n % 256) (xor_shr x y k) ∙ xor_mod (x / 2 ^ k) (y / 2 ^ k) 8

-- the exclusive or of two numbers is the sum of their words
pub octets-xor : (x y : ℕ) → octets (bit_xor x y) ≡ sums (octets x) (octets y)
unfolding octets sums ◌⊕◌
octets-xor x y = rw (xor-part 0 x y, xor-part 8 x y, xor-part 16 x y, xor-part 24 x y)

-- a number from four octets
pub octets-word : (p q u v : ℕ) → p < 256 → q < 256 → u < 256 → v < 256
    → octets (p + 256 * q + 65536 * u + 16777216 * v) ≡ p ∷ q ∷ u ∷ v ∷ []
unfolding octets
octets-word p q u v hp hq hu hv =
    let w = p + 256 * q + 65536 * u + 16777216 * v in
    let d1 : w / 256 ≡ q + 256 * u + 65536 * v = omega arith in
    let d2 : w / 65536 ≡ u + 256 * v = omega arith in
    let d3 : w / 16777216 ≡ v = omega arith in
    let e0 : w / 1 % 256 ≡ p = omega arith in
    let e1 : (q + 256 * u + 65536 * v) % 256 ≡ q = omega arith in
    let e2 : (u + 256 * v) % 256 ≡ u = omega arith in
    let e3 : v % 256 ≡ v = omega arith in
    rw (e0, d1, e1, d2, e2, d3, e3)

-- from one octet after the other to all four
joined : (w x y z p q u v : ℕ) → w ≡ x * 256 + p → x ≡ y * 256 + q → y ≡ z * 256 + u → v ≡ z
    → w ≡ p + 256 * q + 65536 * u + 16777216 * v
joined w x y z p q u v a b c d = omega arith

-- a number is made of its octets
pub word-octets : (w : ℕ) → w < 2 ^ 32 → w ≡ octet 0 w + 256 * octet 1 w + 65536 * octet 2 w + 16777216 * octet 3 w
word-octets w h =
    let d2 : w / 256 / 256 ≡ w / 65536 = div-div-eq-div-mul w 256 256 in
    let d3 : w / 65536 / 256 ≡ w / 16777216 = div-div-eq-div-mul w 65536 256 in
    let a0 : w ≡ w / 256 * 256 + w / 1 % 256 = omega arith in
    let a1 : w / 256 ≡ w / 65536 * 256 + w / 256 % 256 = rw d2 at (sym (div-add-mod' (w / 256) 256)) in
    let a2 : w / 65536 ≡ w / 16777216 * 256 + w / 65536 % 256 = rw d3 at (sym (div-add-mod' (w / 65536) 256)) in
    let a3 : w / 16777216 % 256 ≡ w / 16777216 = omega arith in
    joined w (w / 256) (w / 65536) (w / 16777216) (w / 1 % 256) (w / 256 % 256) (w / 65536 % 256)
    (w / 16777216 % 256) a0 a1 a2 a3

-- an octet is below 256
octet-lt : (r w : ℕ) → octet r w < 256
octet-lt r w = omega arith

-- a number turned by one octet
turned : (w a b c d : ℕ) → a < 256 → b < 256 → c < 256 → d < 256 → w ≡ a + 256 * b + 65536 * c + 16777216 * d
    → w % 256 * 16777216 + w / 256 ≡ b + 256 * c + 65536 * d + 16777216 * a
turned w a b c d ha hb hc hd e =
    let m : w % 256 ≡ a = omega arith in
    let q : w / 256 ≡ b + 256 * c + 65536 * d = omega arith in
    omega arith

-- its word is turned by one place
pub octets-turn : (w : ℕ) → w < 2 ^ 32 → octets (w % 256 * 16777216 + w / 256) ≡ rotated 1 (octets w)
unfolding octets rotated word
octets-turn w h =
    let a = octet-lt 0 w in
    let b = octet-lt 1 w in
    let c = octet-lt 2 w in
    let d = octet-lt 3 w in
    rw (turned w (octet 0 w) (octet 1 w) (octet 2 w) (octet 3 w) a b c d (word-octets w h))
    (octets-word (octet 1 w) (octet 2 w) (octet 3 w) (octet 0 w) b c d a)

-- an octet as a word
pub octets-small : (x : ℕ) → x < 256 → octets x ≡ x ∷ 0 ∷ 0 ∷ 0 ∷ []
unfolding octets
octets-small x h =
    let e0 : x / 1 % 256 ≡ x = omega arith in
    let e1 : x / 256 % 256 ≡ 0 = omega arith in
    let e2 : x / 65536 % 256 ≡ 0 = omega arith in
    let e3 : x / 16777216 % 256 ≡ 0 = omega arith in
    rw (e0, e1, e2, e3)
