-- FIPS 197, section 4: the field GF(2^8), octets as polynomials over GF(2) modulo x^8 + x^4 + x^3 + x + 1; and the
-- substitution rule of 5.1.1. Assumes nothing.
use Rattle.std.specs.Prelude.{ℕ, zero, suc, ◌+◌, ◌*◌, ◌/◌, ◌%◌, ◌^◌}
use Rattle.std.specs.Int.Bits.{bit_xor}

infixl 68 ◌⊕◌
infixl 70 ◌•◌
-- 4.1: the sum is the exclusive or of the bits
unfoldable pub ◌⊕◌ : ℕ → ℕ → ℕ
a ⊕ b = bit_xor a b

-- 4.2, XTIMES: the product with {02}. The bits move up by one place; where bit 7 was set, {1b} is added
unfoldable pub xtimes : ℕ → ℕ
xtimes b = (b % 128 * 2) ⊕ (b / 128 * 0x1b)

-- the sum of b, {02} • b, {02} • {02} • b, .. at the places of the n lowest bits of a that are 1
unfoldable pub products : ℕ → ℕ → ℕ → ℕ
products zero a b = 0
products (suc n) a b = (a % 2 * b) ⊕ products n (a / 2) (xtimes b)

-- 4.2: the product
unfoldable pub ◌•◌ : ℕ → ℕ → ℕ
a • b = products 8 a b

-- s, its square, the square of that, .. multiplied, n factors
unfoldable pub squares : ℕ → ℕ → ℕ
squares zero s = 1
squares (suc n) s = s • squares n (s • s)

-- 4.4: the inverse of b is its power 254 = 2 + 4 + .. + 128; of {00} it gives {00}
unfoldable pub inverse : ℕ → ℕ
inverse b = squares 7 (b • b)

-- bit i of an octet, 0 the least
unfoldable pub bit : ℕ → ℕ → ℕ
bit i b = b / 2 ^ i % 2

-- 5.1.1: bit i of the affine image of b, with the constant {63}
unfoldable pub affine_bit : ℕ → ℕ → ℕ
affine_bit b i =
    (bit i b + bit ((i + 4) % 8) b + bit ((i + 5) % 8) b + bit ((i + 6) % 8) b + bit ((i + 7) % 8) b + bit i 0x63) % 2

-- 5.1.1: the affine map
unfoldable pub affine : ℕ → ℕ
affine b =
    affine_bit b 0 + 2 * affine_bit b 1 + 4 * affine_bit b 2 + 8 * affine_bit b 3
    + 16 * affine_bit b 4 + 32 * affine_bit b 5 + 64 * affine_bit b 6 + 128 * affine_bit b 7

-- 5.1.1, SBOX: the inverse, then the affine map
unfoldable pub substitute : ℕ → ℕ
substitute b = affine (inverse b)
