-- FIPS 197, 4.2 and 5.1.3: the four octets of a column doubled at once, and a mixed column from the column, its
-- double and both turned. Assumes nothing.
use Rattle.std.specs.Prelude.{ℕ, zero, suc, ◌+◌, ◌-◌, ◌*◌, ◌/◌, ◌%◌, ◌^◌, ◌≤◌, ◌<◌, ◌≡◌, refl, List, [], ◌∷◌, map, get_or}
use Rattle.std.proofs.Common.{sym, ap, ◌∙◌, pow-suc, zero-mul, one-mul, arith}
use Rattle.std.specs.Int.Bits.{differ, bit_and, bit_xor, xor_step, xor_zero_l, xor_zero_r}
use Rattle.std.proofs.lemmas.Nat.{and_shr, and_mod, and_le_l, xor_comm}
use Rattle.std.proofs.lemmas.Nat.Bits.{and_high}
use Rattle.fips197.specs.Field.{◌⊕◌, xtimes, products, ◌•◌}
use Rattle.fips197.specs.Words.{octet, octets, word, sums, rotated}
use Rattle.fips197.specs.WordsLaws.{octets-xor, octets-word, word-octets}
use Rattle.fips197.specs.Cipher.{mix_column}

-- the exclusive or is associative
differ-assoc : (x y z : ℕ) → x < 2 → y < 2 → z < 2 → differ (differ x y) z ≡ differ x (differ y z)
differ-assoc zero y z a b c = refl
differ-assoc (suc zero) zero z a b c = refl
differ-assoc (suc zero) (suc zero) zero a b c = refl
differ-assoc (suc zero) (suc zero) (suc zero) a b c = refl
differ-assoc (suc zero) (suc zero) (suc (suc z)) a b c = absurd (omega arith)
differ-assoc (suc zero) (suc (suc y)) z a b c = absurd (omega arith)
differ-assoc (suc (suc x)) y z a b c = absurd (omega arith)

differ-lt : (x y : ℕ) → x < 2 → y < 2 → differ x y < 2
differ-lt zero y a b = b
differ-lt (suc zero) zero a b = a
differ-lt (suc zero) (suc zero) a b = omega arith
differ-lt (suc zero) (suc (suc y)) a b = absurd (omega arith)
differ-lt (suc (suc x)) y a b = absurd (omega arith)

module _ (a b : ℕ) where
  pub xor-half : bit_xor a b / 2 ≡ bit_xor (a / 2) (b / 2)
  xor-half =
      let d : differ (a % 2) (b % 2) < 2 = differ-lt (a % 2) (b % 2) (omega arith) (omega arith) in
      let s : bit_xor a b ≡ bit_xor (a / 2) (b / 2) * 2 + differ (a % 2) (b % 2) = xor_step a b in
      halved (bit_xor a b) (bit_xor (a / 2) (b / 2)) (differ (a % 2) (b % 2)) d s
    where
      halved : (n h d : ℕ) → d < 2 → n ≡ h * 2 + d → n / 2 ≡ h
      halved n h d l e = omega arith

  pub xor-odd : bit_xor a b % 2 ≡ differ (a % 2) (b % 2)
  xor-odd =
      let d : differ (a % 2) (b % 2) < 2 = differ-lt (a % 2) (b % 2) (omega arith) (omega arith) in
      let s : bit_xor a b ≡ bit_xor (a / 2) (b / 2) * 2 + differ (a % 2) (b % 2) = xor_step a b in
      odd (bit_xor a b) (bit_xor (a / 2) (b / 2)) (differ (a % 2) (b % 2)) d s
    where
      odd : (n h d : ℕ) → d < 2 → n ≡ h * 2 + d → n % 2 ≡ d
      odd n h d l e = omega arith

xor-assoc-under : (k a b c : ℕ) → a < 2 ^ k → bit_xor (bit_xor a b) c ≡ bit_xor a (bit_xor b c)
xor-assoc-under zero a b c h =
    let z : a ≡ 0 = omega arith in
    ap (λ (n : ℕ). bit_xor (bit_xor n b) c) z ∙ ap (λ (n : ℕ). bit_xor n c) (xor_zero_l b) ∙ sym (xor_zero_l (bit_xor b c))
    ∙ ap (λ (n : ℕ). bit_xor n (bit_xor b c)) (sym z)
xor-assoc-under (suc k) a b c h =
    let p : 2 ^ suc k ≡ 2 ^ k * 2 = pow-suc 2 k in
    let i : bit_xor (bit_xor (a / 2) (b / 2)) (c / 2) ≡ bit_xor (a / 2) (bit_xor (b / 2) (c / 2)) =
    xor-assoc-under k (a / 2) (b / 2) (c / 2) (omega arith) in
    let d : differ (differ (a % 2) (b % 2)) (c % 2) ≡ differ (a % 2) (differ (b % 2) (c % 2)) =
    differ-assoc (a % 2) (b % 2) (c % 2) (omega arith) (omega arith) (omega arith) in
    xor_step (bit_xor a b) c
    ∙ ap (λ (n : ℕ). bit_xor n (c / 2) * 2 + differ (bit_xor a b % 2) (c % 2)) (xor-half a b)
    ∙ ap (λ (n : ℕ). bit_xor (bit_xor (a / 2) (b / 2)) (c / 2) * 2 + differ n (c % 2)) (xor-odd a b)
    ∙ ap (λ (n : ℕ). n * 2 + differ (differ (a % 2) (b % 2)) (c % 2)) i
    ∙ ap (λ (n : ℕ). bit_xor (a / 2) (bit_xor (b / 2) (c / 2)) * 2 + n) d
    ∙ ap (λ (n : ℕ). bit_xor (a / 2) n * 2 + differ (a % 2) (differ (b % 2) (c % 2))) (sym (xor-half b c))
    ∙ ap (λ (n : ℕ). bit_xor (a / 2) (bit_xor b c / 2) * 2 + differ (a % 2) n) (sym (xor-odd b c))
    ∙ sym (xor_step a (bit_xor b c))

below_power : (a : ℕ) → a < 2 ^ a
below_power zero = omega arith
below_power (suc a) = let p : 2 ^ suc a ≡ 2 ^ a * 2 = pow-suc 2 a in let i : a < 2 ^ a = below_power a in omega arith

sum-assoc : (a b c : ℕ) → (a ⊕ b) ⊕ c ≡ a ⊕ (b ⊕ c)
unfolding ◌⊕◌
sum-assoc a b c = xor-assoc-under a a b c (below_power a)

sum_comm : (a b : ℕ) → a ⊕ b ≡ b ⊕ a
unfolding ◌⊕◌
sum_comm a b = xor_comm a b

none-sum : (a : ℕ) → 0 ⊕ a ≡ a
unfolding ◌⊕◌
none-sum a = xor_zero_l a

sum-none : (a : ℕ) → a ⊕ 0 ≡ a
unfolding ◌⊕◌
sum-none a = xor_zero_r a

-- the products with {02} and {03}
twice : (s : ℕ) → 2 • s ≡ xtimes s
unfolding ◌•◌ products
twice s = simp (zero-mul, one-mul, none-sum, sum-none)

thrice : (s : ℕ) → 3 • s ≡ s ⊕ xtimes s
unfolding ◌•◌ products
thrice s = simp (zero-mul, one-mul, none-sum, sum-none)

split : (p : ℕ) → p < 256 → p ≡ p / 128 % 2 * 128 + p % 128
split p h = omega arith

one : (p : ℕ) → p < 256 → p / 128 % 2 ≡ p / 128
one p h = omega arith

-- octets by their bit 7 and the bits below it: those below moved up, bit 7 taken alone
lows-are : (w h p q u v bp bq bu bv lp lq lu lv : ℕ) → p ≡ bp * 128 + lp → q ≡ bq * 128 + lq → u ≡ bu * 128 + lu
    → v ≡ bv * 128 + lv
    → w ≡ p + 256 * q + 65536 * u + 16777216 * v
    → h ≡ bp * 128 + 256 * (bq * 128) + 65536 * (bu * 128) + 16777216 * (bv * 128)
    → (w - h) * 2 ≡ lp * 2 + 256 * (lq * 2) + 65536 * (lu * 2) + 16777216 * (lv * 2)
lows-are w h p q u v bp bq bu bv lp lq lu lv a b c d e f = omega arith

tops_are : (h bp bq bu bv : ℕ) → h ≡ bp * 128 + 256 * (bq * 128) + 65536 * (bu * 128) + 16777216 * (bv * 128)
    → h / 128 * 27 ≡ bp * 27 + 256 * (bq * 27) + 65536 * (bu * 27) + 16777216 * (bv * 27)
tops_are h bp bq bu bv f = let g : h / 128 ≡ bp + 256 * bq + 65536 * bu + 16777216 * bv = omega arith in omega arith

-- a number of four octets, each with bit 7 taken out
module _ (w : ℕ) where
  abbrev high : ℕ
  high = bit_and w 0x80808080

  part : (k : ℕ) → high / 2 ^ k % 256 ≡ bit_and (w / 2 ^ k % 256) (0x80808080 / 2 ^ k % 256)
  part k = ap (λ (n : ℕ). n % 256) (and_shr w 0x80808080 k) ∙ and_mod (w / 2 ^ k) (0x80808080 / 2 ^ k) 8

  top : (x : ℕ) → bit_and x 128 ≡ x / 128 % 2 * 128
  top x = and_high x 1 7

  pub high_le : high ≤ w
  high_le = and_le_l w 0x80808080

  module _ (h : w < 2 ^ 32) where
    pub high_is : high
        ≡ octet 0 w / 128 % 2 * 128 + 256 * (octet 1 w / 128 % 2 * 128) + 65536 * (octet 2 w / 128 % 2 * 128)
        + 16777216 * (octet 3 w / 128 % 2 * 128)
    high_is =
        let l : high < 2 ^ 32 = let q = high_le in omega arith in
        word-octets high l
        ∙ rw (
          part 0,
          part 8,
          part 16,
          part 24,
          top (w / 2 ^ 0 % 256),
          top (w / 2 ^ 8 % 256),
          top
              (w / 2 ^ 16 % 256),
          top (w / 2 ^ 24 % 256),
        )

    module _ (p q u v : ℕ) (hp : p < 256) (hq : q < 256) (hu : u < 256) (hv : v < 256)
        (e : w ≡ p + 256 * q + 65536 * u + 16777216 * v)
        (f : high ≡ p / 128 % 2 * 128 + 256 * (q / 128 % 2 * 128) + 65536 * (u / 128 % 2 * 128) + 16777216 *
        (v / 128 % 2 * 128)) where
      low-is : (w - high) * 2 ≡ p % 128 * 2 + 256 * (q % 128 * 2) + 65536 * (u % 128 * 2) + 16777216 * (v % 128 * 2)
      low-is =
          lows-are w high p q u v (p / 128 % 2) (q / 128 % 2) (u / 128 % 2) (v / 128 % 2) (p % 128) (q % 128)
          (u % 128) (v % 128) (split p hp)
          (split q hq) (split u hu) (split v hv) e f

      tops : high / 128 * 27 ≡ p / 128 * 27 + 256 * (q / 128 * 27) + 65536 * (u / 128 * 27) + 16777216 * (v / 128 * 27)
      tops =
          tops_are high (p / 128 % 2) (q / 128 % 2) (u / 128 % 2) (v / 128 % 2) f
          ∙ rw (one p hp, one q hq, one u hu, one v hv)

      pub doubled-of : octets (bit_xor ((w - high) * 2) (high / 128 * 27)) ≡ xtimes p ∷ xtimes q ∷ xtimes u ∷ xtimes v
          ∷ []
      unfolding sums xtimes
      doubled-of =
          octets-xor ((w - high) * 2) (high / 128 * 27)
          ∙ rw (
            low-is,
            tops,
            octets-word (p % 128 * 2) (q % 128 * 2) (u % 128 * 2) (v % 128 * 2) (omega arith) (omega arith)
                (omega arith) (omega arith),
            octets-word (p / 128 * 27) (q / 128 * 27) (u / 128 * 27) (v / 128 * 27) (omega arith) (omega arith)
                (omega arith) (omega arith),
          )

    pub doubled : octets (bit_xor ((w - high) * 2) (high / 128 * 27)) ≡ map xtimes (octets w)
    unfolding octets
    doubled =
        doubled-of (octet 0 w) (octet 1 w) (octet 2 w) (octet 3 w) (omega arith) (omega arith) (omega arith)
        (omega arith) (word-octets w h) high_is

    -- neither part is over 32 bits
    pub top-fits : high / 128 * 27 < 2 ^ 32
    top-fits = let q = high_le in omega arith

    pub low_fits : (w - high) * 2 < 2 ^ 32
    low_fits = let e =
        low-is (octet 0 w) (octet 1 w) (octet 2 w) (octet 3 w) (omega arith) (omega arith) (omega arith) (omega arith)
        (word-octets w h) high_is in omega arith

-- the last of four summands to the front
to_front : (x y z a : ℕ) → ((x ⊕ y) ⊕ z) ⊕ a ≡ ((a ⊕ x) ⊕ y) ⊕ z
to_front x y z a =
    sum_comm ((x ⊕ y) ⊕ z) a ∙ sym (sum-assoc a (x ⊕ y) z) ∙ ap (λ (n : ℕ). n ⊕ z) (sym (sum-assoc a x y))

-- the rows of a mixed column, from a column a, b, c, d: its double, it and its double turned by one, it turned by two
-- and three
rows-mixed : (a b c d : ℕ)
    → sums (sums (sums (map xtimes (a ∷ b ∷ c ∷ d ∷ []))
    (rotated 1 (sums (a ∷ b ∷ c ∷ d ∷ []) (map xtimes (a ∷ b ∷ c ∷ d ∷ [])))))
    (rotated 2 (a ∷ b ∷ c ∷ d ∷ []))) (rotated 3 (a ∷ b ∷ c ∷ d ∷ [])) ≡ mix_column a b c d
unfolding sums rotated word mix_column
rows-mixed a b c d =
    rw (twice a, twice b, twice c, twice d, thrice a, thrice b, thrice c, thrice d)
    (λ i. ((xtimes a ⊕ (b ⊕ xtimes b)) ⊕ c) ⊕ d
    ∷ to_front (xtimes b) (c ⊕ xtimes c) d a i
    ∷ (to_front (xtimes c) (d ⊕ xtimes d) a b ∙ to_front (b) (xtimes c) (d ⊕ xtimes d) a) i
    ∷ sym (to_front (a ⊕ xtimes a) b c (xtimes d)) i
    ∷ [])

-- a mixed column, as it is worked out
pub mixed : (w v x u y z r s t : ℕ) → octets v ≡ map xtimes (octets w) → octets x ≡ sums (octets w) (octets v)
    → octets u ≡ rotated 1 (octets x)
    → octets y ≡ sums (octets v) (octets u) → octets z ≡ rotated 2 (octets w) → octets r ≡ sums (octets y) (octets z)
    → octets s ≡ rotated 3 (octets w) → octets t ≡ sums (octets r) (octets s)
    → octets t ≡ mix_column (octet 0 w) (octet 1 w) (octet 2 w) (octet 3 w)
unfolding octets
mixed w v x u y z r s t hv hx hu hy hz hr hs ht =
    ht ∙ rw (hr, hs, hy, hz, hu, hx, hv) (rows-mixed (octet 0 w) (octet 1 w) (octet 2 w) (octet 3 w))

-- .. of a column by its octets
pub mixed-of : (w p q u v : ℕ) → octets w ≡ p ∷ q ∷ u ∷ v ∷ []
    → mix_column (octet 0 w) (octet 1 w) (octet 2 w) (octet 3 w) ≡ mix_column p q u v
unfolding octets
mixed-of w p q u v e = ap (λ (l : List ℕ). mix_column (get_or l 0 0) (get_or l 1 0) (get_or l 2 0) (get_or l 3 0)) e
