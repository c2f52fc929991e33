-- Laws of the definitions in Little.
use Rattle.std.specs.Prelude.{ℕ, zero, suc, ◌+◌, ◌*◌, ◌/◌, ◌%◌, ◌^◌, ◌≤◌, ◌<◌, ◌≡◌, refl, List, [], ◌∷◌, ◌++◌, true, length, take, drop}
use Rattle.std.proofs.Common.{sym, ap, ◌∙◌, zero-add, add-zero, mul_assoc, mul_comm, pow-suc, div-one, add-one, arith, get_or-take, get_or-drop, drop-cons}
use Rattle.std.proofs.Math.Nat.{pow-zero, mod-one, div-div-eq-div-mul, one-le-pow}
use Rattle.std.proofs.Math.Arith.{mod-mul}
use borrow.Author.Tests.{ltb-true}
use Rattle.laws.specs.Put.{put}
use Rattle.laws.specs.PutLaws.{get_d-put-before, get_d-put-after, take_put}
use Rattle.laws.specs.Rows.{row}
use Rattle.laws.specs.RowsLaws.{get_d-row}
use Rattle.laws.specs.Loops.{every}
use Rattle.laws.specs.TestsLaws.{and_left, and_right}
use Rattle.octets.specs.Little.{little, octets_of, value, is_octet}

pub length-octets : (k v : ℕ) → length (octets_of k v) ≡ k
unfolding octets_of
length-octets zero v = refl
length-octets (suc k) v = ap suc (length-octets k (v / 256))

-- j and then k octets are j + k octets
pub little-add : (j k : ℕ) (xs : List ℕ) (i : ℕ) → little (j + k) xs i ≡ little j xs i + 256 ^ j * little k xs (i + j)
unfolding little
little-add zero k xs i = rw (zero-add k, pow-zero 256, add-zero i) (omega arith)
little-add (suc j) k xs i =
    let e : suc j + k ≡ suc (j + k) = omega arith in
    let ih : little (j + k) xs (i + 1) ≡ little j xs (i + 1) + 256 ^ j * little k xs (i + 1 + j) =
    little-add j k xs (i + 1) in
    let a : i + 1 + j ≡ i + suc j = omega arith in
    let m : 256 ^ suc j * little k xs (i + suc j) ≡ 256 * (256 ^ j * little k xs (i + suc j)) =
    rw (pow-suc 256 j, mul_comm (256 ^ j) 256, mul_assoc 256 (256 ^ j) (little k xs (i + suc j))) in
    rw (e, m, ih, a) (omega arith)

pub octets-add : (j k v : ℕ) → octets_of (j + k) v ≡ octets_of j v ++ octets_of k (v / 256 ^ j)
unfolding octets_of
octets-add zero k v = rw (zero-add k, pow-zero 256, div-one v)
octets-add (suc j) k v =
    let e : suc j + k ≡ suc (j + k) = omega arith in
    let d : v / 256 ^ suc j ≡ v / 256 / 256 ^ j =
    rw (pow-suc 256 j, mul_comm (256 ^ j) 256) (sym (div-div-eq-div-mul v 256 (256 ^ j))) in
    rw (e, d, octets-add j k (v / 256))

-- the octets of a number make the number, as far as they reach
pub value-octets : (k v : ℕ) → value (octets_of k v) ≡ v % 256 ^ k
unfolding value octets_of
value-octets zero v = rw (pow-zero 256, mod-one v)
value-octets (suc k) v =
    let p : 0 < 256 ^ k = one-le-pow k 256 (omega arith) in
    let m : v % (256 ^ k * 256) ≡ (v / 256 % 256 ^ k) * 256 + v % 256 = mod-mul v p (omega arith) in
    rw (value-octets k (v / 256), pow-suc 256 k, m) (omega arith)

-- the number at an index is the number that the octets there make
pub little-value : (k : ℕ) (xs : List ℕ) (i : ℕ) → i + k ≤ length xs → little k xs i ≡ value (take k (drop i xs))
unfolding little value
little-value zero xs i h = refl
little-value (suc k) xs i h =
    rw (drop-cons xs i 0 (omega arith)) (rw (little-value k xs (i + 1) (omega arith), add-one i))

-- an octet list is the octets of the number that it makes
pub octets-value : (xs : List ℕ) → every is_octet xs ≡ true → octets_of (length xs) (value xs) ≡ xs
unfolding value octets_of every
octets-value [] h = refl
octets-value (x ∷ xs) h =
    let b : x < 256 = ltb-true x 256 (and_left (is_octet x) (every is_octet xs) h) in
    let m : (x + 256 * value xs) % 256 ≡ x = omega arith in
    let d : (x + 256 * value xs) / 256 ≡ value xs = omega arith in
    rw (m, d, octets-value xs (and_right (is_octet x) (every is_octet xs) h))

pub value-lt : (xs : List ℕ) → every is_octet xs ≡ true → value xs < 256 ^ length xs
unfolding value every
value-lt [] h = rw (pow-zero 256) (omega arith)
value-lt (x ∷ xs) h =
    let b : x < 256 = ltb-true x 256 (and_left (is_octet x) (every is_octet xs) h) in
    let ih : value xs < 256 ^ length xs = value-lt xs (and_right (is_octet x) (every is_octet xs) h) in
    rw (pow-suc 256 (length xs)) (omega arith)

-- the octets of a number are octets
pub octets-octets : (k v : ℕ) → every is_octet (octets_of k v) ≡ true
unfolding octets_of every
octets-octets zero v = refl
octets-octets (suc k) v = rw (borrow.Author.Tests.lt-ltb (v % 256) 256 (omega arith), octets-octets k (v / 256))

-- octets past the width do not show
pub octets-mod : (k v : ℕ) → octets_of k (v % 256 ^ k) ≡ octets_of k v
unfolding octets_of
octets-mod zero v = refl
octets-mod (suc k) v =
    let p : 0 < 256 ^ k = one-le-pow k 256 (omega arith) in
    let m : v % (256 ^ k * 256) ≡ (v / 256 % 256 ^ k) * 256 + v % 256 = mod-mul v p (omega arith) in
    let a : ((v / 256 % 256 ^ k) * 256 + v % 256) % 256 ≡ v % 256 = omega arith in
    let b : ((v / 256 % 256 ^ k) * 256 + v % 256) / 256 ≡ v / 256 % 256 ^ k = omega arith in
    rw (pow-suc 256 k, m, a, b, octets-mod k (v / 256))

-- reading what was put
pub little-put : (k : ℕ) (xs : List ℕ) (at v : ℕ) → at + k ≤ length xs
    → little k (put xs at (octets_of k v)) at ≡ v % 256 ^ k
little-put k xs at v h =
    let n : length (octets_of k v) ≡ k = length-octets k v in
    let l : length (put xs at (octets_of k v)) ≡ length xs =
    Rattle.laws.specs.PutLaws.length-put xs at (octets_of k v) (omega arith) in
    let t : take k (drop at (put xs at (octets_of k v))) ≡ octets_of k v =
    ap (λ (j : ℕ). take j (drop at (put xs at (octets_of k v)))) (sym n)
    ∙ take_put xs at (octets_of k v) (omega arith) in
    little-value k (put xs at (octets_of k v)) at (omega arith) ∙ ap value t ∙ value-octets k v

-- reading before and after what was put
pub little-before : (k : ℕ) (xs : List ℕ) (at : ℕ) (ys : List ℕ) (i : ℕ) → i + k ≤ at → at ≤ length xs
    → little k (put xs at ys) i ≡ little k xs i
unfolding little
little-before zero xs at ys i h e = refl
little-before (suc k) xs at ys i h e =
    rw (get_d-put-before xs at ys i 0 (omega arith) e, little-before k xs at ys (i + 1) (omega arith) e)

pub little-after : (k : ℕ) (xs : List ℕ) (at : ℕ) (ys : List ℕ) (i : ℕ) → at + length ys ≤ i → at ≤ length xs
    → little k (put xs at ys) i ≡ little k xs i
unfolding little
little-after zero xs at ys i h e = refl
little-after (suc k) xs at ys i h e =
    rw (get_d-put-after xs at ys i 0 h e, little-after k xs at ys (i + 1) (omega arith) e)

-- reading inside a row of the table
pub little-row : (k n i off : ℕ) (t : List ℕ) → off + k ≤ n → little k (row n i t) off ≡ little k t (n * i + off)
unfolding little
little-row zero n i off t h = refl
little-row (suc k) n i off t h =
    let e : n * i + (off + 1) ≡ n * i + off + 1 = omega arith in
    rw (get_d-row n i off t 0 (omega arith), little-row k n i (off + 1) t (omega arith), e)

-- reading in what is left of a list, and in its first part
pub little-drop : (k n : ℕ) (xs : List ℕ) (i : ℕ) → little k (drop n xs) i ≡ little k xs (n + i)
unfolding little
little-drop zero n xs i = refl
little-drop (suc k) n xs i =
    let e : n + (i + 1) ≡ n + i + 1 = omega arith in
    rw (get_or-drop n xs i 0, little-drop k n xs (i + 1), e)

pub little-take : (k n : ℕ) (xs : List ℕ) (i : ℕ) → i + k ≤ n → little k (take n xs) i ≡ little k xs i
unfolding little
little-take zero n xs i h = refl
little-take (suc k) n xs i h = rw (get_or-take n xs i 0 (omega arith), little-take k n xs (i + 1) (omega arith))
