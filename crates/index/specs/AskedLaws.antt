-- Laws of the definitions in Asked.
use Rattle.std.specs.Prelude.{ℕ, zero, suc, ◌+◌, ◌/◌, ◌%◌, ◌^◌, ◌<◌, ◌≡◌, refl, length, Option, Some, None}
use Rattle.std.proofs.Common.{sym, ap, ◌∙◌, pow-suc, add-zero, zero-add, arith, eq-eqb, ne_eqb}
use Rattle.std.specs.Int.Count.{ones, ones_step, count_trailing_zeros}
use Rattle.laws.specs.Tests.{pick}
use Rattle.laws.specs.TestsLaws.{cases_eq}
use Rattle.wholes.specs.Index.{handles_from, handles_of}
use Rattle.index.specs.declared.Watchers.{Watchers}
use Rattle.index.specs.Asked.{watch_of, watch_count, lowest_in}

-- a bit is 0 or 1
bit-cases : {P : Type 0} (m : ℕ) → (m % 2 ≡ 1 → P) → (m % 2 ≡ 0 → P) → P
bit-cases m f g = cases_eq (m % 2) 1 f (λ n. cases_eq (m % 2) 0 g (λ z. absurd (le-two (m % 2) (omega arith) n z)))
  where
    le-two : (b : ℕ) → b < 2 → (b ≡ 1 → ⊥) → (b ≡ 0 → ⊥) → ⊥
    le-two zero h n z = z refl
    le-two (suc zero) h n z = n refl
    le-two (suc (suc b)) h n z = omega arith

half : (k m : ℕ) → m < 2 ^ suc k → m / 2 < 2 ^ k
half k m h = let e = pow-suc 2 k in omega arith

no_ones : 0 ≡ ones 0
unfolding ones
no_ones = refl

-- as many handles as ones
length-handles : (k h m : ℕ) → m < 2 ^ k → length (handles_from k h m) ≡ ones m
unfolding handles_from pick
length-handles zero h m l = let z : m ≡ 0 = omega arith in rw z no_ones
length-handles (suc k) h m l =
    let i : length (handles_from k (h + 1) (m / 2)) ≡ ones (m / 2) = length-handles k (h + 1) (m / 2) (half k m l) in
    let s : ones m ≡ m % 2 + ones (m / 2) = ones_step m in
    bit-cases m (λ b. rw (eq-eqb (m % 2) 1 b) (omega arith))
    (λ b. rw (ne_eqb (m % 2) 1 (λ q. omega arith)) (omega arith))

-- what is said of a mask that is not 0: how many ones, and the place of the lowest
watched-by : (k h m : ℕ) → m < 2 ^ k → (m ≡ 0 → ⊥) → watch_of (handles_from k h m) ≡ Some (record { count = ones m; lowest = h + count_trailing_zeros k m })
unfolding handles_from watch_of count_trailing_zeros pick
watched-by zero h m l n = absurd (n (omega arith))
watched-by (suc k) h m l n =
    let s : ones m ≡ m % 2 + ones (m / 2) = ones_step m in
    bit-cases m
    (λ b. let i : length (handles_from k (h + 1) (m / 2))
    ≡ ones (m / 2) = length-handles k (h + 1) (m / 2) (half k m l) in
    let c : suc (length (handles_from k (h + 1) (m / 2))) ≡ ones m =
    omega arith in rw (eq-eqb (m % 2) 1 b, c, b, add-zero h))
    (λ b. let c : ones (m / 2) ≡ ones m = omega arith in let a : h + 1 + count_trailing_zeros k (m / 2)
    ≡ h + suc (count_trailing_zeros k (m / 2)) = omega arith in
    rw (ne_eqb (m % 2) 1 (λ q. omega arith), b)
    (watched-by k (h + 1) (m / 2) (half k m l) (λ q. n (omega arith)) ∙ rw (c, a)))

-- the same of sixteen bits
pub mask-watched : (m : ℕ) → m < 65536 → (m ≡ 0 → ⊥) → Some (record { count = ones m; lowest = count_trailing_zeros 16 m }) ≡ watch_of (handles_of m)
unfolding handles_of
mask-watched m h n = sym (watched-by 16 0 m h n ∙ rw (zero-add (count_trailing_zeros 16 m)))

pub mask-nobody : (m : ℕ) → m ≡ 0 → None ≡ watch_of (handles_of m)
unfolding handles_of handles_from watch_of pick
mask-nobody m z = rw z

pub told-by : (o : Option Watchers) (w : Watchers) → o ≡ Some w → (w.count ≡ watch_count o) × (w.lowest ≡ lowest_in o)
unfolding watch_count lowest_in
told-by o w e = (sym (ap watch_count e), sym (ap lowest_in e))

pub told-nobody : (o : Option Watchers) → o ≡ None → (0 ≡ watch_count o) × (0 ≡ lowest_in o)
unfolding watch_count lowest_in
told-nobody o e = (sym (ap watch_count e), sym (ap lowest_in e))
