-- Laws of the definitions in Below.
use Prim.Native.Nat.{ℕ, zero, suc, ◌+◌, ◌*◌, ◌≤◌, ◌<◌}
use Rattle.std.specs.Prelude.{◌≡◌, refl, Bool, true, false, List, [], ◌∷◌, length, take, get_or, replicate}
use Rattle.std.proofs.Common.{sym, ap, ◌∙◌, mul-zero, mul-suc, add-one, arith, ext_get_or, take-add, eqb-true}
use Rattle.laws.specs.TestsLaws.{and_left, and_right, and_both, and-not-left, and-not-right, cases-le}
use Rattle.laws.specs.Loops.{every, up_to}
use Rattle.laws.specs.Rows.{row, rows}
use Rattle.laws.specs.RowsLaws.{row_at, length-rows}
use Rattle.parts.specs.Parts.{is_zero}
use Rattle.blocks.specs.TablesLaws.{from, length_from, get_d-from}
use Rattle.rule.specs.Base.{All}
use Rattle.soundness.specs.Below.{all_below}

-- two tests that imply one another are one
pub test-eq : (a b : Bool) → (a ≡ true → b ≡ true) → (b ≡ true → a ≡ true) → a ≡ b
test-eq true true f g = refl
test-eq false false f g = refl
test-eq true false f g = sym (f refl)
test-eq false true f g = g refl

pub below_all : (f : ℕ → Bool) (n : ℕ) → ((i : ℕ) → i < n → f i ≡ true) → all_below f n ≡ true
unfolding all_below
below_all f zero h = refl
below_all f (suc n) h = and_both (below_all f n (λ i b. h i (omega arith))) (h n (omega arith))

pub all-below : (f : ℕ → Bool) (n : ℕ) → all_below f n ≡ true → (i : ℕ) → i < n → f i ≡ true
unfolding all_below
all-below f zero e i h = absurd (omega arith)
all-below f (suc n) e i h =
    cases-le n i
    (λ (u : n ≤ i).
    let k : n ≡ i = omega arith in
    ap f (sym k) ∙ and_right (all_below f n) (f n) e)
    (λ (u : i < n). all-below f n (and_left (all_below f n) (f n) e) i u)

-- the turns of a loop that tests one number after another: all passed so far, one did not, all did
pub below_more : (f : ℕ → Bool) (i : ℕ) → all_below f i ≡ true → f i ≡ true → all_below f (i + 1) ≡ true
unfolding all_below
below_more f i q e = rw (add-one i) (and_both q e)

pub below_fails : (f : ℕ → Bool) (n i : ℕ) → i < n → f i ≡ false → false ≡ all_below f n
unfolding all_below
below_fails f zero i h e = absurd (omega arith)
below_fails f (suc n) i h e =
    cases-le n i
    (λ (u : n ≤ i).
    let k : n ≡ i = omega arith in
    sym (and-not-right (all_below f n) (f n) (ap f k ∙ e)))
    (λ (u : i < n). sym (and-not-left (all_below f n) (f n) (sym (below_fails f n i u e))))

-- a list given by an index: what holds of each element
module _ {A : Type 0} (f : ℕ → A) where
  pub all_from : (P : A → Type 0) (k n : ℕ) → ((i : ℕ) → k ≤ i → i < k + n → P (f i)) → All P (from f k n)
  unfolding from
  all_from P k zero h = tt
  all_from P k (suc n) h =
      (h k (omega arith) (omega arith), all_from P (suc k) n (λ i a b. h i (omega arith) (omega arith)))

-- lists given by indices that agree
pub from-same : {A : Type 0} (f g : ℕ → A) (k n : ℕ) → ((i : ℕ) → k ≤ i → i < k + n → f i ≡ g i)
    → from f k n ≡ from g k n
unfolding from
from-same f g k zero h = refl
from-same f g k (suc n) h =
    rw (h k (omega arith) (omega arith), from-same f g (suc k) n (λ i a b. h i (omega arith) (omega arith)))

-- the rows of a table, by their index
pub rows-from : {A : Type 0} (n k : ℕ) (t : List A) → rows n k t ≡ from (λ (i : ℕ). row n i t) 0 k
rows-from n k t =
    ext_get_or [] (rows n k t) (from (λ (i : ℕ). row n i t) 0 k) (length-rows n k t
    ∙ sym (length_from (λ (i : ℕ). row n i t) 0 k))
    (λ i h. at i (rw (length-rows n k t) at h))
  where
    at : (i : ℕ) → i < k → get_or (rows n k t) i [] ≡ get_or (from (λ (i : ℕ). row n i t) 0 k) i []
    at i h =
        let z : 0 + i ≡ i = omega arith in
        row_at n k i t h ∙ sym (get_d-from (λ (i : ℕ). row n i t) 0 k i [] h ∙ ap (λ (j : ℕ). row n j t) z)

-- the first rows, written one after another
pub rows-up : {A : Type 0} (n : ℕ) (t : List A) (k : ℕ) → up_to (λ (i : ℕ). row n i t) k ≡ take (n * k) t
unfolding up_to row
rows-up n t zero = rw (mul-zero n)
rows-up n t (suc k) = rw (rows-up n t k, mul-suc n k) (sym (take-add (n * k) n t))

-- zeros alone are a run of zeros
pub zeros-run : (l : List ℕ) → every is_zero l ≡ true → l ≡ replicate (length l) 0
unfolding every
zeros-run [] e = refl
zeros-run (x ∷ l) e =
    rw (
      eqb-true x 0 (and_left (is_zero x) (every is_zero l) e),
      ←
          (zeros-run l (and_right (is_zero x) (every is_zero l) e)),
    )

pub run-zeros : (n : ℕ) → every is_zero (replicate n 0) ≡ true
unfolding every
run-zeros zero = refl
run-zeros (suc n) = run-zeros n
