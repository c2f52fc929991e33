-- Tables of rows: what the rows of a list of places are, of rows with empty rows behind them, and the way back from
-- rows to octets. Assumes nothing.
use Prim.Native.Nat.{ℕ, zero, suc, ◌+◌, ◌-◌, ◌*◌, ◌≤◌, ◌<◌}
use Rattle.std.specs.Prelude.{◌≡◌, get_or}
use Rattle.std.proofs.Math.Path.{refl, sym, ap}
use Rattle.std.proofs.Common.{◌∙◌, add-zero, mul-zero, mul-le-mul_left, take_at, ext_get_or}
use mathlib.Core.List.{List, [], ◌∷◌, ◌++◌, append_assoc, append-nil}
use Rattle.std.proofs.Math.Nat.{mul-suc}
use native.Mathlib.Omega.{arith}
use Rattle.std.proofs.Math.ListN.{length, take, drop, replicate, length-append}
use Rattle.std.proofs.lemmas.List.{replicate-append-replicate}
use Rattle.std.proofs.Math.Seq.{drop_at, drop-length}
use Rattle.laws.specs.TestsLaws.{cases-le}
use Rattle.laws.specs.Put.{put}
use Rattle.laws.specs.PutLaws.{put-left, put_right}
use Rattle.laws.specs.Loops.{up_to}
use Rattle.laws.specs.Rows.{row, rows, flat}
use Rattle.laws.specs.RowsLaws.{past, row_at, flat_rows, flat_append, length-rows, put_whole}

-- what f gives at k, k + 1, .., n of them
unfoldable pub from : {A : Type 0} → (ℕ → A) → ℕ → ℕ → List A
from f k zero = []
from f k (suc n) = f k ∷ from f (suc k) n

module _ {A : Type 0} where
  pub length_from : (f : ℕ → A) (k n : ℕ) → length (from f k n) ≡ n
  unfolding from
  length_from f k zero = refl
  length_from f k (suc n) = ap suc (length_from f (suc k) n)

  pub get_d-from : (f : ℕ → A) (k n i : ℕ) (d : A) → i < n → get_or (from f k n) i d ≡ f (k + i)
  unfolding from
  get_d-from f k zero i d h = absurd (omega arith)
  get_d-from f k (suc n) zero d h = rw (add-zero k)
  get_d-from f k (suc n) (suc i) d h =
      let e : suc k + i ≡ k + suc i = omega arith in
      get_d-from f (suc k) n i d (omega arith) ∙ ap f e

module _ {A : Type 0} where
  -- places written one after another: their length and their rows
  module _ (f : ℕ → List A) (n : ℕ) (l : (i : ℕ) → length (f i) ≡ n) where
    pub length-places : (k : ℕ) → length (up_to f k) ≡ n * k
    unfolding up_to
    length-places zero = sym (mul-zero n)
    length-places (suc k) =
        let e : n * suc k ≡ n * k + n = mul-suc n k in
        length-append (up_to f k) (f k) ∙ ap (λ (j : ℕ). j + length (f k)) (length-places k)
        ∙ ap (λ (j : ℕ). n * k + j) (l k) ∙ sym e

    pub row-places : (k : ℕ) (t : List A) (i : ℕ) → i < k → row n i (up_to f k ++ t) ≡ f i
    unfolding row up_to
    row-places zero t i h = absurd (omega arith)
    row-places (suc k) t i h =
        let a : up_to f k ++ f k ++ t ≡ up_to f k ++ (f k ++ t) = append_assoc (up_to f k) (f k) t in
        cases-le k i
        (λ (u : k ≤ i).
        let e : i ≡ k = omega arith in
        rw (a, e, drop_at (up_to f k) (f k ++ t) (n * k) (length-places k)) (take_at (f k) t n (l k)))
        (λ (u : i < k). rw a (row-places k (f k ++ t) i u))

    pub rows-places : (k : ℕ) (t : List A) → rows n k (up_to f k ++ t) ≡ from f 0 k
    rows-places k t =
        ext_get_or [] (rows n k (up_to f k ++ t)) (from f 0 k)
        (length-rows n k (up_to f k ++ t) ∙ sym (length_from f 0 k)) at
      where
        at : (i : ℕ) → i < length (rows n k (up_to f k ++ t))
            → get_or (rows n k (up_to f k ++ t)) i [] ≡ get_or (from f 0 k) i []
        at i h =
            let b : i < k = rw (length-rows n k (up_to f k ++ t)) at h in
            let z : 0 + i ≡ i = omega arith in
            row_at n k i (up_to f k ++ t) b ∙ row-places k t i b ∙ sym (get_d-from f 0 k i [] b ∙ ap f z)

  -- places that agree below k are written alike
  pub places_same : (f g : ℕ → List A) (k : ℕ) → ((i : ℕ) → i < k → f i ≡ g i) → up_to f k ≡ up_to g k
  unfolding up_to
  places_same f g zero h = refl
  places_same f g (suc k) h = rw (places_same f g k (λ i b. h i (omega arith)), h k (omega arith))

  -- a place written over another
  pub put-places : (f g : ℕ → List A) (n : ℕ) → ((i : ℕ) → length (f i) ≡ n) → (k i : ℕ) → i < k → length (g i) ≡ n
      → ((j : ℕ) → j < k → (j ≡ i → ⊥) → f j ≡ g j) → put (up_to f k) (n * i) (g i) ≡ up_to g k
  unfolding up_to
  put-places f g n l zero i h lg s = absurd (omega arith)
  put-places f g n l (suc k) i h lg s =
      let lk : length (up_to f k) ≡ n * k = length-places f n l k in
      cases-le k i (last lk) (λ (u : i < k). before lk u (put-places f g n l k i u lg (λ j b. s j (omega arith))))
    where
      last : length (up_to f k) ≡ n * k → k ≤ i → put (up_to f k ++ f k) (n * i) (g i) ≡ up_to g k ++ g k
      last lk u =
          let e : i ≡ k = omega arith in
          let z : n * i ≡ length (up_to f k) + 0 =
          ap (λ (j : ℕ). n * j) e ∙ sym lk ∙ sym (add-zero (length (up_to f k))) in
          let w : up_to f k ≡ up_to g k = places_same f g k (λ j b. s j (omega arith) (λ r. absurd (apart j b r))) in
          rw (z, put_right (up_to f k) (f k) 0 (g i), put_whole (f k) (g i) (l k ∙ sym lg), w, e)
        where
          apart : (j : ℕ) → j < k → j ≡ i → ⊥
          apart j b r = omega arith

      before : length (up_to f k) ≡ n * k → i < k → put (up_to f k) (n * i) (g i) ≡ up_to g k
          → put (up_to f k ++ f k) (n * i) (g i) ≡ up_to g k ++ g k
      before lk u ih =
          let m : n * suc i ≤ n * k = mul-le-mul_left n u in
          let v : n * suc i ≡ n * i + n = mul-suc n i in
          let w : f k ≡ g k = s k (omega arith) (λ (r : k ≡ i). omega arith) in
          rw (put-left (up_to f k) (f k) (n * i) (g i) (omega arith), ih, w)

  -- the first rows of a table
  pub take-rows : (n c k : ℕ) (t : List A) → c ≤ k → take c (rows n k t) ≡ rows n c t
  unfolding rows
  take-rows n zero k t h = refl
  take-rows n (suc c) zero t h = absurd (omega arith)
  take-rows n (suc c) (suc k) t h = ap (λ (l : List (List A)). take n t ∷ l) (take-rows n c k (drop n t) (omega arith))

  -- empty rows are a run of the empty element
  pub flat-replicate : (n k : ℕ) (z : A) → flat (replicate k (replicate n z)) ≡ replicate (n * k) z
  unfolding flat
  flat-replicate n zero z = rw (mul-zero n)
  flat-replicate n (suc k) z =
      let e : n * suc k ≡ n * k + n = mul-suc n k in
      let g : n + n * k ≡ n * suc k = omega arith in
      rw (flat-replicate n k z) (replicate-append-replicate n (n * k) z ∙ ap (λ (j : ℕ). replicate j z) g)

  -- rows with empty rows behind them
  pub flat-padded : (n k : ℕ) (rs : List (List A)) (z : A)
      → flat rs ++ replicate (n * k) z ≡ flat (rs ++ replicate k (replicate n z))
  flat-padded n k rs z =
      ap (λ (l : List A). flat rs ++ l) (sym (flat-replicate n k z))
      ∙ sym (flat_append rs (replicate k (replicate n z)))

  -- a list of k rows is its rows, one after another
  pub rows_whole : (n k : ℕ) (t : List A) → length t ≡ n * k → flat (rows n k t) ≡ t
  unfolding past
  rows_whole n k t l =
      let d : drop (n * k) t ≡ [] = rw (← l) (drop-length t) in
      sym (append-nil (flat (rows n k t))) ∙ ap (λ (x : List A). flat (rows n k t) ++ x) (sym d) ∙ flat_rows n k t
