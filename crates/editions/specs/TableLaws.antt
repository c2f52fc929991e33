-- Laws of the definitions in Table.
use Rattle.std.specs.Prelude.{ℕ, zero, suc, ◌+◌, ◌-◌, ◌*◌, ◌≤◌, ◌<◌, ◌≡◌, refl, take, get_or, replicate}
use Rattle.std.proofs.Math.Path.{sym, ap}
use Rattle.std.proofs.Common.{◌∙◌, arith, take_at}
use mathlib.Core.List.{List, [], ◌∷◌, ◌++◌, map}
use Rattle.std.proofs.Math.ListN.{length, length-append}
use Rattle.std.proofs.lemmas.List.{length-replicate, length-map}
use Rattle.laws.specs.Rows.{rows, flat}
use Rattle.laws.specs.RowsLaws.{rows-flat}
use Rattle.rule.specs.Base.{All}
use Rattle.rule.specs.BaseLaws.{all_append}
use Rattle.model.specs.Block.{pad_to}
use Rattle.blocks.specs.TablesLaws.{flat-padded}
use Rattle.editions.specs.Table.{table_of, places_of}

module _ {A : Type 0} (size most : ℕ) (line : A → List ℕ) (Fits : A → Type 0)
    (long : (a : A) → Fits a → length (pad_to size (line a)) ≡ size) where
  abbrev place : A → List ℕ
  place a = pad_to size (line a)

  abbrev table : List A → List ℕ
  table l = table_of size most line l

  abbrev places : List A → List (List ℕ)
  places l = places_of size most line l

  all-places : (l : List A) → All Fits l → All (λ (r : List ℕ). length r ≡ size) (map place l)
  all-places [] f = tt
  all-places (a ∷ l) f = (long a f.0, all-places l f.1)

  all-zeros : (k : ℕ) → All (λ (r : List ℕ). length r ≡ size) (replicate k (replicate size 0))
  all-zeros zero = tt
  all-zeros (suc k) = (length-replicate size 0, all-zeros k)

  all-sized : (l : List A) → All Fits l → All (λ (r : List ℕ). length r ≡ size) (places l)
  all-sized l f =
      all_append (λ (r : List ℕ). length r ≡ size) (map place l) (replicate (most - length l) (replicate size 0))
      (all-places l f) (all-zeros (most - length l))

  all-at : (rs : List (List ℕ)) → All (λ (r : List ℕ). length r ≡ size) rs → (i : ℕ) → i < length rs
      → length (get_or rs i []) ≡ size
  all-at [] f i h = absurd (omega arith)
  all-at (r ∷ rs) f zero h = f.0
  all-at (r ∷ rs) f (suc i) h = all-at rs f.1 i (omega arith)

  length-places : (l : List A) → length l ≤ most → length (places l) ≡ most
  length-places l h =
      let z : List ℕ = replicate size 0 in
      let n : length (map place l) ≡ length l = length-map l place in
      length-append (map place l) (replicate (most - length l) z)
      ∙ ap (λ (k : ℕ). k + length (replicate (most - length l) z)) n
      ∙ ap (λ (k : ℕ). length l + k) (length-replicate (most - length l) z) ∙ omega arith

  table-flat : (l : List A) → table l ≡ flat (places l)
  unfolding table_of
  table-flat l = flat-padded size (most - length l) (map place l) 0

  pub rows-table : (l : List A) → All Fits l → length l ≤ most → (t : List ℕ)
      → rows size most (table l ++ t) ≡ places l
  rows-table l f h t =
      ap (λ (x : List ℕ). rows size most (x ++ t)) (table-flat l)
      ∙ ap (λ (k : ℕ). rows size k (flat (places l) ++ t)) (sym (length-places l h))
      ∙ rows-flat size (places l) t (all-at (places l) (all-sized l f))

  length-flat : (rs : List (List ℕ)) → All (λ (r : List ℕ). length r ≡ size) rs → length (flat rs) ≡ size * length rs
  unfolding flat
  length-flat [] f = sym (native.Mathlib.Nat.mul-zero size)
  length-flat (r ∷ rs) f =
      length-append r (flat rs) ∙ ap (λ (k : ℕ). k + length (flat rs)) f.0
      ∙ ap (λ (k : ℕ). size + k) (length-flat rs f.1)
      ∙ native.Mathlib.Nat.add_comm size (size * length rs) ∙ sym (native.Mathlib.Nat.mul-suc size (length rs))

  pub length-table : (l : List A) → All Fits l → length l ≤ most → length (table l) ≡ size * most
  length-table l f h =
      ap length (table-flat l) ∙ length-flat (places l) (all-sized l f) ∙ ap (λ (k : ℕ). size * k) (length-places l h)

  module _ (read : List ℕ → A) (reads : (a : A) → Fits a → read (pad_to size (line a)) ≡ a) where
    read-places : (l : List A) → All Fits l → map read (map place l) ≡ l
    read-places [] f = refl
    read-places (a ∷ l) f = rw (reads a f.0, read-places l f.1)

    -- what is read from the first rows is what the table was written from
    pub read_table : (l : List A) → All Fits l → length l ≤ most → (t : List ℕ)
        → map read (take (length l) (rows size most (table l ++ t))) ≡ l
    read_table l f h t =
        ap (λ (x : List (List ℕ)). map read (take (length l) x)) (rows-table l f h t)
        ∙ ap (map read) (take_at (map place l) (replicate (most - length l) (replicate size 0)) (length l)
        (length-map l place))
        ∙ read-places l f
