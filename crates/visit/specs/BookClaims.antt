-- Theorem of Book: so many closings as a book has rows leave no open visit of a range, so a cancelled monitor's
-- visits and, at the journal's end, all visits are told.
use Rattle.std.specs.Prelude.{◌≡◌, ℕ, zero, suc, ◌+◌, ◌-◌, ◌<◌, ◌≤◌, Bool, true, false, ◌&&◌, List, [], ◌∷◌, Option, None, length, nat_lt, slice_set}
use Rattle.std.proofs.Math.Path.{refl}
use Rattle.std.proofs.Common.{sym, ap, ◌∙◌, lt-ltb, le-ltb, ltb-true, ltb-false}
use native.Mathlib.Omega.{arith}
use Rattle.std.proofs.Math.ListN.{length-set}
use Rattle.laws.specs.Tests.{pick}
use Rattle.laws.specs.TestsLaws.{pick_true, pick-false}
use Rattle.visit.specs.declared.Visit.{Visit}
use Rattle.visit.specs.Book.{is_in, place_of, place_in, is_found, rows_without}

-- how many rows pass
unfoldable count_in : (Option Visit → Bool) → List (Option Visit) → ℕ
count_in f [] = 0
count_in f (v ∷ vs) = pick (f v) (suc (count_in f vs)) (count_in f vs)

count_most : (f : Option Visit → Bool) (rows : List (Option Visit)) → count_in f rows ≤ length rows
unfolding count_in pick
count_most f [] = omega arith
count_most f (v ∷ vs) = go (f v) (count_most f vs)
  where
    go : (b : Bool) → count_in f vs ≤ length vs → pick b (suc (count_in f vs)) (count_in f vs) ≤ suc (length vs)
    go true h = omega arith
    go false h = omega arith

-- none is found where none passes
count_none : (f : Option Visit → Bool) (rows : List (Option Visit)) → length rows ≤ place_of f rows → count_in f rows ≡ 0
unfolding count_in place_of pick
count_none f [] h = refl
count_none f (v ∷ vs) h = go (f v) (λ k. count_none f vs k) h
  where
    go : (b : Bool) → (length vs ≤ place_of f vs → count_in f vs ≡ 0) → suc (length vs) ≤ pick b 0 (suc (place_of f vs))
        → pick b (suc (count_in f vs)) (count_in f vs) ≡ 0
    go true i k = absurd (omega arith)
    go false i k = i (omega arith)

-- the first that passes, replaced by one that does not: one fewer
count_less : (f : Option Visit → Bool) (d : Option Visit) (rows : List (Option Visit)) → f d ≡ false → place_of f rows < length rows
    → suc (count_in f (slice_set rows (place_of f rows) d)) ≡ count_in f rows
unfolding count_in place_of pick
count_less f d [] e h = absurd (omega arith)
count_less f d (v ∷ vs) e h = go (f v) (λ k. count_less f d vs e k) refl h
  where
    go : (b : Bool) → (place_of f vs < length vs → suc (count_in f (slice_set vs (place_of f vs) d)) ≡ count_in f vs) → f v ≡ b
        → pick b 0 (suc (place_of f vs)) < suc (length vs)
        → suc (count_in f (slice_set (v ∷ vs) (pick b 0 (suc (place_of f vs))) d))
        ≡ pick b (suc (count_in f vs)) (count_in f vs)
    go true i q k = rw e refl
    go false i q k = rw q (i (omega arith))

-- found where one passes
count-some : (f : Option Visit → Bool) (rows : List (Option Visit)) → place_of f rows < length rows → 0 < count_in f rows
unfolding count_in place_of pick
count-some f [] h = absurd (omega arith)
count-some f (v ∷ vs) h = go (f v) (λ k. count-some f vs k) h
  where
    go : (b : Bool) → (place_of f vs < length vs → 0 < count_in f vs) → pick b 0 (suc (place_of f vs)) < suc (length vs)
        → 0 < pick b (suc (count_in f vs)) (count_in f vs)
    go true i k = omega arith
    go false i k = i (omega arith)

none-out : (low high : ℕ) → is_in low high None ≡ false
unfolding is_in
none-out low high = refl

none_found : (low high : ℕ) (rows : List (Option Visit)) → length rows ≡ 64 → count_in (is_in low high) rows ≤ 0
    → is_found low high rows ≡ false
unfolding is_found place_in
none_found low high rows l c = go (nat_lt (place_of (is_in low high) rows) 64) refl
  where
    go : (b : Bool) → nat_lt (place_of (is_in low high) rows) 64 ≡ b → b ≡ false
    go false e = refl
    go true e =
        let h = ltb-true (place_of (is_in low high) rows) 64 e in
        absurd (omega (arith, count-some (is_in low high) rows (omega (arith, h)), c))

-- a range closed so many times
unfoldable pub close_times : ℕ → ℕ → ℕ → List (Option Visit) → List (Option Visit)
close_times low high zero rows = rows
close_times low high (suc n) rows = rows_without low high (close_times low high n rows)

module _ (low high : ℕ) where
  length_without : (rows : List (Option Visit)) → length (rows_without low high rows) ≡ length rows
  unfolding rows_without pick
  length_without rows = go (is_found low high rows)
    where
      go : (b : Bool) → length (pick b (slice_set rows (place_in low high rows) None) rows) ≡ length rows
      go true = length-set rows (place_in low high rows) None
      go false = refl

  count-without : (rows : List (Option Visit)) → length rows ≡ 64
      → count_in (is_in low high) (rows_without low high rows) ≤ count_in (is_in low high) rows - 1
  unfolding rows_without is_found place_in pick
  count-without rows l = go (nat_lt (place_of (is_in low high) rows) 64) refl
    where
      out : is_in low high None ≡ false
      out = none-out low high

      go : (b : Bool) → nat_lt (place_of (is_in low high) rows) 64 ≡ b
          → count_in (is_in low high) (pick b (slice_set rows (place_of (is_in low high) rows) None) rows)
          ≤ count_in (is_in low high) rows - 1
      go true e =
          let h = ltb-true (place_of (is_in low high) rows) 64 e in
          omega (arith, count_less (is_in low high) None rows out (omega (arith, h)))
      go false e =
          let h = ltb-false (place_of (is_in low high) rows) 64 e in
          omega (arith, count_none (is_in low high) rows (omega (arith, h)))

  times-length : (n : ℕ) (rows : List (Option Visit)) → length (close_times low high n rows) ≡ length rows
  unfolding close_times
  times-length zero rows = refl
  times-length (suc n) rows = length_without (close_times low high n rows) ∙ times-length n rows

  times-count : (n : ℕ) (rows : List (Option Visit)) → length rows ≡ 64
      → count_in (is_in low high) (close_times low high n rows) ≤ count_in (is_in low high) rows - n
  unfolding close_times
  times-count zero rows l = omega arith
  times-count (suc n) rows l =
      omega (
        arith,
        count-without (close_times low high n rows) (times-length n rows ∙ l),
        times-count n rows l,
      )

  -- as many closings as a book has rows leave none
  pub closed_all : (rows : List (Option Visit)) → length rows ≡ 64
      → is_found low high (close_times low high 64 rows) ≡ false
  closed_all rows l =
      let x = close_times low high 64 rows in
      let z = times-count 64 rows l in
      let m = count_most (is_in low high) rows in
      let n : length x ≡ 64 = times-length 64 rows ∙ l in
      none_found low high x n (omega (arith, z, m))
