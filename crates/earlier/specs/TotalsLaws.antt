-- The tests of 64 bits by what is left to the end of the range, and the ways of a turn that adds rows to rows.
use Rattle.std.specs.Prelude.{ℕ, zero, suc, ◌+◌, ◌-◌, ◌≤◌, ◌<◌, ◌≡◌, refl, Bool, true, false, ◌&&◌, List, [], ◌∷◌, map, eqb, leb, ltb, length, take, get_or, set, ℤ, pos, negsuc, ◌+ℤ◌, ◌-ℤ◌}
use Rattle.std.proofs.Common.{sym, ap, ap₂, ◌∙◌, add-one, arith, take_all, SFits, to_z, of_z, eq-eqb, lt-ltb, le-ltb, le-leb, ltb-true, ltb-false}
use Rattle.std.proofs.lemmas.Bool.{false≢true, lt-leb}
use Rattle.std.proofs.lemmas.Int.{to_z-of_z, to_z_pos}
use Rattle.std.proofs.lemmas.List.{length-map}
use Rattle.std.proofs.Math.IntN.{sub_ℕ}
use Rattle.std.specs.Int.{w64}
use Rattle.std.specs.Int.Signed.{mag, lt_z, le_z}
use Rattle.laws.specs.Put.{put}
use Rattle.laws.specs.PutLaws.{put_copy}
use Rattle.laws.specs.RowsLaws.{put_whole}
use Rattle.laws.specs.Tests.{pick}
use Rattle.laws.specs.TestsLaws.{pick_true, cases-le}
use Rattle.totals.specs.declared.Row.{Row}
use Rattle.totals.specs.declared.Gain.{Gain}
use Rattle.totals.specs.Sums.{count_fits, sum_fits}
use Rattle.totals.specs.SumsLaws.{back, sum_back}
use Rattle.totals.specs.Two.{every_two, map_two}
use Rattle.totals.specs.Table.{empty, table_rows, row_fits, row_sum}
use Rattle.totals.specs.Join.{join_of}
use Rattle.totals.specs.Gains.{no_gain, wide_row, kept_row, fits_in}
use Rattle.totals.specs.GainsLaws.{get_d-wide}

-- by cases on an order, as a test
cases_lt : {P : Type 0} (a b : ℕ) → (a < b → P) → (b ≤ a → P) → P
cases_lt {P} a b f g = go (ltb a b) refl
  where
    go : (t : Bool) → ltb a b ≡ t → P
    go true e = f (ltb-true a b e)
    go false e = g (ltb-false a b e)

-- two tests of one fact
same_test : (a b c d : ℕ) → (a ≤ b → c < d) → (b < a → d ≤ c) → leb a b ≡ ltb c d
same_test a b c d f g =
    cases_lt b a (λ h. rw (lt-leb a b h, le-ltb c d (g h))) (λ h. rw (le-leb a b h, lt-ltb c d (f h)))

pub count-test : (a d : ℕ) → d < 18446744073709551616 → leb a (18446744073709551615 - d) ≡ count_fits (a + d)
count-test a d h =
    same_test a (18446744073709551615 - d) (a + d) 18446744073709551616 (λ l. omega arith) (λ l. omega arith)

-- the difference of two naturals is no larger than either
mag-sub : (a b : ℕ) → a < 9223372036854775808 → b ≤ 9223372036854775808 → mag (sub_ℕ a b) < 9223372036854775808
mag-sub a b h k = cases_lt a b (λ l. rw (lt-ltb a b l) (omega arith)) (λ l. rw (le-ltb a b l) (omega arith))

-- below zero: what is taken from the least number fits, and tells whether the sum does
pub low_fits : (d : ℤ) → mag d < 9223372036854775808 → lt_z d (pos 0) ≡ true
    → mag (negsuc 9223372036854775807 -ℤ d) < 9223372036854775808
low_fits (pos n) h e = absurd (false≢true (sym (le-ltb n 0 (omega arith)) ∙ e))
low_fits (negsuc n) h e =
    cases_lt (suc n) 9223372036854775808 (λ l. rw (lt-ltb (suc n) 9223372036854775808 l) (omega arith))
    (λ l. rw (le-ltb (suc n) 9223372036854775808 l) (omega arith))

pub low-test : (a d : ℤ) → mag a < 9223372036854775808 → mag d < 9223372036854775808 → lt_z d (pos 0) ≡ true
    → le_z (negsuc 9223372036854775807 -ℤ d) a ≡ sum_fits (a +ℤ d)
low-test a (pos n) h k e = absurd (false≢true (sym (le-ltb n 0 (omega arith)) ∙ e))
low-test (pos m) (negsuc n) h k e =
    let s : mag (sub_ℕ m (suc n)) < 9223372036854775808 = mag-sub m (suc n) h (omega arith) in
    cases_lt (suc n) 9223372036854775808
    (λ l. rw (lt-ltb (suc n) 9223372036854775808 l) (sym (lt-ltb (mag (sub_ℕ m (suc n))) 9223372036854775808 s)))
    (λ l. rw (le-ltb (suc n) 9223372036854775808 l)
    (le-leb (suc n - 9223372036854775808) m (omega arith)
    ∙ sym (lt-ltb (mag (sub_ℕ m (suc n))) 9223372036854775808 s)))
low-test (negsuc m) (negsuc n) h k e =
    cases_lt (suc n) 9223372036854775808
    (λ l. rw (lt-ltb (suc n) 9223372036854775808 l)
    (same_test m (9223372036854775808 - suc (suc n)) (suc (m + n)) 9223372036854775808 (λ a. omega arith)
    (λ a. omega arith)))
    (λ l. rw (le-ltb (suc n) 9223372036854775808 l) (sym (le-ltb (suc (m + n)) 9223372036854775808 (omega arith))))

-- from zero on: what is taken from the greatest number fits, and tells whether the sum does
pub high_fits : (d : ℤ) → mag d < 9223372036854775808 → lt_z d (pos 0) ≡ false
    → mag (pos 9223372036854775807 -ℤ d) < 9223372036854775808
high_fits (negsuc n) h e = absurd (false≢true (sym e))
high_fits (pos zero) h e = omega arith
high_fits (pos (suc n)) h e = mag-sub 9223372036854775807 (suc n) (omega arith) (omega arith)

pub high-test : (a d : ℤ) → mag a < 9223372036854775808 → mag d < 9223372036854775808 → lt_z d (pos 0) ≡ false
    → le_z a (pos 9223372036854775807 -ℤ d) ≡ sum_fits (a +ℤ d)
high-test a (negsuc n) h k e = absurd (false≢true (sym e))
high-test (pos m) (pos zero) h k e =
    same_test m 9223372036854775807 (m + 0) 9223372036854775808 (λ l. omega arith) (λ l. omega arith)
high-test (negsuc m) (pos zero) h k e =
    sym (lt-ltb (mag (sub_ℕ 0 (suc m))) 9223372036854775808 (mag-sub 0 (suc m) (omega arith) (omega arith)))
high-test (pos m) (pos (suc n)) h k e =
    rw (le-ltb 9223372036854775807 (suc n) (omega arith))
    (same_test m (9223372036854775807 - suc n) (m + suc n) 9223372036854775808 (λ l. omega arith)
    (λ l. omega arith))
high-test (negsuc m) (pos (suc n)) h k e =
    rw (le-ltb 9223372036854775807 (suc n) (omega arith))
    (sym (lt-ltb (mag (sub_ℕ (suc n) (suc m))) 9223372036854775808 (mag-sub (suc n) (suc m) k (omega arith))))

-- the same of what the machine reads back from the bits of the numbers
module _ (a d : ℤ) (fa : SFits w64 a) (fd : SFits w64 d) where
  pub low-sub : lt_z (back d) (pos 0) ≡ true → SFits w64 (negsuc 9223372036854775807 -ℤ back d)
  low-sub t = let e : back d ≡ d = to_z-of_z w64 d fd in rw e (record { sfits = low_fits d fd.sfits (rw e at t) })

  pub low-says : lt_z (back d) (pos 0) ≡ true
      → le_z (back (negsuc 9223372036854775807 -ℤ back d)) (back a) ≡ sum_fits (a +ℤ d)
  low-says t =
      let e : back d ≡ d = to_z-of_z w64 d fd in
      rw (to_z-of_z w64 (negsuc 9223372036854775807 -ℤ back d) (low-sub t), to_z-of_z w64 a fa, e)
      (low-test a d fa.sfits fd.sfits (rw e at t))

  pub high-sub : lt_z (back d) (pos 0) ≡ false → SFits w64 (pos 9223372036854775807 -ℤ back d)
  high-sub t = let e : back d ≡ d = to_z-of_z w64 d fd in rw e (record { sfits = high_fits d fd.sfits (rw e at t) })

  pub high-says : lt_z (back d) (pos 0) ≡ false
      → le_z (back a) (back (pos 9223372036854775807 -ℤ back d)) ≡ sum_fits (a +ℤ d)
  high-says t =
      let e : back d ≡ d = to_z-of_z w64 d fd in
      rw (to_z-of_z w64 (pos 9223372036854775807 -ℤ back d) (high-sub t), to_z-of_z w64 a fa, e)
      (high-test a d fa.sfits fd.sfits (rw e at t))

-- the tests of the code, of what is read back from the bits of the sums
pub fits-says : (a d : Row) {p q t s : Bool} → mag a.sum < 9223372036854775808 → mag d.sum < 9223372036854775808
    → p ≡ count_fits (a.packets + d.packets) → q ≡ count_fits (a.reports + d.reports)
    → t ≡ count_fits (a.ticks + d.ticks)
    → s ≡ sum_fits (back a.sum +ℤ back d.sum) → (p && (q && (t && s))) ≡ row_fits a d
unfolding row_fits
fits-says a d h k ep eq et es = rw (ep, eq, et, es, sum_back a.sum d.sum h k)

-- sixteen rows and sixteen more; where a total would pass 64 bits, the rows unchanged
unfoldable pub added_rows : List Row → List Row → List Row
added_rows t d = pick (every_two row_fits t d) (map_two row_sum t d) t

pub added-fits : (t d : List Row) {u : List Row} → every_two row_fits t d ≡ true → u ≡ map_two row_sum t d
    → u ≡ added_rows t d
unfolding added_rows pick
added-fits t d f q = rw f q

pub added-passes : (t d : List Row) → every_two row_fits t d ≡ false → t ≡ added_rows t d
unfolding added_rows pick
added-passes t d f = rw f

-- the two ways of a join
pub join-passes : (a b : Row) {r : Row} → row_fits a b ≡ false → r ≡ empty → r ≡ join_of a b
unfolding join_of pick
join-passes a b h e = rw h e

-- a gain's sum as the machine holds it
sub-mag : (n : ℕ) → n < 256 → mag (sub_ℕ n 128) < 9223372036854775808
sub-mag n h = cases-le 128 n (λ (u : 128 ≤ n). rw (le-ltb n 128 u) (omega arith))
    (λ (u : n < 128). rw (lt-ltb n 128 u) (omega arith))

sub_is : (n : ℕ) → n < 256 → to_z w64 n -ℤ pos 128 ≡ sub_ℕ n 128
sub_is n h = ap (λ (z : ℤ). z -ℤ pos 128) (to_z_pos w64 n (omega arith))

pub level-fits : (n : ℕ) → n < 256 → SFits w64 (to_z w64 n -ℤ pos 128)
level-fits n h = rw (sub_is n h) (record { sfits = sub-mag n h })

pub level-reads : (n : ℕ) → n < 256 → to_z w64 (of_z w64 (to_z w64 n -ℤ pos 128)) ≡ sub_ℕ n 128
level-reads n h = to_z-of_z w64 (to_z w64 n -ℤ pos 128) (level-fits n h) ∙ sub_is n h

-- a handle past the last gain
pub gain-past : (d : List Gain) (i : ℕ) → length d ≤ i → no_gain ≡ get_or d i no_gain
gain-past [] i h = refl
gain-past (g ∷ d) zero h = absurd (omega arith)
gain-past (g ∷ d) (suc i) h = gain-past d i (omega arith)

-- the loop that makes the rows of the gains
module _ (z : List Row) (d : List Gain) (e : length z ≡ length d) (i : ℕ) {u : List Row}
    (q : u ≡ put z 0 (take i (map wide_row d))) where
  long-wide : length (map wide_row d) ≡ length d
  long-wide = length-map d wide_row

  pub wide-turn : {v : Row} → i < length d → v ≡ wide_row (get_or d i no_gain)
      → set u i v ≡ put z 0 (take (i + 1) (map wide_row d))
  wide-turn {v} h w =
      rw (w, ← get_d-wide d i)
      (put_copy z 0 (map wide_row d) i empty {n = i} (omega arith) (omega (arith, long-wide)) (omega arith) q)

  pub wide-end : length d ≤ i → u ≡ map wide_row d
  wide-end h = q ∙ ap (put z 0) (take_all i (map wide_row d) (omega (arith, long-wide)))
      ∙ put_whole z (map wide_row d) (e ∙ sym long-wide)

-- each way of a turn
pub turn-added : (a d : Row) (fitted : Bool) {goes : Bool} {r : Row} → row_fits a d ≡ true → goes ≡ true
    → r ≡ row_sum a d
    → (r ≡ kept_row goes a d) × (fitted ≡ (fitted && row_fits a d))
unfolding kept_row pick
turn-added a d fitted f g e = (rw (g, f) e, rw f (and-true fitted))
  where
    and-true : (t : Bool) → t ≡ (t && true)
    and-true true = refl
    and-true false = refl

pub turn-asked : (a d : Row) (fitted : Bool) {goes : Bool} → row_fits a d ≡ true → goes ≡ false
    → (a ≡ kept_row goes a d) × (fitted ≡ (fitted && row_fits a d))
unfolding kept_row pick
turn-asked a d fitted f g = (rw g, rw f (and-true fitted))
  where
    and-true : (t : Bool) → t ≡ (t && true)
    and-true true = refl
    and-true false = refl

pub turn-passes : (a d : Row) (goes fitted : Bool) → row_fits a d ≡ false → (a ≡ kept_row goes a d)
    × (false ≡ (fitted && row_fits a d))
unfolding kept_row pick
turn-passes a d goes fitted f = (rw f (go goes), rw f (and-false fitted))
  where
    go : (t : Bool) → a ≡ pick (t && false) (row_sum a d) a
    go true = refl
    go false = refl

    and-false : (t : Bool) → false ≡ (t && false)
    and-false true = refl
    and-false false = refl

-- the loop over the rows: whether the first i fit
module _ {A : Type 0} (f : A → A → Bool) where
  pub every-take-none : (l m : List A) → every_two f (take 0 l) m ≡ true
  unfolding every_two
  every-take-none l m = refl

  pub every-take-more : (l m : List A) (i : ℕ) (d : A) → i < length l → i < length m
      → (every_two f (take i l) m && f (get_or l i d) (get_or m i d)) ≡ every_two f (take (suc i) l) m
  unfolding every_two
  every-take-more [] m i d h k = absurd (omega arith)
  every-take-more (a ∷ l) [] i d h k = absurd (omega arith)
  every-take-more (a ∷ l) (b ∷ m) zero d h k = true-and (f a b)
    where
      true-and : (t : Bool) → t ≡ (t && true)
      true-and true = refl
      true-and false = refl
  every-take-more (a ∷ l) (b ∷ m) (suc i) d h k =
      and_assoc (f a b) (every_two f (take i l) m) (f (get_or l i d) (get_or m i d))
      ∙ ap (λ (t : Bool). f a b && t) (every-take-more l m i d (omega arith) (omega arith))
    where
      and_assoc : (x y z : Bool) → ((x && y) && z) ≡ (x && (y && z))
      and_assoc true y z = refl
      and_assoc false y z = refl

-- whether the first i rows of a table ys of sixteen were within 64 bits
module _ (ys : List Row) (gs : List Gain) (n : length ys ≡ table_rows) (m : length gs ≡ table_rows) where
  abbrev wides : List Row
  wides = map wide_row gs

  abbrev pub fitted : ℕ → Bool
  fitted i = every_two row_fits (take i ys) wides

  long-wides : length wides ≡ table_rows
  long-wides = length-map gs wide_row ∙ m

  pub fitted_none : fitted 0 ≡ true
  fitted_none = every-take-none row_fits ys wides

  pub fitted-more : (i : ℕ) → i < 16 → {a : Row} {t : Bool} → a ≡ get_or ys i empty
      → t ≡ (fitted i && row_fits a (wide_row (get_or gs i no_gain))) → t ≡ fitted (i + 1)
  fitted-more i h {a} {t} e q =
      q ∙ ap₂ (λ (x y : Row). fitted i && row_fits x y) e (sym (get_d-wide gs i))
      ∙ every-take-more row_fits ys wides i empty (omega (arith, n)) (omega (arith, long-wides))
      ∙ ap fitted (sym (add-one i))

  pub fitted-end : (i : ℕ) → i ≡ 16 → fitted i ≡ fits_in ys gs
  unfolding fits_in
  fitted-end i e =
      ap (λ (l : List Row). every_two row_fits l wides) (take_all i ys (omega (arith, n, e)))
      ∙ sym (pick_true (every_two row_fits ys wides) false (eq-eqb (length ys) table_rows n))
