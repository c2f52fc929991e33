-- Laws of the definitions in Loops.
use Prim.Native.Nat.{ℕ, zero, suc, ◌+◌, ◌*◌, ◌≤◌, ◌<◌}
use Rattle.std.specs.Prelude.{◌≡◌}
use Rattle.std.proofs.Math.Path.{refl}
use Rattle.std.proofs.Common.{sym, ap, ◌∙◌, get_or-take, take_all}
use mathlib.Core.List.{List, [], ◌∷◌, ◌++◌, append_assoc, append-nil, map}
use mathlib.Core.Bool.{Bool, true, false, ◌&&◌}
use Rattle.std.proofs.Math.Nat.{mul-suc}
use Rattle.std.proofs.Math.Numerals.{add-one}
use native.Mathlib.Omega.{arith}
use lib.ListN.{length, take, drop, get_or, length-append, length-take}
use Rattle.std.proofs.Math.Seq.{length-take-le, drop-cons, take-suc}
use Rattle.laws.specs.TestsLaws.{and_left, and_right}
use Rattle.laws.specs.Loops.{every, some, only, keep, when, each, up_to}

-- what is left at index i of the first n elements
unfoldable pub part : {A : Type 0} → ℕ → ℕ → List A → List A
part i n l = drop i (take n l)

module _ {A : Type 0} where
  pub part_step : (l : List A) (n i : ℕ) (d : A) → i < n → n ≤ length l → part i n l ≡ get_or l i d ∷ part (i + 1) n l
  unfolding part
  part_step l n i d h k =
      let m : length (take n l) ≡ n = length-take-le n l k in
      drop-cons (take n l) i d (omega arith) ∙ rw (get_or-take n l i d h, add-one i)

  pub part_end : (l : List A) (n i : ℕ) → n ≤ i → part i n l ≡ []
  unfolding part
  part_end l n i h = lib.ListN.drop_of_length-le (take n l) {i = i} (simp length-take (omega arith))

  pub part-all : (l : List A) (n i : ℕ) → length l ≤ n → part i n l ≡ drop i l
  unfolding part
  part-all l n i h = rw (take_all n l h)

  pub every-step : (f : A → Bool) (a : A) (l : List A) → f a ≡ true → every f (a ∷ l) ≡ every f l
  unfolding every
  every-step f a l e = rw e

  pub every-stop : (f : A → Bool) (a : A) (l : List A) → f a ≡ false → every f (a ∷ l) ≡ false
  unfolding every
  every-stop f a l e = rw e

  pub every-nil : (f : A → Bool) → every f [] ≡ true
  unfolding every
  every-nil f = refl

  pub every_append : (f : A → Bool) (l m : List A) → every f (l ++ m) ≡ (every f l && every f m)
  unfolding every
  every_append f [] m = refl
  every_append f (a ∷ l) m = rw (every_append f l m) (sym (mathlib.Core.Bool.and_assoc (f a) (every f l) (every f m)))

  -- a test that every element passes, at an index
  pub every-at : (f : A → Bool) (l : List A) (i : ℕ) (d : A) → every f l ≡ true → i < length l → f (get_or l i d) ≡ true
  unfolding every
  every-at f [] i d e h = absurd (omega arith)
  every-at f (a ∷ l) zero d e h = and_left (f a) (every f l) e
  every-at f (a ∷ l) (suc i) d e h = every-at f l i d (and_right (f a) (every f l) e) (omega arith)

  pub every_take : (f : A → Bool) (n : ℕ) (l : List A) → every f l ≡ true → every f (take n l) ≡ true
  unfolding every
  every_take f zero l e = refl
  every_take f (suc n) [] e = refl
  every_take f (suc n) (a ∷ l) e = rw (and_left (f a) (every f l) e, every_take f n l (and_right (f a) (every f l) e))

  pub every_drop : (f : A → Bool) (n : ℕ) (l : List A) → every f l ≡ true → every f (drop n l) ≡ true
  unfolding every
  every_drop f zero l e = e
  every_drop f (suc n) [] e = refl
  every_drop f (suc n) (a ∷ l) e = every_drop f n l (and_right (f a) (every f l) e)

  pub some-step : (f : A → Bool) (a : A) (l : List A) → f a ≡ false → some f (a ∷ l) ≡ some f l
  unfolding some
  some-step f a l e = rw e

  pub some-stop : (f : A → Bool) (a : A) (l : List A) → f a ≡ true → some f (a ∷ l) ≡ true
  unfolding some
  some-stop f a l e = rw e

  pub some-nil : (f : A → Bool) → some f [] ≡ false
  unfolding some
  some-nil f = refl

  pub keep_append : (f : A → Bool) (l m : List A) → keep f (l ++ m) ≡ keep f l ++ keep f m
  unfolding keep
  keep_append f [] m = refl
  keep_append f (a ∷ l) m = rw (keep_append f l m) (sym (append_assoc (only (f a) a) (keep f l) (keep f m)))

  pub keep-take : (f : A → Bool) (l : List A) (i : ℕ) (d : A) → i < length l
      → keep f (take (i + 1) l) ≡ keep f (take i l) ++ only (f (get_or l i d)) (get_or l i d)
  unfolding keep
  keep-take f l i d h =
      rw (add-one i, take-suc l i d h, keep_append f (take i l) (get_or l i d ∷ []))
      (ap (λ (x : List A). keep f (take i l) ++ x) (append-nil (only (f (get_or l i d)) (get_or l i d))))

  pub length-only : (t : Bool) (a : A) → length (only t a) ≤ 1
  unfolding only
  length-only true a = omega arith
  length-only false a = omega arith

  pub length-keep : (f : A → Bool) (l : List A) → length (keep f l) ≤ length l
  unfolding keep
  length-keep f [] = omega arith
  length-keep f (a ∷ l) = simp length-append (omega (arith, length-keep f l, length-only (f a) a))

module _ {A B : Type 0} where
  pub each_append : (f : A → List B) (l m : List A) → each f (l ++ m) ≡ each f l ++ each f m
  unfolding each
  each_append f [] m = refl
  each_append f (a ∷ l) m = rw (each_append f l m) (sym (append_assoc (f a) (each f l) (each f m)))

  pub each_take : (f : A → List B) (l : List A) (i : ℕ) (d : A) → i < length l
      → each f (take (i + 1) l) ≡ each f (take i l) ++ f (get_or l i d)
  unfolding each
  each_take f l i d h =
      rw (add-one i, take-suc l i d h, each_append f (take i l) (get_or l i d ∷ []))
      (ap (λ (x : List B). each f (take i l) ++ x) (append-nil (f (get_or l i d))))

  pub length-each : (f : A → List B) (n : ℕ) (l : List A) → ((a : A) → length (f a) ≤ n)
      → length (each f l) ≤ n * length l
  unfolding each
  length-each f n [] h = omega arith
  length-each f n (a ∷ l) h =
      let e : n * suc (length l) ≡ n * length l + n = mul-suc n (length l) in
      simp length-append (omega (arith, h a, length-each f n l h, e))

  pub map-append : (f : A → B) (l m : List A) → map f (l ++ m) ≡ map f l ++ map f m
  map-append f [] m = refl
  map-append f (a ∷ l) m = rw (map-append f l m)

  pub map-take : (f : A → B) (l : List A) (i : ℕ) (d : A) → i < length l → map f (take (i + 1) l) ≡ map f (take i l)
      ++ (f (get_or l i d) ∷ [])
  map-take f l i d h = rw (add-one i, take-suc l i d h, map-append f (take i l) (get_or l i d ∷ []))

module _ {B : Type 0} where
  pub up_to-more : (f : ℕ → List B) (n : ℕ) → up_to f (n + 1) ≡ up_to f n ++ f n
  unfolding up_to
  up_to-more f n = rw (add-one n)

  pub length-up_to : (f : ℕ → List B) (m : ℕ) → ((i : ℕ) → length (f i) ≤ m) → (n : ℕ) → length (up_to f n) ≤ m * n
  unfolding up_to
  length-up_to f m h zero = omega arith
  length-up_to f m h (suc n) =
      let e : m * suc n ≡ m * n + m = mul-suc m n in
      simp length-append (omega (arith, h n, length-up_to f m h n, e))

  pub when_true : {t : Bool} (l : List B) → t ≡ true → when t l ≡ l
  unfolding when
  when_true l e = rw e

  pub when_false : {t : Bool} (l : List B) → t ≡ false → when t l ≡ []
  unfolding when
  when_false l e = rw e

  pub length-when : (t : Bool) (l : List B) → length (when t l) ≤ length l
  unfolding when
  length-when true l = omega arith
  length-when false l = omega arith
