-- Lists: a statement on every element, as a test and as a type; lists made by `keep` and `map` as lists made by the
-- rule's `map_some`; the size of what `each` of the crate laws writes. Nothing here is from document 01. Assumes nothing.
use Prim.Native.Nat.{ℕ, zero, suc, ◌+◌, ◌*◌, ◌≤◌}
use Rattle.std.proofs.Common.{arith, ◌∙◌, length-append}
use Rattle.std.proofs.Math.Nat.{mul-suc}
use Rattle.std.specs.Prelude.{◌≡◌, Bool, drop}
use Rattle.std.proofs.Math.Path.{refl, ap}
use Rattle.std.proofs.Math.Bool.{true, false}
use Rattle.std.proofs.Math.Option.{none, some}
use mathlib.Core.List.{List, [], ◌∷◌, ◌++◌, map}
use Rattle.std.proofs.Math.ListN.{length}
use Rattle.laws.specs.Tests.{pick}
use Rattle.laws.specs.TestsLaws.{and_left, and_right, and_both}
use Rattle.laws.specs.Loops.{every, only, keep, when, each as each_of}
use Rattle.laws.specs.LoopsLaws.{every_append, every-nil}
use Rattle.rule.specs.Base.{All, push, map_some}
use Rattle.rule.specs.BaseLaws.{none≢some, some_inj}

module _ {A : Type 0} where
  pub all-weaken : (P Q : A → Type 0) → ((x : A) → P x → Q x) → (l : List A) → All P l → All Q l
  all-weaken P Q f [] a = tt
  all-weaken P Q f (x ∷ l) a = (f x a.0, all-weaken P Q f l a.1)

  pub all_drop : (P : A → Type 0) (n : ℕ) (l : List A) → All P l → All P (drop n l)
  all_drop P zero l a = a
  all_drop P (suc n) [] a = tt
  all_drop P (suc n) (x ∷ l) a = all_drop P n l a.1

  -- a test of every element, as a statement on every element
  pub every-all : (f : A → Bool) (l : List A) → every f l ≡ true → All (λ x. f x ≡ true) l
  unfolding every
  every-all f [] e = tt
  every-all f (x ∷ l) e = (and_left (f x) (every f l) e, every-all f l (and_right (f x) (every f l) e))

  pub all-every : (f : A → Bool) (l : List A) → All (λ x. f x ≡ true) l → every f l ≡ true
  unfolding every
  all-every f [] a = refl
  all-every f (x ∷ l) a = rw (a.0, all-every f l a.1)

  -- the elements that pass, and every element changed, as the rule's `map_some` makes them
  pub keep-each : (f : A → Bool) (l : List A) → keep f l ≡ map_some (λ x. pick (f x) (some x) none) l
  unfolding keep only pick
  keep-each f [] = refl
  keep-each f (x ∷ l) = go (f x) (keep-each f l)
    where
      go : (t : Bool) → keep f l ≡ map_some (λ y. pick (f y) (some y) none) l
          → only t x ++ keep f l ≡ push (pick t (some x) none)
          (map_some (λ y. pick (f y) (some y) none) l)
      go true e = ap (λ (r : List A). x ∷ r) e
      go false e = e

  pub map_each : (f : A → A) (l : List A) → map f l ≡ map_some (λ x. some (f x)) l
  map_each f [] = refl
  map_each f (x ∷ l) = ap (λ (r : List A). f x ∷ r) (map_each f l)

  -- an element that passed is the one it came from, and the test held of it
  pub picked : (t : Bool) (x y : A) → pick t (some x) none ≡ some y → (t ≡ true) × (x ≡ y)
  unfolding pick
  picked true x y e = (refl, some_inj e)
  picked false x y e = absurd (none≢some e)

-- a list of at most n elements that all pass a test
pub record Short {A : Type 0} (f : A → Bool) (n : ℕ) (l : List A) : Type 0 where
  pub fits : length l ≤ n
  pub passes : every f l ≡ true

module _ {A : Type 0} (f : A → Bool) where
  pub short-nil : (n : ℕ) → Short f n []
  short-nil n = record { fits = omega arith; passes = every-nil f }

  pub short-cons : (n : ℕ) (x : A) (l : List A) → f x ≡ true → Short f n l → Short f (1 + n) (x ∷ l)
  unfolding every
  short-cons n x l e s = record { fits = omega (arith, s.fits); passes = rw (e, s.passes) }

  pub short-append : (n k : ℕ) (l m : List A) → Short f n l → Short f k m → Short f (n + k) (l ++ m)
  short-append n k l m s t =
      record {
        fits = rw (length-append l m) (omega (arith, s.fits, t.fits));
        passes = every_append f l m ∙ and_both s.passes t.passes;
      }

  pub short-more : (n k : ℕ) (l : List A) → n ≤ k → Short f n l → Short f k l
  short-more n k l h s = record { fits = omega (arith, h, s.fits); passes = s.passes }

  pub short-when : (t : Bool) (n : ℕ) (l : List A) → Short f n l → Short f n (when t l)
  unfolding when
  short-when true n l s = s
  short-when false n l s = short-nil n

  pub short-pick : (t : Bool) (n : ℕ) (l m : List A) → (t ≡ true → Short f n l) → (t ≡ false → Short f n m)
      → Short f n (pick t l m)
  unfolding pick
  short-pick true n l m a b = a refl
  short-pick false n l m a b = b refl

module _ {A B : Type 0} (f : B → Bool) where
  -- what each element writes is short: all of it is
  pub short-each : (n : ℕ) (g : A → List B) (l : List A) → All (λ x. Short f n (g x)) l
      → Short f (n * length l) (each_of g l)
  unfolding each_of
  short-each n g [] a = short-nil f (n * 0)
  short-each n g (x ∷ l) a =
      let e : n * suc (length l) ≡ n * length l + n = mul-suc n (length l) in
      short-more f (n + n * length l) (n * suc (length l)) (g x ++ each_of g l) (omega arith)
      (short-append f n (n * length l) (g x) (each_of g l) a.0 (short-each n g l a.1))
