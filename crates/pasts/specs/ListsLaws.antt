-- Lists: what is kept of them, and what holds of all that is. Assumes nothing.
use Rattle.std.specs.Prelude.{suc, ◌≡◌, Bool, ◌&&◌, ◌||◌, length}
use Rattle.std.proofs.Math.Path.{refl, ap}
use Rattle.std.proofs.Math.Bool.{true, false}
use mathlib.Core.List.{List, [], ◌∷◌, ◌++◌, map}
use Rattle.laws.specs.Loops.{keep, only, some as some_of}
use Rattle.rule.specs.Base.{All, Ordered}
use Rattle.rule.specs.BaseLaws.{all_append}

module _ {A : Type 0} where
  -- two tests that agree on all of a list
  pub keep-agree : (f g : A → Bool) (l : List A) → All (λ a. f a ≡ g a) l → keep f l ≡ keep g l
  unfolding keep
  keep-agree f g [] e = refl
  keep-agree f g (x ∷ l) e = rw (e.0, keep-agree f g l e.1)

  pub keep_all : (f : A → Bool) (l : List A) → All (λ a. f a ≡ true) l → keep f l ≡ l
  unfolding keep only
  keep_all f [] a = refl
  keep_all f (x ∷ l) a = rw a.0 (ap (λ (r : List A). x ∷ r) (keep_all f l a.1))

  pub keep_same : (f g : A → Bool) (l : List A) → ((a : A) → f a ≡ g a) → keep f l ≡ keep g l
  unfolding keep
  keep_same f g [] e = refl
  keep_same f g (x ∷ l) e = rw (e x, keep_same f g l e)

  -- what passes two tests
  pub keep-both : (f g : A → Bool) (l : List A) → keep (λ a. f a && g a) l ≡ keep g (keep f l)
  unfolding keep only
  keep-both f g [] = refl
  keep-both f g (x ∷ l) = go (f x) (keep-both f g l)
    where
      go : (a : Bool) → keep (λ a. f a && g a) l ≡ keep g (keep f l)
          → only (a && g x) x ++ keep (λ a. f a && g a) l ≡ keep g (only a x ++ keep f l)
      go true ih = ap (λ (r : List A). only (g x) x ++ r) ih
      go false ih = ih

  pub all_keep : (P : A → Type 0) (f : A → Bool) (l : List A) → All P l → All P (keep f l)
  unfolding keep only
  all_keep P f [] a = tt
  all_keep P f (x ∷ l) a = go (f x) (all_keep P f l a.1)
    where
      go : (b : Bool) → All P (keep f l) → All P (only b x ++ keep f l)
      go true r = (a.0, r)
      go false r = r

  -- what is kept passes
  pub keep-passes : (f : A → Bool) (l : List A) → All (λ a. f a ≡ true) (keep f l)
  unfolding keep only
  keep-passes f [] = tt
  keep-passes f (x ∷ l) = go (f x) refl (keep-passes f l)
    where
      go : (b : Bool) → f x ≡ b → All (λ a. f a ≡ true) (keep f l) → All (λ a. f a ≡ true) (only b x ++ keep f l)
      go true e r = (e, r)
      go false e r = r

  pub all-zip : (P Q R : A → Type 0) → ((a : A) → P a → Q a → R a) → (l : List A) → All P l → All Q l → All R l
  all-zip P Q R f [] a b = tt
  all-zip P Q R f (x ∷ l) a b = (f x a.0 b.0, all-zip P Q R f l a.1 b.1)

  pub all-tabulate : (P : A → Type 0) → ((a : A) → P a) → (l : List A) → All P l
  all-tabulate P f [] = tt
  all-tabulate P f (x ∷ l) = (f x, all-tabulate P f l)

  pub ordered-keep : (P : A → A → Type 0) (f : A → Bool) (l : List A) → Ordered P l → Ordered P (keep f l)
  unfolding keep only
  ordered-keep P f [] o = tt
  ordered-keep P f (x ∷ l) o = go (f x) (ordered-keep P f l o.1)
    where
      go : (b : Bool) → Ordered P (keep f l) → Ordered P (only b x ++ keep f l)
      go true r = (all_keep (P x) f l o.0, r)
      go false r = r

  pub ordered-right : (P : A → A → Type 0) (l m : List A) → Ordered P (l ++ m) → Ordered P m
  ordered-right P [] m o = o
  ordered-right P (x ∷ l) m o = ordered-right P l m o.1

  pub ordered-append : (P : A → A → Type 0) (l m : List A) → Ordered P l → Ordered P m → All (λ x. All (P x) m) l
      → Ordered P (l ++ m)
  ordered-append P [] m o q c = q
  ordered-append P (x ∷ l) m o q c = (all_append (P x) l m o.0 c.0, ordered-append P l m o.1 q c.1)

  pub some-append : (f : A → Bool) (l m : List A) → some_of f (l ++ m) ≡ (some_of f l || some_of f m)
  unfolding some_of
  some-append f [] m = refl
  some-append f (x ∷ l) m = rw (some-append f l m) (go (f x) (some_of f l) (some_of f m))
    where
      go : (a b c : Bool) → (a || (b || c)) ≡ ((a || b) || c)
      go true b c = refl
      go false b c = refl

  pub some-none : (f : A → Bool) (l : List A) → All (λ a. f a ≡ false) l → some_of f l ≡ false
  unfolding some_of
  some-none f [] a = refl
  some-none f (x ∷ l) a = rw (a.0, some-none f l a.1)

  pub some-agree : (f g : A → Bool) (l : List A) → All (λ a. f a ≡ g a) l → some_of f l ≡ some_of g l
  unfolding some_of
  some-agree f g [] a = refl
  some-agree f g (x ∷ l) a = rw (a.0, some-agree f g l a.1)

module _ {A B : Type 0} where
  pub some-map : (v : A → B) (f : B → Bool) (l : List A) → some_of f (map v l) ≡ some_of (λ a. f (v a)) l
  unfolding some_of
  some-map v f [] = refl
  some-map v f (x ∷ l) = rw (some-map v f l)

  pub length-map : (v : A → B) (l : List A) → length (map v l) ≡ length l
  length-map v [] = refl
  length-map v (x ∷ l) = ap suc (length-map v l)

  pub map-agree : (f g : A → B) (l : List A) → All (λ a. f a ≡ g a) l → map f l ≡ map g l
  map-agree f g [] e = refl
  map-agree f g (x ∷ l) e = rw (e.0, map-agree f g l e.1)

  pub keep-map : (v : A → B) (f : B → Bool) (l : List A) → keep f (map v l) ≡ map v (keep (λ a. f (v a)) l)
  unfolding keep only
  keep-map v f [] = refl
  keep-map v f (x ∷ l) = go (f (v x)) (keep-map v f l)
    where
      go : (b : Bool) → keep f (map v l) ≡ map v (keep (λ a. f (v a)) l)
          → only b (v x) ++ keep f (map v l) ≡ map v (only b x ++ keep (λ a. f (v a)) l)
      go true ih = ap (λ (r : List B). v x ∷ r) ih
      go false ih = ih
