-- Laws of the definitions in Tests.
use Rattle.std.specs.Prelude.{ℕ, ◌≤◌, ◌<◌, ◌≡◌, refl, List, [], ◌∷◌, ◌⊎◌, Bool, true, false, ◌&&◌, leb, eqb}
use Rattle.std.proofs.Common.{sym, ◌∙◌, inl, inr, leb-true, leb-false, eqb-true, eq-eqb}
use Rattle.std.proofs.lemmas.Bool.{false≢true, eqb-false}
use Rattle.laws.specs.Tests.{pick, sames}

module _ {A : Type 0} where
  pub pick_true : {t : Bool} (a b : A) → t ≡ true → pick t a b ≡ a
  unfolding pick
  pick_true a b e = rw e

  pub pick-false : {t : Bool} (a b : A) → t ≡ false → pick t a b ≡ b
  unfolding pick
  pick-false a b e = rw e

-- every test is true or false
pub both : (t : Bool) → (t ≡ true) ⊎ (t ≡ false)
both true = inl refl
both false = inr refl

pub and_left : (a b : Bool) → (a && b) ≡ true → a ≡ true
and_left true b e = refl
and_left false b e = e

pub and_right : (a b : Bool) → (a && b) ≡ true → b ≡ true
and_right true b e = e
and_right false b e = absurd (false≢true e)

pub and_both : {a b : Bool} → a ≡ true → b ≡ true → (a && b) ≡ true
and_both p q = rw (p, q)

pub and-not-left : (a b : Bool) → a ≡ false → (a && b) ≡ false
and-not-left a b e = rw e

pub and-not-right : (a b : Bool) → b ≡ false → (a && b) ≡ false
and-not-right true b e = e
and-not-right false b e = refl

-- by cases on an order; in each arm the fact is at hand
pub cases-le : {P : Type 0} (a b : ℕ) → (a ≤ b → P) → (b < a → P) → P
cases-le {P} a b f g = go (leb a b) refl
  where
    go : (t : Bool) → leb a b ≡ t → P
    go true e = f (leb-true a b e)
    go false e = g (leb-false a b e)

pub cases_eq : {P : Type 0} (a b : ℕ) → (a ≡ b → P) → ((a ≡ b → ⊥) → P) → P
cases_eq {P} a b f g = go (eqb a b) refl
  where
    go : (t : Bool) → eqb a b ≡ t → P
    go true e = f (eqb-true a b e)
    go false e = g (eqb-false a b e)

pub sames-eq : (l m : List ℕ) → sames l m ≡ true → l ≡ m
unfolding sames
sames-eq [] [] e = refl
sames-eq [] (b ∷ m) e = absurd (false≢true e)
sames-eq (a ∷ l) [] e = absurd (false≢true e)
sames-eq (a ∷ l) (b ∷ m) e =
    rw (eqb-true a b (and_left (eqb a b) (sames l m) e), sames-eq l m (and_right (eqb a b) (sames l m) e))

pub sames-refl : (l : List ℕ) → sames l l ≡ true
unfolding sames
sames-refl [] = refl
sames-refl (a ∷ l) = rw (eq-eqb a a refl, sames-refl l)

pub eq-sames : (l m : List ℕ) → l ≡ m → sames l m ≡ true
eq-sames l m e = rw e (sames-refl m)

-- the test is the same whichever list comes first
pub sames-sym : (l m : List ℕ) → sames l m ≡ sames m l
sames-sym l m = go (sames l m) (sames m l) refl refl
  where
    go : (s t : Bool) → sames l m ≡ s → sames m l ≡ t → s ≡ t
    go true true p q = refl
    go false false p q = refl
    go true false p q = sym (eq-sames m l (sym (sames-eq l m p))) ∙ q
    go false true p q = sym p ∙ eq-sames l m (sym (sames-eq m l q))
