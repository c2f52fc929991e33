-- Texts put one behind another. Assumes nothing.
use Rattle.std.specs.Prelude.{ℕ, ◌+◌, ◌-◌, ◌*◌, ◌/◌, ◌%◌, ◌≤◌, ◌<◌, ◌≡◌, refl, Bool, true, false, List, [], ◌∷◌, ◌++◌, take}
use Rattle.std.proofs.Common.{sym, ap, ◌∙◌}
use Rattle.laws.specs.Tests.{pick}
use Rattle.laws.specs.TestsLaws.{pick_true, pick-false}
use Rattle.texts.specs.Text.{room}
use Rattle.texts.specs.JoinedLaws.{said-so}

-- a text, what was put behind it and what was put behind that
pub then : (t a b : List ℕ) {s r : List ℕ} → s ≡ take room (t ++ a) → r ≡ take room (s ++ b)
    → r ≡ take room (t ++ (a ++ b))
then t a b e q = said-so t a b e q

-- the first text put behind none
pub first : (a : List ℕ) {o s : List ℕ} → o ≡ [] → s ≡ take room (o ++ a) → s ≡ take room ([] ++ a)
first a z e = e ∙ ap (λ (l : List ℕ). take room (l ++ a)) z

-- what is put is another text that is the same
pub same : (t a b : List ℕ) {r : List ℕ} → r ≡ take room (t ++ a) → a ≡ b → r ≡ take room (t ++ b)
same t a b e q = e ∙ ap (λ (l : List ℕ). take room (t ++ l)) q

-- one of two texts
pub taken : (t a b : List ℕ) {c : Bool} {r : List ℕ} → c ≡ true → r ≡ take room (t ++ a)
    → r ≡ take room (t ++ pick c a b)
taken t a b k e = same t a (pick _ a b) e (sym (pick_true a b k))

pub left : (t a b : List ℕ) {c : Bool} {r : List ℕ} → c ≡ false → r ≡ take room (t ++ b)
    → r ≡ take room (t ++ pick c a b)
left t a b k e = same t b (pick _ a b) e (sym (pick-false a b k))
