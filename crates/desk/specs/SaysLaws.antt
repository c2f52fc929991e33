-- Laws of the definitions in Says.
use Rattle.std.specs.Prelude.{ℕ, ◌≡◌, List, [], ◌++◌, take, Option, Some, None}
use Rattle.std.proofs.Common.{sym, ap, ◌∙◌, eq-eqb, ne_eqb}
use Rattle.laws.specs.TestsLaws.{pick_true, pick-false}
use Rattle.decimals.specs.Decimals.{decimal}
use Rattle.model.specs.Quoted.{codes}
use Rattle.texts.specs.Text.{room}
use Rattle.texts.specs.JoinedLaws.{joined}
use Rattle.index.specs.declared.Watchers.{Watchers}
use Rattle.desk.specs.Says.{word_of, by_text, sentence_of}

pub word-one : (n : ℕ) (s : List ℕ) {r : List ℕ} → n ≡ 1 → r ≡ take room (s ++ codes " monitor")
    → r ≡ take room (s ++ word_of n)
unfolding word_of
word-one n s e q =
    q ∙ ap (λ (l : List ℕ). take room (s ++ l)) (sym (pick_true (codes " monitor") (codes " monitors") (eq-eqb n 1 e)))

pub word_more : (n : ℕ) (s : List ℕ) {r : List ℕ} → (n ≡ 1 → ⊥) → r ≡ take room (s ++ codes " monitors")
    → r ≡ take room (s ++ word_of n)
unfolding word_of
word_more n s e q =
    q ∙ ap (λ (l : List ℕ). take room (s ++ l)) (sym (pick-false (codes " monitor") (codes " monitors") (ne_eqb n 1 e)))

pub by-so : (n h : ℕ) (o a b c : List ℕ) {r : List ℕ} → o ≡ []
    → a ≡ take room (o ++ (codes "watched by " ++ decimal n)) → b ≡ take room (a ++ word_of n)
    → c ≡ take room (b ++ (codes ", lowest handle " ++ decimal h)) → r ≡ take room (c ++ codes "\n")
    → r ≡ take room (by_text n h)
unfolding by_text
by-so n h o a b c z e f g q =
    let y : a ≡ take room (codes "watched by " ++ decimal n) =
    e ∙ ap (λ (l : List ℕ). take room (l ++ (codes "watched by " ++ decimal n))) z in
    joined (((codes "watched by " ++ decimal n) ++ word_of n) ++ (codes ", lowest handle " ++ decimal h)) (codes "\n")
    (joined ((codes "watched by " ++ decimal n) ++ word_of n) (codes ", lowest handle " ++ decimal h)
    (joined (codes "watched by " ++ decimal n) (word_of n) y f) g) q

pub said-by : (w : Option Watchers) (x : Watchers) {r : List ℕ} → w ≡ Some x → r ≡ take room (by_text x.count x.lowest)
    → r ≡ take room (sentence_of w)
unfolding sentence_of
said-by w x e q = q ∙ sym (ap (λ (o : Option Watchers). take room (sentence_of o)) e)

pub said-nobody : (w : Option Watchers) (o : List ℕ) {r : List ℕ} → w ≡ None → o ≡ []
    → r ≡ take room (o ++ codes "watched by no monitor\n") → r ≡ take room (sentence_of w)
unfolding sentence_of
said-nobody w o e z q =
    q ∙ ap (λ (l : List ℕ). take room (l ++ codes "watched by no monitor\n")) z
    ∙ sym (ap (λ (x : Option Watchers). take room (sentence_of x)) e)
