-- Laws of the definitions in Numbers.
use Rattle.std.specs.Prelude.{ℕ, ◌+◌, ◌≤◌, ◌<◌, ◌≡◌, List, true, false, leb, length}
use Rattle.std.proofs.Common.{sym, ◌∙◌, le-leb, arith}
use Rattle.std.proofs.lemmas.Bool.{lt-leb}
use Rattle.laws.specs.Tests.{pick}
use Rattle.laws.specs.TestsLaws.{pick_true, pick-false, cases-le}
use Rattle.octets.specs.Little.{little}
use Rattle.octets.specs.Numbers.{number_at, at_most}

-- a number that was read where there are octets enough is the number that stands there
pub number-of : (k : ℕ) (xs : List ℕ) (i : ℕ) {v : ℕ} → v ≡ number_at k xs i → i + k ≤ length xs → v ≡ little k xs i
unfolding number_at
number-of k xs i e h = e ∙ pick_true (little k xs i) 0 (le-leb (i + k) (length xs) h)

pub number_in : (k : ℕ) (xs : List ℕ) (i : ℕ) {v : ℕ} → v ≡ little k xs i → leb (i + k) (length xs) ≡ true
    → v ≡ number_at k xs i
unfolding number_at
number_in k xs i e t = e ∙ sym (pick_true (little k xs i) 0 t)

pub number-out : (k : ℕ) (xs : List ℕ) (i : ℕ) → leb (i + k) (length xs) ≡ false → 0 ≡ number_at k xs i
unfolding number_at
number-out k xs i t = sym (pick-false (little k xs i) 0 t)

pub at-most : (v n : ℕ) → at_most v n ≤ n
unfolding at_most pick
at-most v n = cases-le v n (λ h. rw (le-leb v n h) (omega arith)) (λ h. rw (lt-leb v n h) (omega arith))

pub at-is : (v n : ℕ) → v ≤ n → v ≡ at_most v n
unfolding at_most pick
at-is v n h = rw (le-leb v n h)

pub at-over : (v n : ℕ) → n < v → n ≡ at_most v n
unfolding at_most pick
at-over v n h = rw (lt-leb v n h)
