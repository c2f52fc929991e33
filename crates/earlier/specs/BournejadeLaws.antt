-- The number and the count of an answer, where it was done and where it was refused.
use Rattle.std.specs.Prelude.{ℕ, ◌≡◌, Result, Ok, Err}
use Rattle.std.proofs.Common.{sym, ap, ◌∙◌}
use Rattle.refusals.specs.declared.Refusal.{Refusal}
use Rattle.refusals.specs.Numbers.{number}
use Rattle.bournejade.specs.Gives.{number_in, count_in}

pub told-done : (w : Result ℕ Refusal) (k n : ℕ) → w ≡ Ok k → n ≡ k → (0 ≡ number_in w) × (n ≡ count_in w)
unfolding number_in count_in
told-done w k n e f = (sym (ap number_in e), f ∙ sym (ap count_in e))

pub told-refused : (w : Result ℕ Refusal) (x : Refusal) (r n : ℕ) → w ≡ Err x → r ≡ number x → n ≡ 0
    → (r ≡ number_in w) × (n ≡ count_in w)
unfolding number_in count_in
told-refused w x r n e f g = (f ∙ sym (ap number_in e), g ∙ sym (ap count_in e))
