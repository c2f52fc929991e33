-- The answers to a line given with rows, told in numbers; and the rows after it, by value.
use Rattle.std.specs.Prelude.{ℕ, ◌≡◌, Bool, true, false, List, map, length, Result, Ok, Err, is_ok}
use Rattle.std.proofs.Common.{sym, ap, ◌∙◌, subst}
use Rattle.laws.specs.Tests.{pick}
use Rattle.laws.specs.TestsLaws.{pick_true, pick-false}
use Rattle.refusals.specs.declared.Refusal.{Refusal}
use Rattle.refusals.specs.Numbers.{number}
use Rattle.totals.specs.declared.Row.{Row}
use Rattle.totals.specs.declared.Gain.{Gain}
use Rattle.totals.specs.Two.{every_two, map_two}
use Rattle.totals.specs.Table.{passes, table_rows, row_fits, row_sum}
use Rattle.totals.specs.Gains.{wide_row}
use Rattle.sessions.specs.Machine.{text}
use Rattle.sessions.specs.Session.{answer}
use Rattle.wholes.specs.Engine.{engine}
use Rattle.months.specs.Counted.{lent_with}
use Rattle.month.specs.declared.Uncounted.{Uncounted}
use Rattle.month.specs.declared.Uncounted.TheVariants.{Refused, Passes}
use Rattle.month.specs.Outcomes.{Counts}
use Rattle.month.specs.Gives.{passing, Gives, answer_by, Added}
use Rattle.month.specs.Numbers.{number_of, number_by, counted_by}
use Rattle.month.proofs.GivesLaws.{counted-by}
use Rattle.earlier.specs.TotalsLaws.{added_rows}

-- each case
pub told-done : (n : ℕ) {a : Result ℕ Uncounted} → a ≡ Ok n → (0 ≡ number_by a) × (n ≡ counted_by a)
unfolding number_by
told-done n e = (sym (ap number_by e), sym (ap (λ (x : Result ℕ Uncounted). counted_by x) e))

pub told-refused : (x : Refusal) {a : Result ℕ Uncounted} {k : ℕ} → a ≡ Err (Refused x) → k ≡ number x
    → (k ≡ number_by a) × (0 ≡ counted_by a)
unfolding number_by number_of
told-refused x e f = (f ∙ sym (ap number_by e), sym (ap (λ (y : Result ℕ Uncounted). counted_by y) e))

pub told-passes : {a : Result ℕ Uncounted} → a ≡ Err Passes → (passes ≡ number_by a) × (0 ≡ counted_by a)
unfolding number_by number_of
told-passes e = (sym (ap number_by e), sym (ap (λ (x : Result ℕ Uncounted). counted_by x) e))

-- whether a line that was given was executed
pub by-done : (n : ℕ) {w : Result ℕ Refusal} → w ≡ Ok n → (Ok n ≡ answer_by w) × (true ≡ is_ok w)
unfolding answer_by
by-done n e = (sym (ap answer_by e), sym (ap is_ok e))

pub by-refused : (x : Refusal) {w : Result ℕ Refusal} → w ≡ Err x → (Err (Refused x) ≡ answer_by w) × (false ≡ is_ok w)
unfolding answer_by
by-refused x e = (sym (ap answer_by e), sym (ap is_ok e))

-- the rows by value
pub says-by : (n : ℕ) (s t out : List ℕ) (l : List Row) (gs : List Gain) (fits : Bool) {r : Result ℕ Uncounted}
    {d a u : List Row} {s1 s' out' : List ℕ}
    → Added s t (map wide_row gs) → s1 ≡ s → d ≡ map wide_row gs → fits ≡ every_two row_fits l d → a ≡ added_rows l d
    → u ≡ pick (is_ok r) a l
    → Gives (passing fits (answer engine (lent_with n (length out)) s1 text t)) s1 out r s' out'
    → Counts n s t out l r u s' out'
unfolding added_rows
says-by n s t out l gs fits {r} {d} {a} {u} {s1} {s'} {out'} f z y e h k c =
    let g : Gives (passing fits (answer engine (lent_with n (length out)) s text t)) s out r s' out' =
    subst (λ (x : List ℕ). Gives (passing fits (answer engine (lent_with n (length out)) x text t)) x out r s' out')
    z c in
    counted-by n s t out l (map wide_row gs) fits g (λ (b : is_ok r ≡ false). k ∙ pick-false a l b) f
    (λ (m : n ≡ table_rows). e ∙ ap (every_two row_fits l) y)
    (λ (m : n ≡ table_rows) (b : is_ok r ≡ true) (x : every_two row_fits l (map wide_row gs) ≡ true).
    k ∙ pick_true a l b ∙ h ∙ ap (λ (v : List Row). pick (every_two row_fits l v) (map_two row_sum l v) l) y
    ∙ pick_true (map_two row_sum l (map wide_row gs)) l x)
