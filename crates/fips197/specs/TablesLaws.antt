-- Laws of the definitions in Tables.
use Rattle.std.specs.Prelude.{ℕ, zero, suc, ◌+◌, ◌<◌, ◌≡◌, refl, List, get_or, replicate}
use Rattle.std.proofs.Common.{sym, ap, ◌∙◌, zero-add, add-zero, add-suc, suc-add, arith}
use Rattle.fips197.specs.Field.{◌⊕◌, xtimes, products, ◌•◌, squares, inverse, substitute}
use Rattle.fips197.specs.Tables.{tabulate, IsTable}

-- what stands in a tabulated list
tabulate-at : {A : Type 0} (f : ℕ → A) (i n k : ℕ) (d : A) → k < n → get_or (tabulate f i n) k d ≡ f (i + k)
unfolding tabulate
tabulate-at f i zero k d h = absurd (omega arith)
tabulate-at f i (suc n) zero d h = ap f (sym (add-zero i))
tabulate-at f i (suc n) (suc k) d h =
    tabulate-at f (suc i) n k d (omega arith) ∙ ap f (suc-add i k ∙ sym (add-suc i k))

-- 4.4: every octet but {00}, multiplied by its inverse, is {01}
pub inverse-rule : tabulate (λ b. b • inverse b) 1 255 ≡ replicate 255 1
unfolding tabulate inverse squares ◌•◌ products xtimes ◌⊕◌
inverse-rule = refl

-- an entry of that table
pub table_at : (t : List ℕ) → IsTable t → (k : ℕ) → k < 256 → get_or t k 0 ≡ substitute k
unfolding IsTable
table_at t r k h =
    ap (λ (l : List ℕ). get_or l k 0) r ∙ tabulate-at substitute 0 256 k 0 h ∙ ap substitute (zero-add k)
