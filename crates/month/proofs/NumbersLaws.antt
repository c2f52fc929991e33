-- Laws of the definitions in Numbers.
use Rattle.std.specs.Prelude.{ℕ, ◌≡◌, List, Result}
use Rattle.std.proofs.Common.{ap, ◌∙◌}
use Rattle.totals.specs.declared.Row.{Row}
use Rattle.month.specs.declared.Uncounted.{Uncounted}
use Rattle.month.specs.Outcomes.{Counts}
use Rattle.month.specs.Numbers.{number_by, counted_by, Rowed}

pub rowed : (n : ℕ) (s t out : List ℕ) (l : List Row) {a : Result ℕ Uncounted} {r c : ℕ} {rows : List Row} {after wrote : List ℕ}
    → Counts n s t out l a rows after wrote → r ≡ number_by a → c ≡ counted_by a → Rowed n s t out l r c rows after wrote
rowed n s t out l x e f =
    record {
      number = e ∙ ap number_by x.answer;
      count = f ∙ ap counted_by x.answer;
      table = x.table;
      state = x.state;
      output = x.output;
    }
