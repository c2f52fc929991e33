-- T-10: "Where no sum along the way would pass 64 bits, joining is associative and commutative and the empty row
-- changes nothing". The join's laws stand in the crate totals (Join); here the empty row. Assumes nothing.
use Rattle.std.specs.Prelude.{◌≡◌, refl, true}
use Rattle.std.proofs.Common.{sym, ◌∙◌}
use Rattle.laws.specs.Tests.{pick}
use Rattle.totals.specs.declared.Row.{Row}
use Rattle.totals.specs.Table.{empty, row_fits, row_sum}
use Rattle.totals.specs.Join.{join_of}
use Rattle.totals.proofs.JoinLaws.{join-comm, sum-empty}

-- two rows whose sum fits are joined to it
pub join-fits : (a b : Row) {r : Row} → row_fits a b ≡ true → r ≡ row_sum a b → r ≡ join_of a b
unfolding join_of pick
join-fits a b h e = rw h e

-- the empty row changes nothing, on either side: the only sum along the way is the row itself
pub join-empty : (a : Row) → row_fits a empty ≡ true → join_of a empty ≡ a
join-empty a h = sym (join-fits a empty h (sym (sum-empty a)))

pub empty-join : (a : Row) → row_fits a empty ≡ true → join_of empty a ≡ a
empty-join a h = join-comm empty a ∙ join-empty a h
