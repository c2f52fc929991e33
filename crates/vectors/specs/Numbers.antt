-- The number of the refusal that ended a call, 0 where there is none. Definitions alone.
use Rattle.std.specs.Prelude.{ℕ, Result, Ok, Err}
use Rattle.refusals.specs.declared.Refusal.{Refusal}
use Rattle.refusals.specs.Numbers.{number}

abbrev pub number_of : Result Unit Refusal → ℕ
number_of (Ok u) = 0
number_of (Err x) = number x
