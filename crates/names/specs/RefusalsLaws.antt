-- Laws of the definitions in Refusals.
use Rattle.std.specs.Prelude.{ℕ, ◌≤◌, refl, length}
use Rattle.laws.specs.Loops.{every}
use Rattle.model.specs.Quoted.{codes}
use Rattle.names.specs.NamesLaws.{is_short, named-most}
use Rattle.names.specs.Refusals.{refusal_rows, refusal_name}

-- no refusal has more words than this
pub refusal-most : (x : ℕ) → length (refusal_name x) ≤ 43
unfolding refusal_name refusal_rows every is_short codes
refusal-most x = named-most refusal_rows 43 x refl
