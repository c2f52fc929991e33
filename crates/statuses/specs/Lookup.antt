-- The table of lengths as the code has it, and the turns of the loop that looks a sub-opcode up in it. Document 01,
-- Commands ("A fixed table gives each sub-opcode its parameter length and answer length"). Assumes nothing.
use Rattle.std.specs.Prelude.{ℕ, ◌≡◌, Option, Some, None}
use Rattle.statuses.specs.declared.Row.{Row}
use Rattle.model.specs.Commands.{table, params_in, answer_in}

-- the lengths of the row that was found; 0 where none was
abbrev pub params_or : Option Row → ℕ
params_or None = 0
params_or (Some r) = r.params

abbrev pub answer_or : Option Row → ℕ
answer_or None = 0
answer_or (Some r) = r.answer

-- what was found has the lengths of a sub-opcode
pub record Lengths (sub : ℕ) (r : Option Row) : Type 0 where
  pub params : params_or r ≡ params_in table sub
  pub answer : answer_or r ≡ answer_in table sub
