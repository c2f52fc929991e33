-- What a counted line answers and leaves in the block, the output and the rows. Document 02, T-09 ("Refusals: 3 also
-- for a table not of sixteen rows; 12, a total would pass 64 bits .., comes last; either leaves state and rows
-- unchanged"). Assumes nothing.
use Rattle.std.specs.Prelude.{ℕ, ◌≡◌, Bool, true, false, List, eqb, length, Result, Ok, Err}
use Rattle.laws.specs.Tests.{pick}
use Rattle.laws.specs.Put.{put}
use Rattle.totals.specs.declared.Row.{Row}
use Rattle.totals.specs.Table.{passes}
use Rattle.sessions.specs.Machine.{text, Outcome, refused, done}
use Rattle.sessions.specs.Session.{answer, state_after, written}
use Rattle.model.specs.Frames.{Body}
use Rattle.model.specs.Block.{model_of}
use Rattle.wholes.specs.Engine.{engine}
use Rattle.engine.specs.Calls.{case_of}
use Rattle.months.specs.Counts.{rows_added}
use Rattle.months.specs.Counted.{Tallied, lent_with, counted}
use Rattle.month.specs.declared.Uncounted.{Uncounted}
use Rattle.month.specs.declared.Uncounted.TheVariants.{Refused as RefusedA, Passes}

-- what a frame adds, from a block
unfoldable pub adds_in : List ℕ → Body → List Row
adds_in s b = rows_added (model_of s) b

-- a block with rows
abbrev pub at : List ℕ → List Row → Tallied (List ℕ)
at s l = record { state = s; rows = l }

-- a line given with the rows l to the block s, the lent table having n rows and the output `lent` octets: refused by
-- 7, 3, 4, 1, 2, 5, 6, 12, in this order, or executed and counted
unfoldable pub outcome : ℕ → ℕ → List ℕ → List Row → List ℕ → Outcome (Tallied (List ℕ))
outcome n lent s l t = answer (counted engine adds_in) (lent_with n lent) (at s l) text t

-- the answer of an outcome: 12 has a case of its own
unfoldable pub answer_of : {S : Type 0} → Outcome S → Result ℕ Uncounted
answer_of (refused k) = Err (pick (eqb k passes) Passes (RefusedA (case_of k)))
answer_of (done x a) = Ok (length a)

-- What a counted line leaves, by its outcome: its answer, the rows, the block, the output with what was written at
-- its start.
pub record Counts (n : ℕ) (s t out : List ℕ) (l : List Row) (r : Result ℕ Uncounted) (rows : List Row)
    (after wrote : List ℕ) : Type 0 where
  pub answer : r ≡ answer_of (outcome n (length out) s l t)
  pub table : rows ≡ (state_after (at s l) (outcome n (length out) s l t)).rows
  pub state : after ≡ (state_after (at s l) (outcome n (length out) s l t)).state
  pub output : wrote ≡ put out 0 (written (outcome n (length out) s l t))

-- whether a line was executed
unfoldable pub is_done : {S : Type 0} → Outcome S → Bool
is_done (refused n) = false
is_done (done t a) = true
