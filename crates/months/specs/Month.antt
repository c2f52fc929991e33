-- The rows of a list of executed frames. Document 02, T-09: each total over the whole list, every frame with the
-- state that it is executed on; T-10: the rows of a list in two parts. Over any engine whose states have document
-- 01's in them. Assumes nothing.
use Rattle.std.specs.Prelude.{ℕ, ◌+◌, List, [], ◌∷◌, ℤ, pos, ◌+ℤ◌}
use Rattle.totals.specs.declared.Row.{Row}
use Rattle.sessions.specs.Machine.{Machine}
use Rattle.sessions.specs.Session.{state_after}
use Rattle.model.specs.Types.{Model}
use Rattle.model.specs.Layout.{most_monitors}
use Rattle.model.specs.Frames.{Body, Typed, typed}
use Rattle.months.specs.Counts.{packets_in, reports_in, ticks_in, sum_in, rows_added}
use Rattle.months.specs.Tables.{table_of}

-- an executed frame with the state that it is executed on
pub record Given : Type 0 where
  pub before : Model
  pub frame : Typed

-- totals over a list: of counts, and of numbers with a sign
unfoldable pub total : (Given → ℕ) → List Given → ℕ
total f [] = 0
total f (x ∷ xs) = f x + total f xs

unfoldable pub total_z : (Given → ℤ) → List Given → ℤ
total_z f [] = pos 0
total_z f (x ∷ xs) = f x +ℤ total_z f xs

-- the row of a handle over a list of executed frames; "A row covers a handle, across cancels"
unfoldable pub row_of : List Given → ℕ → Row
row_of xs h =
    record {
      packets = total (λ x. packets_in h x.before x.frame) xs;
      reports = total (λ x. reports_in h x.before x.frame) xs;
      ticks = total (λ x. ticks_in h x.before x.frame) xs;
      sum = total_z (λ x. sum_in h x.before x.frame) xs;
    }

-- an engine, document 01's state in one of its states, and a frame as document 01 has it
module _ (M : Machine) (core : M.S → Model) (body : M.Body → Body) where
  -- the state after an executed frame
  unfoldable pub next : M.S → M.Body → M.S
  next s b = state_after s (M.act s b)

  -- what a frame adds
  unfoldable pub adds_of : M.S → M.Body → List Row
  adds_of s b = rows_added (core s) (body b)

  -- the executed frames of a list, in order, from a state, and the state after them
  unfoldable pub givens : M.S → List M.Body → List Given
  givens s [] = []
  givens s (b ∷ bs) = record { before = core s; frame = typed (body b) } ∷ givens (next s b) bs

  unfoldable pub after_all : M.S → List M.Body → M.S
  after_all s [] = s
  after_all s (b ∷ bs) = after_all (next s b) bs

  -- the sixteen rows
  unfoldable pub month : M.S → List M.Body → List Row
  month s bs = table_of (row_of (givens s bs)) most_monitors
