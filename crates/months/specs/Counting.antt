-- The engine that counts (document 02, T-09): a table without counts, the engine and its states.
use Rattle.std.specs.Prelude.{List, replicate}
use Rattle.totals.specs.declared.Row.{Row}
use Rattle.totals.specs.Table.{empty, table_rows}
use Rattle.sessions.specs.Machine.{Machine}
use Rattle.model.specs.Types.{Model}
use Rattle.model.specs.Frames.{Body}
use Rattle.months.specs.Counted.{Tallied, counted}
use Rattle.months.specs.Month.{adds_of}

-- sixteen empty rows
abbrev pub no_rows : List Row
no_rows = replicate table_rows empty

-- over an engine, document 01's state in one of its states, and a frame as document 01 has it
module _ (M : Machine) (core : M.S → Model) (body : M.Body → Body) where
  -- the engine that counts, and its states
  abbrev pub counting : Machine
  counting = counted M (adds_of M core body)

  abbrev pub Tally : Type 0
  Tally = Tallied M.S

  abbrev pub at : M.S → List Row → Tally
  at s l = record { state = s; rows = l }
