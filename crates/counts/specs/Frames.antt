-- The rows that a frame adds, by its kind and form. Document 01, Lines; document 02, T-09. Assumes nothing.
use Rattle.std.specs.Prelude.{ℕ, ◌+◌, ◌<◌, ◌≡◌, true, List}
use Rattle.totals.specs.declared.Row.{Row}
use Rattle.sessions.specs.Machine.{last_number}
use Rattle.model.specs.Types.{Model}
use Rattle.model.specs.Frames.{Body}
use Rattle.model.specs.Sound.{sound_model}
use Rattle.model.specs.Block.{padded}
use Rattle.model.specs.Layout.{most_data}
use Rattle.months.specs.Counts.{rows_added}

-- the body of a kind and a payload
abbrev pub body_of : ℕ → List ℕ → Body
body_of kind l = record { kind = kind; payload = l }

-- rows r are those that a payload of a kind adds, whatever sound state below the last number the block is of
abbrev pub Adds : List ℕ → ℕ → List ℕ → List Row → Type 0
Adds s kind l r =
    (m : Model) → sound_model m ≡ true → s ≡ padded m → m.position < last_number → r ≡ rows_added m (body_of kind l)

-- the longest frame that counts: 5 octets, and a packet's payload with 31 of data and 31 of a scan response
abbrev pub most_counted : ℕ
most_counted = 16 + most_data + most_data
