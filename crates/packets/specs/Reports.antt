-- Whether a packet is reported: by the pairs held and by its starts. Document 01, Watching, by history ("one report
-- .. if the filter is off, or some matching monitor has sampling 0 and the pair under watch, or the packet is a
-- start"); document 02, T-13. Assumes nothing.
use Rattle.std.specs.Prelude.{ℕ, ◌+◌, ◌*◌, Bool, ◌&&◌, List, map, nat_le}
use Rattle.laws.specs.Loops.{some as some_of}
use Rattle.model.specs.Types.{Model, Packet}
use Rattle.model.specs.Watch.{packet_move, starts_below, is_reason, start_told}
use Rattle.model.specs.Layout.{most_monitors, report_most}
use Rattle.marks.specs.Fields.{framed}

-- whether a packet's reports are written into n octets at an index: room for two with the most data, and a payload
-- that is a packet frame's by its lengths
unfoldable pub reports_fit : ℕ → ℕ → List ℕ → Bool
reports_fit n at l = nat_le (at + 2 * report_most) n && framed l

module _ (m : Model) (p : Packet) where
  -- a pair held is a reason, a start is
  abbrev pub held_told : Bool
  held_told = some_of (is_reason m.mons p) m.pairs

  abbrev pub starts_told : Bool
  starts_told = some_of (start_told m.mons p)
      (starts_below m.mons p most_monitors (map (packet_move m.mons p) m.pairs))
