-- Which starts of a packet are told: those that their monitor lets through. Document 02, T-13. Assumes nothing.
use Rattle.std.specs.Prelude.{ℕ, zero, suc, ◌+◌, ◌-◌, ◌<◌, ◌≤◌, Bool, true, false, ◌&&◌, ◌||◌, List, [], ◌∷◌, ◌++◌}
use Rattle.laws.specs.Loops.{some as some_of}
use Rattle.model.specs.Frames.{packet_of}
use Rattle.pasts.specs.Past.{turns_by, watch}
use Rattle.pasts.specs.Says.{tells_start}
use Rattle.twin.specs.Table.{past_at, payload_at}

-- whether a start of packet i is told, of the handles below n
unfoldable pub tells_to : List ℕ → ℕ → ℕ → Bool
tells_to t i n =
    some_of (tells_start [] (past_at t i) (packet_of (payload_at t i)))
    (turns_by (past_at t i) (packet_of (payload_at t i)) (watch (past_at t i)) n).starts
