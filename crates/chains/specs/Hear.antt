-- Events read from the octets of an answer, as a host reads them. Document 01, Watching, by history: "Event: 0xFF,
-- length, prefix, 0x02, address type, address, handle, 1 or 0". Definitions alone; that they read back what is
-- written is `reads-back` of Reads.
use Rattle.std.specs.Prelude.{ℕ, zero, suc, ◌+◌, Bool, ◌&&◌, List, [], ◌∷◌, ◌++◌, leb, eqb, length, take, drop, get_or}
use Rattle.laws.specs.Tests.{sames}
use Rattle.laws.specs.Loops.{when}
use Rattle.model.proofs.Radio.{radio}
use Rattle.chains.specs.Told.{Event}

-- The parameters of an HCI event are those of a start or a stop: code 0xFF, the length, the prefix, 0x02, and last 1
-- or 0.
unfoldable pub is_event : List ℕ → ℕ → List ℕ → Bool
is_event prefix code body =
    eqb code 0xFF && (eqb (length body) (10 + length prefix) && (sames (take (length prefix) body) prefix
    && (eqb (get_or (drop (length prefix) body) 0 0) 0x02 && leb (get_or (drop (length prefix) body) 9 0) 1)))

-- What follows the prefix: 0x02, address type and address (the device), handle, 1 or 0.
unfoldable pub event_of : List ℕ → Event radio
event_of r = record { handle = get_or r 8 0; device = take 7 (drop 1 r); starts = eqb (get_or r 9 0) 1 }

unfoldable pub event_in : List ℕ → ℕ → List ℕ → List (Event radio)
event_in prefix code body = when (is_event prefix code body) (event_of (drop (length prefix) body) ∷ [])

-- The HCI events of an answer, one after another: code, length, and as many octets of parameters. The number bounds how
-- many are read; as many as the answer has octets are enough.
unfoldable pub events_read_up_to : List ℕ → ℕ → List ℕ → List (Event radio)
events_read_up_to prefix zero l = []
events_read_up_to prefix (suc n) [] = []
events_read_up_to prefix (suc n) (code ∷ []) = []
events_read_up_to prefix (suc n) (code ∷ k ∷ l) = event_in prefix code (take k l) ++ events_read_up_to prefix n (drop k l)

-- The events of an answer, in order.
unfoldable pub events_read : List ℕ → List ℕ → List (Event radio)
events_read prefix answer = events_read_up_to prefix (length answer) answer
