-- Whether a pair held is a reason for a packet's report, by the octets of its row, of the packet and of its handle.
-- Document 01, Watching, by history; document 02, T-13. Assumes nothing.
use Rattle.std.specs.Prelude.{ℕ, ◌+◌, ◌*◌, Bool, not, ◌&&◌, List, length, take, drop, ◌==◌, nat_lt, slice_index}
use Rattle.laws.specs.Tests.{sames}
use Rattle.marks.specs.Fields.{framed}
use Rattle.marks.specs.Marks.{tells, sifted}
use Rattle.model.specs.Layout.{block_size, data_at, event_at, length_at, most_pairs, pair_size, pairs_at}

-- T-13: pair i of a block keeps the event type and the data of a packet's payload
unfoldable pub alike_in : List ℕ → ℕ → List ℕ → Bool
alike_in s i l =
    (slice_index s (pairs_at + pair_size * i + event_at) == slice_index l 0)
    && (slice_index s (pairs_at + pair_size * i + length_at) == slice_index l 8
    && sames (take (slice_index l 8) (drop (pairs_at + pair_size * i + data_at) s)) (take (slice_index l 8) (drop 9 l)))

-- pair i, which is of the packet's device, is a reason for its report, by its handle's octet
unfoldable pub reason_in : List ℕ → ℕ → ℕ → List ℕ → Bool
reason_in s i a l = tells a && not (sifted a && alike_in s i l)

-- the same of any octets and any number: a block has a row i, and the payload is a packet frame's by its lengths
unfoldable pub reason_at : List ℕ → ℕ → ℕ → List ℕ → Bool
reason_at s i a l = length s == block_size && (nat_lt i most_pairs && (framed l && reason_in s i a l))
