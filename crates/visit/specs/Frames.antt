-- What an executed frame says to the book of open visits, beside the events of its answer; and the book that an
-- image's pairs make. Document 01, Lines, Commands, Watching, by history, The image; document 02, T-05, T-06. For any
-- octets; FramesLaws says that for the frames that the model reads it is what the model reads. Assumes nothing.
use Rattle.std.specs.Prelude.{ℕ, ◌+◌, ◌-◌, ◌*◌, min, Bool, ◌&&◌, ◌||◌, List, Option, None, Some, map, length, drop, replicate, ◌==◌, nat_le, nat_lt, slice_index}
use Rattle.laws.specs.Tests.{pick}
use Rattle.laws.specs.Put.{put}
use Rattle.octets.specs.Little.{value}
use Rattle.octets.specs.Numbers.{number_at}
use Rattle.sessions.specs.Machine.{last_number}
use Rattle.model.specs.Types.{Pair, device_of, watched}
use Rattle.model.specs.Level.{level}
use Rattle.model.specs.Frames.{frame_of, packet_of}
use Rattle.model.specs.Commands.{sub_of}
use Rattle.model.specs.Block.{model_of}
use Rattle.model.specs.Layout.{block_size, most_pairs}
use Rattle.visit.specs.declared.Visit.{Visit}
use Rattle.visit.specs.declared.Range.{Range}
use Rattle.visit.specs.declared.End.{End}
use Rattle.visit.specs.declared.End.TheVariants.{Silence, Full, Cancelled, There}
use Rattle.visit.specs.declared.frames.Kind.{Kind}
use Rattle.visit.specs.declared.frames.Kind.TheVariants.{Command, Packet, Tick, Scanned}
use Rattle.visit.specs.Book.{devices, begun_at, heard_in}

-- the numbers of how a visit ended: 0 by silence, 1 by a full table, 2 with its monitor, 3 that it is still there
abbrev pub number_from : End → ℕ
number_from Silence = 0
number_from Full = 1
number_from Cancelled = 2
number_from There = 3

-- "01 command", "02 packet", "03 tick", T-06: "Add packet kind 04"
abbrev pub octet_of : Kind → ℕ
octet_of Command = 1
octet_of Packet = 2
octet_of Tick = 3
octet_of Scanned = 4

-- "A journal line has a kind octet, a 4-octet frame number, a payload"
unfoldable pub kind_of : List ℕ → ℕ
kind_of frame = (frame_of frame).body.kind

unfoldable pub payload_of : List ℕ → List ℕ
payload_of frame = (frame_of frame).body.payload

unfoldable pub number_of : List ℕ → ℕ
number_of frame = number_at 4 frame 1

-- "03 tick: nothing"
unfoldable pub is_tick : List ℕ → Bool
is_tick frame = kind_of frame == 3

-- "02 packet: event type .., RSSI"; T-06: "Add packet kind 04". No payload of either has under 10 octets
unfoldable pub is_packet : List ℕ → Bool
is_packet frame = nat_le 15 (length frame) && (kind_of frame == 2 || kind_of frame == 4)

-- the ticks up to a frame, it counted; as many as there are frame numbers at most
unfoldable pub ticks_with : ℕ → List ℕ → ℕ
ticks_with ticks frame = pick (is_tick frame) (min (ticks + 1) last_number) ticks

-- the tick of a frame by the ticks up to it: the first tick is tick 0, as what stands before it is
unfoldable pub tick_of : ℕ → ℕ
tick_of ticks = ticks - 1

-- how a visit ended whose stop event is in the answer to a frame: "The tick that completes such a run ends the
-- watch", by silence; at a packet T-05: "When a packet would start a pair but 64 are under watch, .. that pair ..
-- gets its stop event"
unfoldable pub end_of : List ℕ → End
end_of frame = pick (is_tick frame) Silence Full

-- "01 command: opcode (2), parameter length (1), parameters"; the first of them is the sub-opcode
unfoldable pub parameters_of : List ℕ → List ℕ
parameters_of frame = drop 3 (payload_of frame)

-- "04 | handle"
unfoldable pub handle_of : List ℕ → ℕ
handle_of frame = slice_index (parameters_of frame) 1

-- "Command Complete, 0x0E, length, 0x01, opcode (2), return parameters", of 04 "00, 04" on success, "status, 04" on
-- failure
unfoldable pub status_of : List ℕ → ℕ
status_of answer = slice_index answer 5

-- whether a frame with an answer cancelled a monitor: "Cancelling forgets the monitor and its pairs and writes no
-- stop event (H)", so its visits end here
unfoldable pub cancels : List ℕ → List ℕ → Bool
cancels frame answer =
    (kind_of frame == 1) && (sub_of (parameters_of frame) == 0x04 && status_of answer == 0)

-- the least and the greatest key of a handle's visits: the handle is the key's last octet
unfoldable pub least_key : ℕ → ℕ
least_key handle = handle * devices

unfoldable pub most_key : ℕ → ℕ
most_key handle = handle * devices + (devices - 1)

-- from which key to which the visits are that it ends
unfoldable pub cancelled_in : List ℕ → List ℕ → Option Range
cancelled_in frame answer =
    pick (cancels frame answer)
    (Some (record { low = least_key (handle_of frame); high = most_key (handle_of frame) })) None

-- a packet heard by the open visits of its device, "(type and address)"; another frame changes nothing
unfoldable pub heard_of : List ℕ → List (Option Visit) → List (Option Visit)
heard_of frame rows =
    pick (is_packet frame) (heard_in (value (device_of (packet_of (payload_of frame))))
    (level (packet_of (payload_of frame)).rssi) rows) rows

-- the key of a pair: "address type, address, handle", as an event has it
unfoldable pub key_of : Pair → ℕ
key_of q = value (watched q) + q.handle * devices

-- the visit of a pair of an image: begun before the journal, with no frame and no tick
unfoldable pub visit_of : Pair → Option Visit
visit_of q = Some (begun_at (key_of q) 0 0)

-- "A2 per pair, in start order": the book of the pairs held, in their order; a block that is too short has none
unfoldable pub begun_in : List ℕ → List (Option Visit)
begun_in s =
    pick (nat_lt (length s) block_size) (replicate most_pairs None)
    (put (replicate most_pairs None) 0 (map visit_of (model_of s).pairs))
