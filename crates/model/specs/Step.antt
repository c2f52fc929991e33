-- One step: what a frame with the next number does. Document 01, Refusal numbers (5, 6), Commands, Watching, by
-- history. The refusals 7, 3, 4, 1, 2 come before, in `answer` of the crate sessions.
use Rattle.std.specs.Prelude.{ℕ, List, [], eqb}
use Rattle.laws.specs.Tests.{pick}
use Rattle.sessions.specs.Machine.{Outcome, refused, done}
use Rattle.model.specs.Types.{Model, Packet, Pair, with_lists, moved}
use Rattle.model.specs.Frames.{Body, Typed, command, packet, tick, bad, typed}
use Rattle.model.specs.Commands.{commanded, returned}
use Rattle.model.specs.Events.{complete}
use Rattle.model.specs.Watch.{packet_pairs, packet_answer, tick_pairs, tick_answer}

-- the state after a frame: "The position is the number of the last executed frame."
unfoldable pub step_typed : Model → Typed → Model
step_typed m (command opcode l) = moved (commanded m l)
step_typed m (packet p) = moved (with_lists m m.mons (packet_pairs m p))
step_typed m tick = moved (with_lists m m.mons (tick_pairs m))
step_typed m bad = m

-- the octets that a frame writes
unfoldable pub answer_typed : Model → Typed → List ℕ
answer_typed m (command opcode l) = complete m.opcode (returned m l)
answer_typed m (packet p) = packet_answer m p
answer_typed m tick = tick_answer m
answer_typed m bad = []

-- the refusal of a frame, 5 or 6, or 0 where it is executed
unfoldable pub refusal_typed : Model → Typed → ℕ
refusal_typed m (command opcode l) = pick (eqb opcode m.opcode) 0 6
refusal_typed m (packet p) = 0
refusal_typed m tick = 0
refusal_typed m bad = 5

unfoldable pub act_typed : Model → Typed → Outcome Model
act_typed m f = pick (eqb (refusal_typed m f) 0) (done (step_typed m f) (answer_typed m f)) (refused (refusal_typed m f))

-- a frame's body: refused by 5 or 6, in this order, or executed
unfoldable pub act : Model → Body → Outcome Model
act m b = act_typed m (typed b)
