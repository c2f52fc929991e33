-- Every answer of a sound state is octets, at most 2,880: a packet's 1,498, a command's and a tick's by the laws of specs/.
-- Document 01, Sizes of the gateway. Assumes nothing.
use Prim.Native.Nat.{ℕ, ◌*◌, ◌≤◌, ◌<◌}
use Rattle.std.proofs.Common.{arith, sym, subst}
use Rattle.std.specs.Prelude.{◌≡◌, true}
use mathlib.Core.List.{List, map}
use Rattle.std.proofs.Math.ListN.{length}
use Rattle.laws.specs.Loops.{every, when}
use Rattle.octets.specs.Little.{is_octet}
use Rattle.rule.specs.Base.{All}
use Rattle.rule.specs.Engine.{find}
use Rattle.rule.proofs.FindsLaws.{find-all}
use Rattle.sessions.specs.Machine.{done, answer_room}
use Rattle.model.specs.Types.{Model, Packet, Pair}
use Rattle.model.specs.Frames.{Body, Typed, command, packet, tick, bad, typed}
use Rattle.model.specs.Commands.{returned}
use Rattle.model.specs.Events.{complete, stop_event, packet_reports, window_report}
use Rattle.model.specs.Watch.{packet_move, turns_answer, reported, packet_answer, goes_on, window_says, tick_octets, tick_answer}
use Rattle.model.specs.Step.{answer_typed, act}
use Rattle.model.specs.Sound.{sound_model}
use Rattle.blocks.specs.BoundsLaws.{empty-event}
use Rattle.steps.specs.ListsLaws.{short-nil, short-append, short-more, short-when, short-pick, short-each}
use Rattle.steps.specs.ListsLaws.{all-weaken}
use Rattle.steps.specs.FactsLaws.{Settings, settings-of, Fields, fields-of}
use Rattle.steps.specs.WholeLaws.{Row, Held, Sound}
use Rattle.steps.proofs.WholeLaws.{sound-of}
use Rattle.steps.specs.Typed.{Sent}
use Rattle.steps.specs.TypedLaws.{Params, Formed, typed-formed}
use Rattle.steps.specs.ExecutedLaws.{Executed, executed}
use Rattle.steps.proofs.NamedTurns.{Named, held-named, named-moved, turns-short}
use Rattle.steps.specs.SizesLaws.{Octets, returned-short, complete-short, event-short, packet-reports-short}
use Rattle.steps.specs.SizesLaws.{window-report-short}
use Rattle.model.specs.Layout.{command_most, event_most, packet_most, report_most, turns_most}
use Rattle.model.specs.Layout.{most_monitors}
use Rattle.steps.specs.AnswersLaws.{command-short, tick-short}

module _ (m : Model) (s : Sound m) where
  -- a packet: at most 16 stop events, 16 start events and two reports
  pub packet-short : (p : Packet) → Sent p → Octets packet_most (packet_answer m p)
  unfolding packet_answer
  packet-short p t =
      let qs : List Pair = map (packet_move m.mons p) m.pairs in
      let all : All Named qs = named-moved m.mons p m.pairs (
      all-weaken (Held m.position m.mons) Named (λ q h. held-named m s q h) m.pairs s.pairs.held) in
      short-append is_octet turns_most (2 * report_most) (turns_answer m.prefix m.mons p most_monitors qs)
      (when (reported m p) (packet_reports p))
      (turns-short m.opcode m.prefix m.mons p (settings-of m.opcode m.prefix s.settings) t most_monitors qs (omega arith) all)
      (short-when is_octet (reported m p) (2 * report_most) (packet_reports p) (packet-reports-short p t))

  pub answer-short : (f : Typed) → Formed f → Octets answer_room (answer_typed m f)
  unfolding answer_typed
  answer-short (command o l) t = short-more is_octet command_most answer_room _ (omega arith) (command-short m s l t)
  answer-short (packet p) t = short-more is_octet packet_most answer_room _ (omega arith) (packet-short p t)
  answer-short tick t = tick-short m s
  answer-short bad t = short-nil is_octet answer_room

-- An executed frame writes octets, at most 2,880.
written : (m n : Model) (b : Body) (wrote : List ℕ) → sound_model m ≡ true → every is_octet b.payload ≡ true
    → act m b ≡ done n wrote → Octets answer_room wrote
written m n b wrote s o e =
    let x : Executed m (typed b) n wrote = executed m n b wrote e in
    subst (Octets answer_room) x.says (answer-short m (sound-of m s) (typed b) (typed-formed b o))

pub answer-fits : (m n : Model) (b : Body) (wrote : List ℕ) → sound_model m ≡ true → every is_octet b.payload ≡ true
    → act m b ≡ done n wrote → length wrote ≤ answer_room
answer-fits m n b wrote s o e = (written m n b wrote s o e).fits

pub answer-octets : (m n : Model) (b : Body) (wrote : List ℕ) → sound_model m ≡ true
    → every is_octet b.payload ≡ true
    → act m b ≡ done n wrote → every is_octet wrote ≡ true
answer-octets m n b wrote s o e = (written m n b wrote s o e).passes
