-- Every answer of a sound state is at most 2,880 octets: a command's at most 48, a packet's 1,498 (16 stop
-- and 16 start events of 44, and two reports of 45), a tick's 2,880.
-- Document 01, Sizes of the gateway. Assumes nothing.
use Prim.Native.Nat.{ℕ, ◌*◌, ◌≤◌, ◌<◌}
use Rattle.std.proofs.Common.{arith, sym, subst}
use Rattle.std.specs.Prelude.{◌≡◌, true}
use mathlib.Core.List.{List, map}
use Rattle.std.proofs.Math.ListN.{length}
use Rattle.laws.specs.Loops.{every, when}
use Rattle.octets.specs.Little.{is_octet}
use Rattle.rule.specs.Base.{All}
use Rattle.rule.specs.Engine.{find}
use Rattle.rule.proofs.FindsLaws.{find-all}
use Rattle.sessions.specs.Machine.{done, answer_room}
use Rattle.model.specs.Types.{Model, Packet, Pair}
use Rattle.model.specs.Frames.{Body, Typed, command, packet, tick, bad, typed}
use Rattle.model.specs.Commands.{returned}
use Rattle.model.specs.Events.{complete, stop_event, packet_reports, window_report}
use Rattle.model.specs.Watch.{packet_move, turns_answer, reported, packet_answer, goes_on, window_says, tick_octets, tick_answer}
use Rattle.model.specs.Step.{answer_typed, act}
use Rattle.model.specs.Sound.{sound_model}
use Rattle.blocks.specs.BoundsLaws.{empty-event}
use Rattle.steps.specs.ListsLaws.{short-nil, short-append, short-more, short-when, short-pick, short-each}
use Rattle.steps.specs.ListsLaws.{all-weaken}
use Rattle.steps.specs.FactsLaws.{Settings, settings-of, Fields, fields-of}
use Rattle.steps.specs.WholeLaws.{Row, Held, Sound}
use Rattle.steps.specs.Typed.{Sent}
use Rattle.steps.specs.TypedLaws.{Params, Formed, typed-formed}
use Rattle.steps.specs.ExecutedLaws.{Executed, executed}
use Rattle.steps.specs.SizesLaws.{Octets, returned-short, complete-short, event-short, packet-reports-short}
use Rattle.steps.specs.SizesLaws.{window-report-short}
use Rattle.model.specs.Layout.{command_most, event_most, packet_most, report_most, turns_most}
use Rattle.model.specs.Layout.{most_monitors}

module _ (m : Model) (s : Sound m) where
  settings : Settings m.opcode m.prefix
  settings = settings-of m.opcode m.prefix s.settings

  pub command-short : (l : List ℕ) → Params l → Octets command_most (complete m.opcode (returned m l))
  command-short l t = complete-short m.opcode (returned m l) (returned-short m l settings t)

  -- a tick, for one pair held: a stop event or a report
  pair-short : (q : Pair) → Held m.position m.mons q
      → Octets report_most (tick_octets m.filter m.prefix (find m.mons q.handle) q)
  unfolding tick_octets stop_event
  pair-short q h =
      let f : Fields q = fields-of q h.kept.fields in
      let row : Row (q.handle, h.mon) = find-all Row m.mons q.handle h.mon s.monitors.rows h.live in
      let stop : Octets event_most (stop_event m.prefix q) =
      event-short m.opcode m.prefix q 0 settings f.kind-most f.address-six f.address-octets
      (omega (arith, row.0)) (omega arith) in
      rw h.live
      (short-pick is_octet (goes_on h.mon q) report_most (when (window_says m.filter h.mon q) (window_report q))
      (stop_event m.prefix q)
      (λ e. short-when is_octet (window_says m.filter h.mon q) report_most (window_report q)
      (window-report-short q f (empty-event h.mon q h.kept.empty)))
      (λ e. short-more is_octet event_most report_most _ (omega arith) stop))

  -- a tick: at most 64 of these
  pub tick-short : Octets answer_room (tick_answer m)
  unfolding tick_answer
  tick-short =
      let f : Pair → List ℕ = λ q. tick_octets m.filter m.prefix (find m.mons q.handle) q in
      let all : All (λ q. Octets report_most (f q)) m.pairs =
      all-weaken (Held m.position m.mons) (λ q. Octets report_most (f q)) pair-short m.pairs
      s.pairs.held in
      short-more is_octet (report_most * length m.pairs) answer_room _ (omega (arith, s.pairs.room))
      (short-each is_octet report_most f m.pairs all)
