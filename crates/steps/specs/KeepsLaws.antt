-- A step keeps a sound state sound, and the states that sessions begin with are sound. Document 01, The image
-- ("Sound: .."), Sizes of the gateway ("A fresh state: .."), Refusal numbers (the blank state; 8). Assumes nothing.
use Rattle.std.specs.Prelude.{ℕ, ◌+◌, ◌≤◌, ◌<◌, ◌≡◌, refl, Bool, true, false, ◌&&◌, List, [], ◌∷◌, leb, eqb}
use Rattle.std.proofs.Common.{arith, sym, ap, ◌∙◌, subst}
use Rattle.std.proofs.Math.Option.{Option, some}
use Rattle.std.proofs.lemmas.Bool.{lt-leb}
use Rattle.laws.specs.Tests.{pick}
use Rattle.laws.specs.TestsLaws.{pick-false, and-not-left, and-not-right}
use Rattle.laws.specs.Loops.{every, some as some_of}
use Rattle.octets.specs.Little.{is_octet}
use Rattle.rule.specs.Base.{All}
use Rattle.rule.specs.Engine.{find}
use Rattle.sessions.specs.Machine.{refused, done, last_number}
use Rattle.model.specs.Types.{Model, Monitor, Packet, Pair, with_lists, moved, fresh, blank}
use Rattle.model.specs.Monitors.{windowed}
use Rattle.model.specs.Frames.{Body, Typed, command, packet, tick, bad, typed}
use Rattle.model.specs.Commands.{commanded}
use Rattle.model.specs.Watch.{packet_pairs, tick_pairs}
use Rattle.model.specs.Step.{step_typed, answer_typed, refusal_typed, act_typed, act}
use Rattle.model.specs.Sound.{sound_settings, sound_model}
use Rattle.steps.specs.ListsLaws.{all-weaken}
use Rattle.steps.specs.FactsLaws.{Gathers, gathers-of}
use Rattle.steps.specs.WholeLaws.{Kept, Held, Pairs, Monitors, Sound}
use Rattle.steps.specs.TypedLaws.{Formed, typed-formed}
use Rattle.steps.specs.ExecutedLaws.{Executed, executed, Same, commanded-same}

-- a state with the settings and the position of a sound one, and lists that are sound one frame later
pub moved-sound : (m n : Model) → Sound m → m.position < 4294967295 → Same m n → n.filter ≤ 1 → Monitors n.mons
    → Pairs (m.position + 1) n.mons n.pairs → Sound (moved n)
unfolding moved
moved-sound m n s h same on ms ps =
    record {
      position-most = omega (arith, h, same.position);
      filter-most = on;
      settings = rw (same.opcode, same.prefix) s.settings;
      monitors = ms;
      pairs = subst (λ k. Pairs (k + 1) n.mons n.pairs) (sym same.position) ps;
    }
