-- An executed frame leaves a sound state sound, and a fresh state is. Assumes nothing.
use Rattle.std.specs.Prelude.{ℕ, ◌+◌, ◌≤◌, ◌<◌, ◌≡◌, refl, Bool, true, false, ◌&&◌, List, [], ◌∷◌, leb, eqb}
use Rattle.std.proofs.Common.{arith, sym, ap, ◌∙◌, subst}
use Rattle.std.proofs.Math.Option.{Option, some}
use Rattle.std.proofs.lemmas.Bool.{lt-leb}
use Rattle.laws.specs.Tests.{pick}
use Rattle.laws.specs.TestsLaws.{pick-false, and-not-left, and-not-right}
use Rattle.laws.specs.Loops.{every, some as some_of}
use Rattle.octets.specs.Little.{is_octet}
use Rattle.rule.specs.Base.{All}
use Rattle.rule.specs.Engine.{find}
use Rattle.sessions.specs.Machine.{refused, done, last_number}
use Rattle.model.specs.Types.{Model, Monitor, Packet, Pair, with_lists, moved, fresh, blank}
use Rattle.model.specs.Monitors.{windowed}
use Rattle.model.specs.Frames.{Body, Typed, command, packet, tick, bad, typed}
use Rattle.model.specs.Commands.{commanded}
use Rattle.model.specs.Watch.{packet_pairs, tick_pairs}
use Rattle.model.specs.Step.{step_typed, answer_typed, refusal_typed, act_typed, act}
use Rattle.model.specs.Sound.{sound_settings, sound_model}
use Rattle.steps.specs.ListsLaws.{all-weaken}
use Rattle.steps.specs.FactsLaws.{Gathers, gathers-of}
use Rattle.steps.specs.WholeLaws.{Kept, Held, Pairs, Monitors, Sound}
use Rattle.steps.proofs.WholeLaws.{sound-of, sound-holds}
use Rattle.steps.specs.TypedLaws.{Formed, typed-formed}
use Rattle.steps.proofs.MovesLaws.{by-test}
use Rattle.steps.proofs.Turns.{pairs-later, tick-pairs, packet-pairs}
use Rattle.steps.proofs.OrdersLaws.{Commanded, commanded-keeps}
use Rattle.steps.specs.ExecutedLaws.{Executed, executed, Same, commanded-same}
use Rattle.steps.specs.KeepsLaws.{moved-sound}

-- one step, by kinds
pub step-sound : (m : Model) (f : Typed) → Sound m → m.position < 4294967295 → Formed f → refusal_typed m f ≡ 0
    → Sound (step_typed m f)
unfolding step_typed with_lists refusal_typed
step-sound m (command o l) s h t e =
    let c : Commanded m (commanded m l) = commanded-keeps m s l t.octets in
    moved-sound m (commanded m l) s h (commanded-same m l) c.filter-most c.lists.monitors
    (pairs-later m.position (m.position + 1) (commanded m l).mons (commanded m l).pairs (omega arith)
    c.lists.pairs)
step-sound m (packet p) s h t e =
    let same : Same m (with_lists m m.mons (packet_pairs m p)) =
    record { position = refl; opcode = refl; prefix = refl } in
    moved-sound m (with_lists m m.mons (packet_pairs m p)) s h same s.filter-most s.monitors
    (packet-pairs m p s.monitors t h s.pairs)
step-sound m tick s h t e =
    let same : Same m (with_lists m m.mons (tick_pairs m)) =
    record { position = refl; opcode = refl; prefix = refl } in
    moved-sound m (with_lists m m.mons (tick_pairs m)) s h same s.filter-most s.monitors
    (pairs-later m.position (m.position + 1) m.mons (tick_pairs m) (omega arith) (tick-pairs m s.pairs))
step-sound m bad s h t e = absurd (omega arith)

-- An executed frame leaves a sound state sound.
pub keeps : (m n : Model) (b : Body) (wrote : List ℕ) → sound_model m ≡ true → m.position < last_number
    → every is_octet b.payload ≡ true → act m b ≡ done n wrote → sound_model n ≡ true
unfolding last_number
keeps m n b wrote s h o e =
    let x : Executed m (typed b) n wrote = executed m n b wrote e in
    let t : Sound (step_typed m (typed b)) = step-sound m (typed b) (sound-of m s) h (typed-formed b o) x.passes in
    sound-holds n (subst Sound x.state t)

-- "A fresh state: position 0, filter off (000), no monitors", with settings in range
pub fresh-sound : (opcode : ℕ) (prefix : List ℕ) → sound_settings opcode prefix ≡ true
    → sound_model (fresh opcode prefix) ≡ true
unfolding fresh
fresh-sound opcode prefix e =
    sound-holds (fresh opcode prefix) (record {
      position-most = omega arith;
      filter-most = omega arith;
      settings = e;
      monitors = record { rising = tt; rows = tt };
      pairs = record { room = omega arith; once = tt; held = tt };
    })

-- "the blank state: fresh, opcode 0xFC00, empty prefix"
pub blank-sound : sound_model blank ≡ true
unfolding blank sound_settings Rattle.model.specs.Sound.octets_up_to every
blank-sound = fresh-sound 64512 [] refl
