-- The theorem of T-07: for every list of calls, the same given to both with the same settings, of which the first
-- engine executes at most 128 frames, the twin and the first engine give equal answers, refusals and images, call by
-- call. Over records, and over the whole block that the calls' contracts cite. Assumes nothing.
use Rattle.std.specs.Prelude.{ℕ, ◌+◌, ◌≤◌, ◌≡◌, refl, Bool, true, false, ◌&&◌, List, [], ◌∷◌, ◌++◌, leb, length}
use Rattle.std.proofs.Common.{sym, ap, ◌∙◌, subst, arith, length-append}
use Rattle.laws.specs.Tests.{pick}
use Rattle.laws.specs.TestsLaws.{and_left, and_right}
use Rattle.laws.specs.Loops.{every, keep}
use Rattle.sessions.specs.Machine.{Outcome, refused, done}
use Rattle.sessions.specs.Session.{after, give, refuse_if, reply, save, state_after}
use Rattle.sessions.specs.Additions.{Act, adds, after_act, call, frames_on, ran_by, reply_to, trace_on}
use Rattle.model.specs.Types.{fresh}
use Rattle.model.specs.Sound.{octets_up_to, sound_settings}
use Rattle.model.specs.Layout.{most_prefix}
use Rattle.editions.specs.Editions.{Gateway, add_edition, fresh_on, in_force, prefix_for, sound_gateway}
use Rattle.wholes.specs.Whole.{whole}
use Rattle.wholes.specs.Engine.{add_whole, begin, blank_on, engine, on_wholes}
use Rattle.wholes.proofs.LaidLaws.{held_whole_lem, sound-whole}
use Rattle.failover.proofs.LaidLaws.{onto}
use Rattle.failover.proofs.BlocksLaws.{answer-blocks, call-sound, image-blocks, onto-wholes}
use Rattle.editions.specs.Engine.{gateways}
use Rattle.failover.specs.Grows.{growing}
use Rattle.twins.specs.First.{began_on, whole_by}
use Rattle.failover.proofs.Proved.{fresh-editions, fresh-gateway}
use Rattle.pasts.specs.Past
use Rattle.twins.specs.Twin.{Twin, begin_twin, fresh_twin, gateway_of, most_kept, past_from, past_of, run_all}
use Rattle.twins.specs.Claim.{tells, call_answer, twin_by}
use Rattle.twins.proofs.SameLaws.{Both, Matched, sound-holds}
use Rattle.twins.proofs.CallsLaws.{called}

from-both : (t : Twin) → Both t → (cs : List (Act gateways growing))
    → length t.frames + length (trace_on gateways growing (gateway_of t) cs) ≤ most_kept
    → tells twin_by t cs ≡ tells (reply_to gateways growing) (gateway_of t) cs
unfolding tells trace_on after_act
from-both t b [] h = refl
from-both t b (c ∷ cs) h =
    let g : Gateway = gateway_of t in
    let k : ℕ = length (ran_by gateways growing g c) in
    let l : length (ran_by gateways growing g c ++ trace_on gateways growing (after_act gateways growing g c) cs)
    ≡ k + length (trace_on gateways growing (after_act gateways growing g c) cs) =
    length-append (ran_by gateways growing g c) (trace_on gateways growing (after_act gateways growing g c) cs) in
    let m : Matched t (twin_by t c) (reply_to gateways growing g c) k = called t b c (omega arith) in
    let u : Twin = state_after t (twin_by t c) in
    let n : length u.frames ≡ length t.frames + k = m.kept in
    let i : length u.frames + length (trace_on gateways growing (gateway_of u) cs) ≤ most_kept =
    subst (λ (q : Gateway). length u.frames + length (trace_on gateways growing q cs) ≤ most_kept) m.state
    (omega arith) in
    rw (m.said, from-both u m.both cs i, m.state)

-- the fresh states
fresh-is : (opcode : ℕ) (prefix : List ℕ) → gateway_of (fresh_twin opcode prefix) ≡ fresh_on opcode prefix
unfolding gateway_of fresh_twin fresh_on fresh past_of past_from Past.history_state Past.filter_after Past.monitors_after
    Past.live_from Past.live_one Past.monitor_after
    Past.watch Past.watch_by Past.deeds prefix_for in_force pick keep
fresh-is opcode prefix = refl

fresh-both : (opcode : ℕ) (prefix : List ℕ) → sound_settings opcode prefix ≡ true → Both (fresh_twin opcode prefix)
unfolding fresh_twin sound_settings run_all
fresh-both opcode prefix ok =
    let a : Bool = leb 0xFC00 opcode in
    let b : Bool = leb opcode 0xFFFF in
    let o : octets_up_to most_prefix prefix ≡ true = and_right (a && b) (octets_up_to most_prefix prefix) ok in
    let l = and_left (a && b) (octets_up_to most_prefix prefix) ok in
    record {
      twin = sound-holds (fresh_twin opcode prefix) (record {
        opcode-least = and_left a b l;
        opcode-most = and_right a b l;
        editions = fresh-editions prefix o;
        room = omega arith;
        run = refl;
      });
      first = subst (λ (g : Gateway). sound_gateway g ≡ true) (sym (fresh-is opcode prefix))
          (fresh-gateway opcode prefix ok);
    }

none_kept : (opcode : ℕ) (prefix : List ℕ) → length (fresh_twin opcode prefix).frames ≡ 0
unfolding fresh_twin
none_kept opcode prefix = refl

-- T-07's theorem, over records
pub same : (opcode : ℕ) (prefix : List ℕ) → sound_settings opcode prefix ≡ true → (calls : List (Act gateways growing))
    → frames_on gateways growing (fresh_on opcode prefix) calls ≤ most_kept
    → tells twin_by (fresh_twin opcode prefix) calls ≡ tells (reply_to gateways growing) (fresh_on opcode prefix) calls
unfolding frames_on
same opcode prefix ok calls h =
    let e : gateway_of (fresh_twin opcode prefix) ≡ fresh_on opcode prefix = fresh-is opcode prefix in
    let k : length (fresh_twin opcode prefix).frames ≡ 0 = none_kept opcode prefix in
    let i : length (fresh_twin opcode prefix).frames + length
    (trace_on gateways growing (gateway_of (fresh_twin opcode prefix)) calls) ≤ most_kept =
    subst (λ (g : Gateway). length (fresh_twin opcode prefix).frames + length (trace_on gateways growing g calls) ≤
    most_kept) (sym e) (omega arith) in
    from-both (fresh_twin opcode prefix) (fresh-both opcode prefix ok) calls i
    ∙ ap (λ (g : Gateway). tells (reply_to gateways growing) g calls) e

told-onto : (o : Outcome Gateway) → call_answer (onto whole o) ≡ call_answer o
unfolding call_answer onto
told-onto (refused n) = refl
told-onto (done g w) = refl

after-onto : (g : Gateway) (o : Outcome Gateway) → state_after (whole g) (onto whole o) ≡ whole (state_after g o)
unfolding state_after onto
after-onto g (refused n) = refl
after-onto g (done t w) = refl

by_blocks : (g : Gateway) → sound_gateway g ≡ true → (c : Act gateways growing)
    → whole_by (whole g) c ≡ onto whole (reply_to gateways growing g c)
unfolding whole_by reply_to add_whole reply refuse_if
by_blocks g s (call (give lent w r)) = answer-blocks g s lent w r
by_blocks g s (call (save lent)) = image-blocks g s lent
by_blocks g s (adds a) =
    rw (sound-whole g s)
    (ap (λ (k : Gateway). on_wholes (add_edition k a.edition)) (held_whole_lem g s)
    ∙ onto-wholes (add_edition g a.edition))

after-sound : (g : Gateway) → sound_gateway g ≡ true → (c : Act gateways growing)
    → sound_gateway (state_after g (reply_to gateways growing g c)) ≡ true
unfolding reply_to after state_after
after-sound g s (call c) = call-sound g s c
after-sound g s (adds a) = go (add_edition g a.edition) refl
  where
    go : (o : Outcome Gateway) → add_edition g a.edition ≡ o → sound_gateway (state_after g o) ≡ true
    go (refused n) e = s
    go (done t w) e = growing.keeps g t a w e s

tells-blocks : (g : Gateway) → sound_gateway g ≡ true → (cs : List (Act gateways growing))
    → tells whole_by (whole g) cs ≡ tells (reply_to gateways growing) g cs
unfolding tells
tells-blocks g s [] = refl
tells-blocks g s (c ∷ cs) =
    let o : Outcome Gateway = reply_to gateways growing g c in
    rw (by_blocks g s c, told-onto o, after-onto g o, tells-blocks (state_after g o) (after-sound g s c) cs)

blank-sound : sound_settings 0xFC00 [] ≡ true
unfolding sound_settings octets_up_to every
blank-sound = refl

-- T-07's theorem, over blocks, whatever the settings are
pub same_blocks : (opcode : ℕ) (prefix : List ℕ) (calls : List (Act gateways growing))
    → frames_on gateways growing (began_on opcode prefix) calls ≤ most_kept
    → tells twin_by (begin_twin opcode prefix) calls ≡ tells whole_by (begin opcode prefix) calls
unfolding begin begin_twin began_on blank_on pick
same_blocks opcode prefix calls = go (sound_settings opcode prefix) refl
  where
    go : (b : Bool) → sound_settings opcode prefix ≡ b
        → frames_on gateways growing (pick b (fresh_on opcode prefix) blank_on) calls ≤ most_kept
        → tells twin_by (pick b (fresh_twin opcode prefix) (fresh_twin 0xFC00 [])) calls
        ≡ tells whole_by (pick b (whole (fresh_on opcode prefix)) (whole blank_on)) calls
    go true e h = same opcode prefix e calls h
        ∙ sym (tells-blocks (fresh_on opcode prefix) (fresh-gateway opcode prefix e) calls)
    go false e h = same 0xFC00 [] blank-sound calls h
        ∙ sym (tells-blocks (fresh_on 0xFC00 []) (fresh-gateway 0xFC00 [] blank-sound) calls)
