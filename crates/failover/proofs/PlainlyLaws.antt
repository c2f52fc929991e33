-- Laws of the definitions in Plainly: demand 3 of sessions without additions follows from what is shown of sessions
-- with additions (Proved), which are sessions of document 01 where nothing is added (crate sessions, Plain).
use Rattle.std.specs.Prelude.{ℕ, ◌≡◌, refl, true, List, ◌++◌, map, reverse}
use Rattle.std.proofs.Common.{sym, ap, ◌∙◌, subst}
use Rattle.laws.specs.TestsLaws.{and_both, sames-refl}
use Rattle.rule.specs.Radio.{Frame}
use Rattle.rule.specs.Claim.{ByHistory}
use Rattle.sessions.specs.Machine.{Line}
use Rattle.sessions.specs.Session.{Call, Entry, walk, trace, executed}
use Rattle.sessions.specs.Saved.{cut, replay_lines, replay}
use Rattle.sessions.specs.Past.{past}
use Rattle.sessions.specs.Additions.{call}
use Rattle.sessions.proofs.PlainLaws.{plain_walk, plain-trace}
use Rattle.sessions.proofs.ReplayLaws.{failover}
use Rattle.sessions.proofs.RunsLaws.{walk-append}
use Rattle.model.specs.Types.{fresh}
use Rattle.model.specs.Frames.{Body}
use Rattle.model.specs.Sound.{sound_settings}
use Rattle.model.proofs.Radio.{radio, core}
use Rattle.editions.specs.Editions.{Gateway, sound_gateway, fresh_on, image_on, is_image_on}
use Rattle.editions.specs.Engine.{gateways}
use Rattle.editions.proofs.ImagesLaws.{held-image}
use Rattle.failover.specs.Demand3.{ran_in, past_replayed, pairs_in}
use Rattle.failover.proofs.ProofLaws.{as-calls, past-then}
use Rattle.failover.specs.Grows.{growing}
use Rattle.failover.specs.Claim.{past_on}
use Rattle.failover.specs.Plainly.{Demand3, past_frames}
use Rattle.failover.proofs.Proved.{laws, fresh-gateway, demand3 as demand3_on}

past-plain : (opcode : ℕ) (prefix : List ℕ) (calls : List Call)
    → past_on opcode prefix (map call calls) ≡ past_frames opcode prefix calls
unfolding past_on past_frames past executed
past-plain opcode prefix calls =
    ap (λ (es : List (Entry Body)). map core
    (reverse (map (λ (x : Line Body). x.body) (map (λ (e : Entry Body). e.line) es))))
    (plain-trace gateways growing (fresh_on opcode prefix) calls)

history-plain : (opcode : ℕ) (prefix : List ℕ) → sound_settings opcode prefix ≡ true → (calls : List Call)
    → ByHistory radio (past_frames opcode prefix calls)
    (pairs_in (image_on (walk gateways (fresh_on opcode prefix) calls)))
history-plain opcode prefix ok calls =
    subst (λ (p : List (Frame radio)). ByHistory radio p
    (pairs_in (image_on (walk gateways (fresh_on opcode prefix) calls)))) (past-plain opcode prefix calls)
    (subst (λ (g : Gateway). ByHistory radio (past_on opcode prefix (map call calls)) (pairs_in (image_on g)))
    (plain_walk gateways growing (fresh_on opcode prefix) calls)
    (demand3_on opcode prefix ok (map call calls)).by-history)

replayed-plain : (opcode : ℕ) (prefix : List ℕ) → sound_settings opcode prefix ≡ true
    → (before : List Call) (lent : ℕ → ℕ) (at : Gateway) (t : List ℕ)
    → at ≡ walk gateways (fresh_on opcode prefix) before
    → ByHistory radio (map core (past_replayed gateways (fresh_on opcode prefix) before lent at t))
    (pairs_in (image_on (replay gateways lent at t).state))
unfolding past_replayed replay past_frames
replayed-plain opcode prefix ok before lent at t e =
    let s : Gateway = fresh_on opcode prefix in
    let c = as-calls gateways lent at (cut t) in
    let cs : List Call = c.0 in
    let w : (replay_lines gateways lent at (cut t)).state ≡ walk gateways s (before ++ cs) =
    c.1 ∙ ap (λ (g : Gateway). walk gateways g cs) e ∙ sym (walk-append gateways s before cs) in
    let p : reverse (map (λ (x : Entry Body). x.line.body) (ran_in gateways lent at (cut t)))
    ++ past gateways s before ≡ past gateways s (before ++ cs) =
    ap (λ (xs : List (Entry Body)). reverse (map (λ (x : Entry Body). x.line.body) xs) ++ past gateways s before)
    (c.2 ∙ ap (λ (g : Gateway). trace gateways g cs) e)
    ∙ sym (past-then gateways s before cs) in
    subst (λ (g : Gateway). ByHistory radio
    (map core (reverse (map (λ (x : Entry Body). x.line.body) (ran_in gateways lent at (cut t)))
    ++ past gateways s before)) (pairs_in (image_on g)))
    (sym w)
    (subst (λ (q : List Body). ByHistory radio (map core q) (pairs_in (image_on (walk gateways s (before ++ cs)))))
    (sym p) (history-plain opcode prefix ok (before ++ cs)))

pub demand3 : (opcode : ℕ) (prefix : List ℕ) → sound_settings opcode prefix ≡ true → (calls : List Call)
    → Demand3 opcode prefix calls
unfolding fresh_on fresh
demand3 opcode prefix ok calls =
    record {
      images = λ k img at s. failover gateways laws (fresh_on opcode prefix) refl (fresh-gateway opcode prefix ok)
          calls k img at s;
      by-history = history-plain opcode prefix ok calls;
      replayed = λ k img at s lent t. replayed-plain opcode prefix ok s.before lent at t s.state;
    }

-- the text of a sound state is an image
pub image-is : (g : Gateway) → sound_gateway g ≡ true → is_image_on (image_on g) ≡ true
unfolding is_image_on
image-is g s = rw (held-image g s) (and_both s (sames-refl (image_on g)))
