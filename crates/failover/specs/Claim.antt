-- Demand 3 with additions, whole: one claim over a list of calls, additions of editions among them, refused ones too.
-- Definitions alone; the theorem is `demand3` of Proved. Document 01, Sessions and failover; document 02, T-12.
use Rattle.std.specs.Prelude.{ℕ, zero, suc, ◌+◌, ◌≡◌, List, [], ◌∷◌, ◌++◌, map, reverse}
use Rattle.std.proofs.Math.Option.{none}
use Rattle.rule.specs.Radio.{Frame}
use Rattle.rule.specs.Claim.{ByHistory}
use Rattle.sessions.specs.Machine.{Line, Outcome, refused, done, text}
use Rattle.sessions.specs.Session.{Entry, answer}
use Rattle.sessions.specs.Saved.{cut}
use Rattle.sessions.specs.Additions.{Act, walk_on, trace_on, Step, line, again, lines_in, added_in, replay_on, frames_on, journal_on, SavedAmong, TakenOver}
use Rattle.model.specs.Frames.{Body, read}
use Rattle.model.proofs.Radio.{radio, core}
use Rattle.failover.specs.Demand3.{replay_adds, pairs_in}
use Rattle.editions.specs.Editions.{Gateway, fresh_on, add_edition, image_on}
use Rattle.editions.specs.Engine.{gateways}
use Rattle.failover.specs.Grows.{growing}

-- the past frames of a session, the newest first: additions are no frames
unfoldable pub past_on : ℕ → List ℕ → List (Act gateways growing) → List (Frame radio)
past_on opcode prefix calls =
    map core (reverse
    (map (λ (x : Line Body). x.body)
    (map (λ (e : Entry Body). e.line) (trace_on gateways growing (fresh_on opcode prefix) calls))))

-- What an addition given again leaves to what follows; a refused one ends the replay.
unfoldable pub on_added : {S B : Type 0} → Outcome S → (S → List (Entry B)) → List (Entry B)
on_added (done t wrote) rest = rest t
on_added (refused n) rest = []

-- the frames that a replay of lines and additions executes, in order
unfoldable pub ran_on : (ℕ → ℕ) → Gateway → List (Step gateways growing) → List (Entry Body)
ran_on lent s [] = []
ran_on lent s (line l ∷ p) =
    replay_adds s (read text l) (answer gateways (lent zero) s text l) (λ t. ran_on (λ i. lent (suc i)) t p)
ran_on lent s (again a ∷ p) = on_added (add_edition s a.edition) (λ t. ran_on lent t p)

-- "a restored state has those of the saved one, and replay adds the frames it executes": the past of the state that
-- replay of the lines and additions p reaches from the state `at`, restored from an image saved after the calls
-- `before`; the newest first.
unfoldable pub past_given : ℕ → List ℕ → List (Act gateways growing) → (ℕ → ℕ) → Gateway → List (Step gateways growing)
    → List (Frame radio)
past_given opcode prefix before lent at p =
    map core (reverse (map (λ (e : Entry Body). e.line.body) (ran_on lent at p))) ++ past_on opcode prefix before

-- images: every image saved after any frame k takes the session over, with the additions accepted after it given
-- again in time (TakenOver). nothing: the journal from frame n + 1 is empty; with no addition given again, no answer
-- and the state as given. by-history: the pairs that the image of the end state lists are those that the history of
-- frames puts under watch. replayed: the same of the state that replay of any lines with any additions among them
-- reaches from a saved one, by the past that it then has.
pub record Demand3 (opcode : ℕ) (prefix : List ℕ) (calls : List (Act gateways growing)) : Type 0 where
  pub images :
      (k : ℕ) (img : List ℕ) (at : Gateway) (later : List (Act gateways growing))
      → SavedAmong gateways growing (fresh_on opcode prefix) calls k img at later
      → TakenOver gateways growing (fresh_on opcode prefix) calls k img at later
  pub nothing :
      (j : ℕ) → j ≡ frames_on gateways growing (fresh_on opcode prefix) calls + 1
      → (at : Gateway) (p : List (Step gateways growing))
      → lines_in gateways growing p ≡ cut (journal_on gateways growing (fresh_on opcode prefix) calls j)
      → added_in gateways growing p ≡ [] → (lent : ℕ → ℕ)
      → replay_on gateways growing lent at p ≡ record { state = at; answers = []; stop = none }
  pub by-history :
      ByHistory radio (past_on opcode prefix calls)
      (pairs_in (image_on (walk_on gateways growing (fresh_on opcode prefix) calls)))
  pub replayed :
      (k : ℕ) (img : List ℕ) (at : Gateway) (later : List (Act gateways growing))
      (s : SavedAmong gateways growing (fresh_on opcode prefix) calls k img at later) (lent : ℕ → ℕ)
      (p : List (Step gateways growing))
      → ByHistory radio (past_given opcode prefix s.before lent at p)
      (pairs_in (image_on (replay_on gateways growing lent at p).state))
