-- Demand 3, whole: one claim over a list of calls. Definitions alone, readable without any proof; the theorem is
-- `demand3` of Proof. It speaks of records, and of no block: Blocks carries it over to blocks of octets. Document 01,
-- Sessions and failover; Watching, by history. models, fresh the engine over records, and the state it begins with
-- (crate model, Engine and Types) Call, walk, executed a session: the calls, the state at its end, its executed
-- frames (crate sessions, Session) SavedAfter, Failover an image saved after frame k, and what restoring and
-- replaying it gives (crate sessions, Saved) ByHistory the pairs held are those that the history rule puts under
-- watch (crate rule, Rule and Claim)
use Rattle.std.specs.Prelude.{ℕ, zero, suc, cond, List, [], ◌∷◌, ◌++◌, map, reverse, eqb}
use Rattle.std.proofs.Math.Option.{Option}
use Rattle.rule.specs.Radio.{Frame}
use Rattle.rule.specs.Engine.{Pair as CorePair}
use Rattle.rule.specs.Claim.{ByHistory}
use Rattle.sessions.specs.Machine.{Machine, Line, Outcome, refused, done, text}
use Rattle.sessions.specs.Session.{Call, Entry, entries, answer, walk}
use Rattle.sessions.specs.Saved.{SavedAfter, Failover, cut, replay}
use Rattle.sessions.specs.Past.{past}
use Rattle.model.specs.Types.{Model, fresh}
use Rattle.model.specs.Image.{image_text, held_in}
use Rattle.model.specs.Engine.{models}
use Rattle.model.proofs.Radio.{radio, core}
use Rattle.failover.specs.View.{view_pair}

-- What a line adds to the past by its outcome, and what follows: an executed frame, nothing where it is seen; replay
-- ends at any other refusal.
unfoldable pub replay_adds : {S B : Type 0} → S → Option (Line B) → Outcome S → (S → List (Entry B)) → List (Entry B)
replay_adds s x (done t wrote) rest = entries x (done t wrote) ++ rest t
replay_adds s x (refused n) rest = cond (eqb n 1) (rest s) []

module _ (M : Machine) where
  -- the frames that a replay of lines executes, in order
  unfoldable pub ran_in : (ℕ → ℕ) → M.S → List (List ℕ) → List (Entry M.Body)
  ran_in lent s [] = []
  ran_in lent s (l ∷ ls) = replay_adds s (M.read text l) (answer M (lent zero) s text l)
      (λ t. ran_in (λ i. lent (suc i)) t ls)

  -- "a restored state has those of the saved one, and replay adds the frames it executes": the past of the state that
  -- replay of the text t reaches from the state `at`, restored from an image saved after the calls `before`; the
  -- newest first.
  unfoldable pub past_replayed : M.S → List Call → (ℕ → ℕ) → M.S → List ℕ → List M.Body
  past_replayed start before lent at t = reverse (map (λ e. e.line.body) (ran_in lent at (cut t)))
      ++ past M start before

-- "The past frames of a state are those executed before it": here the newest first, as the rule reads them.
unfoldable pub past_frames : ℕ → List ℕ → List Call → List (Frame radio)
past_frames opcode prefix calls = map core (past models (fresh opcode prefix) calls)

-- "The pairs held are those that the state's image lists": handle, device and ticks since a good packet of each, in
-- order.
unfoldable pub pairs_in : List ℕ → List (CorePair radio)
pairs_in img = map view_pair (held_in img).pairs

-- Demand 3 for the session of these settings and calls. images: for every image saved after any frame k, restore and
-- replay from every frame j are as Failover says. by-history: the pairs that the image of the end state lists are
-- exactly those that the history of frames puts under watch, each once, in the order of their latest starts (one
-- packet's starts by handle). replayed: the same of the state that replay of any text reaches from a saved one, by
-- the past that it then has.
pub record Demand3 (opcode : ℕ) (prefix : List ℕ) (calls : List Call) : Type 0 where
  pub images :
      (k : ℕ) (img : List ℕ) (at : Model) → SavedAfter models (fresh opcode prefix) calls k img at
      → Failover models (fresh opcode prefix) calls k img at
  pub by-history :
      ByHistory radio (past_frames opcode prefix calls) (pairs_in (image_text (walk models (fresh opcode prefix) calls)))
  pub replayed :
      (k : ℕ) (img : List ℕ) (at : Model) (s : SavedAfter models (fresh opcode prefix) calls k img at) (lent : ℕ → ℕ)
      (t : List ℕ)
      → ByHistory radio (map core (past_replayed models (fresh opcode prefix) s.before lent at t))
      (pairs_in (image_text (replay models lent at t).state))
