-- Any number of failovers, whole: one claim over the moves of a run. Definitions alone, readable without any proof;
-- the theorem is `failovers` of Proof. Document 02, T-14; document 01, Sessions and failover; Watching, by history.
-- Move, play, Proper, TakenOnce, Unbroken a run, its failovers, the answers taken once each (Chain) heard the events
-- in the octets of an answer (Hear) Tells what they tell of every pair, against the history rule (Told)
use Rattle.std.specs.Prelude.{ℕ, List, [], ◌∷◌, map}
use Rattle.sessions.specs.Machine.{Line}
use Rattle.model.specs.Frames.{Body}
use Rattle.model.proofs.Radio.{radio, core}
use Rattle.editions.specs.Editions.{Edition, prefix_for, fresh_on}
use Rattle.editions.specs.Engine.{gateways, Addition}
use Rattle.failover.specs.Grows.{growing}
use Rattle.chains.specs.Chain.{Move, Now, play, begun, TakenOnce, Unbroken}
use Rattle.chains.specs.Told.{Told, Tells}
use Rattle.chains.specs.Hear.{events_read}

-- Where the run stands that the moves make, begun fresh with these settings.
unfoldable pub run_ends : ℕ → List ℕ → List (Move gateways growing) → Now gateways growing
run_ends opcode prefix moves = play gateways growing (begun gateways growing (fresh_on opcode prefix)) moves

-- The editions that a host knows of: the prefix of the settings from 0 on, and those accepted.
unfoldable pub known : List ℕ → List Addition → List Edition
known prefix al = record { from = 0; prefix = prefix } ∷ map (λ (a : Addition). a.edition) al

-- Executed frames and the answers taken for them, in order, put before what came earlier: each frame as the rule
-- reads it, with the events of its answer, read by the edition that its number has.
unfoldable pub told_in : List Edition → List (Line Body) → List (List ℕ) → Told radio → Told radio
told_in es [] ts told = told
told_in es (x ∷ xs) [] told = told
told_in es (x ∷ xs) (t ∷ ts) told = told_in es xs ts ((core x.body, events_read (prefix_for x.num es) t) ∷ told)

-- The run that the moves make, begun fresh with these settings. unbroken: it is the unbroken session of its calls,
-- state and answers. events: whichever answer is taken for each frame, one each: starts and stops come where the
-- history rule has them, a stop at the tick that is due or with the packet that displaces, and at no other frame; and
-- those of a pair take turns within one life of its monitor.
pub record Failovers (opcode : ℕ) (prefix : List ℕ) (moves : List (Move gateways growing)) : Type 0 where
  pub unbroken : Unbroken gateways growing (fresh_on opcode prefix) moves
  pub events :
      (ts : List (List ℕ)) → TakenOnce gateways growing (run_ends opcode prefix moves) ts
      → Tells radio (told_in (known prefix (run_ends opcode prefix moves).added)
      (run_ends opcode prefix moves).frames ts [])
