-- What it means that two engines answer alike, call by call: the answers to a list of calls, refusals among them,
-- without the states. Document 02, T-07. Definitions alone; the theorem is `same` of Proved.
use Rattle.std.specs.Prelude.{ℕ, List, [], ◌∷◌}
use Rattle.sessions.specs.Machine.{Outcome, refused, done}
use Rattle.sessions.specs.Session.{reply, state_after}
use Rattle.sessions.specs.Additions.{Act, adds, call}
use Rattle.editions.specs.Engine.{gateways}
use Rattle.failover.specs.Grows.{growing}
use Rattle.twins.specs.Twin.{Twin, add_twin, twins}

-- what a call gives to the one who made it: a refusal's number, or the octets that it writes, of an answer or of an
-- image
pub data CallAnswer : Type 0 where
  refused_by : ℕ → CallAnswer
  wrote : List ℕ → CallAnswer

unfoldable pub call_answer : {S : Type 0} → Outcome S → CallAnswer
call_answer (refused n) = refused_by n
call_answer (done t l) = wrote l

-- what a list of calls gives; each call gets the state that the last one returned or left
unfoldable pub tells : {S C : Type 0} → (S → C → Outcome S) → S → List C → List CallAnswer
tells by s [] = []
tells by s (c ∷ cs) = call_answer (by s c) ∷ tells by (state_after s (by s c)) cs

-- a call of a session, given to the twin
unfoldable pub twin_by : Twin → Act gateways growing → Outcome Twin
twin_by t (call c) = reply twins t c
twin_by t (adds a) = add_twin t a.edition
