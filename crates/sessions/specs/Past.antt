-- The past frames of a session, and engines whose executed frames are steps.
-- From document 01, Sessions and failover: "The past frames of a state are those executed before it, in order". Here
-- the newest stands first, so that one more frame is one more element. Definitions alone; the laws are in History.
use Rattle.std.specs.Prelude.{◌≡◌, List, [], ◌∷◌, map, reverse, ℕ}
use Rattle.sessions.specs.Machine.{Machine, Line, Executes}
use Rattle.sessions.specs.Session.{Call, executed}

-- An engine whose executed frames are steps: `step` is a function of the state and the body alone.
pub record Steps (M : Machine) : Type 0 where
  pub step : M.S → M.Body → M.S
  pub acts : (s t : M.S) (x : Line M.Body) (a : List ℕ) → Executes M s x t a → t ≡ step s x.body

module _ (M : Machine) where
  -- The bodies of the executed frames, the newest first.
  unfoldable pub past : M.S → List Call → List M.Body
  past fresh calls = reverse (map (λ x. x.body) (executed M fresh calls))

  -- The state that the steps of a past reach.
  unfoldable pub run_of : (M.S → M.Body → M.S) → M.S → List M.Body → M.S
  run_of step fresh [] = fresh
  run_of step fresh (b ∷ p) = step (run_of step fresh p) b
