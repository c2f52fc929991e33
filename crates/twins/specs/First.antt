-- The first engine, which the twin is compared with (document 02, T-07): what a call answers over whole blocks, and
-- what a start gives.
use Rattle.std.specs.Prelude.{ℕ, List}
use Rattle.laws.specs.Tests.{pick}
use Rattle.sessions.specs.Machine.{Outcome}
use Rattle.sessions.specs.Session.{reply}
use Rattle.sessions.specs.Additions.{Act, adds, call}
use Rattle.model.specs.Sound.{sound_settings}
use Rattle.editions.specs.Editions.{Gateway, fresh_on}
use Rattle.editions.specs.Engine.{gateways}
use Rattle.wholes.specs.Engine.{add_whole, blank_on, engine}
use Rattle.failover.specs.Grows.{growing}

-- the engine over whole blocks, as the calls' contracts cite it
unfoldable pub whole_by : List ℕ → Act gateways growing → Outcome (List ℕ)
whole_by s (call c) = reply engine s c
whole_by s (adds a) = add_whole s a.edition

-- what a start gives the first engine; settings out of range are refused by 9
unfoldable pub began_on : ℕ → List ℕ → Gateway
began_on opcode prefix = pick (sound_settings opcode prefix) (fresh_on opcode prefix) blank_on
