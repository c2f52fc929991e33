-- A call of a session, given to the twin's block. Document 02, T-07. Definitions alone; the theorem is `agree` of
-- Proved.
use Rattle.std.specs.Prelude.{ℕ, List}
use Rattle.sessions.specs.Machine.{Outcome}
use Rattle.sessions.specs.Session.{reply}
use Rattle.sessions.specs.Additions.{Act, adds, call}
use Rattle.editions.specs.Engine.{gateways}
use Rattle.failover.specs.Grows.{growing}
use Rattle.twin.specs.Calls.{add_block, twin_blocks}

unfoldable pub block_by : List ℕ → Act gateways growing → Outcome (List ℕ)
block_by b (call c) = reply twin_blocks b c
block_by b (adds a) = add_block b a.edition
