-- Demand 3 of sessions without additions, over states with editions: what document 01 asks, of the engine as it is
-- now. Document 01, Sessions and failover; document 02, T-12. Assumes nothing.
use Rattle.std.specs.Prelude.{ℕ, List, map}
use Rattle.rule.specs.Radio.{Frame}
use Rattle.rule.specs.Claim.{ByHistory}
use Rattle.sessions.specs.Session.{Call, walk}
use Rattle.sessions.specs.Saved.{SavedAfter, Failover, replay}
use Rattle.sessions.specs.Past.{past}
use Rattle.model.proofs.Radio.{radio, core}
use Rattle.editions.specs.Editions.{Gateway, fresh_on, image_on}
use Rattle.editions.specs.Engine.{gateways}
use Rattle.failover.specs.Demand3.{past_replayed, pairs_in}

-- the past frames of a session, the newest first
unfoldable pub past_frames : ℕ → List ℕ → List Call → List (Frame radio)
past_frames opcode prefix calls = map core (past gateways (fresh_on opcode prefix) calls)

-- demand 3 of a session: images saved and taken over, what is under watch by history, also after a replay
pub record Demand3 (opcode : ℕ) (prefix : List ℕ) (calls : List Call) : Type 0 where
  pub images :
      (k : ℕ) (img : List ℕ) (at : Gateway) → SavedAfter gateways (fresh_on opcode prefix) calls k img at
      → Failover gateways (fresh_on opcode prefix) calls k img at
  pub by-history :
      ByHistory radio (past_frames opcode prefix calls)
      (pairs_in (image_on (walk gateways (fresh_on opcode prefix) calls)))
  pub replayed :
      (k : ℕ) (img : List ℕ) (at : Gateway) (s : SavedAfter gateways (fresh_on opcode prefix) calls k img at)
      (lent : ℕ → ℕ) (t : List ℕ)
      → ByHistory radio (map core (past_replayed gateways (fresh_on opcode prefix) s.before lent at t))
      (pairs_in (image_on (replay gateways lent at t).state))
