-- The history rule holds of every engine that shows the core engine (crate rule, Shows): the pairs of the view are
-- those that the rule puts under watch after the core frames of the past. Assumes nothing.
use Rattle.std.specs.Prelude.{◌≡◌, List, map}
use Rattle.std.proofs.Common.{sym, subst}
use Rattle.rule.specs.Radio.{Radio}
use Rattle.rule.specs.Engine.{fresh}
use Rattle.rule.specs.Claim.{ByHistory}
use Rattle.rule.proofs.ShowsLaws.{Shows, Ran, run_from, run_ran, view-ran}
use Rattle.history.specs.HistoryLaws.{history}

module _ (R : Radio) (F B : Type 0) (D : Shows R F B) where
  -- Of a state that the executed frames of the past reach from a state that shows the fresh one.
  pub shown-history : (s : F) → D.view s ≡ fresh R → (past : List B) (t : F) → Ran R F B D s past t
      → ByHistory R (map D.core past) (D.view t).pairs
  shown-history s z past t r =
      subst (λ c. ByHistory R (map D.core past) c.pairs) (sym (view-ran R F B D s z past t r))
      (history R (map D.core past))

  -- The same where every frame is executed.
  pub run-history : ((u : F) (b : B) → D.May u b) → (s : F) → D.view s ≡ fresh R → (past : List B)
      → ByHistory R (map D.core past) (D.view (run_from R F B D s past)).pairs
  run-history may s z past = shown-history s z past (run_from R F B D s past) (run_ran R F B D may s past)
