-- The edges of a watch, carried to the rule: after every row of the crate rule's Edges the pairs of the row are those
-- that the history rule puts under watch, in order, with their counts. Assumes nothing.
use Rattle.std.specs.Prelude.{◌≡◌, List, [], ◌∷◌, map}
use Rattle.std.proofs.Common.{subst}
use Rattle.rule.specs.Base.{All}
use Rattle.rule.specs.Engine.{run}
use Rattle.rule.specs.Claim.{ByHistory}
use Rattle.rule.proofs.EdgesLaws.{small, Row, past, rows, edges, again_past, again_held, back-again, two_past, two_held, two_out}
use Rattle.history.specs.HistoryLaws.{history}

-- Right rows are right of the rule.
right : (rs : List Row) → map (λ r. (run small (past r)).pairs) rs ≡ map (λ r. r.held) rs
    → All (λ r. ByHistory small (past r) r.held) rs
right [] e = tt
right (r ∷ rs) e =
    let here : (run small (past r)).pairs ≡ r.held = cc in
    let rest : map (λ r. (run small (past r)).pairs) rs ≡ map (λ r. r.held) rs = cc in
    (subst (ByHistory small (past r)) here (history small (past r)), right rs rest)

pub corners : All (λ r. ByHistory small (past r) r.held) rows
corners = right rows edges

-- A displaced pair starts anew; two monitors displace two pairs at one packet.
pub again : ByHistory small again_past again_held
again = subst (ByHistory small again_past) back-again (history small again_past)

pub two : ByHistory small two_past two_held
two = subst (ByHistory small two_past) two_out (history small two_past)
