-- Document 02, T-12, both sides of each edge: the rows of editions hold of the engine over whole blocks, which the
-- calls' contracts cite, and of the additions to it. The rows stand in the crate editions (Rows); here they are
-- carried over. They hold as well where the block is saved and restored after any of the row's calls, so between an
-- addition and its number too. Assumes nothing.
use Rattle.std.specs.Prelude.{ℕ, Bool, true, false, ◌&&◌, List, [], ◌∷◌}
use Rattle.sessions.specs.Machine.{Outcome, octets, answer_room}
use Rattle.sessions.specs.Session.{answer, state_after}
use Rattle.model.specs.Rows.{Reply, reply_of, same, imaged}
use Rattle.editions.specs.Rows.{Given, frame, add, Example}
use Rattle.wholes.specs.Engine.{engine, begin, add_whole}

-- a row over blocks
unfoldable pub outcome_in : List ℕ → Given → Outcome (List ℕ)
outcome_in s (frame f) = answer engine answer_room s octets f
outcome_in s (add n p) = add_whole s (record { from = n; prefix = p })

unfoldable pub answered_in : List ℕ → List Given → List Reply → Bool
answered_in s [] [] = true
answered_in s [] (r ∷ rs) = false
answered_in s (x ∷ xs) [] = false
answered_in s (x ∷ xs) (r ∷ rs) = same (reply_of (outcome_in s x)) r && answered_in (state_after s (outcome_in s x)) xs rs

unfoldable pub reached_in : List ℕ → List Given → List ℕ
reached_in s [] = s
reached_in s (x ∷ xs) = reached_in (state_after s (outcome_in s x)) xs

abbrev pub rows_begin : List ℕ
rows_begin = begin 0xFC1E (0x4D ∷ 0x53 ∷ [])

unfoldable pub holds_in : Example → Bool
holds_in r = answered_in rows_begin r.given r.replies
    && imaged r.image (engine.encode (reached_in rows_begin r.given))
