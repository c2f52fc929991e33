-- Laws of the definitions in Rows.
use Rattle.std.specs.Prelude.{◌≡◌, refl, Bool, true, false, ◌&&◌, List, [], ◌∷◌}
use Rattle.laws.specs.Loops.{every}
use Rattle.sessions.specs.Machine.{Outcome, octets, answer_room}
use Rattle.sessions.specs.Session.{answer, state_after}
use Rattle.model.specs.Rows.{Reply, reply_of, same, imaged}
use Rattle.editions.specs.Editions.{Gateway, fresh_on, add_edition, image_on}
use Rattle.editions.specs.Engine.{gateways}
use Rattle.editions.specs.Rows.{Given, frame, add, Example, ok, says_prefix, asks, t12numbers, t12frames, t12between, additions, t12limits, addition_rows}

unfoldable pub outcome : Gateway → Given → Outcome Gateway
outcome g (frame f) = answer gateways answer_room g octets f
outcome g (add n p) = add_edition g (record { from = n; prefix = p })

unfoldable pub answered_by : Gateway → List Given → List Reply → Bool
answered_by g [] [] = true
answered_by g [] (r ∷ rs) = false
answered_by g (x ∷ xs) [] = false
answered_by g (x ∷ xs) (r ∷ rs) = same (reply_of (outcome g x)) r && answered_by (state_after g (outcome g x)) xs rs

unfoldable pub reached_by : Gateway → List Given → Gateway
reached_by g [] = g
reached_by g (x ∷ xs) = reached_by (state_after g (outcome g x)) xs

unfoldable pub begun : Gateway
begun = fresh_on 0xFC1E (0x4D ∷ 0x53 ∷ [])

unfoldable pub holds : Example → Bool
holds r = answered_by begun r.given r.replies && imaged r.image (image_on (reached_by begun r.given))

pub rows-hold : every holds addition_rows ≡ true
unfolding outcome answered_by reached_by begun holds ok says_prefix asks t12numbers t12frames t12between additions t12limits addition_rows
    Rattle.editions.specs.Editions.with_prefix Rattle.editions.specs.Editions.in_force
    Rattle.editions.specs.Editions.prefix_for Rattle.editions.specs.Editions.rising
    Rattle.editions.specs.Editions.sound_edition Rattle.editions.specs.Editions.sound_editions
    Rattle.editions.specs.Editions.sound_gateway Rattle.editions.specs.Editions.fresh_on
    Rattle.editions.specs.Editions.beside Rattle.editions.specs.Editions.act_on
    Rattle.editions.specs.Editions.last_from Rattle.editions.specs.Editions.add_edition
    Rattle.editions.specs.Editions.edition_row Rattle.editions.specs.Editions.records_on
    Rattle.editions.specs.Editions.image_on Rattle.model.specs.Computed.computed
rows-hold = refl
