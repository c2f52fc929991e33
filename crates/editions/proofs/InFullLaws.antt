-- Laws of the definitions in InFull.
use Rattle.std.specs.Prelude.{◌≡◌, refl, true}
use Rattle.laws.specs.Loops.{every}
use Rattle.model.specs.InFull.{told_right}
use Rattle.editions.specs.Editions.{fresh_on}
use Rattle.editions.specs.Engine.{gateways}
use Rattle.editions.specs.InFull.{with_line, lined_in_full, in_full_on}

-- P1 holds of the definitions with editions.
pub in-full-on : every (told_right gateways fresh_on) in_full_on ≡ true
unfolding with_line lined_in_full in_full_on Rattle.editions.specs.Editions.act_on
    Rattle.editions.specs.Editions.add_edition Rattle.editions.specs.Editions.beside
    Rattle.editions.specs.Editions.edition_row Rattle.editions.specs.Editions.fresh_on
    Rattle.editions.specs.Editions.image_on Rattle.editions.specs.Editions.in_force
    Rattle.editions.specs.Editions.last_from Rattle.editions.specs.Editions.prefix_for
    Rattle.editions.specs.Editions.records_on Rattle.editions.specs.Editions.rising
    Rattle.editions.specs.Editions.sound_edition Rattle.editions.specs.Editions.sound_editions
    Rattle.editions.specs.Editions.sound_gateway Rattle.editions.specs.Editions.with_prefix
    Rattle.editions.specs.Editions.held_on Rattle.editions.specs.Editions.is_image_on
    Rattle.editions.specs.Editions.read_on Rattle.editions.specs.Editions.edition_in
    Rattle.model.specs.Computed.computed
in-full-on = refl
