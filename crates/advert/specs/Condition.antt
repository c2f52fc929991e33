-- Conditions of every type: their form and their match (document 01, Conditions; the types' statuses are in
-- Commands). Assumes nothing.
use Rattle.std.specs.Prelude.{ℕ, Bool, false, ◌&&◌, List, ◌==◌, nat_le, Result, Ok, Err}
use Rattle.laws.specs.Tests.{pick}
use Rattle.advert.specs.declared.FormError.{FormError}
use Rattle.advert.specs.declared.FormError.TheVariants.{Malformed, Unknown}
use Rattle.advert.specs.Pattern.{patterns_form, patterns_meet}
use Rattle.advert.specs.Uuid.{uuid_form, uuid_meets}
use Rattle.advert.specs.Address.{address_form, address_meets}
use Rattle.advert.specs.Irk.{irk_form, irk_meets}

-- whether a condition has the form of its type; how long it may be is not asked here
unfoldable pub well_formed : (kind : ℕ) (condition : List ℕ) → Bool
well_formed kind condition =
    pick (kind == 1) (patterns_form condition)
    (pick (kind == 2) (uuid_form condition)
    (pick (kind == 3) (irk_form condition)
    (pick (kind == 4) (address_form condition) false)))

-- whether a packet matches a condition: by its advertisement or its scan response (document 02, T-06: "A condition
-- matches if either text does"), which is empty where it has none
unfoldable pub meets : (kind : ℕ) (condition : List ℕ) (address_type : ℕ) (address adv scan : List ℕ) → Bool
meets kind condition address_type address adv scan =
    pick (kind == 1) (patterns_meet condition adv scan)
    (pick (kind == 2) (uuid_meets condition adv scan)
    (pick (kind == 3) (irk_meets condition address_type address)
    (pick (kind == 4) (address_meets condition address_type address) false)))

-- what is said of a condition's form: types outside 1 to 4 are unknown
unfoldable pub form_of : (kind : ℕ) (condition : List ℕ) → Result Unit FormError
form_of kind condition =
    pick (nat_le 1 kind && nat_le kind 4) (pick (well_formed kind condition) (Ok tt) (Err Malformed)) (Err Unknown)

-- the status of each answer (document 01, Commands: type outside 1 to 4 and malformed condition 0x12)
unfoldable pub form_status : Result Unit FormError → ℕ
form_status (Ok tt) = 0
form_status (Err Malformed) = 18
form_status (Err Unknown) = 18
