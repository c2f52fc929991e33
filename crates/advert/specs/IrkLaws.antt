-- Laws of the definitions in Irk.
use Rattle.std.specs.Prelude.{◌≡◌, ℕ, Bool, true, false, List, length, ◌≢◌}
use Rattle.std.proofs.Common.{eqb-true, eq-eqb, ne_eqb}
use Rattle.resolve.specs.Resolve.{key_size, resolves_by}
use Rattle.advert.specs.Irk.{irk_form, irk_meets}

pub irk-bounds : (xs : List ℕ) → irk_form xs ≡ true → length xs ≡ key_size
unfolding irk_form
irk-bounds xs e = eqb-true (length xs) key_size e

pub irk-public : (xs : List ℕ) (t : ℕ) (address : List ℕ) → (t ≢ 1) → false ≡ irk_meets xs t address
unfolding irk_meets
irk-public xs t address n = rw (ne_eqb t 1 n)

pub irk-random : (xs : List ℕ) (t : ℕ) (address : List ℕ) → t ≡ 1 → {r : Bool} → r ≡ resolves_by xs address
    → r ≡ irk_meets xs t address
unfolding irk_meets
irk-random xs t address h e = rw (eq-eqb t 1 h) e
