-- Names of numbers in a table of octets: each row has a number, how many characters its name has, and they.
-- Definitions, and the laws of looking a number up. Assumes nothing.
use Rattle.std.specs.Prelude.{ℕ, zero, suc, List, [], ◌∷◌, leb, eqb, length, take}
use Prim.Native.String.{String}
use Rattle.laws.specs.Tests.{pick}
use Rattle.model.specs.Quoted.{codes}

-- a number and its name
pub record Row : Type 0 where
  pub number : ℕ
  pub name : String

-- the name of a number among rows: of the first that has it; none where no row has it
unfoldable pub named : List Row → ℕ → List ℕ
named [] x = []
named (r ∷ l) x = pick (eqb r.number x) (codes r.name) (named l x)

-- the name of a number in octets, so many of them passed over; none where a row goes past the end
unfoldable pub name_from : List ℕ → ℕ → ℕ → List ℕ
name_from [] k x = []
name_from (a ∷ t) (suc k) x = name_from t k x
name_from (a ∷ []) zero x = []
name_from (a ∷ n ∷ t) zero x = pick (leb n (length t)) (pick (eqb a x) (take n t) (name_from t n x)) []

unfoldable pub name_in : List ℕ → ℕ → List ℕ
name_in t x = name_from t 0 x
