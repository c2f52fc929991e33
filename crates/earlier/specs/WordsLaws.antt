-- A text's characters, of which there are at most as many as it has room for.
use Rattle.std.specs.Prelude.{ℕ, ◌≤◌, ◌<◌, min, ◌≡◌, List, length, take}
use Rattle.std.proofs.Common.{sym, ap, ◌∙◌, arith, take_all}
use Rattle.laws.specs.TestsLaws.{cases-le}
use Rattle.texts.specs.Text.{room}

pub told-cut : (octets : List ℕ) (count n : ℕ) → length octets ≡ room → n ≡ min count room
    → take n octets ≡ take count octets
told-cut octets count n l e =
    cases-le count room (λ (h : count ≤ room). ap (λ (j : ℕ). take j octets) (let z : n ≡ count = omega arith in z))
    (λ (h : room < count). take_all n octets (omega arith) ∙ sym (take_all count octets (omega arith)))
