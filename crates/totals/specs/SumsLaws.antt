-- Laws of the definitions in Sums.
use Rattle.std.specs.Prelude.{◌<◌, ◌≡◌, ℤ, ◌+ℤ◌}
use Rattle.std.proofs.Common.{◌∙◌, SFits, to_z, of_z}
use Rattle.std.specs.Int.Signed.{mag}
use Rattle.std.specs.Int.{w64}
use Rattle.std.proofs.lemmas.Int.{to_z-of_z}

-- what the machine reads back from the bits of a number: a signed local holds bits, and `back z` is z where z fits
abbrev pub back : ℤ → ℤ
back z = to_z w64 (of_z w64 z)

-- a sum of two numbers that fit, read back
pub sum_back : (a d : ℤ) → mag a < 9223372036854775808 → mag d < 9223372036854775808 → back a +ℤ back d ≡ a +ℤ d
sum_back a d h k = rw (to_z-of_z w64 a (record { sfits = h }), to_z-of_z w64 d (record { sfits = k }))

pub sum-fits-back : (a d : ℤ) → mag a < 9223372036854775808 → mag d < 9223372036854775808
    → mag (a +ℤ d) < 9223372036854775808 → SFits w64 (back a +ℤ back d)
sum-fits-back a d h k s = rw (sum_back a d h k) (record { sfits = s })

pub sum-read : (a d : ℤ) → mag a < 9223372036854775808 → mag d < 9223372036854775808
    → mag (a +ℤ d) < 9223372036854775808 → back (back a +ℤ back d) ≡ a +ℤ d
sum-read a d h k s = to_z-of_z w64 (back a +ℤ back d) (sum-fits-back a d h k s) ∙ sum_back a d h k
