use Rattle.fips197.specs.Tables.{IsTable, tabulate}
use Rattle.fips197.specs.Field.{◌⊕◌, xtimes, products, ◌•◌, squares, inverse, bit, affine_bit, affine, substitute}
use mathlib.Core.Path.{refl}
use Rattle.aes.proofs.substitutes.Goals as goal

pub invariant_of-result : goal.invariant_of-result
unfolding IsTable tabulate substitute inverse affine squares ◌•◌ products xtimes ◌⊕◌ affine_bit bit
invariant_of-result c = record { is_table = refl }
