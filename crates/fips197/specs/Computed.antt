-- What an example of the cipher computes with. A theorem that names `computed` on its unfolding line unfolds every
-- definition that is named here. Assumes nothing.
use Rattle.std.specs.Prelude.{ℕ}
use Rattle.laws.specs.Tests.{pick}
use Rattle.fips197.specs.Field.{◌⊕◌, xtimes, products, ◌•◌, squares, inverse, bit, affine_bit, affine, substitute}
use Rattle.fips197.specs.Words.{word, sums, rotated}
use Rattle.fips197.specs.Cipher.{cell, column, columns, state, sub_bytes, shift_rows, mix_column, mix_columns, add_round_key, rot_word, sub_word, power_of_x, rcon, temp, next_words, key_expansion, round_key, rounds, cipher}

-- The number says nothing; the names under it do.
unfoldable pub computed : ℕ
unfolding pick ◌⊕◌ xtimes products ◌•◌ squares inverse bit affine_bit affine substitute word sums rotated cell column
    columns state sub_bytes shift_rows mix_column mix_columns add_round_key rot_word sub_word power_of_x rcon temp next_words
    key_expansion round_key rounds cipher
computed = 0
