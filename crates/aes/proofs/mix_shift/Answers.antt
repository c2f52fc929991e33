use Rattle.fips197.specs.Cipher.{cell, columns, state, sub_bytes, shift_rows, mix_columns}
use mathlib.Core.List.{◌++◌}
use Rattle.aes.specs.Blocks.{block_octets}
use Rattle.fips197.specs.Words.{word, octets}
use Rattle.aes.proofs.mix_shift.Goals as goal

pub returns : goal.returns
unfolding block_octets octets sub_bytes shift_rows mix_columns state columns word cell
returns c = λ i. c.mix_word-a.ensures i
    ++ c.mix_word-b.ensures i
    ++ c.mix_word-c.ensures i
    ++ c.mix_word-d.ensures i
