use Rattle.fips197.specs.Cipher.{cell, columns, state, sub_bytes, shift_rows}
use mathlib.Core.List.{◌++◌}
use Rattle.aes.specs.Blocks.{block_octets}
use Rattle.fips197.specs.Words.{word, octets}
use Rattle.aes.proofs.sub_shift.Goals as goal

pub returns : goal.returns
unfolding block_octets octets sub_bytes shift_rows state columns word cell
returns c = λ i. c.sub_word-a.ensures i
    ++ c.sub_word-b.ensures i
    ++ c.sub_word-c.ensures i
    ++ c.sub_word-d.ensures i
