use Rattle.fips197.specs.Cipher.{cell, columns, state, add_round_key}
use mathlib.Core.List.{◌++◌}
use Rattle.aes.specs.Blocks.{block_octets}
use Rattle.fips197.specs.Words.{word, octets, sums}
use Rattle.aes.proofs.add_round_key.Goals as goal

pub returns : goal.returns
unfolding block_octets octets sums add_round_key state columns word cell
returns c = λ i. c.sum-a.ensures i
    ++ c.sum-b.ensures i
    ++ c.sum-c.ensures i
    ++ c.sum-d.ensures i
