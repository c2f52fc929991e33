-- Laws of the definitions in Blocks.
use Rattle.std.specs.Prelude.{ℕ, ◌<◌, ◌≡◌, [], ◌∷◌, ◌++◌, map}
use Rattle.std.proofs.Math.Path.{ap}
use Rattle.std.proofs.Common.{◌∙◌}
use Rattle.fips197.specs.Field.{substitute}
use Rattle.fips197.specs.Words.{word, octets, sums, rotated}
use Rattle.fips197.specs.WordsLaws.{octets-small}
use Rattle.fips197.specs.Cipher.{cell, column, rot_word, sub_word}
use Rattle.fips197.specs.Laws.{next_key}
use Rattle.aes.specs.declared.Block.{Block}
use Rattle.aes.specs.Blocks.{block_octets, sub_column}

-- SubWord after RotWord
sub-turn : (v w : ℕ) → octets v ≡ rotated 1 (octets w) → sub_column v v v v ≡ sub_word (rot_word (octets w))
unfolding octets rotated word sub_word rot_word
sub-turn v w e = ap (map substitute) e

-- the next round key, from what its columns are in turn
module _ (k : Block) (rc v s x u a b c d : ℕ) (hr : rc < 256) (hv : octets v ≡ rotated 1 (octets k.d))
    (hs : octets s ≡ sub_column v v v v) (hx : x ≡ rc) (hu : octets u ≡ sums (octets s) (octets x))
    (ha : octets a ≡ sums (octets k.a) (octets u)) (hb : octets b ≡ sums (octets k.b) (octets a))
    (hc : octets c ≡ sums (octets k.c) (octets b)) (hd : octets d ≡ sums (octets k.d) (octets c)) where
  first : octets a ≡ sums (octets k.a) (sums (sub_word (rot_word (octets k.d))) (rc ∷ 0 ∷ 0 ∷ 0 ∷ []))
  first = rw (ha, hu, hs, sub-turn v k.d hv, hx, octets-small rc hr)

  pub key-columns : block_octets (record { a = a; b = b; c = c; d = d }) ≡ next_key rc (block_octets k)
  unfolding block_octets next_key column word cell octets
  key-columns =
      let eb = hb ∙ ap (sums (octets k.b)) first in
      let ec = hc ∙ ap (sums (octets k.c)) eb in
      let ed = hd ∙ ap (sums (octets k.d)) ec in
      λ i. first i ++ eb i ++ ec i ++ ed i
