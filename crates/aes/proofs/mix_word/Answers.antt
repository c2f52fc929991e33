use mathlib.Core.Path.{◌∙◌}
use Rattle.fips197.specs.Words.{octet}
use Rattle.fips197.specs.Field.{substitute}
use Rattle.aes.specs.MixedLaws.{mixed-of}
use Rattle.aes.proofs.mix_word.Goals as goal

pub returns : goal.returns
returns c = let a = c.args in
    c.mix_column.ensures ∙ mixed-of c.sub_word.result (substitute (octet 0 a.a))
    (substitute (octet 1 a.b)) (substitute (octet 2 a.c)) (substitute (octet 3 a.d))
    c.sub_word.ensures
