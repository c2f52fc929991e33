use Rattle.desk.specs.SaysLaws.{word-one, word_more}
use Rattle.texts.specs.Text.{told}
use Rattle.model.specs.Quoted.{codes}
use Rattle.desk.proofs.counted.Goals as goal

pub returns-then-n-eq1 : goal.returns-then-n-eq1
unfolding codes
returns-then-n-eq1 c = let a = c.args in
    word-one a.n (told a.t) c.if-n-eq1.true c.with.ensures

pub returns : goal.returns
unfolding codes
returns c = let a = c.args in
    word_more a.n (told a.t) c.if-n-eq1.false c.with-2.ensures
