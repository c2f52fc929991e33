use Rattle.texts.specs.JoinedLaws.{with-so}
use Rattle.texts.specs.Text.{told}
use mathlib.Core.Path.{sym}
use lib.Seq.{length-take-le}
use native.Mathlib.Omega.{arith}
use borrow.Author.Rules.{rules}
use Rattle.texts.proofs.Text.with.Goals as goal

pub slice_bounds-copy-end-2 : goal.slice_bounds-copy-end-2
slice_bounds-copy-end-2 c = sym (length-take-le _ _ (omega (arith, c.min-at.ensures)))

pub returns : goal.returns
unfolding told
returns c = let a = c.args in
    with-so a.self.octets a.words.now c.copy.new.out a.self.count c.min-at.result
    c.min-n.result c.copy.result (search rules) c.min-at.ensures
    c.min-n.ensures c.copy.ensures.0 c.copy.ensures.1
