use Rattle.texts.specs.Text.{room, told}
use mathlib.Core.List.{◌++◌}
use Rattle.texts.specs.JoinedLaws.{digits-so, said-so}
use mathlib.Core.Path.{sym, ap, ◌∙◌}
use lib.ListN.{take}
use lib.Seq.{length-take-le}
use native.Mathlib.Omega.{arith}
use Rattle.texts.proofs.Text.said.Goals as goal

pub slice_bounds-digits-end : goal.slice_bounds-digits-end
slice_bounds-digits-end c = let w = digits-so c.args.n c.write-k.result _
    c.write-k.new.text (omega arith) c.write-k.ensures in
    omega (arith, w.1)

pub slice_bounds-with-end : goal.slice_bounds-with-end
slice_bounds-with-end c = let w = digits-so c.args.n c.write-k.result _ c.write-k.new.text (omega arith)
    c.write-k.ensures in
    sym (length-take-le _ _ (omega (arith, w.1)))

pub returns : goal.returns
returns c = let w = digits-so c.args.n c.write-k.result _ c.write-k.new.text (omega arith)
    c.write-k.ensures in
    said-so (told c.args.self) c.args.words.now (Rattle.decimals.specs.Decimals.decimal c.args.n)
    c.with-before.ensures
    (c.with.ensures ∙ ap (λ l. take room (told c.with-before.result ++ l)) w.0)
