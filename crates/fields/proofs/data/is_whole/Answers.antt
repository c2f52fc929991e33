use mathlib.Core.Path.{◌≡◌, sym, ◌∙◌}
use Rattle.fields.specs.Data.{is_whole}
use borrow.Author.Tests.{lt-ltb, le-ltb}
use Rattle.laws.specs.Tests.{pick}
use Rattle.octets.specs.Numbers.{number_at}
use Rattle.fields.proofs.data.is_whole.Goals as goal

pub returns-then-k-least : goal.returns-then-k-least
unfolding is_whole Rattle.laws.specs.Tests.pick
returns-then-k-least c = let e : c.wide-k.result ≡ number_at 1
    c.args.piece.now 0 = c.wide-k.ensures.0
    ∙ c.get8.ensures in
    rw (sym e, lt-ltb _ _ c.if-k-least.true)

pub returns : goal.returns
unfolding is_whole Rattle.laws.specs.Tests.pick
returns c = let e : c.wide-k.result ≡ number_at 1
    c.args.piece.now 0 = c.wide-k.ensures.0
    ∙ c.get8.ensures in
    rw (sym e, le-ltb _ _ c.if-k-least.false)
