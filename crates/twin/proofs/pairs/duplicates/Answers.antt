use Rattle.std.proofs.Common.{sym, ◌∙◌}
use Rattle.twin.proofs.pairs.duplicates.Goals as goal

pub returns-then-not-is_sifting : goal.returns-then-not-is_sifting
returns-then-not-is_sifting c = sym (rw (sym c.is_sifting.ensures ∙ c.if-not-is_sifting.true))

pub returns : goal.returns
returns c = c.alike.ensures
    ∙ sym (rw (sym c.is_sifting.ensures ∙ c.if-not-is_sifting.false))
