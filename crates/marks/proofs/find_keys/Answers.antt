use mathlib.Core.Path.{sym, ◌∙◌}
use borrow.Author.Rules.{rules}
use Rattle.marks.proofs.find_keys.Goals as goal

pub met_keys-requires : goal.met_keys-requires
met_keys-requires c = (
  search rules,
  search rules,
  search rules,
  sym c.is_private.ensures
      ∙ c.if-is_private.true,
)

pub returns-then-is_private : goal.returns-then-is_private
returns-then-is_private c = record {
  is = sym c.if-is_private.true
      ∙ c.is_private.ensures;
  keyed = c.met_keys.ensures;
}

pub returns : goal.returns
returns c = record { is = sym c.if-is_private.false ∙ c.is_private.ensures; keyed = tt }
