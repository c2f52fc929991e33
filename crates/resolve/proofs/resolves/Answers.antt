use mathlib.Core.Path.{sym, ◌∙◌}
use Rattle.resolve.specs.Laws.{sized, by_key, by_form, by-hash}
use Rattle.resolve.proofs.resolves.Goals as goal

pub returns-then-key-ne-KEY : goal.returns-then-key-ne-KEY
returns-then-key-ne-KEY c = by_key _ _ c.if-key-ne-KEY.true

pub returns-then-not-is_resolvable : goal.returns-then-not-is_resolvable
returns-then-not-is_resolvable c = by_form _ _ c.if-key-ne-KEY.false
    (sym c.is_resolvable.ensures ∙ c.if-not-is_resolvable.true)

pub hash-requires : goal.hash-requires
hash-requires c = sized _ (sym c.is_resolvable.ensures ∙ c.if-not-is_resolvable.false)

pub hash_by-requires : goal.hash_by-requires
hash_by-requires c = (
  c.if-key-ne-KEY.false,
  sized _ (sym c.is_resolvable.ensures
      ∙ c.if-not-is_resolvable.false),
)

pub returns : goal.returns
returns c = by-hash _ _ c.if-key-ne-KEY.false
    (sym c.is_resolvable.ensures
    ∙ c.if-not-is_resolvable.false)
    c.hash.ensures
    c.hash_by.ensures
