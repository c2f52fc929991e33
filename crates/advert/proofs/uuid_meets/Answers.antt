use Rattle.std.proofs.Common.{◌≡◌, true, sym, ◌∙◌, arith, length-drop}
use Rattle.advert.specs.PartsLaws.{rest-whole}
use Rattle.advert.specs.Uuid.{uuid_form}
use Rattle.advert.proofs.UuidLaws.{uuid-bounds, uuid-bad, uuid-of}
use Rattle.advert.proofs.uuid_meets.Goals as goal

pub returns-then-not-uuid_form : goal.returns-then-not-uuid_form
returns-then-not-uuid_form c = uuid-bad _ _ _ (sym c.uuid_form.ensures ∙ c.if-not-uuid_form.true)

pub bounds-condition-0 : goal.bounds-condition-0
bounds-condition-0 c = omega (arith, uuid-bounds c.args.condition.now (sym c.uuid_form.ensures ∙ c.if-not-uuid_form.false))

pub overflow_mul-t : goal.overflow_mul-t
overflow_mul-t c = omega (arith, uuid-bounds c.args.condition.now (sym c.uuid_form.ensures ∙ c.if-not-uuid_form.false))

pub overflow_mul-t-2 : goal.overflow_mul-t-2
overflow_mul-t-2 c = omega (arith, uuid-bounds c.args.condition.now (sym c.uuid_form.ensures ∙ c.if-not-uuid_form.false))

pub overflow_add-t : goal.overflow_add-t
overflow_add-t c = omega (arith, uuid-bounds c.args.condition.now (sym c.uuid_form.ensures ∙ c.if-not-uuid_form.false))

pub slice_bounds-some_lists-count : goal.slice_bounds-some_lists-count
slice_bounds-some_lists-count c = omega (arith, uuid-bounds c.args.condition.now (sym c.uuid_form.ensures ∙ c.if-not-uuid_form.false))

pub slice_bounds-some_lists-start : goal.slice_bounds-some_lists-start
slice_bounds-some_lists-start c = omega (arith, uuid-bounds c.args.condition.now (sym c.uuid_form.ensures ∙ c.if-not-uuid_form.false))

pub some_lists-requires : goal.some_lists-requires
some_lists-requires c = let xs = c.args.condition.now in
    let f : uuid_form xs ≡ true = sym c.uuid_form.ensures
    ∙ c.if-not-uuid_form.false in
    rw (rest-whole 1 xs) (simp length-drop (omega (arith, uuid-bounds xs f)))

pub returns : goal.returns
returns c = uuid-of _ _ _ (sym c.uuid_form.ensures
    ∙ c.if-not-uuid_form.false)
    c.some_lists.ensures
