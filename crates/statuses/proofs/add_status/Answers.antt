use Rattle.std.proofs.lemmas.Result.{err_from_is_err_and}
use mathlib.Core.Path.{refl, sym, ◌∙◌}
use Rattle.statuses.specs.CodesLaws.{code-some}
use native.Mathlib.Omega.{arith}
use Rattle.statuses.specs.AnswersLaws.{sub-said, add-other, add-short, add-fault, add-good, add-full}
use Rattle.statuses.specs.SecondLaws.{type-said, type-least, type-five}
use Rattle.statuses.proofs.add_status.Goals as goal

pub returns-then-not-is_add : goal.returns-then-not-is_add
returns-then-not-is_add c = add-other c.args.room
    c.args.params.now c.get8-sub.ensures
    (sym c.is_add.ensures ∙ c.if-not-is_add.true)

pub returns-then-params-params_of : goal.returns-then-params-params_of
returns-then-params-params_of c = add-short c.args.room c.args.params.now c.get8-sub.ensures
    (sym c.is_add.ensures ∙ c.if-not-is_add.false) c.params_of.ensures
    c.if-params-params_of.true

pub fault-requires : goal.fault-requires
fault-requires c = let e = c.type_at.ensures in
    let s = sub-said c.args.room c.args.params.now c.get8-sub.ensures in
    let n = type-least _ (sym c.is_add.ensures ∙ c.if-not-is_add.false) in (
      e ∙ type-said _ s,
      rw e (type-five _),
      omega
          (arith, e, n, c.params_of.ensures, c.if-params-params_of.false),
    )

pub returns-in_err-fault : goal.returns-in_err-fault
returns-in_err-fault c =
    let p = err_from_is_err_and c.from_residual.result c.from_residual.ensures.1 in rw (p.1, p.2) (add-fault c.args.room c.args.params.now c.get8-sub.ensures
    (sym c.is_add.ensures ∙ c.if-not-is_add.false) c.params_of.ensures
    c.if-params-params_of.false c.in_err-fault.ensures (code-some _))

pub returns-then-room : goal.returns-then-room
returns-then-room c = add-good c.args.room c.args.params.now c.get8-sub.ensures
    (sym c.is_add.ensures ∙ c.if-not-is_add.false) c.params_of.ensures
    c.if-params-params_of.false c.in_ok-fault.ensures refl c.if-room.true

pub returns : goal.returns
returns c = add-full c.args.room c.args.params.now c.get8-sub.ensures
    (sym c.is_add.ensures ∙ c.if-not-is_add.false) c.params_of.ensures
    c.if-params-params_of.false c.in_ok-fault.ensures refl c.if-room.false
