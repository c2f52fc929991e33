use Rattle.model.specs.Commands.{sub_of}
use Rattle.twin.specs.Table.{past_at}
use Rattle.twin.specs.AnswersLaws.{read-said, add-said, cancel-said, enable-said, other-said}
use Rattle.std.proofs.Common.{ℕ, Bool, sym, refl, ap, ◌∙◌}
use Rattle.std.specs.Prelude.{Option, is_some, nat_lt}
use Rattle.statuses.specs.Statuses.{add_of}
use Rattle.twin.specs.Seen.{free_in}
use Rattle.twin.specs.NamesLaws.{free-is_some}
use Rattle.twin.proofs.replies.status_of.Goals as goal

pub returns-then-sub-eq0 : goal.returns-then-sub-eq0
unfolding sub_of
returns-then-sub-eq0 c = λ o p. (c.code_of.ensures ∙ c.read_status.ensures)
    ∙ read-said c.args.t.now c.args.i (past_at c.args.t.now c.args.i)
    c.args.seen c.requires.0.shows o p c.args.params.now refl c.if-sub-eq0.true

pub returns-then-is_add : goal.returns-then-is_add
unfolding sub_of
returns-then-is_add c = let l = c.requires.0.shows.held.names in
    let r = c.is_some.ensures ∙ ap (λ (o : Option ℕ). is_some o) c.lowest_free-free.ensures ∙ free-is_some c.args.seen.live in
    λ o p. add-said c.args.t.now c.args.i (past_at c.args.t.now c.args.i)
    c.args.seen c.requires.0.shows o p c.args.params.now refl
    (sym c.is_add.ensures ∙ c.if-is_add.true) refl
    (c.code_of-then-is_add.ensures ∙ c.add_status.ensures ∙ ap (λ (b : Bool). add_of b c.args.params.now)
    (r ∙ ap (nat_lt (free_in c.args.seen.live)) l))

pub returns-then-sub-eq4 : goal.returns-then-sub-eq4
unfolding sub_of
returns-then-sub-eq4 c = λ o p. cancel-said c.args.t.now c.args.i (past_at c.args.t.now c.args.i)
    c.args.seen c.requires.0.shows o p c.args.params.now refl c.if-sub-eq4.true
    c.get8.ensures c.is_live-known.ensures (c.code_of-then-sub-eq4.ensures ∙ c.cancel_status.ensures)

pub returns-then-sub-eq5 : goal.returns-then-sub-eq5
unfolding sub_of
returns-then-sub-eq5 c = λ o p. enable-said c.args.t.now c.args.i (past_at c.args.t.now c.args.i)
    c.args.seen c.requires.0.shows o p c.args.params.now refl c.if-sub-eq5.true
    (c.code_of-then-sub-eq5.ensures ∙ c.enable_status.ensures)

pub returns : goal.returns
unfolding sub_of
returns c = λ o p. other-said c.args.t.now c.args.i (past_at c.args.t.now c.args.i)
    c.args.seen c.requires.0.shows o p c.args.params.now refl c.if-sub-eq0.false
    (sym c.is_add.ensures ∙ c.if-is_add.false) c.if-sub-eq4.false c.if-sub-eq5.false
