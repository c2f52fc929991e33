use Rattle.std.proofs.Common.{◌≡◌, ℕ, length, sym, ap, ◌∙◌, arith, rules, eq-eqb, ne_eqb}
use Rattle.std.specs.Prelude.{Option, unwrap_or}
use Rattle.twin.specs.Seen.{free_of}
use Rattle.twin.specs.NamesLaws.{free-else, free-most}
use Rattle.laws.specs.TestsLaws.{pick_true, pick-false}
use Rattle.twin.proofs.replies.handle_of.Goals as goal

pub returns-then-status-ne0 : goal.returns-then-status-ne0
returns-then-status-ne0 c = sym (pick-false _ 0 (ne_eqb _ 0 c.if-status-ne0.true))

pub overflow_cast-result : goal.overflow_cast-result
overflow_cast-result c = let l : length c.args.seen.live ≡ 16 = search rules in
    let z = c.unwrap_or.ensures ∙ ap (λ (o : Option ℕ). unwrap_or o 16) c.lowest_free.ensures
    ∙ ap (λ (n : ℕ). unwrap_or (free_of c.args.seen.live) n) (sym l) ∙ free-else c.args.seen.live in
    let m = free-most c.args.seen.live in
    omega (arith, z, m, l)

pub returns : goal.returns
returns c = let l : length c.args.seen.live ≡ 16 = search rules in
    c.unwrap_or.ensures ∙ ap (λ (o : Option ℕ). unwrap_or o 16) c.lowest_free.ensures
    ∙ ap (λ (n : ℕ). unwrap_or (free_of c.args.seen.live) n) (sym l) ∙ free-else c.args.seen.live
    ∙ sym (pick_true _ 0 (eq-eqb _ 0 c.if-status-ne0.false))
