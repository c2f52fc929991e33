use Rattle.std.proofs.Common.{◌≡◌, None, length, sym, ◌∙◌, rules}
use Rattle.visit.specs.BookLaws.{close-some, close-none}
use Rattle.visit.proofs.Book.close.Goals as goal

pub returns-in_err-i-clause-rows : goal.returns-in_err-i-clause-rows
returns-in_err-i-clause-rows c = let rows = c.args.self.now.rows in
    let l : length rows ≡ 64 = search rules in
    (close-none rows c.args.range.low c.args.range.high l (sym c.place.ensures ∙ c.in_err-i.was)).0

pub returns-in_err-i-clause-closed : goal.returns-in_err-i-clause-closed
returns-in_err-i-clause-closed c = let rows = c.args.self.now.rows in
    let l : length rows ≡ 64 = search rules in
    c.from_residual.ensures
    ∙ (close-none rows c.args.range.low c.args.range.high l (sym c.place.ensures ∙ c.in_err-i.was)).1

pub returns-clause-rows : goal.returns-clause-rows
returns-clause-rows c = let rows = c.args.self.now.rows in
    let l : length rows ≡ 64 = search rules in
    rw c.take.ensures.after
    (close-some rows c.args.range.low c.args.range.high l _ None (sym c.place.ensures ∙ c.in_ok-i.was)).0

pub returns-clause-closed : goal.returns-clause-closed
returns-clause-closed c = let rows = c.args.self.now.rows in
    let l : length rows ≡ 64 = search rules in
    c.take.ensures.value
    ∙ (close-some rows c.args.range.low c.args.range.high l _ _ (sym c.place.ensures ∙ c.in_ok-i.was)).1
