use Rattle.std.proofs.Common.{◌≡◌, length, sym, ◌∙◌, rules}
use Rattle.visit.specs.BookLaws.{start-some, start_none}
use Rattle.visit.proofs.Book.start.Goals as goal

pub returns-in-Some : goal.returns-in-Some
returns-in-Some c = let rows = c.args.self.now.rows in
    let l : length rows ≡ 64 = search rules in
    rw c.begun.ensures (start-some rows c.args.key c.args.frame c.args.tick l _ (sym c.free.ensures ∙ c.in-Some.is))

pub returns-in_default : goal.returns-in_default
returns-in_default c = let rows = c.args.self.now.rows in
    let l : length rows ≡ 64 = search rules in
    start_none rows c.args.key c.args.frame c.args.tick l (sym c.free.ensures ∙ c.in_default.is)
