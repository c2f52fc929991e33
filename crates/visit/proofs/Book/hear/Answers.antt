use Rattle.std.proofs.Common.{◌≡◌, length, sym, ap, arith, set, rules}
use Rattle.laws.specs.Turns.{map-turn}
use Rattle.laws.specs.PutLaws.{put-nil}
use Rattle.visit.specs.Book.{heard_row}
use Rattle.visit.specs.BookLaws.{heard_all}
use Rattle.visit.proofs.Book.hear.Goals as goal

pub loop-row-init : goal.loop-row-init
loop-row-init c = (search rules, sym (put-nil _ 0))

pub loop-row-preserved : goal.loop-row-preserved
loop-row-preserved c = let rows = c.args.self.now.rows in
    let n : length rows ≡ 64 = search rules in (
      search rules,
      map-turn (heard_row c.args.device c.args.level) rows c.loop-row.row-index _ (omega arith) c.loop-row.invariant.1
          (ap (λ w. set c.loop-row.row-items c.loop-row.row-index w) c.heard.ensures),
    )

pub returns : goal.returns
returns c = let rows = c.args.self.now.rows in
    let n : length rows ≡ 64 = search rules in
    heard_all c.args.device c.args.level c.loop-row.row-index rows (omega arith) c.loop-row.invariant.1
