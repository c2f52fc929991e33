use borrow.Author.Rules.{rules}
use native.Mathlib.Omega.{arith}
use lib.ListN.{length}
use mathlib.Core.Path.{◌≡◌, ◌∙◌}
use Rattle.laws.specs.PutLaws.{put_of}
use Rattle.sheets.proofs.WritingLaws.{putting-start, putting-length, putting-room, putting-on, putting-end}
use Rattle.sheets.proofs.writes.put_rows.Goals as goal

pub copy-requires : goal.copy-requires
copy-requires c = tt

pub loop-h-init : goal.loop-h-init
loop-h-init c = putting-start c.copy.new.out c.args.rows (omega arith)

pub put_row-at-requires : goal.put_row-at-requires
put_row-at-requires c = let l = c.loop-h in
    putting-room c.copy.new.out c.args.rows (omega arith) l.out l.at l.h l.invariant
    (omega arith)

pub loop-h-smaller : goal.loop-h-smaller
loop-h-smaller c = omega arith

pub loop-h-preserved : goal.loop-h-preserved
loop-h-preserved c = let l = c.loop-h in
    let n : length c.args.rows ≡ 16 = search rules in
    putting-on c.copy.new.out c.args.rows (omega arith) l.out l.at l.h l.invariant _ n
    (omega arith) c.put_row-at.ensures

pub shape_of-out : goal.shape_of-out
shape_of-out c = let l = c.loop-h in
    putting-length c.copy.new.out c.args.rows (omega arith) l.out l.at l.h l.invariant
    ∙ c.copy.auto.out

pub returns : goal.returns
returns c = let l = c.loop-h in
    let n : length c.args.rows ≡ 16 = search rules in
    putting-end c.copy.new.out c.args.rows (omega arith) l.out l.at l.h l.invariant
    c.args.out.now n (omega arith) (omega arith)
    (put_of c.args.out.now 0 _ 33 (length c.args.out.now) c.copy.ensures.0
    (omega arith) c.copy.ensures.1)
