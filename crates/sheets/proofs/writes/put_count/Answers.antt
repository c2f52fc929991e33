use native.Mathlib.Omega.{arith}
use lib.Seq.{length-take-le}
use mathlib.Core.Path.{sym}
use Rattle.sheets.proofs.WritingLaws.{digits-so, count-put}
use Rattle.sheets.proofs.writes.put_count.Goals as goal

pub slice_bounds-digits-end : goal.slice_bounds-digits-end
slice_bounds-digits-end c = let w = digits-so c.args.n c.write-k.result _
    c.write-k.new.text (omega arith) c.write-k.ensures in
    omega (arith, w.most)

pub slice_bounds-copy-end : goal.slice_bounds-copy-end
slice_bounds-copy-end c = let w = digits-so c.args.n c.write-k.result _ c.write-k.new.text (omega arith)
    c.write-k.ensures in
    sym (length-take-le _ _ (omega (arith, w.most)))

pub overflow_add-e : goal.overflow_add-e
overflow_add-e c = let w = digits-so c.args.n c.write-k.result _ c.write-k.new.text (omega arith)
    c.write-k.ensures in
    omega (arith, w.most)

pub bounds-out-e : goal.bounds-out-e
bounds-out-e c = let w = digits-so c.args.n c.write-k.result _ c.write-k.new.text (omega arith)
    c.write-k.ensures in
    omega (arith, w.most)

pub overflow_add-result : goal.overflow_add-result
overflow_add-result c = let w = digits-so c.args.n c.write-k.result _ c.write-k.new.text (omega arith)
    c.write-k.ensures in
    omega (arith, w.most)

pub returns : goal.returns
returns c = let a = c.args in
    let w = digits-so a.n c.write-k.result _ c.write-k.new.text (omega arith)
    c.write-k.ensures in
    count-put a.n a.end a.at _ _ a.out.now _ (omega arith) w c.copy.ensures.0
    c.copy.ensures.1
