use Rattle.std.proofs.lemmas.Result.{err_from_is_err_and}
use Rattle.engine.specs.JudgesLaws.{text-refused}
use native.Mathlib.Omega.{arith}
use mathlib.Core.Path.{sym}
use lib.Seq.{length-take-le}
use Rattle.additions.specs.AnswersTurns.{line-fits, line-given, line-none}
use Rattle.additions.proofs.give.Goals as goal

pub slice_bounds-row-end : goal.slice_bounds-row-end
slice_bounds-row-end c = let t = c.take_text in
    omega (
      arith,
      line-fits c.args.s.now
          c.args.line.now t.result t.ensures.0
          c.in_ok-n.n c.in_ok-n.was,
    )

pub slice_bounds-give_octets-end : goal.slice_bounds-give_octets-end
slice_bounds-give_octets-end c = let t = c.take_text in
    sym (length-take-le _ _ (omega (
      arith,
      line-fits c.args.s.now
          c.args.line.now t.result
          t.ensures.0 c.in_ok-n.n c.in_ok-n.was,
    )))

pub returns : goal.returns
returns c = let a = c.args in
    let t = c.take_text in
    line-given a.s.now a.line.now t.result t.ensures.0 c.in_ok-n.n _
    t.new.out _ _ c.in_ok-n.was t.ensures.1 c.give_octets.ensures

pub returns-in_err-n : goal.returns-in_err-n
returns-in_err-n c = let a = c.args in
    let p = err_from_is_err_and c.from_residual.result c.from_residual.ensures.1 in
    rw (p.1, p.2, text-refused _ _ _ _ c.take_text.ensures.0 c.in_err-n.was) (
    line-none a.s.now a.line.now c.take_text.result c.take_text.ensures.0 _ c.in_err-n.was)
