use Rattle.snapshots.specs.StoredLaws.{placed-line, placed-none}
use Rattle.model.specs.Layout.{line_row}
use Rattle.reader.specs.PairsLaws.{leading-within}
use mathlib.Core.Path.{sym, ◌∙◌}
use native.Mathlib.Omega.{arith}
use Rattle.snapshots.proofs.store_text.Goals as goal

pub overflow_mul-e : goal.overflow_mul-e
overflow_mul-e c = omega (
  arith,
  c.read_pairs-k.ensures.0,
  leading-within
      c.args.text.now
      c.args.at
      line_row,
)

pub overflow_add-e : goal.overflow_add-e
overflow_add-e c = omega (
  arith,
  c.read_pairs-k.ensures.0,
  leading-within
      c.args.text.now
      c.args.at
      line_row,
)

pub overflow_add-result : goal.overflow_add-result
overflow_add-result c = omega (
  arith,
  c.read_pairs-k.ensures.0,
  leading-within
      c.args.text.now c.args.at line_row,
)

pub returns-then-is_end : goal.returns-then-is_end
returns-then-is_end c = let a = c.args in
    placed-line a.text.now a.at a.s.now c.read_pairs-k.result
    c.read_pairs-k.ensures.0 c.read_pairs-k.ensures.1
    (sym c.is_end.ensures ∙ c.if-is_end.true) c.store_line.ensures

pub returns : goal.returns
returns c = let a = c.args in
    placed-none a.text.now a.at a.s.now c.read_pairs-k.result
    c.read_pairs-k.ensures.0 (omega arith) (sym c.is_end.ensures ∙ c.if-is_end.false)
