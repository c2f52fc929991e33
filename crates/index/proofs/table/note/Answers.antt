use Prim.Native.Nat.{◌+◌}
use native.Mathlib.Omega.{arith}
use mathlib.Core.Path.{sym, ap, ◌∙◌, subst}
use Rattle.index.specs.Table.{Tabled, with_entry, with_bit}
use Rattle.index.specs.FoundLaws.{noted-new, noted-old}
use Rattle.index.proofs.table.note.Goals as goal

pub returns-then-j-k : goal.returns-then-j-k
returns-then-j-k c = (
  omega arith,
  λ es d w s e. subst (λ x. Tabled x (c.args.k + 1) c.put_entry.new.table)
      (ap (with_entry es d) c.bit_of-bit.ensures
      ∙ sym (noted-new d c.args.h s es c.args.k c.args.table.now w e c.place-j.ensures.1
      c.if-j-k.true)) (c.put_entry.ensures es d w s e),
)

pub returns : goal.returns
returns c = (
  omega arith,
  λ es d w s e. subst (λ x. Tabled x c.args.k c.put_bit.new.table)
      (ap (with_bit es c.place-j.result) c.bit_of-bit.ensures
      ∙ sym (noted-old d c.args.h s es c.args.k c.args.table.now w e
      c.place-j.ensures.1 (omega arith)))
      (c.put_bit.ensures es c.args.k w (omega arith)),
)
