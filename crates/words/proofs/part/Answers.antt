use Prim.Native.Nat.{ℕ, ◌+◌, ◌-◌}
use mathlib.Core.Path.{◌≡◌, ap, ◌∙◌}
use native.Mathlib.Omega.{arith}
use Rattle.words.specs.PiecesLaws.{part_in, part_out}
use lib.ListN.{take, drop}
use Rattle.words.proofs.part.Goals as goal

pub returns-then-len-from : goal.returns-then-len-from
returns-then-len-from c = part_out c.args.s.now c.args.from c.args.n
    (omega arith)

pub returns-then-len-from-2 : goal.returns-then-len-from-2
returns-then-len-from-2 c = part_out c.args.s.now c.args.from
    c.args.n (omega arith)

pub returns : goal.returns
returns c = let e : c.args.from + c.args.n -
    c.args.from ≡ c.args.n = omega arith in
    ap (λ (j : ℕ). take j (drop c.args.from c.args.s.now)) e
    ∙ part_in c.args.s.now c.args.from
    c.args.n (omega arith)
