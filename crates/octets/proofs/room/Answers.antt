use mathlib.Core.Path.{sym, ◌∙◌}
use Rattle.laws.specs.TestsLaws.{cases-le}
use borrow.Author.Tests.{le-leb, lt-leb}
use Prim.Native.Nat.{◌+◌, ◌-◌}
use native.Mathlib.Omega.{arith}
use Rattle.octets.proofs.room.Goals as goal

pub returns-then-k-len : goal.returns-then-k-len
returns-then-k-len c = let a = c.args in
    cases-le a.at (a.len - a.k)
    (λ h. le-leb a.at (a.len - a.k) h ∙ sym (le-leb (a.at + a.k) a.len (omega arith)))
    (λ h. lt-leb a.at (a.len - a.k) h ∙ sym (lt-leb (a.at + a.k) a.len (omega arith)))

pub returns : goal.returns
returns c = let a = c.args in sym (lt-leb (a.at + a.k) a.len (omega arith))
