use mathlib.Core.Path.{refl}
use native.Mathlib.Omega.{arith}
use lib.ListN.{get_or}
use Prim.Native.Nat.{◌%◌}
use Rattle.counts.specs.SearchLaws.{met-other, met-high, met-own}
use Rattle.counts.proofs.packet.is_met.Goals as goal

pub returns-then-key-dev : goal.returns-then-key-dev
returns-then-key-dev c = let a = c.args in
    λ m p s i w g e. met-other m s i p a.acts.now a.dev a.key w g e c.if-key-dev.true

pub returns-then-h-ge-MONITORS : goal.returns-then-h-ge-MONITORS
returns-then-h-ge-MONITORS c = let a = c.args in
    λ m p s i w g e. met-high m s i p a.acts.now a.dev a.key w g e (omega arith)

pub returns : goal.returns
returns c = let a = c.args in
    λ m p s i w g e. met-own m s i p a.acts.now a.dev a.key w g e (get_or a.acts.now (a.key % 256) 0)
    c.if-key-dev.false refl
