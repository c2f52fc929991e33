use Rattle.laws.specs.Put.{put_if}
use Rattle.parts.specs.PartsLaws.{put-mid}
use borrow.Author.Tests.{leb-true}
use mathlib.Core.Path.{sym, ◌∙◌, refl, ◌≡◌}
use Rattle.std.proofs.Common.{rules}
use native.Mathlib.Omega.{arith}
use Prim.Native.Nat.{◌+◌, ◌-◌, ◌≤◌}
use lib.ListN.{length, take, drop, replicate}
use Rattle.std.proofs.lemmas.List.{length-replicate}
use Rattle.std.proofs.Common.{length-take-le, length-drop}
use Rattle.parts.proofs.fill.Goals as goal

pub returns-then-room : goal.returns-then-room
unfolding put_if
returns-then-room c = let a = c.args in
    let h : a.at + a.n ≤ length a.out.now = leb-true _ _ (sym c.room.ensures ∙ c.if-room.true) in
    let k : a.at + a.n - a.at ≡ a.n = omega arith in
    let d : length (drop a.at a.out.now) ≡ length a.out.now - a.at = length-drop a.at a.out.now in
    let n : length (take (a.at + a.n - a.at) (drop a.at a.out.now)) ≡ a.n =
    rw k (length-take-le a.n (drop a.at a.out.now) (omega arith)) in
    let l : length (replicate a.n a.v) ≡ a.n = length-replicate a.n a.v in (
      sym c.if-room.true
          ∙ c.room.ensures,
      rw (c.fill.ensures.after (λ y e. search rules), n) (put-mid a.out.now a.at _ (replicate a.n a.v) (omega arith)),
    )

pub returns : goal.returns
unfolding put_if
returns c = (sym c.if-room.false ∙ c.room.ensures, refl)
