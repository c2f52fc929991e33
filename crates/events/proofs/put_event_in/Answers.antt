use lib.ListN.{length-take, length-drop}
use Prim.Native.Nat.{ℕ}
use lib.ListN.{take, drop}
use Prim.Native.Nat.{◌+◌}
use lib.ListN.{length, set, length-set}
use Rattle.events.specs.WrittenLaws.{event-written, kept-twice}
use Rattle.laws.specs.PutLaws.{put_of}
use mathlib.Core.Path.{◌≡◌}
use lib.ListN.{length, length-set}
use native.Mathlib.Omega.{arith}
use Rattle.events.proofs.put_event_in.Goals as goal

pub bounds-out-at-2 : goal.bounds-out-at-2
bounds-out-at-2 c = simp length-set (omega arith)

pub bounds-out-at-3 : goal.bounds-out-at-3
bounds-out-at-3 c = let a = c.args in
    let k : length c.copy.new.out ≡ length
    (set (set a.out.now a.at 255) (a.at + 1)
    (10 + length a.prefix.now)) = c.copy.auto.out in
    let j : length (set (set a.out.now a.at 255) (a.at + 1) (10 + length a.prefix.now)) ≡ length
    a.out.now = simp length-set in
    omega arith

pub bounds-out-at-4 : goal.bounds-out-at-4
bounds-out-at-4 c = let a = c.args in
    let x = c.copy in
    let y = c.copy-2 in
    let e = kept-twice a.out.now a.at (length a.prefix.now) x.new.out y.new.out x.auto.out
    y.auto.out in
    omega (arith, e)

pub bounds-out-at-5 : goal.bounds-out-at-5
bounds-out-at-5 c = let a = c.args in
    let x = c.copy in
    let y = c.copy-2 in
    let e = kept-twice a.out.now a.at (length a.prefix.now) x.new.out y.new.out x.auto.out
    y.auto.out in
    simp length-set (omega (arith, e))

pub shape_of-out : goal.shape_of-out
shape_of-out c = let a = c.args in
    let x = c.copy in
    let y = c.copy-2 in
    let e = kept-twice a.out.now a.at (length a.prefix.now) x.new.out y.new.out x.auto.out
    y.auto.out in
    simp length-set (omega (arith, e))

pub returns : goal.returns
returns c = let a = c.args in
    let n : ℕ = length a.prefix.now in
    let b = set (set a.out.now a.at 255) (a.at + 1) (10 + length a.prefix.now) in
    let d = set c.copy.new.out (a.at + 2 + n) 2 in
    let j : length (set (set a.out.now a.at 255) (a.at + 1) (10 + length a.prefix.now)) ≡ length
    a.out.now = simp length-set in
    let k : length c.copy.new.out ≡ length b = c.copy.auto.out in
    let h : length d ≡ length c.copy.new.out = simp length-set in
    let g : length (take 7 (drop 1 a.row.now)) ≡ 7 = simp (length-take, length-drop) (omega arith) in
    event-written a.out.now a.at a.prefix.now a.row.now a.state (omega arith) (omega arith)
    (put_of b (a.at + 2) a.prefix.now n (length b) c.copy.ensures.0 (omega arith)
    c.copy.ensures.1)
    (put_of d (a.at + 3 + n) (take 7 (drop 1 a.row.now)) (length (take 7 (drop 1 a.row.now))) (length d)
    c.copy-2.ensures.0 (omega arith) c.copy-2.ensures.1)
