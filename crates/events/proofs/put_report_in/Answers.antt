use Rattle.events.specs.WrittenLaws.{report-written}
use Rattle.laws.specs.PutLaws.{put_of}
use mathlib.Core.List.{List}
use mathlib.Core.Path.{◌≡◌}
use lib.ListN.{length, set, length-set}
use Prim.Native.Nat.{ℕ, ◌+◌}
use native.Mathlib.Omega.{arith}
use Rattle.events.proofs.put_report_in.Goals as goal

pub bounds-out-at-2 : goal.bounds-out-at-2
bounds-out-at-2 c = simp length-set (omega arith)

pub bounds-out-at-3 : goal.bounds-out-at-3
bounds-out-at-3 c = simp length-set (omega arith)

pub bounds-out-at-4 : goal.bounds-out-at-4
bounds-out-at-4 c = simp length-set (omega arith)

pub bounds-out-at-5 : goal.bounds-out-at-5
bounds-out-at-5 c = simp length-set (omega arith)

pub bounds-out-at-6 : goal.bounds-out-at-6
bounds-out-at-6 c = let a = c.args in
    let b : List ℕ = set (set (set (set (set a.out.now a.at 62) (a.at + 1) (12 + length a.adv.now))
    (a.at + 2) 2) (a.at + 3) 1) (a.at + 4) a.event in
    let j : length b ≡ length a.out.now = simp length-set in
    let k : length c.copy.new.out ≡ length b = c.copy.auto.out in
    omega arith

pub bounds-out-at-7 : goal.bounds-out-at-7
bounds-out-at-7 c = let a = c.args in
    let n : ℕ = length a.adv.now in
    let b : List ℕ = set (set (set (set (set a.out.now a.at 62) (a.at + 1) (12 + length a.adv.now))
    (a.at + 2) 2) (a.at + 3) 1) (a.at + 4) a.event in
    let d : List ℕ = set c.copy.new.out (a.at + 12) n in
    let j : length b ≡ length a.out.now = simp length-set in
    let k : length c.copy.new.out ≡ length b = c.copy.auto.out in
    let h : length d ≡ length c.copy.new.out = simp length-set in
    let i : length c.copy-2.new.out ≡ length d = c.copy-2.auto.out in
    omega arith

pub shape_of-out : goal.shape_of-out
shape_of-out c = let a = c.args in
    let n : ℕ = length a.adv.now in
    let b : List ℕ = set (set (set (set (set a.out.now a.at 62) (a.at + 1) (12 + length a.adv.now))
    (a.at + 2) 2) (a.at + 3) 1) (a.at + 4) a.event in
    let d : List ℕ = set c.copy.new.out (a.at + 12) n in
    let j : length b ≡ length a.out.now = simp length-set in
    let k : length c.copy.new.out ≡ length b = c.copy.auto.out in
    let h : length d ≡ length c.copy.new.out = simp length-set in
    let i : length c.copy-2.new.out ≡ length d = c.copy-2.auto.out in
    simp length-set (omega arith)

pub returns : goal.returns
returns c = let a = c.args in
    let n : ℕ = length a.adv.now in
    let b : List ℕ = set (set (set (set (set a.out.now a.at 62) (a.at + 1) (12 + length a.adv.now))
    (a.at + 2) 2) (a.at + 3) 1) (a.at + 4) a.event in
    let d : List ℕ = set c.copy.new.out (a.at + 12) n in
    let j : length b ≡ length a.out.now = simp length-set in
    let k : length c.copy.new.out ≡ length b = c.copy.auto.out in
    let h : length d ≡ length c.copy.new.out = simp length-set in
    let i : length c.copy-2.new.out ≡ length d = c.copy-2.auto.out in
    report-written a.out.now a.at a.event a.device.now a.adv.now a.rssi (omega arith)
    (omega arith) (put_of b (a.at + 5) a.device.now (length a.device.now) (length b)
    c.copy.ensures.0 (omega arith) c.copy.ensures.1)
    (put_of d (a.at + 13) a.adv.now n (length d) c.copy-2.ensures.0 (omega arith)
    c.copy-2.ensures.1)
