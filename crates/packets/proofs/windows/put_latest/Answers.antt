use Rattle.std.proofs.Common.{◌≡◌, ℕ, ◌+◌, ◌-◌, List, length, get_or, take, drop, set, replicate, ap, ◌∙◌, arith, length-drop, length-set, length-take-le}
use Rattle.packets.specs.WindowsLaws.{latest-written}
use Rattle.laws.specs.PutLaws.{put_of}
use Rattle.model.specs.Layout.{most_data}
use Rattle.packets.proofs.windows.put_latest.Goals as goal

pub bounds-s-at-2 : goal.bounds-s-at-2
bounds-s-at-2 c = simp length-set (omega arith)

pub shape_of-s : goal.shape_of-s
shape_of-s c = let a = c.args in
    let l : List ℕ = a.payload.now in
    let b : List ℕ = set (set a.s.now a.at (get_or l 0 0)) (a.at + 1) (get_or l 8 0) in
    let j : length b ≡ length a.s.now = simp length-set in
    c.fill.auto.out ∙ c.copy.auto.out ∙ j

pub returns : goal.returns
returns c = let a = c.args in
    let s : List ℕ = a.s.now in
    let l : List ℕ = a.payload.now in
    let n : ℕ = c.wide-n.result in
    let f : 9 + n - 9 ≡ get_or l 8 0 = omega (
      arith,
      c.wide-n.ensures.0,
    ) in
    let d : List ℕ = take (9 + n - 9) (drop 9 l) in
    let b : List ℕ = set (set s a.at (get_or l 0 0)) (a.at + 1) (get_or l 8 0) in
    let j : length b ≡ length s = simp length-set in
    let k3 : length c.copy.new.out ≡ length b = c.copy.auto.out in
    let k9 : length (drop 9 l) ≡ length l - 9 = length-drop 9 l in
    let ld : length d ≡ 9 + n - 9 = length-take-le (9 + n - 9) (drop 9 l) (omega (
      arith,
      c.requires.1.0,
    )) in
    latest-written s l a.at n c.requires.0 c.requires.1 c.wide-n.ensures.0
    (ap (λ (i : ℕ). take i (drop 9 l)) f) (put_of b (a.at + 2) d (length d) (length b)
    c.copy.ensures.0 (omega (
      arith,
      c.requires.0,
      c.requires.1.1,
    )) c.copy.ensures.1) (put_of c.copy.new.out (a.at + 2 + n)
    (replicate (most_data - n) 0) (most_data - n) (length c.copy.new.out)
    c.fill.ensures.0 (omega (
      arith,
      c.requires.0,
      c.requires.1.1,
      c.wide-n.ensures.0,
    )) c.fill.ensures.1)
