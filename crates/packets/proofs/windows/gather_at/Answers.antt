use Rattle.std.proofs.Common.{◌≡◌, ℕ, ◌+◌, ◌-◌, ◌≤◌, List, length, get_or, set, refl, ◌∙◌, arith, length-set}
use Rattle.packets.specs.WindowsLaws.{window-written}
use Rattle.octets.specs.NumbersLaws.{number-of}
use Rattle.octets.specs.Little.{octets_of}
use Rattle.laws.specs.PutLaws.{put_of}
use Rattle.model.specs.Layout.{window_size}
use Rattle.packets.proofs.windows.gather_at.Goals as goal

pub put_latest-requires : goal.put_latest-requires
put_latest-requires c = let k1 : length c.put32.new.out ≡ length c.args.s.now = c.put32.auto.out in
    let k2 : length c.put64.new.out ≡ length
    c.put32.new.out = c.put64.auto.out in
    let g : c.args.at + window_size ≤ length c.args.s.now = c.requires.0 in (
      simp length-set (omega arith),
      c.requires.1,
    )

pub shape_of-s : goal.shape_of-s
shape_of-s c = let a = c.args in
    let l : List ℕ = a.payload.now in
    let b : List ℕ = set c.put64.new.out (a.at + 12) (get_or l (length l - 1) 0) in
    let j : length b ≡ length c.put64.new.out = simp length-set in
    c.put_latest.auto.s ∙ j ∙ c.put64.auto.out ∙ c.put32.auto.out

pub returns : goal.returns
returns c = let a = c.args in
    let s : List ℕ = a.s.now in
    let l : List ℕ = a.payload.now in
    let k1 : length c.put32.new.out ≡ length s = c.put32.auto.out in
    let g3 : a.at + window_size ≤ length s = c.requires.0 in
    window-written s l a.at g3 c.requires.1 (number-of 4 s a.at c.get32-count.ensures (omega arith))
    (number-of 8 s (a.at + 4) c.get64-sum.ensures (omega arith))
    refl c.extend.ensures refl
    (put_of s a.at (octets_of 4 _) 4 (length s)
    c.put32.ensures.0 (omega arith) c.put32.ensures.1)
    (put_of c.put32.new.out (a.at + 4) (octets_of 8 _) 8
    (length c.put32.new.out) c.put64.ensures.0 (omega arith)
    c.put64.ensures.1) c.put_latest.ensures
