use Rattle.std.proofs.Common.{◌≡◌, ℕ, ◌+◌, ◌*◌, List, length, set, replicate, refl, ◌∙◌, arith, length-set}
use Rattle.model.specs.Layout.{pair_size, pairs_at, rssi_at}
use Rattle.laws.specs.Put.{put}
use Rattle.laws.specs.PutLaws.{put_of}
use Rattle.octets.specs.Little.{octets_of}
use Rattle.packets.specs.NewsLaws.{start-written}
use Rattle.packets.proofs.starts.start_row.Goals as goal

pub shape_of-s : goal.shape_of-s
shape_of-s c = let a = c.args in
    let b : List ℕ = set c.put64.new.out (pairs_at + pair_size * a.i + rssi_at) a.rssi in
    let j : length b ≡ length c.put64.new.out = simp length-set in
    let k1 : length c.fill.new.out ≡ length a.s.now = c.fill.auto.out in
    let k2 : length c.put64.new.out ≡ length
    c.fill.new.out = c.put64.auto.out in
    j ∙ k2 ∙ k1

pub returns : goal.returns
returns c = let a = c.args in
    let s : List ℕ = a.s.now in
    let at : ℕ = pairs_at + pair_size * a.i in
    let u : List ℕ = c.fill.new.out in
    let k : length u ≡ length s = c.fill.auto.out in
    let wa : u ≡ put s at (replicate pair_size 0) = put_of s at (replicate pair_size 0) pair_size (length s)
    c.fill.ensures.0 (omega arith) c.fill.ensures.1 in
    let wb : c.put64.new.out ≡ put u at (octets_of 8 a.key) = put_of u at (octets_of 8 a.key) 8
    (length u) c.put64.ensures.0 (omega arith) c.put64.ensures.1 in
    start-written s at a.key a.rssi (omega arith) wa wb refl
