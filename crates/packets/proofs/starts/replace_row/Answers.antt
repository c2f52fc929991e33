use Rattle.std.proofs.Common.{ℕ, ◌+◌, ◌-◌, ◌*◌, List, length, take, drop, sym, ap, ◌∙◌, arith, le-leb}
use Rattle.model.specs.Layout.{most_pairs, pair_size, pairs_at}
use Rattle.laws.specs.TestsLaws.{and_both}
use Rattle.laws.specs.Put.{put}
use Rattle.laws.specs.PutLaws.{put-if-true}
use Rattle.packets.specs.News.{start_row}
use Rattle.packets.proofs.starts.replace_row.Goals as goal

pub returns : goal.returns
returns c = let a = c.args in
    let s : List ℕ = a.s.now in
    let to : ℕ = pairs_at + pair_size * a.i in
    let from : ℕ = pairs_at + pair_size * (a.i + 1) in
    let n : ℕ = pair_size * (most_pairs - 1 - a.i) in
    c.start_row.ensures
    ∙ ap (λ (l : List ℕ). put l (pairs_at + pair_size * (most_pairs - 1)) (start_row a.key a.rssi))
    (c.shift.ensures.1
    ∙ sym (put-if-true s to (take n (drop from s))
    (c.shift.ensures.0
    ∙ and_both (le-leb to from (omega arith)) (le-leb (from + n) (length s) (omega arith)))))
