use Rattle.std.proofs.Common.{◌≡◌, ℕ, ◌+◌, ◌-◌, get_or, take, drop, refl, ap, arith}
use Rattle.twin.specs.HeardLaws.{condition-asked, type-in}
use Rattle.twin.proofs.heard.meets.Goals as goal

pub overflow_add-from : goal.overflow_add-from
overflow_add-from c = let k = type-in c.args.params.now c.type_at-at.result c.requires.0
    c.type_at-at.ensures in
    omega (arith, k)

pub bounds-params-at : goal.bounds-params-at
bounds-params-at c = let k = type-in c.args.params.now c.type_at-at.result c.requires.0
    c.type_at-at.ensures in
    omega (arith, k)

pub slice_bounds-match_packet-count : goal.slice_bounds-match_packet-count
slice_bounds-match_packet-count c = let k = type-in c.args.params.now c.type_at-at.result c.requires.0
    c.type_at-at.ensures in
    omega (arith, k)

pub slice_bounds-match_packet-start : goal.slice_bounds-match_packet-start
slice_bounds-match_packet-start c = let k = type-in c.args.params.now c.type_at-at.result c.requires.0
    c.type_at-at.ensures in
    omega (arith, k)

pub returns : goal.returns
returns c = let a = c.args in
    let w = c.wide-end in
    let j : 9 + w.result - 9 ≡ get_or a.payload.now 8 0 = omega (arith, w.ensures.0) in
    condition-asked a.params.now a.payload.now _ _ c.type_at-at.ensures c.requires.1
    c.scan_at-scan.ensures refl refl (ap (λ (i : ℕ). take i (drop 9 a.payload.now)) j) refl
    c.match_packet.ensures
