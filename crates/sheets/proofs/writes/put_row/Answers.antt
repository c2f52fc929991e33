use native.Mathlib.Omega.{arith}
use Rattle.sheets.proofs.WritingLaws.{count_most, row_put_lem}
use Rattle.sheets.proofs.writes.put_row.Goals as goal

pub put_count-b-requires : goal.put_count-b-requires
put_count-b-requires c = let a = c.args in
    let h = count_most a.h 44 in
    let k = c.put_count-a.ensures.0 in
    let l = c.put_count-a.auto.out in
    omega (arith, h, k, l)

pub put_count-c-requires : goal.put_count-c-requires
put_count-c-requires c = let a = c.args in
    let h = count_most a.h 44 in
    let p = count_most a.r.packets 44 in
    let k = c.put_count-a.ensures.0 in
    let l = c.put_count-a.auto.out in
    let k2 = c.put_count-b.ensures.0 in
    let l2 = c.put_count-b.auto.out in
    omega (arith, h, p, k, l, k2, l2)

pub put_count-d-requires : goal.put_count-d-requires
put_count-d-requires c = let a = c.args in
    let h = count_most a.h 44 in
    let p = count_most a.r.packets 44 in
    let q = count_most a.r.reports 44 in
    let k = c.put_count-a.ensures.0 in
    let l = c.put_count-a.auto.out in
    let k2 = c.put_count-b.ensures.0 in
    let l2 = c.put_count-b.auto.out in
    let k3 = c.put_count-c.ensures.0 in
    let l3 = c.put_count-c.auto.out in
    omega (arith, h, p, q, k, l, k2, l2, k3, l3)

pub put_sum-requires : goal.put_sum-requires
put_sum-requires c = let a = c.args in
    let h = count_most a.h 44 in
    let p = count_most a.r.packets 44 in
    let q = count_most a.r.reports 44 in
    let t = count_most a.r.ticks 44 in
    let k = c.put_count-a.ensures.0 in
    let l = c.put_count-a.auto.out in
    let k2 = c.put_count-b.ensures.0 in
    let l2 = c.put_count-b.auto.out in
    let k3 = c.put_count-c.ensures.0 in
    let l3 = c.put_count-c.auto.out in
    let k4 = c.put_count-d.ensures.0 in
    let l4 = c.put_count-d.auto.out in
    omega (arith, h, p, q, t, k, l, k2, l2, k3, l3, k4, l4)

pub returns : goal.returns
returns c = let a = c.args in
    row_put_lem a.h a.r a.out.now a.at (omega arith) c.put_count-a.ensures
    c.put_count-b.ensures c.put_count-c.ensures
    c.put_count-d.ensures (omega arith) c.put_sum.ensures
