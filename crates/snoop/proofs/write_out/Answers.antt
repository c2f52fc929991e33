use Rattle.std.proofs.Common.{◌≡◌, length, sym, arith, length-take-le, rules}
use Rattle.snoop.proofs.write_out.Goals as goal

pub slice_bounds-image-end : goal.slice_bounds-image-end
slice_bounds-image-end c = let r = c.last_two-names.result in
    let l : length r.image ≡ 4096 = search rules in
    omega (arith, l)

pub slice_bounds-follow-end : goal.slice_bounds-follow-end
slice_bounds-follow-end c = let r = c.last_two-names.result in
    let l : length r.image ≡ 4096 = search rules in
    sym (length-take-le _ _ (omega (arith, l)))

pub slice_bounds-journal-end : goal.slice_bounds-journal-end
slice_bounds-journal-end c = let r = c.last_two-names.result in
    let l : length r.journal ≡ 4096 = search rules in
    omega (arith, l)

pub slice_bounds-follow-end-2 : goal.slice_bounds-follow-end-2
slice_bounds-follow-end-2 c = let r = c.last_two-names.result in
    let l : length r.journal ≡ 4096 = search rules in
    sym (length-take-le _ _ (omega (arith, l)))
