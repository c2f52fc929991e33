use native.Mathlib.Omega.{arith}
use lib.ListN.{length-take}
use Rattle.save.specs.TextLaws.{length-head_text}
use Rattle.snapshots.specs.Saved.{core_of}
use Rattle.snapshots.specs.SavedLaws.{head-put, room-left, image-put, saved-most}
use Rattle.snapshots.proofs.put_image.Goals as goal

pub slice_bounds-save_head-end : goal.slice_bounds-save_head-end
slice_bounds-save_head-end c = simp length-take (omega arith)

pub put_lines-b-requires : goal.put_lines-b-requires
put_lines-b-requires c = let w = c.save_head-a in
    let h = (head-put c.args.s.now c.args.out.now c.requires.0 c.requires.1 w.ensures.0
    w.ensures.1).0 in
    let k = length-head_text (core_of c.args.s.now) in
    let j = w.auto.out in
    (c.requires.0, omega arith)

pub slice_bounds-save_rest-end : goal.slice_bounds-save_rest-end
slice_bounds-save_rest-end c = simp length-take (omega arith)

pub slice_bounds-save_rest-count : goal.slice_bounds-save_rest-count
slice_bounds-save_rest-count c = let w = c.save_head-a in
    let v = c.put_lines-b in
    let h = head-put c.args.s.now c.args.out.now c.requires.0 c.requires.1 w.ensures.0 w.ensures.1 in
    let r = room-left c.args.s.now c.args.out.now c.requires.0 c.requires.1 h.0 h.1 v.ensures.0
    v.ensures.1 in
    let i = r.1 in
    let j = r.2 in
    omega arith

pub slice_bounds-save_rest-start : goal.slice_bounds-save_rest-start
slice_bounds-save_rest-start c = let w = c.save_head-a in
    let v = c.put_lines-b in
    let h = head-put c.args.s.now c.args.out.now c.requires.0 c.requires.1 w.ensures.0 w.ensures.1 in
    let r = room-left c.args.s.now c.args.out.now c.requires.0 c.requires.1 h.0 h.1 v.ensures.0
    v.ensures.1 in
    let i = r.1 in
    let j = r.2 in
    omega arith

pub overflow_add-result : goal.overflow_add-result
overflow_add-result c = let w = c.save_head-a in
    let v = c.put_lines-b in
    let h = head-put c.args.s.now c.args.out.now c.requires.0 c.requires.1 w.ensures.0 w.ensures.1 in
    let r = room-left c.args.s.now c.args.out.now c.requires.0 c.requires.1 h.0 h.1 v.ensures.0
    v.ensures.1 in
    let e = (image-put c.args.s.now c.args.out.now c.requires.0 c.requires.1 h.0 h.1 v.ensures.0
    v.ensures.1 c.save_rest-n.ensures.0 c.save_rest-n.ensures.1).0 in
    let m = saved-most c.args.s.now in
    omega arith

pub returns : goal.returns
returns c = let w = c.save_head-a in
    let v = c.put_lines-b in
    let h = head-put c.args.s.now c.args.out.now c.requires.0 c.requires.1 w.ensures.0 w.ensures.1 in
    let r = room-left c.args.s.now c.args.out.now c.requires.0 c.requires.1 h.0 h.1 v.ensures.0
    v.ensures.1 in
    image-put c.args.s.now c.args.out.now c.requires.0 c.requires.1 h.0 h.1 v.ensures.0
    v.ensures.1 c.save_rest-n.ensures.0 c.save_rest-n.ensures.1
