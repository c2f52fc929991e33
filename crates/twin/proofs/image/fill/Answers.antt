use Rattle.model.specs.Layout.{count_at}
use Rattle.std.proofs.Common.{◌≡◌, length, set, ◌∙◌, arith, length-set}
use Rattle.twin.specs.FilledLaws.{filled, shows-names}
use Rattle.twin.proofs.image.fill.Goals as goal

pub put_monitors-requires : goal.put_monitors-requires
put_monitors-requires c = let j : length (set c.put32.new.out 4 c.after_all-seen.result.filter) ≡ length
    c.put32.new.out = simp length-set in
    let e = j ∙ c.put32.auto.out in (
      omega (
        arith,
        e,
        c.requires.0,
      ),
      shows-names
          c.args.t.now c.args.n _ c.after_all-seen.result
          c.after_all-seen.ensures.shows,
    )

pub put_pairs-requires : goal.put_pairs-requires
put_pairs-requires c = let j : length (set c.put32.new.out 4 c.after_all-seen.result.filter) ≡ length
    c.put32.new.out = simp length-set in
    let e = c.put_monitors.auto.b ∙ j ∙ c.put32.auto.out in (
      omega (
        arith,
        e,
        c.requires.0,
      ),
      c.requires.1,
      c.after_all-seen.ensures.shows.held,
      c.after_all-seen.ensures.shows.marks,
    )

pub bounds-b-5224 : goal.bounds-b-5224
bounds-b-5224 c = let j : length (set c.put32.new.out 4 c.after_all-seen.result.filter) ≡ length
    c.put32.new.out = simp length-set in
    let e = c.put_pairs.auto.b ∙ c.put_monitors.auto.b ∙ j
    ∙ c.put32.auto.out in
    omega (
      arith,
      e,
      c.requires.0,
    )

pub shape_of-b : goal.shape_of-b
shape_of-b c = let j : length (set c.put32.new.out 4 c.after_all-seen.result.filter) ≡ length
    c.put32.new.out = simp length-set in
    let i : length (set c.put_pairs.new.b count_at c.after_all-seen.result.count) ≡
    length c.put_pairs.new.b = simp length-set in
    i ∙ c.put_pairs.auto.b ∙ c.put_monitors.auto.b ∙ j
    ∙ c.put32.auto.out

pub returns : goal.returns
returns c = filled c.args.t.now c.args.n c.after_all-seen.result c.args.b.now
    c.after_all-seen.ensures c.requires.0 c.put32.ensures
    c.put_monitors.ensures c.put_pairs.ensures
