use Rattle.twin.specs.FiltersLaws.{added-adds}
use Rattle.std.proofs.Common.{refl, arith}
use Rattle.twin.specs.MonitorRowsLaws.{place_none, place-some, sized-short}
use Rattle.twin.proofs.image.monitor_row.Goals as goal

pub returns-then-a-eq0 : goal.returns-then-a-eq0
returns-then-a-eq0 c = place_none c.args.t.now c.args.h c.args.a
    c.if-a-eq0.true

pub params_of-params-requires : goal.params_of-params-requires
params_of-params-requires c = let n = c.requires (let z = c.if-a-eq0.false in omega (arith, z)) in
    (n.added.monitor, n.added.commands)

pub put_settings-requires : goal.put_settings-requires
put_settings-requires c = let n = c.requires (let z = c.if-a-eq0.false in omega (arith, z)) in (
  refl,
  added-adds
      c.args.t.now c.args.a _ n.added
      c.params_of-params.ensures,
  sized-short c.args.t.now
      c.args.a _ n.sized c.params_of-params.ensures,
)

pub put_added-requires : goal.put_added-requires
put_added-requires c = let n = c.requires (let z = c.if-a-eq0.false in omega (arith, z)) in (
  c.put_settings.auto.row,
  added-adds
      c.args.t.now c.args.a _ n.added c.params_of-params.ensures,
)

pub returns : goal.returns
returns c = let n = c.requires (let z = c.if-a-eq0.false in omega (arith, z)) in
    place-some c.args.t.now c.args.h c.args.a _ c.if-a-eq0.false n.sized
    c.params_of-params.ensures c.put_settings.ensures c.put_added.ensures
