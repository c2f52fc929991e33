use Prim.Native.Nat.{◌*◌}
use Rattle.ticks.specs.WrittenLaws.{told-stays, told-ends}
use Rattle.ticks.specs.TableLaws.{turn-room, silent-most, turn-stays, turn-ends}
use native.Mathlib.Omega.{arith}
use Rattle.model.specs.Layout.{pair_size}
use Rattle.ticks.proofs.tick_row.Goals as goal

pub overflow_cast-handle : goal.overflow_cast-handle
overflow_cast-handle c = omega (arith, c.slice_known-3-1.given (pair_size * c.args.i))

pub overflow_add-wrote : goal.overflow_add-wrote
overflow_add-wrote c = let a = c.args in
    let n = turn-room a.intervals.now a.periods.now a.filters.now a.prefix.now a.t.now
    a.out.now a.i a.kept a.at (omega arith) (omega arith) (omega arith)
    c.octet_at.ensures c.ticks-run.ensures c.octet_at-period.ensures
    c.get16.ensures c.stays.ensures
    (told-stays _ _ a.filters.now a.prefix.now _ c.if-stays.true c.tell_window.ensures) in
    omega (arith, n)

pub keep_row-requires : goal.keep_row-requires
keep_row-requires c = let a = c.args in
    let n = silent-most a.intervals.now a.periods.now a.filters.now a.prefix.now a.t.now
    a.out.now a.i a.kept a.at (omega arith) (omega arith) (omega arith)
    c.octet_at.ensures c.ticks-run.ensures c.octet_at-period.ensures
    c.get16.ensures c.stays.ensures
    (told-stays _ _ a.filters.now a.prefix.now _ c.if-stays.true c.tell_window.ensures) c.if-stays.true
    (omega (arith, c.ticks-run)) in
    (omega arith, omega arith, omega arith, n)

pub returns-then-stays : goal.returns-then-stays
returns-then-stays c = let a = c.args in
    turn-stays a.intervals.now a.periods.now a.filters.now a.prefix.now a.t.now a.out.now
    a.i a.kept a.at (omega arith) (omega arith) (omega arith) c.octet_at.ensures
    c.ticks-run.ensures c.octet_at-period.ensures c.get16.ensures c.stays.ensures
    (told-stays _ _ a.filters.now a.prefix.now _ c.if-stays.true c.tell_window.ensures) c.if-stays.true
    c.keep_row.ensures

pub overflow_add-wrote-2 : goal.overflow_add-wrote-2
overflow_add-wrote-2 c = let a = c.args in
    let n = turn-room a.intervals.now a.periods.now a.filters.now a.prefix.now a.t.now
    a.out.now a.i a.kept a.at (omega arith) (omega arith) (omega arith)
    c.octet_at.ensures c.ticks-run.ensures c.octet_at-period.ensures
    c.get16.ensures c.stays.ensures
    (told-ends _ c.octet_at-period.result a.filters.now a.prefix.now _ c.if-stays.false c.tell_stop.ensures) in
    omega (arith, n)

pub returns : goal.returns
returns c = let a = c.args in
    turn-ends a.intervals.now a.periods.now a.filters.now a.prefix.now a.t.now a.out.now a.i
    a.kept a.at (omega arith) (omega arith) (omega arith) c.octet_at.ensures
    c.ticks-run.ensures c.octet_at-period.ensures c.get16.ensures c.stays.ensures
    (told-ends _ c.octet_at-period.result a.filters.now a.prefix.now _ c.if-stays.false c.tell_stop.ensures)
    c.if-stays.false
