use Rattle.std.proofs.Common.{◌≡◌, length, set, ◌∙◌, arith, length-set}
use Rattle.twin.specs.PairRowsLaws.{data-short, latest-none, latest-some}
use Rattle.twin.proofs.image.put_latest.Goals as goal

pub returns-in_default : goal.returns-in_default
returns-in_default c = rw c.in_default.is (latest-none c.args.t.now c.args.none c.args.row.now c.requires.0)

pub data_of-data-requires : goal.data_of-data-requires
data_of-data-requires c = rw c.in-Some.is at c.requires.1

pub event_of-requires : goal.event_of-requires
event_of-requires c = rw c.in-Some.is at c.requires.1

pub overflow_cast-row : goal.overflow_cast-row
overflow_cast-row c = let n = rw c.in-Some.is at c.requires.1 in
    let k = data-short c.args.t.now c.in-Some.r c.data_of-data.result.now n c.data_of-data.ensures in
    omega (arith, k)

pub shape_of-row : goal.shape_of-row
shape_of-row c = let j : length (set (set c.args.row.now 24 c.event_of.result) 25
    (length c.data_of-data.result.now)) ≡ length c.args.row.now = simp length-set in
    c.copy.auto.out ∙ j

pub returns : goal.returns
returns c = let n = rw c.in-Some.is at c.requires.1 in
    rw c.in-Some.is
    (latest-some c.args.t.now c.in-Some.r c.args.none c.event_of.result
    c.args.row.now c.data_of-data.result.now c.requires.0
    (data-short c.args.t.now c.in-Some.r c.data_of-data.result.now n c.data_of-data.ensures)
    c.event_of.ensures c.data_of-data.ensures c.copy.ensures)
