use Rattle.twin.specs.EventsLaws.{window-empty, window-barred, window-put, window-some, data-few}
use Rattle.twin.specs.NumberedLaws.{start-added}
use Rattle.twin.specs.HearsLaws.{start-part}
use Rattle.std.proofs.Common.{arith}
use Rattle.twin.proofs.answers.put_window.Goals as goal

pub returns-in_default : goal.returns-in_default
returns-in_default c = let w = rw c.in_default.is at c.window_of-w.ensures in
    (omega arith, λ h. window-empty c.args.t.now c.args.a c.args.k c.args.i _ _ w c.args.out.now c.args.at h)

pub allows-requires : goal.allows-requires
allows-requires c = (
  start-added c.args.t.now c.args.a c.args.k c.requires.0.start,
  rw c.in-Some.is at c.window_of-w.ensures.number.sent,
)

pub returns-then-not-allows : goal.returns-then-not-allows
returns-then-not-allows c = let w = rw c.in-Some.is at c.window_of-w.ensures in (
  omega arith,
  λ h. window-barred c.args.t.now c.args.a c.args.k c.args.i _ _ c.in-Some.last w h c.args.out.now c.args.at
      c.allows.ensures (c.if-not-allows.true),
)

pub mean_of-mean-requires : goal.mean_of-mean-requires
mean_of-mean-requires c = let w = rw c.in-Some.is at c.window_of-w.ensures in
    window-some c.args.t.now c.args.a c.args.k c.args.i _ _ c.in-Some.last w

pub event_of-requires : goal.event_of-requires
event_of-requires c = rw c.in-Some.is at c.window_of-w.ensures.number.sent

pub slice_bounds-put_report-end : goal.slice_bounds-put_report-end
slice_bounds-put_report-end c = omega (
  arith,
  start-part
      c.args.t.now c.args.a c.args.k 0 _ c.requires.0.start
      c.payload_at-d.ensures,
)

pub data_of-requires : goal.data_of-requires
data_of-requires c = rw c.in-Some.is at c.window_of-w.ensures.number.sent

pub returns : goal.returns
returns c = let w = rw c.in-Some.is at c.window_of-w.ensures in
    let n = rw c.in-Some.is at c.window_of-w.ensures.number.sent in
    window-put c.args.t.now c.args.a c.args.k c.args.i _ _ c.in-Some.last w
    c.args.out.now c.args.at c.requires.1
    c.allows.ensures (c.if-not-allows.false)
    c.event_of.ensures c.payload_at-d.ensures
    (start-part c.args.t.now c.args.a c.args.k 0 _ c.requires.0.start
    c.payload_at-d.ensures) c.data_of.ensures
    (data-few c.args.t.now _ n c.data_of.ensures)
    c.mean_of-mean.ensures c.requires.2 c.put_report.ensures
