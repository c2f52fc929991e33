use Rattle.twin.specs.MarksLaws.{is-above, marked-looks, not-above}
use Rattle.twin.specs.StartsLaws.{all-at, below-pairs, but-place, rest-push, rest-whole}
use Rattle.twin.specs.Seen.{begun_at, but_at, list_of}
use Rattle.std.proofs.Common.{◌+◌, refl, inl, inr}
use Rattle.twin.proofs.turns.join.Goals as goal

pub returns-then-seen-lt-PAIRS : goal.returns-then-seen-lt-PAIRS
returns-then-seen-lt-PAIRS c = let s = c.args.seen in
    let v = c.requires.2 in
    inl
    (record {
      few = c.if-seen-lt-PAIRS.true;
      deed = refl;
      rest = rw c.push.ensures
          (rest-push s s (list_of s) c.args.b (rest-whole s v)
          c.if-seen-lt-PAIRS.true);
    })

pub level_at-requires : goal.level_at-requires
unfolding begun_at
level_at-requires c = let w = c.weakest-w.ensures.within in
    let s = c.args.seen in
    let v = c.requires.2 in
    marked-looks _ _ _ c.requires.0 (all-at s v _ _ c.requires.3 w)

pub returns-then-level_of-level_at : goal.returns-then-level_of-level_at
unfolding begun_at
returns-then-level_of-level_at c = inr (inl (record {
  at = c.weakest-w.result;
  weak = record {
    full = c.if-seen-lt-PAIRS.false;
    least = c.weakest-w.ensures;
  };
  above = not-above c.args.t.now
      c.args.i (c.args.i + 1) (begun_at c.args.seen
      c.weakest-w.result) _ _ _
      c.rssi_at.ensures c.level_of.ensures
      c.level_at.ensures c.if-level_of-level_at.true;
  deed = c.no_turn.ensures.1;
  seen = c.no_turn.ensures.0;
}))

pub push-requires-2 : goal.push-requires-2
push-requires-2 c = but-place c.weakest-w.result c.args.seen c.without_start.result c.requires.2
    c.weakest-w.ensures.within c.without_start.ensures

pub bounds-seen-w : goal.bounds-seen-w
bounds-seen-w c = below-pairs c.args.seen c.requires.2 _ c.weakest-w.ensures.within

pub without_start-requires : goal.without_start-requires
without_start-requires c = (c.requires.2, c.weakest-w.ensures.within)

pub returns : goal.returns
unfolding begun_at
returns c = let g = c.weakest-w.result in
    let s = c.args.seen in
    let x = c.without_start.result in
    inr (inr (record {
      at = g;
      weak = record {
        full = c.if-seen-lt-PAIRS.false;
        least = c.weakest-w.ensures;
      };
      above = is-above c.args.t.now
          c.args.i (c.args.i + 1) (begun_at c.args.seen
          c.weakest-w.result) _ _ _ c.rssi_at.ensures
          c.level_of.ensures c.level_at.ensures c.if-level_of-level_at.false;
      deed = refl;
      rest = rw c.push-2.ensures
          (rest-push s x (but_at g (list_of s)) c.args.b c.without_start.ensures
          (but-place g s x c.requires.2 c.weakest-w.ensures.within
          c.without_start.ensures));
    }))
