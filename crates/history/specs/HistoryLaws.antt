-- The history rule holds of the core engine: after every past the pairs held are those that the rule puts under watch,
-- each once, in the order of their latest starts, with the ticks since the last good packet (document 01, Watching, by
-- history). The statement is the crate rule's Claim; this file ends the proof. Assumes nothing.
use Rattle.std.specs.Prelude.{List}
use Rattle.rule.specs.BaseLaws.{ordered-map}
use Rattle.rule.specs.Radio.{Radio, Frame}
use Rattle.rule.specs.Rule.{InOrder}
use Rattle.rule.specs.Engine.{Pair, key, run}
use Rattle.rule.specs.Claim.{Counted, ByHistory}
use Rattle.rule.proofs.FitsLaws.{run_fits}
use Rattle.history.specs.OldLaws.{Watch}
use Rattle.history.specs.HeldLaws.{holds_agree}
use Rattle.history.specs.CasesLaws.{under-watch}
use Rattle.history.specs.OrderLaws.{holds, order}
use Rattle.history.specs.LatestLaws.{watch-latest}

-- The count of a pair under watch.
watch-counted : (R : Radio) (past : List (Frame R)) (q : Pair R) → Watch R past q.0 q.1 q.2 q.3
    → Counted R past q
watch-counted R past q w = record {
  mon = w.mon;
  age = w.age;
  back = w.back;
  live = w.live;
  since = w.since;
  latest = watch-latest R past q.0 q.1 q.2 q.3 w;
  unbroken = w.unbroken;
  stored = w.stored;
  level = w.level;
}

-- For every past.
pub history : (R : Radio) (past : List (Frame R)) → ByHistory R past (run R past).pairs
history R past = record {
  exactly = holds_agree R past (run R past).pairs (holds R past);
  once = (run_fits R past).once;
  starts = λ h e i.
      let w = under-watch R past h e ((holds_agree R past (run R past).pairs (holds R past) h e).0 i) in
      (w.2.back, watch-latest R past h e w.0 w.1 w.2);
  ordered = ordered-map (InOrder R past) (key R) (run R past).pairs (order R past);
  counted = λ q i. watch-counted R past q ((holds R past).to q i);
}
