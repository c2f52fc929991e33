use Rattle.std.proofs.Common.{refl, arith}
use Rattle.packets.specs.StartsLaws.{start-low}
use Rattle.packets.proofs.starts.start_new.Goals as goal

pub returns-then-n-lt-PAIRS : goal.returns-then-n-lt-PAIRS
returns-then-n-lt-PAIRS c = (
  omega arith,
  c.start_free-wrote.ensures.0,
  c.start_free-wrote.ensures.1 (omega arith),
  omega arith,
  λ m p x h w q. c.start_free-wrote.ensures.2 m p x h w q (omega arith),
)

pub returns-then-level_of-weak : goal.returns-then-level_of-weak
returns-then-level_of-weak c = let a = c.args in
    let z = c.weakest-weak in (
      omega arith,
      omega arith,
      refl,
      omega arith,
      λ m p x h w q.
          start-low m a.s.now a.n p x h w a.out.now a.at
          c.if-n-lt-PAIRS.false z.result.at z.ensures.1
          (rw (← q.rssi, ← c.level_of.ensures, ← z.ensures.2) c.if-level_of-weak.true),
    )

pub returns : goal.returns
returns c = let a = c.args in
    let z = c.weakest-weak in (
      omega arith,
      c.start_full-wrote.ensures.0,
      c.start_full-wrote.ensures.1,
      omega arith,
      λ m p x h w q.
          c.start_full-wrote.ensures.2 m p a.n x h w q c.if-n-lt-PAIRS.false z.ensures.1 (rw (
            ← z.ensures.2,
            ←
                c.level_of.ensures,
          ) c.if-level_of-weak.false),
    )
