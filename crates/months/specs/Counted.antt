-- An engine that counts: its state and sixteen rows. Document 02, T-09: the same frame, answer and state as without
-- rows; "12, a total would pass 64 bits .., comes last", "leaves state and rows unchanged". Definitions over any
-- engine, and what they give.
use Rattle.std.specs.Prelude.{ℕ, List, [], eqb}
use Rattle.std.proofs.Math.Option.{Option, none, some}
use Rattle.laws.specs.Tests.{pick}
use Rattle.totals.specs.declared.Row.{Row}
use Rattle.totals.specs.Two.{every_two, map_two}
use Rattle.totals.specs.Table.{passes, table_rows, row_fits, row_sum}
use Rattle.sessions.specs.Machine.{Machine, Outcome, refused, done}

-- a state with the rows counted so far
pub record Tallied (S : Type 0) : Type 0 where
  pub state : S
  pub rows : List Row

-- what an outcome is with the rows d that the frame adds to the rows l: refused as it was, or by 12 where a total
-- would pass 64 bits
unfoldable pub tally : {S : Type 0} → List Row → List Row → Outcome S → Outcome (Tallied S)
tally l d (refused n) = refused n
tally l d (done t a) =
    pick (every_two row_fits l d) (done (record { state = t; rows = map_two row_sum l d }) a) (refused passes)

-- "Refusals: 3 also for a table not of sixteen rows": what is lent with one is too short
unfoldable pub lent_with : ℕ → ℕ → ℕ
lent_with n lent = pick (eqb n table_rows) lent 0

module _ (M : Machine) (adds : M.S → M.Body → List Row) where
  -- a frame with the next number: what the engine does, counted
  unfoldable pub count_act : Tallied M.S → M.Body → Outcome (Tallied M.S)
  count_act x b = tally x.rows (adds x.state b) (M.act x.state b)

  -- the image is the state's alone
  unfoldable pub with_rows : Option M.S → Option (Tallied M.S)
  with_rows none = none
  with_rows (some s) = some (record { state = s; rows = [] })

  -- the engine that counts; its refusals are checked in the order 7, 3, 4, 1, 2, 5, 6, 12
  abbrev pub counted : Machine
  counted =
      record {
        S = Tallied M.S;
        Body = M.Body;
        pos = λ x. M.pos x.state;
        sound = λ x. M.sound x.state;
        read = M.read;
        write = M.write;
        act = count_act;
        encode = λ x. M.encode x.state;
        decode = λ t. with_rows (M.decode t);
      }
