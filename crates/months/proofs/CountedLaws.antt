-- Laws of the definitions in Counted.
use Rattle.std.specs.Prelude.{ℕ, suc, ◌≡◌, Bool, not, List, [], leb, ltb, length}
use Rattle.std.proofs.Math.Path.{refl, ap}
use Rattle.std.proofs.Common.{◌∙◌, eq-eqb}
use Rattle.std.proofs.Math.Bool.{true, false}
use Rattle.std.proofs.Math.Option.{Option, none, some}
use Rattle.laws.specs.TestsLaws.{pick_true}
use Rattle.totals.specs.declared.Row.{Row}
use Rattle.totals.specs.Table.{table_rows}
use Rattle.sessions.specs.Machine.{Machine, Form, Line, Outcome, answer_room}
use Rattle.sessions.specs.Session.{refuse_if, judge, answer}
use Rattle.months.specs.Counted.{Tallied, tally, lent_with, count_act, counted}

module _ (M : Machine) (adds : M.S → M.Body → List Row) where
  -- a frame given with a table of rows
  unfoldable pub count_answer : ℕ → M.S → List Row → Form → List ℕ → Outcome (Tallied M.S)
  count_answer lent s l w r = answer (counted M adds) (lent_with (length l) lent) (record { state = s; rows = l }) w r

  -- what a frame as it was read adds
  unfoldable pub adds_read : M.S → Option (Line M.Body) → List Row
  adds_read s none = []
  adds_read s (some x) = adds s x.body

  module _ (s : M.S) (l : List Row) where
    abbrev here : Tallied M.S
    here = record { state = s; rows = l }

    -- "the same frame, answer and state as without rows"
    tally-if : (b : Bool) (n : ℕ) (d : List Row) (o : Outcome M.S)
        → refuse_if b n (tally l d o) ≡ tally l d (refuse_if b n o)
    unfolding refuse_if tally
    tally-if true n d o = refl
    tally-if false n d o = refl

    judge-same : (o : Option (Line M.Body)) → judge (counted M adds) here o ≡ tally l (adds_read s o) (judge M s o)
    unfolding judge adds_read tally count_act
    judge-same none = refl
    judge-same (some x) =
        ap (refuse_if (leb x.num (M.pos s)) 1)
        (tally-if (ltb (suc (M.pos s)) x.num) 2 (adds s x.body) (M.act s x.body))
        ∙ tally-if (leb x.num (M.pos s)) 1 (adds s x.body)
        (refuse_if (ltb (suc (M.pos s)) x.num) 2 (M.act s x.body))

    pub answer-same : (lent : ℕ) (w : Form) (r : List ℕ)
        → answer (counted M adds) lent here w r ≡ tally l (adds_read s (M.read w r)) (answer M lent s w r)
    unfolding answer
    answer-same lent w r =
        ap (λ o. refuse_if (not (M.sound s)) 7 (refuse_if (ltb lent answer_room) 3 o)) (judge-same (M.read w r))
        ∙ ap (refuse_if (not (M.sound s)) 7)
        (tally-if (ltb lent answer_room) 3 (adds_read s (M.read w r)) (judge M s (M.read w r)))
        ∙ tally-if (not (M.sound s)) 7 (adds_read s (M.read w r))
        (refuse_if (ltb lent answer_room) 3 (judge M s (M.read w r)))

    pub count_same : (lent : ℕ) (w : Form) (r : List ℕ)
        → count_answer lent s l w r ≡ tally l (adds_read s (M.read w r)) (answer M (lent_with (length l) lent) s w r)
    unfolding count_answer
    count_same lent w r = answer-same (lent_with (length l) lent) w r

    -- a table of sixteen rows takes nothing from the output lent
    pub count-sixteen : (lent : ℕ) (w : Form) (r : List ℕ) → length l ≡ table_rows
        → count_answer lent s l w r ≡ answer (counted M adds) lent here w r
    unfolding count_answer lent_with
    count-sixteen lent w r e =
        ap (λ (n : ℕ). answer (counted M adds) n here w r) (pick_true lent 0 (eq-eqb (length l) table_rows e))
