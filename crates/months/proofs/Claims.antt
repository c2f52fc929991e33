-- T-09's claim: the rows after any list of calls, refused ones too, are the rows of before and those of the frames
-- that it executed. Over any engine whose states have document 01's in them. Assumes nothing.
use Rattle.std.specs.Prelude.{ℕ, zero, suc, ◌+◌, ◌≡◌, Bool, not, cond, eqb, leb, ltb, length, replicate}
use Rattle.std.proofs.Math.Path.{refl, sym, ap}
use Rattle.std.proofs.Common.{◌∙◌, arith}
use Rattle.std.proofs.Math.Bool.{true, false}
use Rattle.std.proofs.lemmas.Bool.{false≢true}
use mathlib.Core.List.{List, [], ◌∷◌, ◌++◌, map}
use Rattle.std.proofs.Math.Option.{Option, none, some}
use Rattle.laws.specs.Tests.{pick}
use Rattle.laws.specs.Loops.{up_to}
use Rattle.totals.specs.declared.Row.{Row}
use Rattle.totals.specs.Two.{every_two, map_two}
use Rattle.totals.specs.TwoLaws.{length-map-two}
use Rattle.totals.specs.Table.{empty, passes, table_rows, row_fits, row_sum}
use Rattle.totals.proofs.JoinLaws.{sum-empty, sum_comm}
use Rattle.sessions.specs.Machine.{Machine, Form, text, Line, Outcome, refused, done, answer_room, save_room}
use Rattle.sessions.specs.Session.{refuse_if, state_after, Call, give, save, Entry, entries, judge, answer, image, reply, after, ran, walk, trace}
use Rattle.sessions.proofs.RefusalsLaws.{save-leaves}
use Rattle.sessions.specs.Saved.{Replayed, resume, with_answer, replay_lines}
use Rattle.model.specs.Types.{Model}
use Rattle.model.specs.Layout.{most_monitors}
use Rattle.model.specs.Frames.{Body, typed}
use Rattle.months.specs.Counts.{rows_added, row_in}
use Rattle.months.specs.Month.{next, adds_of, month, after_all}
use Rattle.months.proofs.MonthLaws.{month-none, month-more}
use Rattle.months.specs.Tables.{table_of}
use Rattle.months.specs.TablesLaws.{length-table, tables-assoc}
use Rattle.months.specs.Counted.{Tallied, tally, counted, count_act}
use Rattle.months.proofs.CountedLaws.{answer-same, adds_read}
use Rattle.months.specs.Counting.{no_rows, counting, Tally, at}

-- an empty table changes nothing, on either side
pub tables-empty : (l : List Row) (n : ℕ) → length l ≡ n → map_two row_sum l (replicate n empty) ≡ l
unfolding map_two
tables-empty [] zero e = refl
tables-empty [] (suc n) e = absurd (omega arith)
tables-empty (r ∷ l) zero e = absurd (omega arith)
tables-empty (r ∷ l) (suc n) e =
    ap (λ (x : Row). x ∷ map_two row_sum l (replicate n empty)) (sum-empty r)
    ∙ ap (λ (x : List Row). r ∷ x) (tables-empty l n (omega arith))

pub empty-tables : (l : List Row) (n : ℕ) → length l ≡ n → map_two row_sum (replicate n empty) l ≡ l
unfolding map_two
empty-tables [] zero e = refl
empty-tables [] (suc n) e = absurd (omega arith)
empty-tables (r ∷ l) zero e = absurd (omega arith)
empty-tables (r ∷ l) (suc n) e =
    ap (λ (x : Row). x ∷ map_two row_sum (replicate n empty) l) (sum_comm empty r ∙ sum-empty r)
    ∙ ap (λ (x : List Row). r ∷ x) (empty-tables l n (omega arith))

none_is : table_of (λ h. empty) most_monitors ≡ no_rows
unfolding table_of up_to
none_is = refl

pub length-adds : (m : Model) (b : Body) → length (rows_added m b) ≡ table_rows
unfolding rows_added table_of
length-adds m b = length-table (row_in m (typed b)) most_monitors

is_done : {S : Type 0} → Outcome S → Bool
is_done (refused n) = false
is_done (done t a) = true

module _ (M : Machine) (core : M.S → Model) (body : M.Body → Body) where
  -- the frames that a list of calls executes
  unfoldable pub bodies : (Tally M core body) → List Call → List M.Body
  bodies x cs = map (λ e. e.line.body) (trace (counting M core body) x cs)

  pub month-empty : (l : List Row) (s : M.S) → length l ≡ table_rows → map_two row_sum l (month M core body s []) ≡ l
  month-empty l s n = ap (map_two row_sum l) (month-none M core body s ∙ none_is) ∙ tables-empty l table_rows n

  pub length-counted : (l : List Row) (s : M.S) (b : M.Body) → length l ≡ table_rows
      → length (map_two row_sum l (adds_of M core body s b)) ≡ table_rows
  unfolding adds_of
  length-counted l s b n =
      length-map-two row_sum l (rows_added (core s) (body b)) (n ∙ sym (length-adds (core s) (body b))) ∙ n

  -- an executed frame takes a state to the next
  pub act-next : (s t : M.S) (b : M.Body) (a : List ℕ) → M.act s b ≡ done t a → t ≡ next M core body s b
  unfolding next state_after
  act-next s t b a e = sym (ap (state_after s) e)

  -- What a call does to a state with rows: nothing, or one frame more.
  pub data Did (x : (Tally M core body)) (c : Call) : Type 0 where
    nothing : after (counting M core body) x c ≡ x → ran (counting M core body) x c ≡ [] → Did x c
    frame : (y : Line M.Body) (a : List ℕ)
        → every_two row_fits x.rows (adds_of M core body x.state y.body) ≡ true
        → after (counting M core body) x c
        ≡ (at M core body) (next M core body x.state y.body)
        (map_two row_sum x.rows (adds_of M core body x.state y.body))
        → ran (counting M core body) x c ≡ record { line = y; wrote = a } ∷ [] → Did x c

  -- a frame that is executed was read, and acts
  pub record Acts (s t : M.S) (a : List ℕ) (o : Option (Line M.Body)) : Type 0 where
    pub line : Line M.Body
    pub is : o ≡ some line
    pub acts : M.act s line.body ≡ done t a

  judged : (s t : M.S) (a : List ℕ) (o : Option (Line M.Body)) → judge M s o ≡ done t a → Acts s t a o
  unfolding judge refuse_if is_done
  judged s t a none e = absurd (false≢true (ap is_done e))
  judged s t a (some y) e = go (leb y.num (M.pos s)) (ltb (suc (M.pos s)) y.num) e
    where
      go : (u v : Bool) → refuse_if u 1 (refuse_if v 2 (M.act s y.body)) ≡ done t a → Acts s t a (some y)
      go true v q = absurd (false≢true (ap is_done q))
      go false true q = absurd (false≢true (ap is_done q))
      go false false q = record { line = y; is = refl; acts = q }

  pub answer-acts : (lent : ℕ) (s t : M.S) (w : Form) (r a : List ℕ) → answer M lent s w r ≡ done t a
      → Acts s t a (M.read w r)
  unfolding answer refuse_if is_done
  answer-acts lent s t w r a e = go (not (M.sound s)) (ltb lent answer_room) e
    where
      go : (u v : Bool) → refuse_if u 7 (refuse_if v 3 (judge M s (M.read w r))) ≡ done t a → Acts s t a (M.read w r)
      go true v q = absurd (false≢true (ap is_done q))
      go false true q = absurd (false≢true (ap is_done q))
      go false false q = judged s t a (M.read w r) q

  -- a frame given
  given : (lent : ℕ) (x : (Tally M core body)) (w : Form) (r : List ℕ) → Did x (give lent w r)
  unfolding after reply ran state_after entries adds_read pick tally
  given lent x w r = go (answer M lent x.state w r) refl
    where
      o : Option (Line M.Body)
      o = M.read w r

      d : List Row
      d = adds_read M (adds_of M core body) x.state o

      same : answer (counting M core body) lent x w r ≡ tally x.rows d (answer M lent x.state w r)
      same = answer-same M (adds_of M core body) x.state x.rows lent w r

      idle : (n : ℕ) → answer (counting M core body) lent x w r ≡ refused n → Did x (give lent w r)
      idle n e = nothing (ap (state_after x) e) (ap (entries o) e ∙ none_of o)
        where
          none_of : (u : Option (Line M.Body)) → entries {S = (Tally M core body)} u (refused n) ≡ []
          none_of none = refl
          none_of (some y) = refl

      took : (t : M.S) (a : List ℕ) (z : Acts x.state t a o) (b : Bool) → every_two row_fits x.rows d ≡ b
          → answer (counting M core body) lent x w r
          ≡ pick b (done ((at M core body) t (map_two row_sum x.rows d)) a) (refused passes)
          → Did x (give lent w r)
      took t a z false f e = idle passes e
      took t a z true f e =
          let i : d ≡ adds_of M core body x.state z.line.body =
          ap (adds_read M (adds_of M core body) x.state) z.is in
          let u : t ≡ next M core body x.state z.line.body = act-next x.state t z.line.body a
          z.acts in
          frame z.line a (ap (every_two row_fits x.rows) (sym i) ∙ f)
          (ap (state_after x) e ∙ ap (λ (k : List Row). (at M core body) t (map_two row_sum x.rows k)) i
          ∙ ap (λ (k : M.S). (at M core body) k
          (map_two row_sum x.rows (adds_of M core body x.state z.line.body))) u)
          (ap (entries o) e
          ∙ ap (λ (k : Option (Line M.Body)). entries k
          (done ((at M core body) t (map_two row_sum x.rows d)) a)) z.is)

      go : (p : Outcome M.S) → answer M lent x.state w r ≡ p → Did x (give lent w r)
      go (refused n) e = idle n (same ∙ ap (tally x.rows d) e)
      go (done t a) e =
          took t a (answer-acts lent x.state t w r a e) (every_two row_fits x.rows d) refl
          (same ∙ ap (tally x.rows d) e)

  pub did : (x : (Tally M core body)) (c : Call) → Did x c
  unfolding ran
  did x (give lent w r) = given lent x w r
  did x (save lent) = nothing (save-leaves (counting M core body) lent x) refl

  -- THE CLAIM: after any list of calls the state is that after the frames executed, and the rows are those of before
  -- with the month's.
  pub rows-after : (x : (Tally M core body)) (cs : List Call) → length x.rows ≡ table_rows
      → walk (counting M core body) x cs
      ≡ (at M core body) (after_all M core body x.state (bodies x cs))
      (map_two row_sum x.rows (month M core body x.state (bodies x cs)))
  unfolding walk trace bodies after_all
  rows-after x [] n = ap ((at M core body) x.state) (sym (month-empty x.rows x.state n))
  rows-after x (c ∷ cs) n =
      go (λ y k. rows-after y cs k) (after (counting M core body) x c) (ran (counting M core body) x c) refl refl
      (did x c)
    where
      Goal : (Tally M core body) → List (Entry M.Body) → Type 0
      Goal y es =
          walk (counting M core body) y cs
          ≡ (at M core body)
          (after_all M core body x.state (map (λ e. e.line.body) (es ++ trace (counting M core body) y cs)))
          (map_two row_sum x.rows
          (month M core body x.state (map (λ e. e.line.body) (es ++ trace (counting M core body) y cs))))

      Later : Type 0
      Later = (y : (Tally M core body)) → length y.rows ≡ table_rows
          → walk (counting M core body) y cs
          ≡ (at M core body) (after_all M core body y.state (bodies y cs))
          (map_two row_sum y.rows (month M core body y.state (bodies y cs)))

      go : Later → (y : (Tally M core body)) (es : List (Entry M.Body)) → after (counting M core body) x c ≡ y
          → ran (counting M core body) x c ≡ es → Did x c → Goal y es
      go ih y es p q (nothing h k) = rw (sym q ∙ k, sym p ∙ h) (ih x n)
      go ih y es p q (frame z a f h k) =
          let b : M.Body = z.body in
          let t : M.S = next M core body x.state b in
          let l : List Row = map_two row_sum x.rows (adds_of M core body x.state b) in
          let u : (Tally M core body) = (at M core body) t l in
          let bs : List M.Body = bodies u cs in
          rw (sym q ∙ k, sym p ∙ h) (
          ih u (length-counted x.rows x.state b n)
          ∙ ap ((at M core body) (after_all M core body t bs))
          (tables-assoc x.rows (adds_of M core body x.state b) (month M core body t bs)
          ∙ ap (map_two row_sum x.rows) (sym (month-more M core body x.state b bs))))
