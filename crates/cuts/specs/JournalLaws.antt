-- A journal's rows (document 02, T-09): those of the frames that it executed, and, from empty rows, never refused by
-- 12. Over any engine whose states have document 01's in them. Assumes nothing.
use Rattle.std.specs.Prelude.{ℕ, zero, suc, ◌+◌, ◌≤◌, ◌<◌, ◌≡◌, Bool, false, cond, eqb}
use Rattle.std.proofs.Math.Path.{refl, ap, subst}
use Rattle.std.proofs.Common.{sym, ◌∙◌}
use Rattle.std.proofs.Math.Bool.{true}
use mathlib.Core.List.{List, [], ◌∷◌, ◌++◌, map}
use Rattle.std.proofs.Math.Option.{Option, none, some}
use Rattle.std.proofs.Math.ListN.{length}
use Rattle.laws.specs.Tests.{pick}
use Rattle.laws.specs.TestsLaws.{pick_true}
use Rattle.totals.specs.declared.Row.{Row}
use Rattle.totals.specs.Two.{every_two, map_two}
use Rattle.totals.specs.Table.{table_rows, row_fits, row_sum}
use Rattle.sessions.specs.Machine.{Machine, text, Line, Outcome, refused, done}
use Rattle.sessions.specs.Session.{Entry, entries, answer}
use Rattle.sessions.specs.Saved.{Replayed, resume, with_answer, replay_lines}
use Rattle.model.specs.Types.{Model}
use Rattle.model.specs.Frames.{Body}
use Rattle.model.specs.Sound.{sound_model}
use Rattle.failover.specs.Demand3.{replay_adds as adds_entries, ran_in}
use Rattle.failover.proofs.ProofLaws.{AsCalls, as-calls}
use Rattle.months.specs.Month.{next, adds_of, month, after_all}
use Rattle.months.proofs.MonthLaws.{month-more}
use Rattle.months.specs.TablesLaws.{tables-assoc}
use Rattle.months.specs.Counted.{Tallied, tally}
use Rattle.months.proofs.CountedLaws.{answer-same, adds_read}
use Rattle.months.specs.Counting.{counting, at}
use Rattle.months.proofs.Claims.{bodies, rows-after, month-empty, length-counted, act-next, Acts, answer-acts}
use Rattle.cuts.specs.BoundsLaws.{AllIn, sums-in, adds-in, next_fits}

-- What is asked of an engine and of document 01's state in its states: it is sound where they are, and an executed
-- line leaves a sound state, one position further.
pub record Goes (M : Machine) (core : M.S → Model) : Type 0 where
  pub good : (s : M.S) → M.sound s ≡ true → sound_model (core s) ≡ true
  pub keeps : (k : ℕ) (s t : M.S) (raw a : List ℕ) → M.sound s ≡ true → answer M k s text raw ≡ done t a
      → M.sound t ≡ true
  pub moves : (k : ℕ) (s t : M.S) (raw a : List ℕ) → M.sound s ≡ true → answer M k s text raw ≡ done t a
      → (core t).position ≡ (core s).position + 1

module _ (M : Machine) (core : M.S → Model) (body : M.Body → Body) where
  -- the engine with rows, and its states
  abbrev C : Machine
  C = counting M core body

  abbrev T : Type 0
  T = Tallied M.S

  abbrev with_rows_lem : M.S → List Row → T
  with_rows_lem = at M core body

  -- T-09 over a journal's lines: seen ones are skipped and count nothing, the first other refusal ends it, and the
  -- rows are those of the frames that it executed
  pub journal-rows : (lent : ℕ → ℕ) (x : T) (ls : List (List ℕ)) → length x.rows ≡ table_rows
      → (replay_lines C lent x ls).state
      ≡ with_rows_lem (after_all M core body x.state (map (λ e. e.line.body) (ran_in C lent x ls)))
      (map_two row_sum x.rows (month M core body x.state (map (λ e. e.line.body) (ran_in C lent x ls))))
  unfolding bodies
  journal-rows lent x ls n =
      let c : AsCalls C x (replay_lines C lent x ls) (ran_in C lent x ls) = as-calls C lent x ls in
      c.1 ∙ rows-after M core body x c.0 n
      ∙ ap (λ (es : List (Entry M.Body)). with_rows_lem (after_all M core body x.state (map (λ e. e.line.body) es))
      (map_two row_sum x.rows (month M core body x.state (map (λ e. e.line.body) es)))) (sym c.2)

  -- what a journal reaches, with the rows that it counted
  unfoldable pub with : List Row → Replayed M.S → Replayed T
  with l r = record { state = with_rows_lem r.state l; answers = r.answers; stop = r.stop }

  -- the frames of a journal
  unfoldable pub frames_in : (ℕ → ℕ) → M.S → List (List ℕ) → List M.Body
  frames_in lent s ls = map (λ e. e.line.body) (ran_in M lent s ls)

  module _ (G : Goes M core) where
    -- one line: executed or not, rows within the position leave it as it is without rows
    module _ (k : ℕ) (s : M.S) (l : List Row) (raw : List ℕ) (e : M.sound s ≡ true)
        (p : AllIn (core s).position l) where
      -- what is executed is counted
      line-done : (t : M.S) (a : List ℕ) (z : Acts M core body s t a (M.read text raw))
          → answer M k s text raw ≡ done t a
          → answer C k (with_rows_lem s l) text raw
          ≡ done (with_rows_lem t (map_two row_sum l (adds_of M core body s z.line.body))) a
      unfolding tally adds_read adds_of
      line-done t a z q =
          answer-same M (adds_of M core body) s l k text raw
          ∙ ap (tally l (adds_read M (adds_of M core body) s (M.read text raw))) q
          ∙ ap (λ (o : Option (Line M.Body)). tally l (adds_read M (adds_of M core body) s o) (done t a)) z.is
          ∙ pick_true _ _ (next_fits (core s) (body z.line.body) l (G.good s e) p)

      line_refused : (n : ℕ) → answer M k s text raw ≡ refused n → answer C k (with_rows_lem s l) text raw ≡ refused n
      unfolding tally
      line_refused n q =
          answer-same M (adds_of M core body) s l k text raw
          ∙ ap (tally l (adds_read M (adds_of M core body) s (M.read text raw))) q

    -- an executed line: the state after it is sound, the rows are within its position, and those of further frames
    -- come behind its own
    record Step (s t : M.S) (l : List Row) (b : M.Body) (bs : List M.Body) : Type 0 where
      good : M.sound t ≡ true
      within : AllIn (core t).position (map_two row_sum l (adds_of M core body s b))
      reached : t ≡ next M core body s b
      rows : map_two row_sum (map_two row_sum l (adds_of M core body s b)) (month M core body t bs)
          ≡ map_two row_sum l (month M core body s (b ∷ bs))

    step : (k : ℕ) (s t : M.S) (a raw : List ℕ) (l : List Row) (bs : List M.Body) → M.sound s ≡ true
        → AllIn (core s).position l
        → (z : Acts M core body s t a (M.read text raw)) → answer M k s text raw ≡ done t a
        → Step s t l z.line.body bs
    unfolding adds_of
    step k s t a raw l bs e p z q =
        let b : M.Body = z.line.body in
        let r : t ≡ next M core body s b = act-next M core body s t b a z.acts in
        record {
          good = G.keeps k s t raw a e q;
          within = subst (λ (i : ℕ). AllIn i (map_two row_sum l (adds_of M core body s b)))
              (sym (G.moves k s t raw a e q))
              (sums-in (core s).position 1 l (adds_of M core body s b) p (adds-in (core s) (body b) (G.good s e)));
          reached = r;
          rows = tables-assoc l (adds_of M core body s b) (month M core body t bs)
              ∙ ap (λ (y : M.S). map_two row_sum l (map_two row_sum (adds_of M core body s b) (month M core body y bs))) r
              ∙ ap (map_two row_sum l) (sym (month-more M core body s b bs));
        }

    -- THE JOURNAL WITHOUT ROWS AND WITH THEM: rows within the position are never refused by 12; what is reached,
    -- answered and refused is as without rows, and the rows are those of the frames executed. Rows that begin empty
    -- are within every position.
    pub counts_all : (lent : ℕ → ℕ) (s : M.S) (l : List Row) (ls : List (List ℕ)) → M.sound s ≡ true
        → AllIn (core s).position l
        → length l ≡ table_rows
        → replay_lines C lent (with_rows_lem s l) ls
        ≡ with (map_two row_sum l (month M core body s (frames_in lent s ls))) (replay_lines M lent s ls)
    unfolding replay_lines ran_in frames_in with resume with_answer adds_entries entries
    counts_all lent s l [] e p n =
        ap (λ (k : List Row). record { state = with_rows_lem s k; answers = []; stop = none })
        (sym (month-empty M core body l s n))
    counts_all lent s l (raw ∷ ls) e p n =
        go (λ t k. counts_all (λ i. lent (suc i)) t k ls) (answer M (lent zero) s text raw) refl
      where
        Later : Type 0
        Later = (t : M.S) (k : List Row) → M.sound t ≡ true → AllIn (core t).position k → length k ≡ table_rows
            → replay_lines C (λ i. lent (suc i)) (with_rows_lem t k) ls
            ≡ with (map_two row_sum k (month M core body t (frames_in (λ i. lent (suc i)) t ls)))
            (replay_lines M (λ i. lent (suc i)) t ls)

        Goal : Outcome T → Outcome M.S → Type 0
        Goal u v =
            resume (with_rows_lem s l) u (λ t. replay_lines C (λ i. lent (suc i)) t ls)
            ≡ with (map_two row_sum l (month M core body s (map (λ e. e.line.body)
            (adds_entries s (M.read text raw) v (λ t. ran_in M (λ i. lent (suc i)) t ls)))))
            (resume s v (λ t. replay_lines M (λ i. lent (suc i)) t ls))

        go : Later → (v : Outcome M.S) → answer M (lent zero) s text raw ≡ v
            → Goal (answer C (lent zero) (with_rows_lem s l) text raw) v
        go ih (refused j) q =
            ap (λ (u : Outcome T). resume (with_rows_lem s l) u (λ t. replay_lines C (λ i. lent (suc i)) t ls))
            (line_refused (lent zero) s l raw e p j q) ∙ ended (eqb j 1)
          where
            ended : (b : Bool)
                → cond b (replay_lines C (λ i. lent (suc i)) (with_rows_lem s l) ls)
                (record { state = with_rows_lem s l; answers = []; stop = some j })
                ≡ with (map_two row_sum l
                (month M core body s (map (λ e. e.line.body) (cond b (ran_in M (λ i. lent (suc i)) s ls) []))))
                (cond b (replay_lines M (λ i. lent (suc i)) s ls) (record { state = s; answers = []; stop = some j }))
            ended true = ih s l e p n
            ended false = ap (λ (k : List Row). record { state = with_rows_lem s k; answers = []; stop = some j })
                (sym (month-empty M core body l s n))
        go ih (done t a) q =
            let z : Acts M core body s t a (M.read text raw) = answer-acts M core body (lent zero) s t text raw a q in
            let b : M.Body = z.line.body in
            let k : List Row = map_two row_sum l (adds_of M core body s b) in
            let bs : List M.Body = frames_in (λ i. lent (suc i)) t ls in
            let x : Step s t l b bs = step (lent zero) s t a raw l bs e p z q in
            ap (λ (u : Outcome T). resume (with_rows_lem s l) u (λ t. replay_lines C (λ i. lent (suc i)) t ls))
            (line-done (lent zero) s l raw e p t a z q)
            ∙ ap (with_answer a) (ih t k x.good x.within (length-counted M core body l s b n))
            ∙ ap (λ (c : List Row). with_answer a (with c (replay_lines M (λ i. lent (suc i)) t ls))) x.rows
            ∙ ap (λ (o : Option (Line M.Body)). with (map_two row_sum l (month M core body s (map (λ e. e.line.body)
            (entries o (done t a) ++ ran_in M (λ i. lent (suc i)) t ls))))
            (with_answer a (replay_lines M (λ i. lent (suc i)) t ls))) (sym z.is)

    -- what a journal reaches is sound, and its rows are within its position
    pub record Reaches (lent : ℕ → ℕ) (s : M.S) (l : List Row) (ls : List (List ℕ)) : Type 0 where
      pub good : M.sound (replay_lines M lent s ls).state ≡ true
      pub within : AllIn (core (replay_lines M lent s ls).state).position
          (map_two row_sum l (month M core body s (frames_in lent s ls)))
      pub state : (replay_lines M lent s ls).state ≡ after_all M core body s (frames_in lent s ls)

    pub reaches : (lent : ℕ → ℕ) (s : M.S) (l : List Row) (ls : List (List ℕ)) → M.sound s ≡ true
        → AllIn (core s).position l
        → length l ≡ table_rows → Reaches lent s l ls
    unfolding replay_lines ran_in frames_in resume with_answer adds_entries entries after_all
    reaches lent s l [] e p n =
        record {
          good = e;
          within = subst (AllIn (core s).position) (sym (month-empty M core body l s n)) p;
          state = refl;
        }
    reaches lent s l (raw ∷ ls) e p n =
        go (λ t k. reaches (λ i. lent (suc i)) t k ls) (answer M (lent zero) s text raw) refl
      where
        Later : Type 0
        Later = (t : M.S) (k : List Row) → M.sound t ≡ true → AllIn (core t).position k → length k ≡ table_rows
            → Reaches (λ i. lent (suc i)) t k ls

        Goal : Replayed M.S → List (Entry M.Body) → Type 0
        Goal r es =
            (M.sound r.state ≡ true)
            × AllIn (core r.state).position
            (map_two row_sum l (month M core body s (map (λ e. e.line.body) es)))
            × (r.state ≡ after_all M core body s (map (λ e. e.line.body) es))

        by : (o : Outcome M.S) → answer M (lent zero) s text raw ≡ o
            → Goal (resume s o (λ t. replay_lines M (λ i. lent (suc i)) t ls))
            (adds_entries s (M.read text raw) o (λ t. ran_in M (λ i. lent (suc i)) t ls))
            → Reaches lent s l (raw ∷ ls)
        by o q g =
            let h = subst (λ (u : Outcome M.S). Goal (resume s u (λ t. replay_lines M (λ i. lent (suc i)) t ls))
            (adds_entries s (M.read text raw) u (λ t. ran_in M (λ i. lent (suc i)) t ls))) (sym q) g in
            record { good = h.0; within = h.1; state = h.2 }

        ended : Later → (j : ℕ) (b : Bool)
            → Goal (cond b (replay_lines M (λ i. lent (suc i)) s ls)
            (record { state = s; answers = []; stop = some j })) (cond b (ran_in M (λ i. lent (suc i)) s ls) [])
        ended ih j true = let r = ih s l e p n in (r.good, r.within, r.state)
        ended ih j false = (e, subst (AllIn (core s).position) (sym (month-empty M core body l s n)) p, refl)

        go : Later → (v : Outcome M.S) → answer M (lent zero) s text raw ≡ v → Reaches lent s l (raw ∷ ls)
        go ih (refused j) q = by (refused j) q (ended ih j (eqb j 1))
        go ih (done t a) q =
            let z : Acts M core body s t a (M.read text raw) = answer-acts M core body (lent zero) s t text raw a q in
            let b : M.Body = z.line.body in
            let k : List Row = map_two row_sum l (adds_of M core body s b) in
            let bs : List M.Body = frames_in (λ i. lent (suc i)) t ls in
            let x : Step s t l b bs = step (lent zero) s t a raw l bs e p z q in
            let r = ih t k x.good x.within (length-counted M core body l s b n) in
            by (done t a) q (
              r.good,
              subst (λ (o : Option (Line M.Body)). AllIn
                  (core (replay_lines M (λ i. lent (suc i)) t ls).state).position
                  (map_two row_sum l
                  (month M core body s
                  (map (λ e. e.line.body) (entries o (done t a) ++ ran_in M (λ i. lent (suc i)) t ls)))))
                  (sym z.is)
                  (subst (AllIn (core (replay_lines M (λ i. lent (suc i)) t ls).state).position) x.rows
                  r.within),
              r.state ∙ ap (λ (y : M.S). after_all M core body y bs) x.reached
                  ∙ ap (λ (o : Option (Line M.Body)). after_all M core body s
                  (map (λ e. e.line.body) (entries o (done t a) ++ ran_in M (λ i. lent (suc i)) t ls)))
                  (sym z.is),
            )
