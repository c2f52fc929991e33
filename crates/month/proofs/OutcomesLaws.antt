-- Laws of the definitions in Outcomes.
use Rattle.std.specs.Prelude.{ℕ, suc, ◌≤◌, ◌<◌, ◌≡◌, refl, Bool, true, false, not, List, eqb, leb, ltb, length, Ok, Err}
use Rattle.std.proofs.Math.Path.{sym, ap}
use Rattle.std.proofs.Common.{◌∙◌, arith, lt-ltb, ne_eqb, leb-false}
use Rattle.std.proofs.lemmas.Bool.{false≢true}
use Rattle.std.proofs.Math.Option.{Option, none, some}
use Rattle.laws.specs.Tests.{pick}
use Rattle.laws.specs.TestsLaws.{pick_true, pick-false, cases_eq}
use Rattle.laws.specs.Put.{put}
use Rattle.laws.specs.PutLaws.{put-nil}
use Rattle.totals.specs.declared.Row.{Row}
use Rattle.totals.specs.Two.{every_two, map_two}
use Rattle.totals.specs.Table.{passes, table_rows, row_fits, row_sum}
use Rattle.sessions.specs.Machine.{text, Line, Outcome, refused, done, answer_room, last_number}
use Rattle.sessions.specs.Session.{refuse_if, judge, answer, state_after, written}
use Rattle.model.specs.Types.{Model}
use Rattle.model.specs.Frames.{Body, Typed, command, packet, tick, bad, read, typed}
use Rattle.model.specs.Step.{act, act_typed, refusal_typed, step_typed, answer_typed}
use Rattle.model.specs.Block.{model_of}
use Rattle.editions.specs.Editions.{Edition, with_prefix, prefix_for, beside, act_on}
use Rattle.wholes.specs.Whole.{held_whole, sound_whole}
use Rattle.wholes.specs.Engine.{engine, act_whole, on_wholes}
use Rattle.failover.specs.ReadLaws.{fits}
use Rattle.engine.specs.Calls.{case_of}
use Rattle.months.specs.Counts.{rows_added}
use Rattle.months.specs.Counted.{Tallied, tally, lent_with}
use Rattle.months.proofs.CountedLaws.{answer-same, adds_read}
use Rattle.month.specs.declared.Uncounted.TheVariants.{Refused as RefusedA, Passes}
use Rattle.month.specs.Outcomes.{adds_in, at, outcome, answer_of, Counts, is_done}

unfoldable number_of : {S : Type 0} → ℕ → Outcome S → ℕ
number_of d (refused n) = n
number_of d (done t a) = d

-- no line is refused by 12 without rows
never-act : (m : Model) (f : Typed) → refusal_typed m f ≡ passes → ⊥
unfolding refusal_typed pick
never-act m (command o l) e = go (eqb o m.opcode) e
  where
    go : (t : Bool) → pick {A = ℕ} t 0 6 ≡ passes → ⊥
    go true e = omega arith
    go false e = omega arith
never-act m (packet p) e = omega arith
never-act m tick e = omega arith
never-act m bad e = omega arith

never-acts : (s : List ℕ) (b : Body) → number_of 0 (act_whole s b) ≡ passes → ⊥
unfolding act_whole on_wholes act_on beside act act_typed pick number_of
never-acts s b = go (eqb (refusal_typed m (typed b)) 0)
  where
    es : List Edition
    es = (held_whole s).editions

    m : Model
    m = with_prefix (held_whole s).core (prefix_for (suc (held_whole s).core.position) es)

    go : (t : Bool) → number_of 0
        (on_wholes (beside es
        (pick t (done (step_typed m (typed b)) (answer_typed m (typed b))) (refused (refusal_typed m (typed b))))))
        ≡ passes → ⊥
    go true e = omega arith
    go false e = never-act m (typed b) e

never-twelve : (lent : ℕ) (s t : List ℕ) → number_of 0 (answer engine lent s text t) ≡ passes → ⊥
unfolding answer refuse_if number_of judge
never-twelve lent s t = go (not (sound_whole s)) (ltb lent answer_room) (read text t)
  where
    by : (x : Line Body) (u v : Bool) → number_of 0 (refuse_if u 1 (refuse_if v 2 (act_whole s x.body))) ≡ passes → ⊥
    by x true v e = omega arith
    by x false true e = omega arith
    by x false false e = never-acts s x.body e

    go : (u v : Bool) (o : Option (Line Body)) → number_of 0 (refuse_if u 7 (refuse_if v 3 (judge engine s o))) ≡ passes
        → ⊥
    go true v o e = omega arith
    go false true o e = omega arith
    go false false none e = omega arith
    go false false (some x) e = by x (leb x.num (model_of s).position) (ltb (suc (model_of s).position) x.num) e

pub refused-case : (S : Type 0) (lent k : ℕ) (s t : List ℕ) → answer engine lent s text t ≡ refused k
    → answer_of {S = S} (refused k) ≡ Err (RefusedA (case_of k))
unfolding answer_of number_of
refused-case S lent k s t e =
    ap Err
    (pick-false Passes (RefusedA (case_of k)) (ne_eqb k passes (λ z. never-twelve lent s t (ap (number_of 0) e ∙ z))))

-- what is known of an executed line: its state is sound and below the last number, and it was read
pub record Ran (s t : List ℕ) : Type 0 where
  pub line : Line Body
  pub is : read text t ≡ some line
  pub good : sound_whole s ≡ true
  pub room : (model_of s).position < last_number

pub ran : (lent : ℕ) (s t s' a : List ℕ) → answer engine lent s text t ≡ done s' a → Ran s t
unfolding answer refuse_if judge is_done
ran lent s t s' a = go (sound_whole s) refl (ltb lent answer_room) (read text t) refl
  where
    by : (x : Line Body) → sound_whole s ≡ true → read text t ≡ some x → (u v : Bool)
        → leb x.num (model_of s).position ≡ u
        → refuse_if u 1 (refuse_if v 2 (act_whole s x.body)) ≡ done s' a → Ran s t
    by x g e true v z q = absurd (false≢true (ap is_done q))
    by x g e false true z q = absurd (false≢true (ap is_done q))
    by x g e false false z q =
        let f : x.num ≤ last_number = fits text t x e in
        let h : (model_of s).position < x.num = leb-false x.num (model_of s).position z in
        record { line = x; is = e; good = g; room = omega arith }

    go : (g : Bool) → sound_whole s ≡ g → (v : Bool) (o : Option (Line Body)) → read text t ≡ o
        → refuse_if (not g) 7 (refuse_if v 3 (judge engine s o)) ≡ done s' a → Ran s t
    go false y v o e q = absurd (false≢true (ap is_done q))
    go true y true o e q = absurd (false≢true (ap is_done q))
    go true y false none e q = absurd (false≢true (ap is_done q))
    go true y false (some x) e q =
        by x y e (leb x.num (model_of s).position) (ltb (suc (model_of s).position) x.num) refl q

-- too little is lent
short-refused : (k : ℕ) (s t : List ℕ) → k < answer_room → (n : ℕ) × (answer engine k s text t ≡ refused n)
unfolding answer refuse_if
short-refused k s t b = go (sound_whole s) (ltb k answer_room) (lt-ltb k answer_room b)
  where
    go : (g v : Bool) → v ≡ true
        → (n : ℕ) × (refuse_if (not g) 7 (refuse_if v 3 (judge engine s (read text t))) ≡ refused n)
    go false v e = (7, refl)
    go true v e = (3, rw e)

-- the outcome, from that without rows
module _ (n : ℕ) (s t out : List ℕ) (l : List Row) where
  abbrev pub plain : Outcome (List ℕ)
  plain = answer engine (lent_with n (length out)) s text t

  abbrev pub given : List Row
  given = adds_read engine adds_in s (read text t)

  whole : outcome n (length out) s l t ≡ tally l given plain
  unfolding outcome
  whole = answer-same engine adds_in s l (lent_with n (length out)) text t

  pub read-adds : (x : Line Body) → read text t ≡ some x → given ≡ rows_added (model_of s) x.body
  unfolding adds_read adds_in
  read-adds x e = ap (adds_read engine adds_in s) e

  -- refused as without rows
  pub counts-refused : (k : ℕ) → plain ≡ refused k → Counts n s t out l (Err (RefusedA (case_of k))) l s out
  unfolding tally state_after written
  counts-refused k e =
      let o : outcome n (length out) s l t ≡ refused k = whole ∙ ap (tally l given) e in
      record {
        answer = sym (ap answer_of o ∙ refused-case (Tallied (List ℕ)) (lent_with n (length out)) k s t e);
        table = sym (ap (λ (u : Outcome (Tallied (List ℕ))). (state_after (at s l) u).rows) o);
        state = sym (ap (λ (u : Outcome (Tallied (List ℕ))). (state_after (at s l) u).state) o);
        output = sym (ap (λ (u : Outcome (Tallied (List ℕ))). put out 0 (written u)) o ∙ put-nil out 0);
      }

  -- executed and counted
  pub counts-done : (s' a : List ℕ) → plain ≡ done s' a → every_two row_fits l given ≡ true
      → Counts n s t out l (Ok (length a)) (map_two row_sum l given) s' (put out 0 a)
  unfolding tally state_after written answer_of
  counts-done s' a e f =
      let o : outcome n (length out) s l t ≡ done (at s' (map_two row_sum l given)) a =
      whole ∙ ap (tally l given) e ∙ pick_true _ _ f in
      record {
        answer = sym (ap answer_of o);
        table = sym (ap (λ (u : Outcome (Tallied (List ℕ))). (state_after (at s l) u).rows) o);
        state = sym (ap (λ (u : Outcome (Tallied (List ℕ))). (state_after (at s l) u).state) o);
        output = sym (ap (λ (u : Outcome (Tallied (List ℕ))). put out 0 (written u)) o);
      }

  -- refused by 12
  pub counts-passes : (s' a : List ℕ) → plain ≡ done s' a → every_two row_fits l given ≡ false
      → Counts n s t out l (Err Passes) l s out
  unfolding tally state_after written answer_of pick
  counts-passes s' a e f =
      let o : outcome n (length out) s l t ≡ refused passes = whole ∙ ap (tally l given) e ∙ pick-false _ _ f in
      record {
        answer = sym (ap answer_of o);
        table = sym (ap (λ (u : Outcome (Tallied (List ℕ))). (state_after (at s l) u).rows) o);
        state = sym (ap (λ (u : Outcome (Tallied (List ℕ))). (state_after (at s l) u).state) o);
        output = sym (ap (λ (u : Outcome (Tallied (List ℕ))). put out 0 (written u)) o ∙ put-nil out 0);
      }

-- a table that is not of sixteen rows is too little
short-any : (n lent : ℕ) → (n ≡ table_rows → ⊥) → lent_with n lent < answer_room
unfolding lent_with pick
short-any n lent e = rw (ne_eqb n table_rows e) (omega arith)

pub other-refused : (n lent : ℕ) (s t : List ℕ) → (n ≡ table_rows → ⊥)
    → (k : ℕ) × (answer engine (lent_with n lent) s text t ≡ refused k)
other-refused n lent s t e = short-refused (lent_with n lent) s t (short-any n lent e)

-- an executed line was lent a table of sixteen rows
pub lent-sixteen : (n lent : ℕ) (s t s' a : List ℕ) → answer engine (lent_with n lent) s text t ≡ done s' a
    → n ≡ table_rows
unfolding is_done
lent-sixteen n lent s t s' a e =
    cases_eq n table_rows (λ (z : n ≡ table_rows). z)
    (λ (z : n ≡ table_rows → ⊥). let x = other-refused n lent s t z in absurd (false≢true (ap is_done (sym x.1 ∙ e))))
