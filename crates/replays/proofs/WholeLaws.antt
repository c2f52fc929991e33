-- Replay into one output is the replay of document 01 (crate sessions, Saved): where it was not stopped by 3 it
-- reaches that state, that refusal, and writes those answers one after another; where it was, the caller empties the
-- output and goes on from there. Assumes nothing.
use Rattle.std.specs.Prelude.{ℕ, zero, suc, ◌+◌, ◌-◌, ◌≤◌, ◌<◌, ◌≡◌, Bool, true, false, cond, eqb}
use Rattle.std.proofs.Math.Path.{refl, sym, ap, subst}
use Rattle.std.proofs.Common.{ap₂, ◌∙◌, arith, eqb-true}
use Rattle.std.proofs.Math.Option.{Option, none, some}
use mathlib.Core.List.{List, [], ◌∷◌, ◌++◌, append_assoc, append-nil}
use Rattle.std.proofs.lemmas.Bool.{eqb-false}
use Rattle.std.proofs.Math.ListN.{length}
use Rattle.laws.specs.TestsLaws.{cases-le}
use Rattle.laws.specs.Rows.{flat}
use Rattle.rule.specs.BaseLaws.{none≢some, some_inj}
use Rattle.sessions.specs.Machine.{Machine, Outcome, refused, done, text, Form, answer_room}
use Rattle.sessions.specs.Session.{answer}
use Rattle.sessions.specs.Saved.{Replayed, with_answer, resume, replay_lines, replay, cut, Enough}
use Rattle.sessions.proofs.RefusalsLaws.{answer-unsound, answer-short, answer-judge}
use Rattle.replays.specs.Into.{Reached, nothing_read, reach, line_from, lines_while, lines_from, replay_while, replay_into}
use Rattle.replays.proofs.PiecesLaws.{stopped, line-goes}

-- An answer that is not refusal 3 is the answer with any room enough.
pub answer-room : (M : Machine) (a b : ℕ) (s : M.S) (w : Form) (r : List ℕ) → (answer M a s w r ≡ refused 3 → ⊥)
    → answer_room ≤ b
    → answer M a s w r ≡ answer M b s w r
answer-room M a b s w r n h = go (M.sound s) refl
  where
    go : (t : Bool) → M.sound s ≡ t → answer M a s w r ≡ answer M b s w r
    go false e = answer-unsound M a s w r e ∙ sym (answer-unsound M b s w r e)
    go true e =
        cases-le answer_room a
        (λ k. answer-judge M a s w r e k ∙ sym (answer-judge M b s w r e h))
        (λ k. absurd (n (answer-short M a s w r e k)))

-- A replay and a replay into one output: the same state and stop, the answers one after another behind `before`.
pub record Same {S : Type 0} (before : List ℕ) (x : Reached S) (y : Replayed S) : Type 0 where
  pub state : x.state ≡ y.state
  pub wrote : x.wrote ≡ before ++ flat y.answers
  pub stop : x.stop ≡ y.stop

module _ (M : Machine) (room : ℕ) where
  -- one line: what follows is the same, so is the whole
  line_same : (ls : List (List ℕ)) (r : Reached M.S) (n : ℕ) (more : ℕ → ℕ) (o : Outcome M.S)
      → ((lines_from M room (reach r n o) ls).stop ≡ some 3 → ⊥)
      → ((x : Reached M.S) → x.stop ≡ none → ((lines_from M room x ls).stop ≡ some 3 → ⊥)
      → Same x.wrote (lines_from M room x ls) (replay_lines M more x.state ls))
      → Same r.wrote (lines_from M room (reach r n o) ls) (resume r.state o (λ t. replay_lines M more t ls))
  unfolding reach resume with_answer flat
  line_same ls r n more (done t a) h ih =
      let x : Reached M.S = record { state = t; wrote = r.wrote ++ a; taken = r.taken + n; stop = none } in
      let y : Same (r.wrote ++ a) (lines_from M room x ls) (replay_lines M more t ls) = ih x refl h in
      record {
        state = y.state;
        wrote = y.wrote ∙ append_assoc r.wrote a (flat (replay_lines M more t ls).answers);
        stop = y.stop;
      }
  line_same ls r n more (refused k) h ih = go (eqb k 1) h
    where
      skipped : Reached M.S
      skipped = record { state = r.state; wrote = r.wrote; taken = r.taken + n; stop = none }

      halted : Reached M.S
      halted = record { state = r.state; wrote = r.wrote; taken = r.taken; stop = some k }

      ended : Replayed M.S
      ended = record { state = r.state; answers = []; stop = some k }

      go : (b : Bool) → ((lines_from M room (cond {A = Reached M.S} b skipped halted) ls).stop ≡ some 3 → ⊥)
          → Same r.wrote (lines_from M room (cond {A = Reached M.S} b skipped halted) ls)
          (cond {A = Replayed M.S} b (replay_lines M more r.state ls) ended)
      go true z = ih skipped refl z
      go false z =
          subst (λ (x : Reached M.S). Same r.wrote x ended) (sym (stopped M room halted k ls refl))
          (record { state = refl; wrote = sym (append-nil r.wrote); stop = refl })

  -- a line refused by 3 stops the replay by 3
  short-stops : (ls : List (List ℕ)) (r : Reached M.S) (n : ℕ)
      → (lines_from M room (reach r n (refused 3)) ls).stop ≡ some 3
  unfolding reach
  short-stops ls r n =
      ap (λ (x : Reached M.S). x.stop)
      (stopped M room (record { state = r.state; wrote = r.wrote; taken = r.taken; stop = some 3 }) 3 ls refl)

  -- lines that were not stopped at by 3
  pub lines_same : (ls : List (List ℕ)) (r : Reached M.S) (lent : ℕ → ℕ) → r.stop ≡ none
      → ((lines_from M room r ls).stop ≡ some 3 → ⊥) → Enough lent
      → Same r.wrote (lines_from M room r ls) (replay_lines M lent r.state ls)
  unfolding lines_while replay_lines flat
  lines_same [] r lent e n big = record { state = refl; wrote = sym (append-nil r.wrote); stop = e }
  lines_same (l ∷ ls) r lent e n big =
      let o = answer M (room - length r.wrote) r.state text l in
      let g : line_from M room r.stop r l ≡ reach r (length l) o = line-goes M room r l e in
      let f : ((lines_from M room (reach r (length l) o) ls).stop ≡ some 3 → ⊥) =
      subst (λ (x : Reached M.S). (lines_from M room x ls).stop ≡ some 3 → ⊥) g n in
      let a : o ≡ answer M (lent zero) r.state text l =
      answer-room M (room - length r.wrote) (lent zero) r.state text l
      (λ z. f (ap (λ (u : Outcome M.S). (lines_from M room (reach r (length l) u) ls).stop) z
      ∙ short-stops ls r (length l))) (big zero) in
      subst
      (λ (x : Reached M.S). Same r.wrote (lines_from M room x ls)
      (resume r.state (answer M (lent zero) r.state text l) (λ t. replay_lines M (λ i. lent (suc i)) t ls)))
      (sym g)
      (subst
      (λ (u : Outcome M.S). Same r.wrote (lines_from M room (reach r (length l) o) ls)
      (resume r.state u (λ t. replay_lines M (λ i. lent (suc i)) t ls)))
      a
      (line_same ls r (length l) (λ i. lent (suc i)) o f
      (λ x q k. lines_same ls x (λ i. lent (suc i)) q k (λ i. big (suc i)))))

  -- Replay of a text into one output that was not stopped for want of room is the replay of document 01.
  pub replay-whole : (s : M.S) (t : List ℕ) (lent : ℕ → ℕ) → ((replay_into M room s t).stop ≡ some 3 → ⊥) → Enough lent
      → Same [] (replay_into M room s t) (replay M lent s t)
  unfolding replay_while replay nothing_read
  replay-whole s t lent n big = lines_same (cut t) (nothing_read s) lent refl n big
