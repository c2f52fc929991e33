-- Replay of what was executed: seen lines are skipped, the next ones are executed again with the same answers, and a
-- line past the next is a gap. Ends in the theorem `failover`. From document 01, Sessions and failover.
use Rattle.std.proofs.Math.Path.{◌≡◌, ap}
use Rattle.std.specs.Prelude.{refl, true, drop}
use Rattle.std.proofs.Common.{◌∙◌, not-suc-le-zero, length-append, length-drop, drop_of_length-le}
use Rattle.std.proofs.Math.Option.{none, some}
use mathlib.Core.List.{List, [], ◌∷◌, ◌++◌, map, flatten}
use Prim.Native.Nat.{ℕ, zero, suc, ◌+◌, ◌≤◌, ◌<◌}
use native.Mathlib.Omega.{arith}
use Rattle.std.proofs.Math.ListN.{length, length-map}
use Rattle.std.proofs.lemmas.List.{drop-append-le}
use Rattle.std.proofs.Math.Seq.{drop_at}
use Rattle.sessions.specs.Machine.{Machine, Line, text, done, Executes, Laws, answer_room}
use Rattle.sessions.specs.Session.{Entry, Call, save, from_frame, answer, walk, trace}
use Rattle.sessions.specs.Session.{executed, answers, lines_of, journal}
use Rattle.sessions.specs.Saved.{Replayed, with_answer, resume, Enough, replay_lines, replay, frames}
use Rattle.sessions.specs.Saved.{SavedAfter, Failover}
use Rattle.sessions.proofs.CutsLaws.{cut-lines, drop-map}
use Rattle.sessions.proofs.RefusalsLaws.{answer-seen, answer-gap, answer-next, WroteImage, image-wrote}
use Rattle.sessions.proofs.RunsLaws.{Run, line_of, walk-append, trace-append, runs, run-pos, run-lines}
use Rattle.sessions.proofs.RunsLaws.{run-append, run_drop}

map-append : {A B : Type 0} (f : A → B) (xs ys : List A) → map f (xs ++ ys) ≡ map f xs ++ map f ys
map-append f [] ys = refl
map-append {B} f (x ∷ xs) ys = ap {B = List B} (λ l. f x ∷ l) (map-append f xs ys)

-- The lines of entries.
pub map-lines : (M : Machine) (es : List (Entry M.Body))
    → map M.write (map (λ e. e.line) es) ≡ map (line_of M) es
map-lines M [] = refl
map-lines M (e ∷ es) = ap {B = List (List ℕ)} (λ l. line_of M e ∷ l) (map-lines M es)

module _ (M : Machine) (𝓛 : Laws M) where
  -- An executed frame, given again as its line to the state it was executed on, is executed with the same answer.
  pub answer-again :
      (s t : M.S) (x : Line M.Body) (a : List ℕ) (lent : ℕ) → Executes M s x t a → answer_room ≤ lent
      → answer M lent s text (M.write x) ≡ done t a
  answer-again s t x a lent ex h =
      answer-next M lent s text (M.write x) ex.before h x (𝓛.reads ex.form ex.raw x ex.given) ex.next
      ∙ ex.acts

  -- Replay of a run from its first state gives its last state and its answers.
  pub replay-run :
      (s u : M.S) (es : List (Entry M.Body)) (lent : ℕ → ℕ) → Run M s es u → Enough lent
      → replay_lines M lent s (map (line_of M) es) ≡ record { state = u; answers = map (λ e. e.wrote) es; stop = none }
  unfolding replay_lines resume with_answer
  replay-run s u [] lent r big = rw r
  replay-run s u (e ∷ es) lent r big =
      rw (answer-again s r.0 e.line e.wrote (lent zero) r.1 (big zero)) (
      ap (with_answer e.wrote) (replay-run r.0 u es (λ i. lent (suc i)) r.2 (λ i. big (suc i))))

  module _ (at : M.S) (good : M.sound at ≡ true) where
    -- Lines of frames up to the position are skipped.
    pub replay-seen :
        (s u : M.S) (es : List (Entry M.Body)) (ls : List (List ℕ)) (end : Replayed M.S) → Run M s es u
        → M.pos u ≤ M.pos at → ((lent : ℕ → ℕ) → Enough lent → replay_lines M lent at ls ≡ end)
        → (lent : ℕ → ℕ) → Enough lent → replay_lines M lent at (map (line_of M) es ++ ls) ≡ end
    unfolding replay_lines resume
    replay-seen s u [] ls end r h rest lent big = rest lent big
    replay-seen s u (e ∷ es) ls end r h rest lent big =
        let x = r.1 in
        let ends : M.pos u ≡ M.pos s + length (e ∷ es) = run-pos M 𝓛 s u (e ∷ es) r in
        let num : e.line.num ≡ suc (M.pos s) = x.next in
        let seen : e.line.num ≤ M.pos at = omega arith in
        rw (answer-seen M (lent zero) at text (M.write e.line) good (big zero) e.line
        (𝓛.reads x.form x.raw e.line x.given) seen) (
        replay-seen r.0 u es ls end r.2 h rest (λ i. lent (suc i)) (λ i. big (suc i)))

    -- A run that begins past the position is refused at its first line, as a gap.
    pub replay-gap :
        (s u : M.S) (es : List (Entry M.Body)) (lent : ℕ → ℕ) → Run M s es u → M.pos at < M.pos s → 0 < length es
        → Enough lent → replay_lines M lent at (map (line_of M) es) ≡ record { state = at; answers = []; stop = some 2 }
    unfolding replay_lines resume
    replay-gap s u [] lent r h some-line big = absurd (not-suc-le-zero some-line)
    replay-gap s u (e ∷ es) lent r h some-line big =
        let x = r.1 in
        let num : e.line.num ≡ suc (M.pos s) = x.next in
        let far : suc (M.pos at) < e.line.num = omega arith in
        rw (answer-gap M (lent zero) at text (M.write e.line) good (big zero) e.line
        (𝓛.reads x.form x.raw e.line x.given) far)

  pub frames-trace : (s : M.S) (cs : List Call) → frames M s cs ≡ length (trace M s cs)
  unfolding frames executed
  frames-trace s cs = length-map (trace M s cs) (λ e. e.line)

  -- The journal from frame i + 1 is the lines of all frames but the first i.
  journal-text :
      (s : M.S) (cs : List Call) (i : ℕ)
      → journal M s cs (suc i) ≡ flatten (map (line_of M) (drop i (trace M s cs)))
  unfolding journal lines_of from_frame executed
  journal-text s cs i =
      ap (λ l. flatten (map M.write l)) (drop-map (λ e. e.line) i (trace M s cs))
      ∙ ap flatten (map-lines M (drop i (trace M s cs)))

  -- The text of a journal is cut into the lines of its frames.
  pub journal-lines :
      (s at : M.S) (cs : List Call) (i : ℕ) (lent : ℕ → ℕ) → i ≤ length (trace M s cs)
      → replay M lent at (journal M s cs (suc i)) ≡ replay_lines M lent at (map (line_of M) (drop i (trace M s cs)))
  unfolding replay
  journal-lines s at cs i lent h =
      let d = run_drop M 𝓛 i s (walk M s cs) (trace M s cs) (runs M 𝓛 s cs) h in
      let whole = run-lines M 𝓛 d.0 (walk M s cs) (drop i (trace M s cs)) d.1 in
      rw (journal-text s cs i, cut-lines (map (line_of M) (drop i (trace M s cs))) whole)

  module _ (fresh at end : M.S) (es fs : List (Entry M.Body)) (r : Run M fresh es at) (q : Run M at fs end)
      (origin : M.pos fresh ≡ 0) (good : M.sound at ≡ true) where
    position : M.pos at ≡ length es
    position = let h : M.pos at ≡ M.pos fresh + length es = run-pos M 𝓛 fresh at es r in omega arith

    lines-on :
        (i : ℕ) (lent : ℕ → ℕ) → i ≤ length es → Enough lent
        → replay_lines M lent at (map (line_of M) (drop i (es ++ fs)))
        ≡ record { state = end; answers = map (λ e. e.wrote) fs; stop = none }
    lines-on i lent h big =
        let d = run_drop M 𝓛 i fresh at es r h in
        rw (drop-append-le i es fs h, map-append (line_of M) (drop i es) fs) (
        replay-seen at good d.0 at (drop i es) (map (line_of M) fs) _ d.1 (omega arith)
        (λ some-lent enough. replay-run at end fs some-lent q enough) lent big)

    lines-gap :
        (i : ℕ) (lent : ℕ → ℕ) → length es < i → i < length (es ++ fs) → Enough lent
        → replay_lines M lent at (map (line_of M) (drop i (es ++ fs)))
        ≡ record { state = at; answers = []; stop = some 2 }
    lines-gap i lent h below big =
        let d = run_drop M 𝓛 i fresh end (es ++ fs) (run-append M 𝓛 fresh at end es fs r q) (omega arith) in
        let there : M.pos d.0 ≡ M.pos fresh + i = d.2 in
        let here : M.pos at ≡ length es = position in
        let left : 0 < length (drop i (es ++ fs)) = rw (length-drop i (es ++ fs)) (omega arith) in
        replay-gap at good d.0 end (drop i (es ++ fs)) lent d.1 (omega arith) left big

    module _ (calls : List Call) (w : walk M fresh calls ≡ end) (t : trace M fresh calls ≡ es ++ fs) where
      counted : frames M fresh calls ≡ length es + length fs
      counted = frames-trace fresh calls ∙ ap length t ∙ length-append es fs

      answers-left : drop (length es) (answers M fresh calls) ≡ map (λ e. e.wrote) fs
      unfolding answers
      answers-left =
          drop-map (λ e. e.wrote) (length es) (trace M fresh calls)
          ∙ rw (t, drop_at es fs (length es) refl)

      text-on :
          (j : ℕ) → 1 ≤ j → j ≤ length es + 1 → (lent : ℕ → ℕ) → Enough lent
          → replay M lent at (journal M fresh calls j)
          ≡ record { state = walk M fresh calls; answers = drop (length es) (answers M fresh calls); stop = none }
      text-on zero h g lent big = absurd (not-suc-le-zero h)
      text-on (suc i) h g lent big =
          let n : length (trace M fresh calls) ≡ length es + length fs = ap length t ∙ length-append es fs in
          journal-lines fresh at calls i lent (omega arith)
          ∙ rw (answers-left, t, w) (lines-on i lent (omega arith) big)

      text-gap :
          (j : ℕ) → length es + 1 < j → j ≤ frames M fresh calls → (lent : ℕ → ℕ) → Enough lent
          → replay M lent at (journal M fresh calls j) ≡ record { state = at; answers = []; stop = some 2 }
      text-gap zero h g lent big = absurd (not-suc-le-zero h)
      text-gap (suc i) h g lent big =
          let n : length (trace M fresh calls) ≡ length es + length fs = ap length t ∙ length-append es fs in
          let m : length (es ++ fs) ≡ length es + length fs = length-append es fs in
          let c : frames M fresh calls ≡ length es + length fs = counted in
          journal-lines fresh at calls i lent (omega arith)
          ∙ rw t (lines-gap i lent (omega arith) (omega arith) big)

      text-end :
          (j : ℕ) → j ≡ frames M fresh calls + 1 → (lent : ℕ → ℕ)
          → replay M lent at (journal M fresh calls j) ≡ record { state = at; answers = []; stop = none }
      unfolding replay_lines
      text-end zero h lent = let z : ◌≡◌ {A = ℕ} 0 1 = omega arith in absurd (omega arith)
      text-end (suc i) h lent =
          let n : frames M fresh calls ≡ length (trace M fresh calls) = frames-trace fresh calls in
          let past : length (trace M fresh calls) ≤ i = omega arith in
          journal-lines fresh at calls i lent (omega arith) ∙ rw (drop_of_length-le (trace M fresh calls) past)

-- Demand 3 for any engine: every image that is saved in a session, after whatever frame, takes over the session.
-- (A save that is not refused says itself that its state is sound; that saves are possible everywhere is
-- `saved-anywhere` of Corners.)
pub failover :
    (M : Machine) (𝓛 : Laws M) (fresh : M.S) → M.pos fresh ≡ 0 → M.sound fresh ≡ true
    → (calls : List Call) (k : ℕ) (img : List ℕ) (at : M.S)
    → SavedAfter M fresh calls k img at → Failover M fresh calls k img at
failover M 𝓛 fresh origin good calls k img at sv =
    go sv.before (save sv.lent ∷ sv.later) sv.split sv.count sv.state
    (image-wrote M sv.lent at img sv.saved)
  where
    go :
        (bs cs : List Call) → calls ≡ bs ++ cs → k ≡ frames M fresh bs → at ≡ walk M fresh bs → WroteImage M at img
        → Failover M fresh calls k img at
    go bs cs split count state saved =
        let es : List (Entry M.Body) = trace M fresh bs in
        let fs : List (Entry M.Body) = trace M at cs in
        let end : M.S = walk M at cs in
        let r : Run M fresh es at = rw state (runs M 𝓛 fresh bs) in
        let q : Run M at fs end = runs M 𝓛 at cs in
        let w : walk M fresh calls ≡ end = rw (split, walk-append M fresh bs cs, ← state) in
        let t : trace M fresh calls ≡ es ++ fs = rw (split, trace-append M fresh bs cs, ← state) in
        let c : k ≡ length es = count ∙ frames-trace M 𝓛 fresh bs in
        let n = counted M 𝓛 fresh at end es fs r q origin saved.sound calls w t in
        record {
          within = omega arith;
          restored = rw saved.is (𝓛.restores at saved.sound);
          goes_on = rw c (text-on M 𝓛 fresh at end es fs r q origin saved.sound calls w t);
          gapped = rw c (text-gap M 𝓛 fresh at end es fs r q origin saved.sound calls w t);
          nothing = text-end M 𝓛 fresh at end es fs r q origin saved.sound calls w t;
        }
