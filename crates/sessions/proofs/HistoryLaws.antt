-- What holds of the state at the end of any session, by its past frames.
-- From document 01, Lines and Sessions and failover.
use Rattle.std.specs.Prelude.{◌≡◌, true, length}
use Rattle.std.proofs.Math.Path.{refl, ap}
use Rattle.std.proofs.Common.{◌∙◌, arith}
use Rattle.std.proofs.Math.Option.{some}
use mathlib.Core.List.{List, [], ◌∷◌, map, reverse_aux}
use Prim.Native.Nat.{ℕ, zero, suc, ◌≤◌}
use Rattle.sessions.specs.Machine.{Machine, Form, Line, Executes, Laws, refused, answer_room, last_number}
use Rattle.sessions.specs.Session.{Entry, Call, answer, walk, trace, executed}
use Rattle.sessions.specs.Saved.{frames}
use Rattle.sessions.specs.Past.{Steps, past, run_of}
use Rattle.sessions.proofs.RefusalsLaws.{answer-seen}
use Rattle.sessions.proofs.RunsLaws.{Run, runs, run-pos, run_sound}
use Rattle.sessions.proofs.ReplayLaws.{frames-trace}

-- n numbers from a on.
unfoldable pub up_from : ℕ → ℕ → List ℕ
up_from a zero = []
up_from a (suc n) = a ∷ up_from (suc a) n

-- A claim of a past and a state that every executed frame keeps.
abbrev pub Kept : (M : Machine) → (List M.Body → M.S → Type 0) → Type 0
Kept M P =
    (p : List M.Body) (s t : M.S) (x : Line M.Body) (a : List ℕ) → Executes M s x t a → P p s
    → P (x.body ∷ p) t

module _ (M : Machine) (𝓛 : Laws M) where
  run_past :
      (P : List M.Body → M.S → Type 0)
      → Kept M P
      → (p : List M.Body) (s u : M.S) (es : List (Entry M.Body)) → Run M s es u → P p s
      → P (reverse_aux (map (λ x. x.body) (map (λ e. e.line) es)) p) u
  run_past P step p s u [] r h = rw (← r) h
  run_past P step p s u (e ∷ es) r h =
      run_past P step (e.line.body ∷ p) r.0 u es r.2 (step p s r.0 e.line e.wrote r.1 h)

  -- Induction over a session: what holds of no past and the fresh state, and is kept by every executed frame, holds of
  -- the past and the state at the end. Refused calls and saves need no case.
  pub walk-induction :
      (P : List M.Body → M.S → Type 0) (fresh : M.S) → P [] fresh
      → Kept M P
      → (calls : List Call) → P (past M fresh calls) (walk M fresh calls)
  unfolding past executed
  walk-induction P fresh base step calls =
      run_past P step [] fresh (walk M fresh calls) (trace M fresh calls) (runs M 𝓛 fresh calls) base

  -- The state at the end of a session is the run of its past: it depends on the executed frames alone.
  pub walk-past :
      (D : Steps M) (fresh : M.S) (calls : List Call)
      → walk M fresh calls ≡ run_of M D.step fresh (past M fresh calls)
  unfolding run_of
  walk-past D fresh calls =
      walk-induction (λ p s. s ≡ run_of M D.step fresh p) fresh refl
      (λ p s t x a ex h. D.acts s t x a ex ∙ ap (λ v. D.step v x.body) h) calls

  -- A session that begins sound stays sound.
  pub walk-sound : (fresh : M.S) → M.sound fresh ≡ true → (calls : List Call) → M.sound (walk M fresh calls) ≡ true
  walk-sound fresh h calls = run_sound M 𝓛 fresh (walk M fresh calls) (trace M fresh calls) (runs M 𝓛 fresh calls) h

  -- The position at the end is the number of executed frames.
  pub walk-pos :
      (fresh : M.S) → M.pos fresh ≡ 0 → (calls : List Call) → M.pos (walk M fresh calls) ≡ frames M fresh calls
  walk-pos fresh h calls =
      let p = run-pos M 𝓛 fresh (walk M fresh calls) (trace M fresh calls) (runs M 𝓛 fresh calls) in
      let n = frames-trace M 𝓛 fresh calls in
      omega (arith, p, n)

  run-numbers :
      (s u : M.S) (es : List (Entry M.Body)) → Run M s es u
      → map (λ x. x.num) (map (λ e. e.line) es) ≡ up_from (suc (M.pos s)) (length es)
  unfolding up_from
  run-numbers s u [] r = refl
  run-numbers s u (e ∷ es) r =
      let n : e.line.num ≡ suc (M.pos s) = r.1.next in
      let p : M.pos r.0 ≡ suc (M.pos s) = 𝓛.advance s r.0 e.line e.wrote r.1 in
      rw (n, ← p) (ap {B = List ℕ} (λ l. M.pos r.0 ∷ l) (run-numbers r.0 u es r.2))

  -- "Executed frames are numbered 1 to n" (Sessions and failover).
  pub executed-numbers :
      (fresh : M.S) → M.pos fresh ≡ 0 → (calls : List Call)
      → map (λ x. x.num) (executed M fresh calls) ≡ up_from 1 (frames M fresh calls)
  unfolding executed
  executed-numbers fresh h calls =
      run-numbers fresh (walk M fresh calls) (trace M fresh calls) (runs M 𝓛 fresh calls)
      ∙ rw (h, frames-trace M 𝓛 fresh calls)

  -- At the last number every frame that can be read is seen: refused by 1 (Lines, Refusal numbers).
  pub at-the-end :
      (lent : ℕ) (s : M.S) (w : Form) (r : List ℕ) (x : Line M.Body) → M.pos s ≡ last_number → M.sound s ≡ true
      → answer_room ≤ lent → M.read w r ≡ some x → answer M lent s w r ≡ refused 1
  at-the-end lent s w r x p good room q =
      let fits : x.num ≤ last_number = 𝓛.fits w r x q in
      answer-seen M lent s w r good room x q (omega arith)
