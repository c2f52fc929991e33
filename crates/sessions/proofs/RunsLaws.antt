-- A run: a chain of executed frames from one state to another. The executed frames of any list of calls are a run, and
-- what follows for positions, soundness and written lines. From document 01, Lines and Sessions and failover.
use Rattle.std.specs.Prelude.{◌≡◌, true, ℕ, zero, suc, ◌+◌, ◌≤◌, length, drop}
use Rattle.std.proofs.Math.Path.{refl, sym}
use Rattle.std.proofs.Common.{ap, ◌∙◌, le_of_suc-le-suc, not-suc-le-zero, arith}
use mathlib.Core.List.{List, [], ◌∷◌, ◌++◌, map, append_assoc}
use Rattle.sessions.specs.Machine.{Machine, Executes, Laws}
use Rattle.sessions.specs.Session.{Entry, Call, after, ran, walk, trace}
use Rattle.sessions.proofs.CutsLaws.{AllLines}
use Rattle.sessions.proofs.RefusalsLaws.{Did, nothing, frame, did}

-- The entries es are executed in order, from s to u.
abbrev pub Run : (M : Machine) → M.S → List (Entry M.Body) → M.S → Type 0
Run M s [] u = s ≡ u
Run M s (e ∷ es) u = (t : M.S) × Executes M s e.line t e.wrote × Run M t es u

-- The text of an entry's line.
abbrev pub line_of : (M : Machine) → Entry M.Body → List ℕ
line_of M e = M.write e.line

-- A list of calls in two parts: the state of the first part begins the second.
pub walk-append : (M : Machine) (s : M.S) (cs ds : List Call) → walk M s (cs ++ ds) ≡ walk M (walk M s cs) ds
unfolding walk
walk-append M s [] ds = refl
walk-append M s (c ∷ cs) ds = walk-append M (after M s c) cs ds

pub trace-append :
    (M : Machine) (s : M.S) (cs ds : List Call) → trace M s (cs ++ ds) ≡ trace M s cs ++ trace M (walk M s cs) ds
unfolding walk trace
trace-append M s [] ds = refl
trace-append M s (c ∷ cs) ds =
    ap {B = List (Entry M.Body)} (λ l. ran M s c ++ l) (trace-append M (after M s c) cs ds)
    ∙ sym (append_assoc (ran M s c) (trace M (after M s c) cs) (trace M (walk M (after M s c) cs) ds))

module _ (M : Machine) (𝓛 : Laws M) where
  -- The executed frames of any list of calls are a run to its end.
  pub runs : (s : M.S) (cs : List Call) → Run M s (trace M s cs) (walk M s cs)
  unfolding walk trace
  runs s [] = refl
  runs s (c ∷ cs) = go (after M s c) (ran M s c) refl refl (did M 𝓛 s c) (runs (after M s c) cs)
    where
      go :
          (t : M.S) (l : List (Entry M.Body)) → after M s c ≡ t → ran M s c ≡ l → Did M s c
          → Run M t (trace M t cs) (walk M t cs) → Run M s (l ++ trace M t cs) (walk M t cs)
      go t l p q (nothing h k) ih =
          let el : l ≡ [] = sym q ∙ h in
          let et : t ≡ s = sym p ∙ k in
          rw (el, ← et) ih
      go t l p q (frame x v a ex h k) ih =
          let el : l ≡ record { line = x; wrote = a } ∷ [] = sym q ∙ h in
          let et : v ≡ t = sym k ∙ p in
          rw el (v, ex, rw et ih)

  -- A run counts the position up, one a frame.
  pub run-pos :
      (s u : M.S) (es : List (Entry M.Body)) → Run M s es u → M.pos u ≡ M.pos s + length es
  run-pos s u [] r = rw r (omega arith)
  run-pos s u (e ∷ es) r =
      let q : M.pos r.0 ≡ suc (M.pos s) = 𝓛.advance s r.0 e.line e.wrote r.1 in
      let ih : M.pos u ≡ M.pos r.0 + length es = run-pos r.0 u es r.2 in
      omega arith

  -- A run from a sound state ends in a sound state.
  pub run_sound :
      (s u : M.S) (es : List (Entry M.Body)) → Run M s es u → M.sound s ≡ true → M.sound u ≡ true
  run_sound s u [] r h = rw (← r) h
  run_sound s u (e ∷ es) r h =
      run_sound r.0 u es r.2 (𝓛.keeps s r.0 e.line e.wrote r.1)

  -- Every line of a run ends in its only LF.
  pub run-lines :
      (s u : M.S) (es : List (Entry M.Body)) → Run M s es u → AllLines (map (line_of M) es)
  run-lines s u [] r = tt
  run-lines s u (e ∷ es) r =
      let x = r.1 in
      (𝓛.one_line x.form x.raw e.line x.given, run-lines r.0 u es r.2)

  -- Two runs in a row.
  pub run-append :
      (s t u : M.S) (es fs : List (Entry M.Body)) → Run M s es t → Run M t fs u → Run M s (es ++ fs) u
  run-append s t u [] fs r q = rw r q
  run-append s t u (e ∷ es) fs r q = (r.0, r.1, run-append r.0 t u es fs r.2 q)

  -- What is left of a run after its first i frames, from the state there.
  pub run_drop :
      (i : ℕ) (s u : M.S) (es : List (Entry M.Body)) → Run M s es u → i ≤ length es
      → (t : M.S) × Run M t (drop i es) u × (M.pos t ≡ M.pos s + i)
  run_drop zero s u es r h = (s, r, omega arith)
  run_drop (suc i) s u [] r h = absurd (not-suc-le-zero h)
  run_drop (suc i) s u (e ∷ es) r h =
      let q : M.pos r.0 ≡ suc (M.pos s) = 𝓛.advance s r.0 e.line e.wrote r.1 in
      let d = run_drop i r.0 u es r.2 (le_of_suc-le-suc h) in
      (d.0, d.1, omega (arith, d.2))
