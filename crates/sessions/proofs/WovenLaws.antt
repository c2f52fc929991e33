-- Frames and additions, one among the other: additions moved before all frames, and a replay with additions given in
-- time. Document 02, T-12. Assumes nothing.
use Rattle.std.specs.Prelude.{◌≡◌, true, drop}
use Rattle.std.proofs.Math.Path.{refl}
use Rattle.std.proofs.Common.{sym, ap, ◌∙◌}
use Rattle.std.proofs.Math.Option.{none, some}
use mathlib.Core.List.{List, [], ◌∷◌, ◌++◌, map}
use Prim.Native.Nat.{ℕ, zero, suc, ◌+◌, ◌≤◌, ◌<◌}
use native.Mathlib.Omega.{arith}
use Rattle.std.proofs.Math.ListN.{length}
use Rattle.sessions.specs.Machine.{Machine, Line, Outcome, refused, done, Executes, Laws, text}
use Rattle.sessions.specs.Session.{Entry, answer, state_after, ran, after}
use Rattle.sessions.specs.Saved.{Replayed, with_answer, resume, Enough}
use Rattle.sessions.proofs.RefusalsLaws.{Did, nothing, frame, did, answer-seen}
use Rattle.sessions.proofs.RunsLaws.{Run, line_of, run-pos}
use Rattle.sessions.proofs.ReplayLaws.{answer-again}
use Rattle.sessions.specs.Additions.{Growing, Act, call, adds, reply_to, after_act, walk_on, ran_by, trace_on, accepted_one, added_by, added_on, Step, line, again, lines_in, added_in, InTime, resume_add, replay_on}

-- a list's first element, or another; the rest
unfoldable head_or : {A : Type 0} → A → List A → A
head_or d [] = d
head_or d (x ∷ l) = x

unfoldable tail_of : {A : Type 0} → List A → List A
tail_of [] = []
tail_of (x ∷ l) = l

pub heads : {A : Type 0} (x y : A) (l k : List A) → x ∷ l ≡ y ∷ k → x ≡ y
unfolding head_or
heads x y l k e = ap (head_or x) e

tails : {A : Type 0} (x y : A) (l k : List A) → x ∷ l ≡ y ∷ k → l ≡ k
unfolding tail_of
tails x y l k e = ap tail_of e

unfoldable is_empty : {A : Type 0} → List A → ℕ
is_empty [] = 0
is_empty (x ∷ l) = 1

pub not-empty : {A : Type 0} (x : A) (l : List A) → x ∷ l ≡ [] → ⊥
unfolding is_empty
not-empty x l e = let z : ◌≡◌ {A = ℕ} 1 0 = ap is_empty e in omega arith

module _ (M : Machine) (𝓛 : Laws M) (G : Growing M) where
  -- additions accepted one after another, from s to v
  abbrev pub Grown : M.S → List G.A → M.S → Type 0
  Grown s [] v = s ≡ v
  Grown s (a ∷ al) v = (t : M.S) × (G.add s a ≡ done t []) × Grown t al v

  -- all of them hold from a number on that is at least n
  abbrev pub From : ℕ → List G.A → Type 0
  From n [] = Unit {0}
  From n (a ∷ al) = (n ≤ G.number a) × From n al

  -- a frame before additions, and after them
  pub over :
      (al : List G.A) (s t v : M.S) (x : Line M.Body) (w : List ℕ) → Executes M s x t w → Grown t al v
      → (u : M.S) × Grown s al u × Executes M u x v w
  over [] s t v x w ex g = (s, refl, rw (← g) ex)
  over (a ∷ al) s t v x w ex g =
      let e = G.earlier s t g.0 x w a ex g.1 in
      let r = over al e.0 g.0 v x w e.2 g.2 in
      (r.0, (e.0, e.1, r.1), r.2)

  pub under :
      (al : List G.A) (s v u : M.S) (x : Line M.Body) (w : List ℕ) → M.sound s ≡ true → Grown s al v
      → Executes M v x u w
      → From (suc x.num) al → (t : M.S) × Executes M s x t w × Grown t al u
  under [] s v u x w good g ex n = (u, rw g ex, refl)
  under (a ∷ al) s v u x w good g ex n =
      let k : M.sound g.0 ≡ true = G.keeps s g.0 a [] g.1 good in
      let r = under al g.0 v u x w k g.2 ex n.1 in
      let h : suc x.num ≤ G.number a = n.0 in
      let l = G.later s g.0 r.0 x w a good g.1 r.1 (omega arith) in
      (l.0, l.1, (r.0, l.2, r.2))

  -- frames and additions as they came, from s to u
  pub data Woven : Type 0 where
    framed : Entry M.Body → Woven
    added : G.A → Woven

  abbrev pub RunOn : M.S → List Woven → M.S → Type 0
  RunOn s [] u = s ≡ u
  RunOn s (framed e ∷ ws) u = (t : M.S) × Executes M s e.line t e.wrote × RunOn t ws u
  RunOn s (added a ∷ ws) u = (t : M.S) × (G.add s a ≡ done t []) × RunOn t ws u

  unfoldable pub frames_of : List Woven → List (Entry M.Body)
  frames_of [] = []
  frames_of (framed e ∷ ws) = e ∷ frames_of ws
  frames_of (added a ∷ ws) = frames_of ws

  unfoldable pub additions_of : List Woven → List G.A
  additions_of [] = []
  additions_of (framed e ∷ ws) = additions_of ws
  additions_of (added a ∷ ws) = a ∷ additions_of ws

  -- the additions first, and then the frames: the same end and the same answers
  pub front :
      (ws : List Woven) (s u : M.S) → RunOn s ws u → (v : M.S) × Grown s (additions_of ws) v × Run M v (frames_of ws) u
  unfolding frames_of additions_of
  front [] s u r = (s, refl, r)
  front (framed e ∷ ws) s u r =
      let f = front ws r.0 u r.2 in
      let o = over (additions_of ws) s r.0 f.0 e.line e.wrote r.1 f.1 in
      (o.0, o.1, (f.0, o.2, f.2))
  front (added a ∷ ws) s u r =
      let f = front ws r.0 u r.2 in
      (f.0, (r.0, r.1, f.1), f.2)

  -- additions that come in time all hold from the next frame's number on
  in-time : (p : List (Step M G)) (n : ℕ) → InTime M G n p → From n (added_in M G p)
  unfolding added_in
  in-time [] n h = tt
  in-time (line l ∷ p) n h = less (added_in M G p) n (in-time p (suc n) h)
    where
      less : (al : List G.A) (m : ℕ) → From (suc m) al → From m al
      less [] m f = tt
      less (a ∷ al) m f = let q : suc m ≤ G.number a = f.0 in (omega arith, less al m f.1)
  in-time (again a ∷ p) n h = (h.0, in-time p n h.1)

  pub grown-pos : (al : List G.A) (s v : M.S) → Grown s al v → M.pos v ≡ M.pos s
  grown-pos [] s v g = rw g
  grown-pos (a ∷ al) s v g = grown-pos al g.0 v g.2 ∙ G.stays s g.0 a [] g.1

  -- Replay with additions in time: seen lines are skipped, the others are executed as in the run behind all additions.
  --   es   frames seen, a run that ends at the position or before it
  --   al   the additions that are still to come, fs the frames
  pub replay-on :
      (p : List (Step M G)) (n : ℕ) (s v u b c : M.S) (es fs : List (Entry M.Body)) (lent : ℕ → ℕ)
      → M.sound s ≡ true
      → Run M b es c → M.pos c ≤ M.pos s → (n + length es ≡ suc (M.pos s))
      → Grown s (added_in M G p) v → Run M v fs u → lines_in M G p ≡ map (line_of M) es ++ map (line_of M) fs
      → InTime M G n p → Enough lent
      → replay_on M G lent s p ≡ record { state = u; answers = map (λ e. e.wrote) fs; stop = none }
  unfolding replay_on lines_in added_in resume with_answer resume_add
  replay-on [] n s v u b c [] [] lent good r h k g q e t big = rw (g ∙ q)
  replay-on [] n s v u b c [] (f ∷ fs) lent good r h k g q e t big = absurd (not-empty _ _ (sym e))
  replay-on [] n s v u b c (x ∷ es) fs lent good r h k g q e t big = absurd (not-empty _ _ (sym e))
  replay-on (again a ∷ p) n s v u b c es fs lent good r h k g q e t big =
      let i : M.pos g.0 ≡ M.pos s = G.stays s g.0 a [] g.1 in
      rw (g.1, resume_add)
      (replay-on p n g.0 v u b c es fs lent (G.keeps s g.0 a [] g.1 good) r (omega arith) (omega arith)
      g.2 q e t.1 big)
  replay-on (line l ∷ p) n s v u b c [] [] lent good r h k g q e t big = absurd (not-empty _ _ e)
  replay-on (line l ∷ p) n s v u b c (x ∷ es) fs lent good r h k g q e t big =
      let ex = r.1 in
      let l-is : l ≡ M.write x.line = heads _ _ _ _ e in
      let ends : M.pos c ≡ M.pos b + length (x ∷ es) = run-pos M 𝓛 b c (x ∷ es) r in
      let num : x.line.num ≡ suc (M.pos b) = ex.next in
      let seen : x.line.num ≤ M.pos s = omega arith in
      rw (
        l-is,
        answer-seen M (lent zero) s text (M.write x.line) good (big zero) x.line
            (𝓛.reads ex.form ex.raw x.line ex.given) seen,
        resume,
      )
      (replay-on p (suc n) s v u r.0 c es fs (λ i. lent (suc i)) good r.2 h (omega arith) g q (tails _ _ _ _ e)
      t (λ i. big (suc i)))
  replay-on (line l ∷ p) n s v u b c [] (f ∷ fs) lent good r h k g q e t big =
      let l-is : l ≡ M.write f.line = heads _ _ _ _ e in
      let ex = q.1 in
      let num : f.line.num ≡ suc (M.pos v) = ex.next in
      let same : M.pos v ≡ M.pos s = grown-pos (added_in M G p) s v g in
      let here : f.line.num ≡ n = omega arith in
      let far : From (suc f.line.num) (added_in M G p) = rw here (in-time p (suc n) t) in
      let o = under (added_in M G p) s v q.0 f.line f.wrote good g ex far in
      let went : M.pos o.0 ≡ suc (M.pos s) = 𝓛.advance s o.0 f.line f.wrote o.1 in
      rw (l-is, answer-again M 𝓛 s o.0 f.line f.wrote (lent zero) o.1 (big zero), resume)
      (ap (with_answer f.wrote)
      (replay-on p (suc n) o.0 q.0 u o.0 o.0 [] fs (λ i. lent (suc i))
      (𝓛.keeps s o.0 f.line f.wrote o.1)
      refl (omega arith) (omega arith) o.2 q.2 (tails _ _ _ _ e) t (λ i. big (suc i))))
