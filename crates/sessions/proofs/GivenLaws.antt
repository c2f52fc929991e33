-- Demand 3 for any engine that takes additions (document 02, T-12): `taken-over`. Assumes nothing.
use Rattle.std.specs.Prelude.{◌≡◌, true, drop}
use Rattle.std.proofs.Math.Path.{refl, sym, ap}
use Rattle.std.proofs.Common.{◌∙◌, not-suc-le-zero, length-append, length-drop}
use Rattle.std.proofs.Math.Option.{none, some}
use mathlib.Core.List.{List, [], ◌∷◌, ◌++◌, map, append_assoc, flatten}
use Prim.Native.Nat.{ℕ, zero, suc, ◌+◌, ◌-◌, ◌≤◌, ◌<◌}
use native.Mathlib.Omega.{arith}
use Rattle.std.proofs.Math.ListN.{length}
use Rattle.std.proofs.lemmas.List.{drop-append-le}
use Rattle.std.proofs.Math.Seq.{drop_at}
use Rattle.sessions.specs.Machine.{Machine, Line, Outcome, refused, done, Executes, Laws, text}
use Rattle.sessions.specs.Session.{Entry, Call, save, from_frame, lines_of, state_after, reply, after, ran}
use Rattle.sessions.specs.Saved.{cut, resume, Enough}
use Rattle.sessions.proofs.CutsLaws.{cut-lines, drop-map}
use Rattle.sessions.proofs.RefusalsLaws.{Did, nothing, frame, did, answer-gap, WroteImage, image-wrote, save-leaves}
use Rattle.sessions.proofs.RunsLaws.{Run, line_of, run-pos, run-lines, run-append, run_drop}
use Rattle.sessions.proofs.ReplayLaws.{map-lines}
use Rattle.sessions.specs.Additions.{Growing, Act, call, adds, reply_to, after_act, walk_on, ran_by, trace_on, accepted_one, added_by, added_on, Step, line, again, lines_in, added_in, InTime, replay_on, frames_on, answers_on, journal_on, SavedAmong, TakenOver}
use Rattle.sessions.proofs.WovenLaws.{Grown, Woven, framed, added, RunOn, frames_of, additions_of, front, replay-on, heads, not-empty, grown-pos}

map-append : {A B : Type 0} (f : A → B) (xs ys : List A) → map f (xs ++ ys) ≡ map f xs ++ map f ys
map-append f [] ys = refl
map-append {B} f (x ∷ xs) ys = ap {B = List B} (λ l. f x ∷ l) (map-append f xs ys)

module _ (M : Machine) (𝓛 : Laws M) (G : Growing M) where
  -- A list of calls in two parts: the state of the first part begins the second.
  pub walk-on : (s : M.S) (cs ds : List (Act M G)) → walk_on M G s (cs ++ ds) ≡ walk_on M G (walk_on M G s cs) ds
  unfolding walk_on
  walk-on s [] ds = refl
  walk-on s (c ∷ cs) ds = walk-on (after_act M G s c) cs ds

  pub trace-on :
      (s : M.S) (cs ds : List (Act M G)) → trace_on M G s (cs ++ ds) ≡ trace_on M G s cs
      ++ trace_on M G (walk_on M G s cs) ds
  unfolding walk_on trace_on
  trace-on s [] ds = refl
  trace-on s (c ∷ cs) ds =
      ap {B = List (Entry M.Body)} (λ l. ran_by M G s c ++ l) (trace-on (after_act M G s c) cs ds)
      ∙ sym (append_assoc (ran_by M G s c) (trace_on M G (after_act M G s c) cs)
      (trace_on M G (walk_on M G (after_act M G s c) cs) ds))

  -- what any list of calls does, as frames and additions
  pub record Ran (s : M.S) (cs : List (Act M G)) : Type 0 where
    pub woven : List (Woven M 𝓛 G)
    pub run : RunOn M 𝓛 G s woven (walk_on M G s cs)
    pub frames : frames_of M 𝓛 G woven ≡ trace_on M G s cs
    pub added : additions_of M 𝓛 G woven ≡ added_on M G s cs

  ran_call :
      (s t : M.S) (l : List (Entry M.Body)) (c : Call) (cs : List (Act M G)) → after M s c ≡ t → ran M s c ≡ l
      → Did M s c → Ran t cs
      → Ran s (call c ∷ cs)
  unfolding walk_on trace_on added_on ran_by added_by after_act reply_to after frames_of additions_of
  ran_call s t l c cs p q (nothing h k) r =
      let et : t ≡ s = sym p ∙ k in
      record {
        woven = r.woven;
        run = rw (p, ← et) r.run;
        frames = r.frames ∙ rw (p, h);
        added = r.added ∙ rw p;
      }
  ran_call s t l c cs p q (frame x v a ex h k) r =
      let et : v ≡ t = sym k ∙ p in
      record {
        woven = framed (record { line = x; wrote = a }) ∷ r.woven;
        run = (v, ex, rw (p, et) r.run);
        frames = ap {B = List (Entry M.Body)} (λ es. record { line = x; wrote = a } ∷ es) r.frames ∙ rw (p, h);
        added = r.added ∙ rw p;
      }

  ran-add : (s : M.S) (a : G.A) (cs : List (Act M G)) (o : Outcome M.S) → G.add s a ≡ o
      → Ran (state_after s o) cs → Ran s (adds a ∷ cs)
  unfolding walk_on trace_on added_on ran_by added_by after_act reply_to accepted_one state_after frames_of additions_of
  ran-add s a cs (refused n) e r =
      record { woven = r.woven; run = rw e r.run; frames = r.frames ∙ rw e; added = r.added ∙ rw e }
  ran-add s a cs (done t w) e r =
      let z : G.add s a ≡ done t [] = e ∙ ap (done t) (G.silent s t a w e) in
      record {
        woven = added a ∷ r.woven;
        run = (t, z, rw e r.run);
        frames = r.frames ∙ rw e;
        added = ap {B = List G.A} (λ al. a ∷ al) r.added ∙ rw e;
      }

  pub ran_on_lem : (s : M.S) (cs : List (Act M G)) → Ran s cs
  unfolding walk_on trace_on frames_of added_on additions_of
  ran_on_lem s [] = record { woven = []; run = refl; frames = refl; added = refl }
  ran_on_lem s (call c ∷ cs) = ran_call s (after M s c) (ran M s c) c cs refl refl (did M 𝓛 s c) (ran_on_lem (after M s c) cs)
  ran_on_lem s (adds a ∷ cs) = ran-add s a cs (G.add s a) refl (ran_on_lem (state_after s (G.add s a)) cs)

  -- the executed frames of a list of calls are a run, from the first state with all additions to the end
  pub record Fronted (s : M.S) (cs : List (Act M G)) : Type 0 where
    pub begins : M.S
    pub grown : Grown M 𝓛 G s (added_on M G s cs) begins
    pub run : Run M begins (trace_on M G s cs) (walk_on M G s cs)

  pub fronted : (s : M.S) (cs : List (Act M G)) → Fronted s cs
  fronted s cs =
      let r = ran_on_lem s cs in
      let f = front M 𝓛 G r.woven s (walk_on M G s cs) r.run in
      record { begins = f.0; grown = rw (← r.added) f.1; run = rw (← r.frames) f.2 }

  -- so all but the first i of them are one too, and their lines are those of the journal from frame i + 1
  pub journal-lines :
      (s : M.S) (cs : List (Act M G)) (i : ℕ) → i ≤ length (trace_on M G s cs)
      → cut (journal_on M G s cs (suc i)) ≡ map (line_of M) (drop i (trace_on M G s cs))
  unfolding journal_on lines_of from_frame
  journal-lines s cs i h =
      let f = fronted s cs in
      let d = run_drop M 𝓛 i f.begins (walk_on M G s cs) (trace_on M G s cs) f.run h in
      let whole = run-lines M 𝓛 d.0 (walk_on M G s cs) (drop i (trace_on M G s cs)) d.1 in
      ap (λ l. cut (flatten (map M.write l))) (drop-map (λ e. e.line) i (trace_on M G s cs))
      ∙ ap (λ l. cut (flatten l)) (map-lines M (drop i (trace_on M G s cs)))
      ∙ cut-lines (map (line_of M) (drop i (trace_on M G s cs))) whole

  module _ (b at v u : M.S) (es fs : List (Entry M.Body)) (al : List G.A) (good : M.sound at ≡ true)
      (origin : M.pos b ≡ 0)
      (r : Run M b es at) (g : Grown M 𝓛 G at al v) (q : Run M v fs u) where
    lines-on :
        (i : ℕ) → i ≤ length es → (p : List (Step M G)) → lines_in M G p ≡ map (line_of M) (drop i (es ++ fs))
        → added_in M G p ≡ al
        → InTime M G (suc i) p → (lent : ℕ → ℕ) → Enough lent
        → replay_on M G lent at p ≡ record { state = u; answers = map (λ e. e.wrote) fs; stop = none }
    lines-on i h p e a t lent big =
        let d = run_drop M 𝓛 i b at es r h in
        let here : M.pos at ≡ M.pos b + length es = run-pos M 𝓛 b at es r in
        let left : length (drop i es) ≡ length es - i = length-drop i es in
        let c : suc i + length (drop i es) ≡ suc (M.pos at) = rw left (omega arith) in
        replay-on M 𝓛 G p (suc i) at v u d.0 at (drop i es) fs lent good d.1 (omega arith) c (rw a g) q
        (e ∙ ap (map (line_of M)) (drop-append-le i es fs h) ∙ map-append (line_of M) (drop i es) fs) t big

  -- the first line of a run past the next number is refused as a gap
  first-gap :
      (at s u : M.S) (xs : List (Entry M.Body)) (l : List ℕ) (p : List (Step M G)) (lent : ℕ → ℕ)
      → M.sound at ≡ true
      → Run M s xs u → M.pos at < M.pos s → lines_in M G (line l ∷ p) ≡ map (line_of M) xs → Enough lent
      → replay_on M G lent at (line l ∷ p) ≡ record { state = at; answers = []; stop = some 2 }
  unfolding replay_on resume lines_in
  first-gap at s u [] l p lent good r h e big = absurd (not-empty _ _ e)
  first-gap at s u (x ∷ xs) l p lent good r h e big =
      let ex = r.1 in
      let l-is : l ≡ M.write x.line = heads _ _ _ _ e in
      let num : x.line.num ≡ suc (M.pos s) = ex.next in
      let far : suc (M.pos at) < x.line.num = omega arith in
      rw (
        l-is,
        answer-gap M (lent zero) at text (M.write x.line) good (big zero) x.line
            (𝓛.reads ex.form ex.raw x.line ex.given) far,
      )

  module _ (fresh at : M.S) (calls later : List (Act M G)) (k : ℕ) (good : M.sound at ≡ true)
      (es fs : List (Entry M.Body))
      (t : trace_on M G fresh calls ≡ es ++ fs) (c : k ≡ length es) where
    counted : length (trace_on M G fresh calls) ≡ length es + length fs
    counted = ap length t ∙ length-append es fs

    rest : drop k (answers_on M G fresh calls) ≡ map (λ e. e.wrote) fs
    unfolding answers_on
    rest = drop-map (λ e. e.wrote) k (trace_on M G fresh calls) ∙ rw (t, c, drop_at es fs (length es) refl)

    on :
        (b v : M.S) → M.pos b ≡ 0 → Run M b es at → Grown M 𝓛 G at (added_on M G at later) v
        → Run M v fs (walk_on M G at later)
        → walk_on M G fresh calls ≡ walk_on M G at later
        → (j : ℕ) → 1 ≤ j → j ≤ k + 1 → (p : List (Step M G)) → lines_in M G p ≡ cut (journal_on M G fresh calls j)
        → added_in M G p ≡ added_on M G at later → InTime M G j p → (lent : ℕ → ℕ) → Enough lent
        → replay_on M G lent at p
        ≡ record { state = walk_on M G fresh calls; answers = drop k (answers_on M G fresh calls); stop = none }
    on b v o r g q w zero h y p e a i lent big = absurd (not-suc-le-zero h)
    on b v o r g q w (suc n) h y p e a i lent big =
        let m : length (trace_on M G fresh calls) ≡ length es + length fs = counted in
        let j : lines_in M G p ≡ map (line_of M) (drop n (es ++ fs)) =
        e ∙ journal-lines fresh calls n (omega arith) ∙ ap (λ l. map (line_of M) (drop n l)) t in
        rw (w, rest) (lines-on b at v (walk_on M G at later) es fs (added_on M G at later) good o r g q n (omega arith)
        p j a i lent big)

    gap :
        M.pos at ≡ length es → M.pos fresh ≡ 0 → (j : ℕ) → k + 1 < j → j ≤ length (trace_on M G fresh calls)
        → (l : List ℕ)
        (p : List (Step M G)) → lines_in M G (line l ∷ p) ≡ cut (journal_on M G fresh calls j) → (lent : ℕ → ℕ)
        → Enough lent
        → replay_on M G lent at (line l ∷ p) ≡ record { state = at; answers = []; stop = some 2 }
    gap here origin zero h y l p e lent big = absurd (not-suc-le-zero h)
    gap here origin (suc n) h y l p e lent big =
        let f = fronted fresh calls in
        let o : M.pos f.begins ≡ 0 =
        grown-pos M 𝓛 G (added_on M G fresh calls) fresh f.begins f.grown ∙ origin in
        let d = run_drop M 𝓛 n f.begins (walk_on M G fresh calls) (trace_on M G fresh calls) f.run (omega arith) in
        let there : M.pos d.0 ≡ M.pos f.begins + n = d.2 in
        first-gap at d.0 (walk_on M G fresh calls) (drop n (trace_on M G fresh calls)) l p lent good d.1
        (omega arith)
        (e ∙ journal-lines fresh calls n (omega arith)) big

  -- Demand 3 for any engine that takes additions.
  pub taken-over :
      (fresh : M.S) → M.pos fresh ≡ 0
      → (calls : List (Act M G)) (k : ℕ) (img : List ℕ) (at : M.S) (later : List (Act M G))
      → SavedAmong M G fresh calls k img at later → TakenOver M G fresh calls k img at later
  unfolding frames_on trace_on walk_on ran_by after_act reply_to ran after
  taken-over fresh origin calls k img at later sv =
      go sv.before sv.lent sv.split sv.count sv.state (image-wrote M sv.lent at img sv.saved)
    where
      go :
          (bs : List (Act M G)) (n : ℕ) → calls ≡ bs ++ (call (save n) ∷ later) → k ≡ frames_on M G fresh bs
          → at ≡ walk_on M G fresh bs
          → WroteImage M at img → TakenOver M G fresh calls k img at later
      go bs n split count state saved =
          let es : List (Entry M.Body) = trace_on M G fresh bs in
          let fs : List (Entry M.Body) = trace_on M G at later in
          let stay : after_act M G at (call (save n)) ≡ at = save-leaves M n at in
          let w : walk_on M G fresh calls ≡ walk_on M G at later =
          rw (split, walk-on fresh bs (call (save n) ∷ later), ← state, stay) in
          let t : trace_on M G fresh calls ≡ es ++ fs =
          rw (split, trace-on fresh bs (call (save n) ∷ later), ← state, stay) in
          let c : k ≡ length es = count in
          let m : length (trace_on M G fresh calls) ≡ length es + length fs =
          counted fresh at calls later k saved.sound es fs t c in
          let f = fronted fresh bs in
          let l = fronted at later in
          let o : M.pos f.begins ≡ 0 =
          grown-pos M 𝓛 G (added_on M G fresh bs) fresh f.begins f.grown ∙ origin in
          let r : Run M f.begins es at = rw state f.run in
          let here : M.pos at ≡ M.pos f.begins + length es = run-pos M 𝓛 f.begins at es r in
          record {
            within = omega arith;
            restored = rw saved.is (𝓛.restores at saved.sound);
            goes_on = on fresh at calls later k saved.sound es fs t c f.begins l.begins o r l.grown
                l.run w;
            gapped = gap fresh at calls later k saved.sound es fs t c (omega arith) origin;
          }
