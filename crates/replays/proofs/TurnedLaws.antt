-- One call of replay on the journal of a session: what it executes of the frames that are ahead and what it leaves,
-- whatever part of the journal it is shown; and a journal that begins past the next frame. Document 01, Refusal
-- numbers, Sessions and failover; over any engine that keeps the laws. Assumes nothing.
use Prim.Native.Nat.{ℕ, zero, suc, ◌+◌, ◌-◌, ◌≤◌, ◌<◌}
use Rattle.std.specs.Prelude.{◌≡◌, Bool, true, false, ◌⊎◌}
use Rattle.std.proofs.Math.Path.{refl, ap}
use Rattle.std.proofs.Common.{sym, ◌∙◌, subst, inl, inr, zero-add, not-suc-le-zero, arith, length-drop}
use Rattle.std.proofs.Math.Option.{Option, none, some}
use mathlib.Core.List.{List, [], ◌∷◌, ◌++◌, map, flatten, append_assoc, append-nil}
use Rattle.std.proofs.Math.ListN.{length, drop, length-append}
use Rattle.std.proofs.lemmas.List.{drop-append-le}
use Rattle.laws.specs.Rows.{flat}
use Rattle.rule.specs.BaseLaws.{none≢some}
use Rattle.sessions.specs.Machine.{Machine, Laws, Line, Outcome, refused, text, answer_room}
use Rattle.sessions.specs.Session.{Call, Entry, from_frame, answer, walk, trace, executed, lines_of, journal}
use Rattle.sessions.specs.Saved.{cut}
use Rattle.sessions.proofs.CutsLaws.{cut-torn, cut-lines, drop-map}
use Rattle.sessions.proofs.RefusalsLaws.{answer-gap}
use Rattle.sessions.proofs.RunsLaws.{Run, line_of, runs, run-pos, run-lines, run_drop, run-append}
use Rattle.sessions.proofs.ReplayLaws.{map-lines}
use Rattle.replays.specs.Into.{Reached, nothing_read, reach, line_from, lines_while, replay_while, replay_into}
use Rattle.replays.proofs.PiecesLaws.{stays, rest, rest-clear, cut-append}
use Rattle.replays.proofs.GoesOnLaws.{cut-behind}
use Rattle.replays.proofs.AheadLaws.{SeenLines, Ahead, Went, lines-went, said_by}

-- One call of replay, shown the part `shown` of the text `shown ++ hidden` that is ahead: what it executed, and what
-- is then ahead.
pub record Turned (M : Machine) (goes : ℕ → Bool) (room : ℕ) (s : M.S) (shown hidden : List ℕ)
    (es : List (Entry M.Body)) (end : M.S) (x : Reached M.S) : Type 0 where
  pub gs : List (Entry M.Body)
  pub hs : List (Entry M.Body)
  pub frames : es ≡ gs ++ hs
  pub ran : Run M s gs x.state
  pub ahead : Ahead M x.state (cut (drop x.taken (shown ++ hidden))) hs end
  pub wrote : x.wrote ≡ said_by gs
  pub held : (gs ≡ []) ⊎ ((p : ℕ) × (suc p ≡ M.pos x.state) × (goes p ≡ true))
  pub ended : (x.stop ≡ none) ⊎ ((x.stop ≡ some 3) × (room - length x.wrote < answer_room))
  pub all_read : hidden ≡ [] → x.stop ≡ none → (cut (drop x.taken (shown ++ hidden)) ≡ [])
      ⊎ (goes (M.pos x.state) ≡ false)
  pub fewer : (cut shown ≡ [] → ⊥) → goes (M.pos s) ≡ true → answer_room ≤ room
      → length (cut (drop x.taken (shown ++ hidden))) < length (cut (shown ++ hidden))

-- a part without LF has no line
none_hidden : (shown hidden : List ℕ) → hidden ≡ [] → cut (rest shown ++ hidden) ≡ []
unfolding rest cut flatten
none_hidden shown hidden h =
    ap (λ (l : List ℕ). cut (rest shown ++ l)) h ∙ ap cut (append-nil (rest shown))
    ∙ cut-torn [] (rest shown) tt (rest-clear [] shown tt)

some-line : (ls : List (List ℕ)) → (ls ≡ [] → ⊥) → 1 ≤ length ls
some-line [] n = absurd (n refl)
some-line (l ∷ ls) n = omega arith

pub turned : (M : Machine) → Laws M
    → (goes : ℕ → Bool) (room : ℕ) (s end : M.S) (shown hidden : List ℕ) (es : List (Entry M.Body))
    → Ahead M s (cut (shown ++ hidden)) es end
    → Turned M goes room s shown hidden es end (replay_while M goes room s shown)
unfolding replay_while nothing_read
turned M 𝓛 goes room s end shown hidden es a =
    let ks : List (List ℕ) = cut (rest shown ++ hidden) in
    let c : cut (shown ++ hidden) ≡ cut shown ++ ks = cut-append shown hidden in
    let x : Reached M.S = lines_while M goes room (nothing_read s) (cut shown) in
    let w : Went M goes room (nothing_read s) (cut shown) ks es end x =
    lines-went M 𝓛 goes room end (cut shown) ks (nothing_read s) es refl
    (subst (λ (l : List (List ℕ)). Ahead M s l es end) c a) in
    let t : cut (drop x.taken (shown ++ hidden)) ≡ w.left ++ ks =
    ap (λ (n : ℕ). cut (drop n (shown ++ hidden))) (w.taken ∙ zero-add (length (flat w.before)))
    ∙ cut-behind (shown ++ hidden) w.before (w.left ++ ks)
    (c ∙ ap (λ (l : List (List ℕ)). l ++ ks) w.lines ∙ append_assoc w.before w.left ks) in
    record {
      gs = w.gs;
      hs = w.hs;
      frames = w.frames;
      ran = w.ran;
      ahead = subst (λ (l : List (List ℕ)). Ahead M x.state l w.hs end) (sym t) w.ahead;
      wrote = w.wrote;
      held = w.held;
      ended = ends w.ended;
      all_read = λ h e. read_all w.left ks (t ∙ refl) (none_hidden shown hidden h) e w.ended;
      fewer = λ n g k.
          let b : 1 ≤ length w.before = w.moved (some-line (cut shown) n) g (omega arith) in
          let i : length (cut (drop x.taken (shown ++ hidden))) ≡ length w.left + length ks =
          ap length t ∙ length-append w.left ks in
          let j : length (cut (shown ++ hidden)) ≡ length (cut shown) + length ks =
          ap length c ∙ length-append (cut shown) ks in
          let m : length (cut shown) ≡ length w.before + length w.left =
          ap length w.lines ∙ length-append w.before w.left in
          omega arith;
    }
  where
    ends : {A B C : Type 0} → (A × B) ⊎ C → A ⊎ C
    ends (inl p) = inl p.0
    ends (inr q) = inr q

    read_all : {N : Type 0} {A B : Bool} {x : Option ℕ} {ls : List (List ℕ)} (left ks : List (List ℕ))
        → ls ≡ left ++ ks → ks ≡ [] → x ≡ none
        → ((x ≡ none) × ((left ≡ []) ⊎ (A ≡ B))) ⊎ ((x ≡ some 3) × N) → (ls ≡ []) ⊎ (A ≡ B)
    read_all left ks t h e (inl (z, inl l)) = inl (t ∙ ap (λ (k : List (List ℕ)). left ++ k) h ∙ append-nil left ∙ l)
    read_all left ks t h e (inl (z, inr g)) = inr g
    read_all left ks t h e (inr q) = absurd (none≢some (sym e ∙ q.0))

module _ (M : Machine) (𝓛 : Laws M) where
  -- the lines of a run up to a position were seen there
  pub run-seen : (p : ℕ) (s u : M.S) (es : List (Entry M.Body)) → Run M s es u → M.pos u ≤ p
      → SeenLines M p (map (line_of M) es)
  run-seen p s u [] r h = tt
  run-seen p s u (e ∷ es) r h =
      let x = r.1 in
      let n : e.line.num ≡ suc (M.pos s) = x.next in
      let q : M.pos u ≡ M.pos s + length (e ∷ es) = run-pos M 𝓛 s u (e ∷ es) r in
      ((e.line, 𝓛.reads x.form x.raw e.line x.given, omega arith), run-seen p r.0 u es r.2 h)

  -- the lines of a session's journal from frame i + 1 on
  journal-cut : (s : M.S) (cs : List Call) (i : ℕ) → i ≤ length (trace M s cs)
      → cut (journal M s cs (suc i)) ≡ map (line_of M) (drop i (trace M s cs))
  unfolding journal lines_of from_frame executed
  journal-cut s cs i h =
      let d = run_drop M 𝓛 i s (walk M s cs) (trace M s cs) (runs M 𝓛 s cs) h in
      let es : List (Entry M.Body) = drop i (trace M s cs) in
      ap (λ (l : List (Line M.Body)). cut (flatten (map M.write l)))
      (drop-map (λ (e : Entry M.Body). e.line) i (trace M s cs))
      ∙ ap (λ (l : List (List ℕ)). cut (flatten l)) (map-lines M es)
      ∙ cut-lines (map (line_of M) es) (run-lines M 𝓛 d.0 (walk M s cs) es d.1)

  pub map-join : (es fs : List (Entry M.Body)) → map (line_of M) (es ++ fs) ≡ map (line_of M) es ++ map (line_of M) fs
  map-join [] fs = refl
  map-join (e ∷ es) fs = ap (λ (l : List (List ℕ)). line_of M e ∷ l) (map-join es fs)

  -- a run that begins past the next frame is refused at its first line
  pub run-gap : (at s u : M.S) (gs : List (Entry M.Body)) (room : ℕ) → M.sound at ≡ true → Run M s gs u
      → M.pos at < M.pos s → 0 < length gs
      → answer_room ≤ room
      → lines_while M (λ p. true) room (nothing_read at) (map (line_of M) gs)
      ≡ record { state = at; wrote = []; taken = 0; stop = some 2 }
  unfolding lines_while line_from reach nothing_read
  run-gap at s u [] room good r h z big = absurd (not-suc-le-zero z)
  run-gap at s u (e ∷ gs) room good r h z big =
      let x = r.1 in
      let n : e.line.num ≡ suc (M.pos s) = x.next in
      let halt : Reached M.S = record { state = at; wrote = []; taken = 0; stop = some 2 } in
      ap (λ (o : Outcome M.S). lines_while M (λ p. true) room (reach (nothing_read at) (length (line_of M e)) o)
      (map (line_of M) gs))
      (answer-gap M (room - 0) at text (line_of M e) good (omega arith) e.line
      (𝓛.reads x.form x.raw e.line x.given) (omega arith))
      ∙ stays M room (λ p. true) halt 2 (map (line_of M) gs) refl

  -- A session of the frames es to the state `at` and fs to the state `end`, from position 0: its journal from frame i
  -- + 1 on.
  module _ (fresh at end : M.S) (calls : List Call) (es fs : List (Entry M.Body))
      (t : trace M fresh calls ≡ es ++ fs)
      (r : Run M fresh es at) (q : Run M at fs end) (origin : M.pos fresh ≡ 0) (good : M.sound at ≡ true)
      (i : ℕ) where
    -- up to the next frame: seen lines, and then the lines of fs are ahead
    pub session-ahead : i ≤ length es → Ahead M at (cut (journal M fresh calls (suc i))) fs end
    session-ahead h =
        let n : length (trace M fresh calls) ≡ length es + length fs = ap length t ∙ length-append es fs in
        let d = run_drop M 𝓛 i fresh at es r h in
        record {
          seen = map (line_of M) (drop i es);
          are-seen = run-seen (M.pos at) d.0 at (drop i es) d.1 (omega arith);
          split = journal-cut fresh calls i (omega arith)
              ∙ ap (λ (l : List (Entry M.Body)). map (line_of M) (drop i l)) t
              ∙ ap (map (line_of M)) (drop-append-le i es fs h) ∙ map-join (drop i es) fs;
          good = good;
          run = q;
        }

    -- past it: the first line is refused as a gap, so nothing is read
    pub session-gap : length es < i → i < length es + length fs → (room : ℕ) → answer_room ≤ room
        → replay_into M room at (journal M fresh calls (suc i))
        ≡ record { state = at; wrote = []; taken = 0; stop = some 2 }
    unfolding replay_while
    session-gap h k room big =
        let n : length (trace M fresh calls) ≡ length es + length fs = ap length t ∙ length-append es fs in
        let m : length (es ++ fs) ≡ length es + length fs = length-append es fs in
        let p : M.pos at ≡ M.pos fresh + length es = run-pos M 𝓛 fresh at es r in
        let d = run_drop M 𝓛 i fresh end (es ++ fs) (run-append M 𝓛 fresh at end es fs r q) (omega arith) in
        let there : M.pos d.0 ≡ M.pos fresh + i = d.2 in
        let some_left : 0 < length (drop i (es ++ fs)) = rw (length-drop i (es ++ fs)) (omega arith) in
        ap (lines_while M (λ p. true) room (nothing_read at))
        (journal-cut fresh calls i (omega arith) ∙ ap (λ (l : List (Entry M.Body)). map (line_of M) (drop i l)) t)
        ∙ run-gap at d.0 end (drop i (es ++ fs)) room good d.1 (omega arith) some_left big
