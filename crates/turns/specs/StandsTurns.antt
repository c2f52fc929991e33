-- How a takeover stands at every turn: what it has written, and what is held and still to come, are the replay of the
-- whole journal. One turn keeps this. Document 01, Refusal numbers (replay), Lines, A session in full. Definitions of
-- the proofs alone stand here too: Stands. Assumes nothing.
use Rattle.std.specs.Prelude.{ℕ, ◌+◌, Bool, ◌&&◌, take, drop}
use Rattle.std.proofs.Math.Path.{◌≡◌, refl, sym, ap, subst}
use Rattle.std.proofs.Common.{◌∙◌, add-zero}
use Rattle.std.proofs.Math.Bool.{true, false, false≢true}
use Rattle.std.proofs.Math.Option.{Option, none, some}
use mathlib.Core.List.{List, [], ◌++◌, append_assoc, append-nil}
use Rattle.std.proofs.Math.Nat.{zero-add}
use native.Mathlib.Omega.{arith}
use borrow.Author.Tests.{eqb-false}
use Rattle.std.proofs.Math.Dec.{eqb}
use Rattle.std.proofs.Math.ListN.{length, length-append}
use Rattle.laws.specs.Tests.{pick}
use Rattle.laws.specs.Rows.{flat}
use Rattle.sessions.specs.Machine.{Machine, NoLF}
use Rattle.sessions.specs.Saved.{replay_lines, replay, cut, Enough}
use Rattle.replays.specs.Into.{Reached, nothing_read, replay_while}
use Rattle.turns.specs.WholesLaws.{Tells}
use Rattle.turns.specs.SplitLaws.{ahead, ahead_none, ahead-ahead, Part, part}
use Rattle.turns.specs.Told.{goes_of, shown_of}
use Rattle.turns.specs.Told.{told}
use Rattle.turns.specs.ToldLaws.{told-append, turn-told}
use Rattle.turns.specs.Swap.{long_line}
use Rattle.turns.specs.SwapLaws.{clear-take, replay-long, lines_long}
use Rattle.turns.specs.PartedLaws.{cut-before, cut_left, cut-whole, left-clear}
use Rattle.turns.specs.Takeover.{Next, reads, again, ended, stopped, next_of, is_reads, kept, rests, Standing}
use Rattle.turns.specs.Takeover.{reached, follows, turned, rested, tells, Flow, start}

module _ (M : Machine) (𝓣 : Tells M) (after : ℕ) (numbered : Bool) (room cap : ℕ) where
  -- How a takeover that began at s with the journal stands. gave: the answers so far; told: what was written is what
  -- is told of them; moved: one frame each. whole: they, and then the replay of what is held and still to come, are
  -- the replay of the journal. lines: the lines read and those still to come are the journal's. executed, seen: those
  -- read were executed or seen. good: a sound state stays sound. clear: where more is read, or the journal has ended,
  -- what is held has no LF. over: nothing is still to come at its end. halts: a takeover that was stopped stands
  -- before the line that is refused.
  pub record Stands (s : M.S) (journal : List ℕ) (f : Flow M after numbered room cap) : Type 0 where
    pub gave : List (List ℕ)
    pub seen : ℕ
    pub tells : f.wrote ≡ told after numbered (M.pos s) gave
    pub moved : M.pos f.standing.state ≡ M.pos s + length gave
    pub whole :
        (lent : ℕ → ℕ) → Enough lent
        → replay M lent s journal ≡ ahead gave (replay M lent f.standing.state (f.standing.held ++ f.rem))
    pub lines : length (cut journal) ≡ f.standing.lines + length (cut (f.standing.held ++ f.rem))
    pub executed : f.standing.executed ≡ length gave
    pub count : f.standing.lines ≡ length gave + seen
    pub good : M.sound s ≡ true → M.sound f.standing.state ≡ true
    pub clear : is_reads f.standing.next ≡ true → NoLF f.standing.held
    pub over : f.standing.next ≡ ended → (f.rem ≡ []) × NoLF f.standing.held
    pub halts :
        (k : ℕ) → f.standing.next ≡ stopped k → (lent : ℕ → ℕ) → Enough lent
        → replay M lent f.standing.state (f.standing.held ++ f.rem)
        ≡ record { state = f.standing.state; answers = []; stop = some k }

  pub starts : (s : M.S) (journal : List ℕ) → Stands s journal (start M after numbered room cap s journal)
  unfolding start told
  starts s journal =
      record {
        gave = [];
        seen = 0;
        tells = refl;
        moved = sym (add-zero (M.pos s));
        whole = λ lent big. sym (ahead_none (replay M lent s journal));
        lines = sym (zero-add (length (cut journal)));
        executed = refl;
        count = refl;
        good = λ g. g;
        clear = λ e. tt;
        over = λ e. let z : ◌≡◌ {A = ℕ} 0 1 = cc in absurd (omega arith);
        halts = λ k e. let z : ◌≡◌ {A = ℕ} 0 1 = cc in absurd (omega arith);
      }

  -- a stop is a refusal other than 3
  stop-of : (g : Bool) (o : Option ℕ) (k : ℕ) → next_of g o ≡ stopped k → (o ≡ some k) × (k ≡ 3 → ⊥)
  unfolding next_of pick
  stop-of true none k e = let z : ◌≡◌ {A = ℕ} 0 1 = cc in absurd (omega arith)
  stop-of false none k e = let z : ◌≡◌ {A = ℕ} 0 1 = cc in absurd (omega arith)
  stop-of g (some j) k e = go (eqb j 3) refl e
    where
      go : (b : Bool) → eqb j 3 ≡ b → pick b again (stopped j) ≡ stopped k → (some j ≡ some k) × (k ≡ 3 → ⊥)
      go true q h = let z : ◌≡◌ {A = ℕ} 0 1 = cc in absurd (omega arith)
      go false q h = let i : j ≡ k = cc in (ap some i, λ z. eqb-false j 3 q (i ∙ z))

  -- more is read where replay was not stopped and the bound is not reached
  reads_of : (g : Bool) (o : Option ℕ) → is_reads (next_of g o) ≡ true → (o ≡ none) × (g ≡ true)
  unfolding next_of is_reads pick
  reads_of true none e = (refl, refl)
  reads_of false none e = absurd (false≢true e)
  reads_of g (some j) e = go (eqb j 3) e
    where
      go : (b : Bool) → is_reads (pick b again (stopped j)) ≡ true → (some j ≡ none) × (g ≡ true)
      go true h = absurd (false≢true h)
      go false h = absurd (false≢true h)

  -- a replay is never followed by the journal's end
  ended_of : (g : Bool) (o : Option ℕ) → next_of g o ≡ ended → ⊥
  unfolding next_of pick
  ended_of true none e = let z : ◌≡◌ {A = ℕ} 0 1 = cc in omega arith
  ended_of false none e = let z : ◌≡◌ {A = ℕ} 0 1 = cc in omega arith
  ended_of g (some j) e = go (eqb j 3) e
    where
      go : (b : Bool) → pick b again (stopped j) ≡ ended → ⊥
      go true h = let z : ◌≡◌ {A = ℕ} 0 1 = cc in omega arith
      go false h = let z : ◌≡◌ {A = ℕ} 0 1 = cc in omega arith

  -- one turn that replays the text t, before the rest v of the journal
  module _ (x : Standing M.S) (t v : List ℕ) where
    abbrev pub end : Reached M.S
    end = reached M after numbered room cap x.state t

    abbrev next : Next
    next = follows M after numbered room cap x.state end

    abbrev left : List ℕ
    left = drop end.taken t

    abbrev goes : ℕ → Bool
    goes = goes_of after numbered (M.pos x.state)

    whole_part : Part M 𝓣 goes room (nothing_read x.state) (cut t) end
    unfolding reached replay_while nothing_read
    whole_part = part M 𝓣 goes room (cut t) (nothing_read x.state) refl

    abbrev p : Part M 𝓣 goes room (nothing_read x.state) (cut t) end
    p = whole_part

    taken : end.taken ≡ length (flat p.before)
    unfolding nothing_read
    taken = p.taken ∙ zero-add (length (flat p.before))

    -- what is left, before the rest
    cut-rest : cut (left ++ v) ≡ p.left ++ cut (Rattle.replays.proofs.PiecesLaws.rest t ++ v)
    cut-rest = ap (λ (n : ℕ). cut (drop n t ++ v)) taken ∙ cut_left t p.before p.left p.split v

    turn-whole : (lent : ℕ → ℕ) → Enough lent
        → replay M lent x.state (t ++ v) ≡ ahead p.gave (replay M lent end.state (left ++ v))
    unfolding replay nothing_read
    turn-whole lent big =
        ap (replay_lines M lent x.state) (cut-whole t p.before p.left p.split v
        ∙ sym (append_assoc p.before p.left (cut (Rattle.replays.proofs.PiecesLaws.rest t ++ v)))
        ∙ ap (λ (ls : List (List ℕ)). ls ++ cut (Rattle.replays.proofs.PiecesLaws.rest t ++ v)) (sym p.split))
        ∙ p.whole_run (cut (Rattle.replays.proofs.PiecesLaws.rest t ++ v)) lent big
        ∙ ap (λ (ls : List (List ℕ)). ahead p.gave (replay_lines M lent end.state ls)) (sym cut-rest)

    turn_lines : length (cut (t ++ v)) ≡ length (cut (take end.taken t)) + length (cut (left ++ v))
    turn_lines =
        ap length (cut-whole t p.before p.left p.split v)
        ∙ length-append p.before (p.left ++ cut (Rattle.replays.proofs.PiecesLaws.rest t ++ v))
        ∙ ap (λ (ls : List (List ℕ)). length p.before + length ls) (sym cut-rest)
        ∙ ap (λ (ls : List (List ℕ)). length ls + length (cut (left ++ v)))
        (sym (ap (λ (n : ℕ). cut (take n t)) taken ∙ cut-before t p.before p.left p.split))

    turn-count : length (cut (take end.taken t)) ≡ length p.gave + p.seen
    turn-count = ap length (ap (λ (n : ℕ). cut (take n t)) taken ∙ cut-before t p.before p.left p.split)
        ∙ p.count

    turn_moved : M.pos end.state ≡ M.pos x.state + length p.gave
    unfolding nothing_read
    turn_moved = p.moved

    turn-good : M.sound x.state ≡ true → M.sound end.state ≡ true
    unfolding nothing_read
    turn-good = p.good

    -- where more is read what is left has no LF
    turn-clear : is_reads next ≡ true → NoLF left
    unfolding follows
    turn-clear e =
        let r : (end.stop ≡ none) × (goes (M.pos end.state) ≡ true) =
        reads_of (goes (M.pos end.state)) end.stop e in
        subst (λ (n : ℕ). NoLF (drop n t)) (sym taken)
        (left-clear t p.before p.left p.split (p.ends r.0 r.1))

    turn-halts : (k : ℕ) → next ≡ stopped k → (lent : ℕ → ℕ) → Enough lent
        → replay M lent end.state (left ++ v) ≡ record { state = end.state; answers = []; stop = some k }
    unfolding follows replay
    turn-halts k e lent big =
        let r : (end.stop ≡ some k) × (k ≡ 3 → ⊥) = stop-of (goes (M.pos end.state)) end.stop k e in
        ap (replay_lines M lent end.state) cut-rest
        ∙ p.halts k r.0 r.1 (cut (Rattle.replays.proofs.PiecesLaws.rest t ++ v)) lent big

    turn-over : next ≡ ended → ⊥
    unfolding follows
    turn-over e = ended_of (goes (M.pos end.state)) end.stop e

    -- what is kept replays as what is left does, has as many lines, and no LF where more is read
    pub record Keeps (k : List ℕ) : Type 0 where
      pub same : (lent : ℕ → ℕ) → replay M lent end.state (k ++ v) ≡ replay M lent end.state (left ++ v)
      pub many : length (cut (k ++ v)) ≡ length (cut (left ++ v))
      pub clear : is_reads next ≡ true → NoLF k

    keeps : Keeps (kept cap next left)
    unfolding kept pick
    keeps = go (is_reads next) (eqb (length left) cap) refl
      where
        go : (b c : Bool) → is_reads next ≡ b → Keeps (pick (b && c) (take long_line left) left)
        go true true e =
            record {
              same = λ lent. sym (replay-long M 𝓣 lent end.state left v (turn-clear e));
              many = sym (lines_long left v (turn-clear e));
              clear = λ q. clear-take long_line left (turn-clear q);
            }
        go true false e = record { same = λ lent. refl; many = refl; clear = turn-clear }
        go false c e = record { same = λ lent. refl; many = refl; clear = turn-clear }

  -- a turn that replays
  module _ (s : M.S) (journal : List ℕ) (x : Standing M.S) (out u v : List ℕ)
      (h : Stands s journal (record { standing = x; wrote = out; rem = u ++ v })) where
    abbrev pub t : List ℕ
    t = x.held ++ u

    abbrev pub y : Standing M.S
    y = turned M after numbered room cap x t (reached M after numbered room cap x.state t)

    pub goes_on_lem : Stands s journal
        (record {
          standing = y;
          wrote = out
              ++ shown_of after numbered (M.pos x.state) (end x t v).wrote;
          rem = v;
        })
    unfolding turned
    goes_on_lem =
        let q = p x t v in
        let k : Keeps x t v (kept cap (next x t v) (left x t v)) = keeps x t v in
        let j : x.held ++ (u ++ v) ≡ t ++ v = sym (append_assoc x.held u v) in
        record {
          gave = h.gave ++ q.gave;
          seen = h.seen + q.seen;
          tells = ap (λ (l : List ℕ). l ++ shown_of after numbered (M.pos x.state) (end x t v).wrote) h.tells
              ∙ ap (λ (l : List ℕ). told after numbered (M.pos s) h.gave ++ l)
              (turn-told after numbered M 𝓣 room x.state (cut t) (end x t v) q
              ∙ ap (λ (n : ℕ). told after numbered n q.gave) h.moved)
              ∙ sym (told-append after numbered (M.pos s) h.gave q.gave);
          moved = turn_moved x t v ∙ ap (λ (n : ℕ). n + length q.gave) h.moved
              ∙ simp length-append (omega arith);
          whole = λ lent big. h.whole lent big ∙ ap (λ (l : List ℕ). ahead h.gave (replay M lent x.state l)) j
              ∙ ap (ahead h.gave) (turn-whole x t v lent big)
              ∙ ahead-ahead h.gave q.gave (replay M lent (end x t v).state (left x t v ++ v))
              ∙ ap (ahead (h.gave ++ q.gave)) (sym (k.same lent));
          lines = h.lines ∙ ap (λ (l : List ℕ). x.lines + length (cut l)) j
              ∙ (let a = turn_lines x t v in let b = k.many in omega arith);
          executed = (let a = turn_moved x t v in let b = h.executed in simp length-append (omega arith));
          count = (let a = turn-count x t v in let b = h.count in simp length-append (omega arith));
          good = λ g. turn-good x t v (h.good g);
          clear = λ e. k.clear e;
          over = λ e. absurd (turn-over x t v e);
          halts = λ n e lent big. k.same lent ∙ turn-halts x t v n e lent big;
        }

  -- a turn that does not replay: the journal has ended, or nothing is left to do
  module _ (s : M.S) (journal : List ℕ) (f : Flow M after numbered room cap) (h : Stands s journal f) where
    pub rests-on : (n : Next) → f.standing.next ≡ n → (is_reads n ≡ true → f.rem ≡ [])
        → Stands s journal
        (record { standing = rested M after numbered room cap f.standing; wrote = f.wrote ++ []; rem = f.rem })
    unfolding rested rests is_reads
    rests-on n e r =
        record {
          gave = h.gave;
          seen = h.seen;
          tells = append-nil f.wrote ∙ h.tells;
          moved = h.moved;
          whole = h.whole;
          lines = h.lines;
          executed = h.executed;
          count = h.count;
          good = h.good;
          clear = λ q. absurd (no_reads n e q);
          over = λ q. is-over n e r q;
          halts = λ k q. h.halts k (is-stopped n e k q);
        }
      where
        no_reads : (n : Next) → f.standing.next ≡ n → is_reads (rests f.standing.next) ≡ true → ⊥
        no_reads reads e q = false≢true (rw e at q)
        no_reads again e q = false≢true (rw e at q)
        no_reads ended e q = false≢true (rw e at q)
        no_reads (stopped k) e q = false≢true (rw e at q)

        is-over : (n : Next) → f.standing.next ≡ n → (is_reads n ≡ true → f.rem ≡ [])
            → rests f.standing.next ≡ ended
            → (f.rem ≡ []) × NoLF f.standing.held
        is-over reads e r q = (r refl, h.clear (ap is_reads e))
        is-over again e r q = let z : again ≡ ended = rw e at q in let y : ◌≡◌ {A = ℕ} 0 1 = cc in absurd (omega arith)
        is-over ended e r q = h.over e
        is-over (stopped k) e r q = let z : stopped k ≡ ended = rw e at q in let y : ◌≡◌ {A = ℕ} 0 1 =
            cc in absurd (omega arith)

        is-stopped : (n : Next) → f.standing.next ≡ n → (k : ℕ) → rests f.standing.next ≡ stopped k
            → f.standing.next ≡ stopped k
        is-stopped reads e k q = let z : ended ≡ stopped k = rw e at q in let y : ◌≡◌ {A = ℕ} 0 1 =
            cc in absurd (omega arith)
        is-stopped again e k q = let z : again ≡ stopped k = rw e at q in let y : ◌≡◌ {A = ℕ} 0 1 =
            cc in absurd (omega arith)
        is-stopped ended e k q = let z : ended ≡ stopped k = rw e at q in let y : ◌≡◌ {A = ℕ} 0 1 =
            cc in absurd (omega arith)
        is-stopped (stopped j) e k q = e ∙ (let z : stopped j ≡ stopped k = rw e at q in z)
