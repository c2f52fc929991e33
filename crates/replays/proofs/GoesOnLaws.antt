-- A replay that ended before the text did, for want of room (refusal 3) or at the frame that it was held to, goes on:
-- the caller replays what was not read, from the state reached; the two together are the replay of the whole.
-- Document 01, Refusal numbers. Assumes nothing.
use Rattle.std.specs.Prelude.{ℕ, zero, suc, ◌+◌, ◌-◌, ◌≤◌, ◌<◌, Bool, cond, eqb, drop}
use Rattle.std.proofs.Math.Path.{◌≡◌, refl, sym, ap, fun_ext}
use Rattle.std.proofs.Common.{ap₂, ◌∙◌, subst, add-zero, arith, eqb-true, length-append}
use Rattle.std.proofs.Math.Bool.{true, false}
use Rattle.std.proofs.Math.Option.{Option, none, some}
use mathlib.Core.List.{List, [], ◌∷◌, ◌++◌, append_assoc, append-nil, flatten}
use Rattle.std.proofs.Math.Nat.{zero-add, add_assoc}
use Rattle.std.proofs.lemmas.Bool.{eqb-false}
use Rattle.std.proofs.Math.ListN.{length}
use Rattle.std.proofs.Math.Seq.{drop-append_seam}
use Rattle.lines.specs.Hex.{lf}
use Rattle.laws.specs.Rows.{flat}
use Rattle.laws.specs.RowsLaws.{flat_append}
use Rattle.rule.specs.BaseLaws.{none≢some, some_inj}
use Rattle.sessions.specs.Machine.{Machine, Outcome, refused, done, NoLF, OneLine, text, answer_room}
use Rattle.sessions.specs.Session.{answer}
use Rattle.sessions.specs.Saved.{Replayed, with_answer, resume, replay_lines, replay, cut, cut_from, Enough}
use Rattle.sessions.proofs.CutsLaws.{AllLines, cut-torn}
use Rattle.sessions.proofs.RefusalsLaws.{answer-unsound, answer-judge}
use Rattle.replays.specs.Into.{Reached, nothing_read, reach, line_from, lines_while, replay_while}
use Rattle.replays.proofs.PiecesLaws.{stays, line-goes, rest, rest_from, rest-clear, flat-cut}
use Rattle.replays.proofs.WholeLaws.{answer-room}

-- the lines of a text end in their only LF
pub all_lines : (p t : List ℕ) → NoLF p → AllLines (cut_from p t)
unfolding cut_from
all_lines p [] h = tt
all_lines p (c ∷ t) h = go (eqb c lf) refl (all_lines [] t tt) (λ k. all_lines (p ++ (c ∷ [])) t k)
  where
    snoc : (q : List ℕ) (d : ℕ) → NoLF q → (d ≡ lf → ⊥) → NoLF (q ++ (d ∷ []))
    snoc [] d k n = (n, tt)
    snoc (x ∷ q) d k n = (k.0, snoc q d k.1 n)

    go : (b : Bool) → eqb c lf ≡ b → AllLines (cut_from [] t)
        → (NoLF (p ++ (c ∷ [])) → AllLines (cut_from (p ++ (c ∷ [])) t))
        → AllLines (elim b [ true ↦ (p ++ (c ∷ [])) ∷ cut_from [] t | false ↦ cut_from (p ++ (c ∷ [])) t ])
    go true e a f = (record { front = p; clear = h; whole = ap (λ (k : ℕ). p ++ (k ∷ [])) (eqb-true c lf e) }, a)
    go false e a f = f (snoc p c h (eqb-false c lf e))

pub all-behind : (ls ks : List (List ℕ)) → AllLines (ls ++ ks) → AllLines ks
all-behind [] ks h = h
all-behind (l ∷ ls) ks h = all-behind ls ks h.1

flat-flatten : (ls : List (List ℕ)) → flat ls ≡ flatten ls
unfolding flat flatten
flat-flatten [] = refl
flat-flatten (l ∷ ls) = ap (λ (r : List ℕ). l ++ r) (flat-flatten ls)

-- what is left of a text behind some of its lines has the other lines
pub cut-behind : (t : List ℕ) (ls ks : List (List ℕ)) → cut t ≡ ls ++ ks → cut (drop (length (flat ls)) t) ≡ ks
unfolding cut rest
cut-behind t ls ks e =
    let w : t ≡ flat ls ++ (flat ks ++ rest t) =
    sym (flat-cut t) ∙ ap (λ (x : List (List ℕ)). flat x ++ rest t) e
    ∙ ap (λ (x : List ℕ). x ++ rest t) (flat_append ls ks)
    ∙ append_assoc (flat ls) (flat ks) (rest t) in
    let d : drop (length (flat ls)) t ≡ flat ks ++ rest t =
    ap (λ (x : List ℕ). drop (length (flat ls)) x) w ∙ drop-append_seam (flat ls) (flat ks ++ rest t) in
    let a : AllLines ks = all-behind ls ks (subst AllLines e (all_lines [] t tt)) in
    ap cut (d ∙ ap (λ (x : List ℕ). x ++ rest t) (flat-flatten ks)) ∙ cut-torn ks (rest t) a (rest-clear [] t tt)

module _ (M : Machine) where
  -- with room enough for every line, how much is lent makes no difference
  pub lent-free : (a b : ℕ → ℕ) (s : M.S) (ls : List (List ℕ)) → Enough a → Enough b
      → replay_lines M a s ls ≡ replay_lines M b s ls
  unfolding replay_lines
  lent-free a b s [] p q = refl
  lent-free a b s (l ∷ ls) p q =
      line (answer M (a zero) s text l) (answer M (b zero) s text l) (both (M.sound s) refl)
      (λ t. lent-free (λ i. a (suc i)) (λ i. b (suc i)) t ls (λ i. p (suc i)) (λ i. q (suc i)))
    where
      both : (t : Bool) → M.sound s ≡ t → answer M (a zero) s text l ≡ answer M (b zero) s text l
      both false e = answer-unsound M (a zero) s text l e ∙ sym (answer-unsound M (b zero) s text l e)
      both true e = answer-judge M (a zero) s text l e (p zero) ∙ sym (answer-judge M (b zero) s text l e (q zero))

      resumed : (o : Outcome M.S) (f g : M.S → Replayed M.S) → ((t : M.S) → f t ≡ g t)
          → resume s o f ≡ resume s o g
      resumed o f g h = ap (resume s o) (fun_ext h)

      line : (o u : Outcome M.S) → o ≡ u
          → ((t : M.S) → replay_lines M (λ i. a (suc i)) t ls ≡ replay_lines M (λ i. b (suc i)) t ls)
          → resume s o (λ t. replay_lines M (λ i. a (suc i)) t ls)
          ≡ resume s u (λ t. replay_lines M (λ i. b (suc i)) t ls)
      line o u e h =
          ap (λ (x : Outcome M.S). resume s x (λ t. replay_lines M (λ i. a (suc i)) t ls)) e
          ∙ resumed u (λ t. replay_lines M (λ i. a (suc i)) t ls) (λ t. replay_lines M (λ i. b (suc i)) t ls) h

  -- What a replay that stopped by 3 reached, and what is left: the lines read and the others; replay of all is what
  -- was written and the replay of what is left.
  pub record Left (r : Reached M.S) (ls : List (List ℕ)) (end : Reached M.S) : Type 0 where
    pub before : List (List ℕ)
    pub left : List (List ℕ)
    pub split : ls ≡ before ++ left
    pub taken : end.taken ≡ r.taken + length (flat before)
    pub state : (lent : ℕ → ℕ) → Enough lent
        → (replay_lines M lent r.state ls).state ≡ (replay_lines M lent end.state left).state
    pub stop : (lent : ℕ → ℕ) → Enough lent
        → (replay_lines M lent r.state ls).stop ≡ (replay_lines M lent end.state left).stop
    pub wrote :
        (lent : ℕ → ℕ) → Enough lent
        → r.wrote ++ flat (replay_lines M lent r.state ls).answers ≡ end.wrote
        ++ flat (replay_lines M lent end.state left).answers

  module _ (room : ℕ) where
    -- one line that was executed or skipped
    line-left : (l : List ℕ) (ls : List (List ℕ)) (r x end : Reached M.S) (a : List ℕ)
        → x.taken ≡ r.taken + length l → x.wrote ≡ r.wrote ++ a
        → ((lent : ℕ → ℕ) → Enough lent
        → ((replay_lines M lent r.state (l ∷ ls)).state ≡ (replay_lines M lent x.state ls).state)
        × ((replay_lines M lent r.state (l ∷ ls)).stop ≡ (replay_lines M lent x.state ls).stop)
        × (flat (replay_lines M lent r.state (l ∷ ls)).answers ≡ a
        ++ flat (replay_lines M lent x.state ls).answers))
        → Left x ls end → Left r (l ∷ ls) end
    unfolding flat
    line-left l ls r x end a n w f h =
        record {
          before = l ∷ h.before;
          left = h.left;
          split = ap (λ (k : List (List ℕ)). l ∷ k) h.split;
          taken = h.taken ∙ ap (λ (k : ℕ). k + length (flat h.before)) n
              ∙ add_assoc r.taken (length l) (length (flat h.before))
              ∙ ap (λ (k : ℕ). r.taken + k) (sym (length-append l (flat h.before)));
          state = λ lent big. (f lent big).0 ∙ h.state lent big;
          stop = λ lent big. (f lent big).1 ∙ h.stop lent big;
          wrote = λ lent big. ap (λ (k : List ℕ). r.wrote ++ k) (f lent big).2
              ∙ sym (append_assoc r.wrote a (flat (replay_lines M lent x.state ls).answers))
              ∙ ap (λ (k : List ℕ). k ++ flat (replay_lines M lent x.state ls).answers) (sym w) ∙ h.wrote lent big;
        }

    -- the outcome of a line that was not refused by 3, and the replay of it and what follows
    first : (l : List ℕ) (ls : List (List ℕ)) (s : M.S) (k : ℕ) (o : Outcome M.S) → answer M k s text l ≡ o
        → (o ≡ refused 3 → ⊥)
        → (lent : ℕ → ℕ) → Enough lent → replay_lines M lent s (l ∷ ls) ≡ resume s o (λ t. replay_lines M lent t ls)
    unfolding replay_lines
    first l ls s k o e n lent big =
        let a : answer M (lent zero) s text l ≡ o =
        sym (answer-room M k (lent zero) s text l (λ z. n (sym e ∙ z)) (big zero)) ∙ e in
        ap (λ (x : Outcome M.S). resume s x (λ t. replay_lines M (λ i. lent (suc i)) t ls)) a
        ∙ ap (resume s o) (fun_ext (λ t. lent-free (λ i. lent (suc i)) lent t ls (λ i. big (suc i)) big))

    -- nothing read
    none_left : (r : Reached M.S) (ls : List (List ℕ)) (k : Option ℕ)
        → Left r ls (record { state = r.state; wrote = r.wrote; taken = r.taken; stop = k })
    unfolding flat
    none_left r ls k =
        record {
          before = [];
          left = ls;
          split = refl;
          taken = sym (add-zero r.taken);
          state = λ lent big. refl;
          stop = λ lent big. refl;
          wrote = λ lent big. refl;
        }

    -- a line and what follows it, where the position passes the test
    one_left : (goes : ℕ → Bool) (l : List ℕ) (ls : List (List ℕ)) (r : Reached M.S) (o : Outcome M.S)
        → answer M (room - length r.wrote) r.state text l ≡ o
        → ((y : Reached M.S) → y.stop ≡ none → Left y ls (lines_while M goes room y ls))
        → Left r (l ∷ ls) (lines_while M goes room (reach r (length l) o) ls)
    unfolding reach resume with_answer flat
    one_left goes l ls r (done t a) p ih =
        let y : Reached M.S =
        record { state = t; wrote = r.wrote ++ a; taken = r.taken + length l; stop = none } in
        line-left l ls r y (lines_while M goes room y ls) a refl refl
        (λ lent big. let f = first l ls r.state (room - length r.wrote) (done t a) p
        (λ z. let c : ◌≡◌ {A = ℕ} 0 1 = cc in absurd (omega arith)) lent big in (
          ap (λ (v : Replayed M.S). v.state) f,
          ap (λ (v : Replayed M.S). v.stop) f,
          ap
              (λ (v : Replayed M.S). flat v.answers) f,
        ))
        (ih y refl)
    one_left goes l ls r (refused k) p ih = go (eqb k 1) refl
      where
        skipped : Reached M.S
        skipped = record { state = r.state; wrote = r.wrote; taken = r.taken + length l; stop = none }

        halt : Reached M.S
        halt = record { state = r.state; wrote = r.wrote; taken = r.taken; stop = some k }

        ended : Replayed M.S
        ended = record { state = r.state; answers = []; stop = some k }

        passed : eqb k 1 ≡ true → (lent : ℕ → ℕ) → Enough lent
            → replay_lines M lent r.state (l ∷ ls) ≡ replay_lines M lent r.state ls
        passed e lent big =
            first l ls r.state (room - length r.wrote) (refused k) p
            (λ z. let c : k ≡ 3 = cc in let d : k ≡ 1 = eqb-true k 1 e in absurd (omega arith)) lent big
            ∙ ap (λ (b : Bool). cond {A = Replayed M.S} b (replay_lines M lent r.state ls) ended) e

        go : (b : Bool) → eqb k 1 ≡ b
            → Left r (l ∷ ls) (lines_while M goes room (cond {A = Reached M.S} b skipped halt) ls)
        go true e =
            line-left l ls r skipped (lines_while M goes room skipped ls) [] refl (sym (append-nil r.wrote))
            (λ lent big. let f = passed e lent big in (
              ap (λ (v : Replayed M.S). v.state) f,
              ap (λ (v : Replayed M.S). v.stop) f,
              ap
                  (λ (v : Replayed M.S). flat v.answers) f,
            ))
            (ih skipped refl)
        go false e = subst (Left r (l ∷ ls)) (sym (stays M room goes halt k ls refl)) (none_left r (l ∷ ls) (some k))

    -- What replay reached is behind the lines read; the rest is left. However it ended: no line was left, a line was
    -- refused, or the position failed the test.
    pub lines_left : (goes : ℕ → Bool) (ls : List (List ℕ)) (r : Reached M.S) → r.stop ≡ none
        → Left r ls (lines_while M goes room r ls)
    unfolding lines_while
    lines_left goes [] r e = none_left r [] r.stop
    lines_left goes (l ∷ ls) r e =
        go (goes (M.pos r.state))
        (subst (λ (x : Reached M.S). Left r (l ∷ ls) (lines_while M goes room x ls)) (sym (line-goes M room r l e))
        (one_left goes l ls r (answer M (room - length r.wrote) r.state text l) refl
        (λ y q. lines_left goes ls y q)))
      where
        go : (b : Bool) → Left r (l ∷ ls) (lines_while M goes room (line_from M room r.stop r l) ls)
            → Left r (l ∷ ls) (elim b [ true ↦ lines_while M goes room (line_from M room r.stop r l) ls | false ↦ r ])
        go true on = on
        go false on = none_left r (l ∷ ls) r.stop

    -- A text of which a replay read a part and ended at x: what was written, and the replay of what was not read from
    -- the state reached, are the replay of the whole.
    pub record GoesOn (s : M.S) (t : List ℕ) (x : Reached M.S) : Type 0 where
      pub state : (lent : ℕ → ℕ) → Enough lent
          → (replay M lent s t).state ≡ (replay M lent x.state (drop x.taken t)).state
      pub stop : (lent : ℕ → ℕ) → Enough lent
          → (replay M lent s t).stop ≡ (replay M lent x.state (drop x.taken t)).stop
      pub wrote :
          (lent : ℕ → ℕ) → Enough lent
          → flat (replay M lent s t).answers ≡ x.wrote
          ++ flat (replay M lent x.state (drop x.taken t)).answers

    -- however it ended: no line was left, a line was refused, or the position failed the test
    pub goes_on_lem : (goes : ℕ → Bool) (s : M.S) (t : List ℕ) → GoesOn s t (replay_while M goes room s t)
    unfolding replay replay_while nothing_read
    goes_on_lem goes s t =
        let x : Reached M.S = lines_while M goes room (nothing_read s) (cut t) in
        let w : Left (nothing_read s) (cut t) x = lines_left goes (cut t) (nothing_read s) refl in
        let n : x.taken ≡ length (flat w.before) = w.taken ∙ zero-add (length (flat w.before)) in
        let c : cut (drop x.taken t) ≡ w.left =
        ap (λ (k : ℕ). cut (drop k t)) n ∙ cut-behind t w.before w.left w.split in
        record {
          state = λ lent big. w.state lent big
              ∙ ap (λ (ls : List (List ℕ)). (replay_lines M lent x.state ls).state) (sym c);
          stop = λ lent big. w.stop lent big
              ∙ ap (λ (ls : List (List ℕ)). (replay_lines M lent x.state ls).stop) (sym c);
          wrote = λ lent big. w.wrote lent big
              ∙ ap (λ (ls : List (List ℕ)). x.wrote ++ flat (replay_lines M lent x.state ls).answers) (sym c);
        }
