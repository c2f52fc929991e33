-- What one call of replay does to the lines of a text: how many it read, which answers it gave, by their frames, and
-- that replay of what is left makes the whole. Document 01, Refusal numbers (replay), Lines. Over any engine whose
-- answers are whole events. Definitions of the proofs alone stand here too: ahead, Part. Assumes nothing.
use Prim.Native.Nat.{ℕ, zero, suc, ◌+◌, ◌-◌, ◌≤◌, ◌<◌}
use Rattle.std.proofs.Math.Path.{◌≡◌, refl, sym, ap, subst, fun_ext}
use Rattle.std.proofs.Common.{◌∙◌, add-zero, add-suc, suc-add, length-append}
use Rattle.std.specs.Prelude.{Bool, eqb}
use Rattle.std.proofs.Math.Bool.{true, false, cond}
use Rattle.std.proofs.lemmas.Bool.{false≢true}
use Rattle.std.proofs.Math.Option.{Option, none, some}
use mathlib.Core.List.{List, [], ◌∷◌, ◌++◌, append_assoc, append-nil}
use Rattle.std.proofs.Math.Nat.{add_assoc}
use native.Mathlib.Omega.{arith}
use borrow.Author.Tests.{eqb-true, eqb-false}
use Rattle.std.proofs.Math.ListN.{length}
use Rattle.laws.specs.Rows.{flat}
use Rattle.rule.specs.Base.{All}
use Rattle.rule.specs.BaseLaws.{none≢some, some_inj}
use Rattle.sessions.specs.Machine.{Machine, Outcome, refused, done, text, answer_room, last_number}
use Rattle.sessions.specs.Session.{answer}
use Rattle.sessions.specs.Saved.{Replayed, with_answer, resume, replay_lines, Enough}
use Rattle.replays.specs.Into.{Reached, nothing_read, reach, line_from, lines_while}
use Rattle.replays.proofs.PiecesLaws.{stays, line-goes}
use Rattle.replays.proofs.WholeLaws.{answer-room}
use Rattle.replays.proofs.GoesOnLaws.{lent-free}
use Rattle.turns.specs.EventsLaws.{Whole}
use Rattle.turns.specs.WholesLaws.{Tells}

-- answers before what a replay reaches
unfoldable pub ahead : {S : Type 0} → List (List ℕ) → Replayed S → Replayed S
ahead ls r = record { state = r.state; answers = ls ++ r.answers; stop = r.stop }

pub ahead_none : {S : Type 0} (r : Replayed S) → ahead [] r ≡ r
unfolding ahead
ahead_none r = refl

pub ahead-ahead : {S : Type 0} (ls ks : List (List ℕ)) (r : Replayed S) → ahead ls (ahead ks r) ≡ ahead (ls ++ ks) r
unfolding ahead
ahead-ahead ls ks r =
    ap (λ (x : List (List ℕ)). record { state = r.state; answers = x; stop = r.stop })
    (sym (append_assoc ls ks r.answers))

module _ (M : Machine) (𝓣 : Tells M) (goes : ℕ → Bool) (room : ℕ) where
  -- What a replay of lines from r has done where it ended. split: the lines read, and those left. taken, wrote: so
  -- many characters read; the answers one after another behind what was written. whole: each answer is whole events.
  -- moved: the position has moved by one for each answer. count: the other lines read were seen. good: sound stays
  -- sound. passed: the last executed line was taken while the position passed the test. below: executed frames have
  -- numbers. whole_run: the answers, and then the replay of what is left, are the replay of the lines, whatever lines
  -- follow. halts: a refusal that stopped it, other than 3, stops the replay of what is left. ends: where it was not
  -- stopped and the position passes the test no line is left.
  pub record Part (r : Reached M.S) (ls : List (List ℕ)) (end : Reached M.S) : Type 0 where
    pub before : List (List ℕ)
    pub left : List (List ℕ)
    pub gave : List (List ℕ)
    pub seen : ℕ
    pub split : ls ≡ before ++ left
    pub taken : end.taken ≡ r.taken + length (flat before)
    pub wrote : end.wrote ≡ r.wrote ++ flat gave
    pub whole : All Whole gave
    pub moved : M.pos end.state ≡ M.pos r.state + length gave
    pub count : length before ≡ length gave + seen
    pub good : M.sound r.state ≡ true → M.sound end.state ≡ true
    pub passed : (n : ℕ) → length gave ≡ suc n → goes (M.pos r.state + n) ≡ true
    pub below : (n : ℕ) → length gave ≡ suc n → M.pos r.state + n < last_number
    pub whole_run :
        (more : List (List ℕ)) (lent : ℕ → ℕ) → Enough lent
        → replay_lines M lent r.state (ls ++ more) ≡ ahead gave (replay_lines M lent end.state (left ++ more))
    pub halts :
        (k : ℕ) → end.stop ≡ some k → (k ≡ 3 → ⊥) → (more : List (List ℕ)) (lent : ℕ → ℕ) → Enough lent
        → replay_lines M lent end.state (left ++ more) ≡ record { state = end.state; answers = []; stop = some k }
    pub ends : end.stop ≡ none → goes (M.pos end.state) ≡ true → left ≡ []

  -- the replay of a line whose outcome, in some room, was not refusal 3
  first : (l : List ℕ) (ls : List (List ℕ)) (s : M.S) (k : ℕ) (o : Outcome M.S) → answer M k s text l ≡ o
      → (o ≡ refused 3 → ⊥)
      → (lent : ℕ → ℕ) → Enough lent → replay_lines M lent s (l ∷ ls) ≡ resume s o (λ t. replay_lines M lent t ls)
  unfolding replay_lines
  first l ls s k o e n lent big =
      let a : answer M (lent zero) s text l ≡ o =
      sym (answer-room M k (lent zero) s text l (λ z. n (sym e ∙ z)) (big zero)) ∙ e in
      ap (λ (x : Outcome M.S). resume s x (λ t. replay_lines M (λ i. lent (suc i)) t ls)) a
      ∙ ap (resume s o) (fun_ext (λ t. lent-free M (λ i. lent (suc i)) lent t ls (λ i. big (suc i)) big))

  -- nothing read, however it ended
  none-part : (r end : Reached M.S) (ls : List (List ℕ)) → end.state ≡ r.state → end.taken ≡ r.taken
      → end.wrote ≡ r.wrote
      → ((k : ℕ) → end.stop ≡ some k → (k ≡ 3 → ⊥) → (more : List (List ℕ)) (lent : ℕ → ℕ) → Enough lent
      → replay_lines M lent end.state (ls ++ more) ≡ record { state = end.state; answers = []; stop = some k })
      → (end.stop ≡ none → goes (M.pos end.state) ≡ true → ls ≡ [])
      → Part r ls end
  unfolding flat
  none-part r end ls s t w h e =
      record {
        before = [];
        left = ls;
        gave = [];
        seen = 0;
        split = refl;
        taken = t ∙ sym (add-zero r.taken);
        wrote = w ∙ sym (append-nil r.wrote);
        whole = tt;
        moved = ap M.pos s ∙ sym (add-zero (M.pos r.state));
        count = refl;
        good = λ g. ap M.sound s ∙ g;
        passed = λ n q. absurd (omega arith);
        below = λ n q. absurd (omega arith);
        whole_run = λ more lent big. ap (λ (u : M.S). replay_lines M lent u (ls ++ more)) (sym s)
            ∙ sym (ahead_none (replay_lines M lent end.state (ls ++ more)));
        halts = h;
        ends = e;
      }

  -- a line that was executed, and what follows
  done-part : (l : List ℕ) (ls : List (List ℕ)) (r end : Reached M.S) (t : M.S) (a : List ℕ)
      → goes (M.pos r.state) ≡ true
      → answer M (room - length r.wrote) r.state text l ≡ done t a
      → Part (record { state = t; wrote = r.wrote ++ a; taken = r.taken + length l; stop = none }) ls end
      → Part r (l ∷ ls) end
  unfolding flat resume with_answer ahead
  done-part l ls r end t a g q p =
      let k : ℕ = room - length r.wrote in
      let m : M.pos t ≡ suc (M.pos r.state) = 𝓣.moves k r.state t l a q in
      record {
        before = l ∷ p.before;
        left = p.left;
        gave = a ∷ p.gave;
        seen = p.seen;
        split = ap (λ (x : List (List ℕ)). l ∷ x) p.split;
        taken = p.taken ∙ add_assoc r.taken (length l) (length (flat p.before))
            ∙ ap (λ (j : ℕ). r.taken + j) (sym (length-append l (flat p.before)));
        wrote = p.wrote ∙ append_assoc r.wrote a (flat p.gave);
        whole = (𝓣.whole k r.state t l a q, p.whole);
        moved = p.moved ∙ omega arith;
        count = omega (arith, p.count);
        good = λ h. p.good (𝓣.keeps k r.state t l a q);
        passed = passed p.gave (λ n e. p.passed n e) m;
        below = below p.gave (λ n e. p.below n e) m;
        whole_run = λ more lent big. first l (ls ++ more) r.state k (done t a) q
            (λ z. let c : ◌≡◌ {A = ℕ} 0 1 = cc in absurd (omega arith)) lent big
            ∙ ap (with_answer a) (p.whole_run more lent big);
        halts = p.halts;
        ends = p.ends;
      }
    where
      passed : (gs : List (List ℕ)) → ((n : ℕ) → length gs ≡ suc n → goes (M.pos t + n) ≡ true)
          → M.pos t ≡ suc (M.pos r.state)
          → (n : ℕ) → length (a ∷ gs) ≡ suc n → goes (M.pos r.state + n) ≡ true
      passed gs f m zero e = ap goes (add-zero (M.pos r.state)) ∙ g
      passed gs f m (suc n) e =
          ap goes (let z : M.pos r.state + suc n ≡ M.pos t + n = omega arith in z) ∙ f n (omega arith)

      below : (gs : List (List ℕ)) → ((n : ℕ) → length gs ≡ suc n → M.pos t + n < last_number)
          → M.pos t ≡ suc (M.pos r.state)
          → (n : ℕ) → length (a ∷ gs) ≡ suc n → M.pos r.state + n < last_number
      below gs f m zero e = omega (arith, 𝓣.below (room - length r.wrote) r.state t l a q)
      below gs f m (suc n) e = omega (arith, f n (omega arith))

  -- a line that was seen, and what follows
  seen-part : (l : List ℕ) (ls : List (List ℕ)) (r end : Reached M.S) (k : ℕ) → eqb k 1 ≡ true
      → answer M (room - length r.wrote) r.state text l ≡ refused k
      → Part (record { state = r.state; wrote = r.wrote; taken = r.taken + length l; stop = none }) ls end
      → Part r (l ∷ ls) end
  unfolding flat resume
  seen-part l ls r end k g q p =
      record {
        before = l ∷ p.before;
        left = p.left;
        gave = p.gave;
        seen = suc p.seen;
        split = ap (λ (x : List (List ℕ)). l ∷ x) p.split;
        taken = p.taken ∙ add_assoc r.taken (length l) (length (flat p.before))
            ∙ ap (λ (j : ℕ). r.taken + j) (sym (length-append l (flat p.before)));
        wrote = p.wrote;
        whole = p.whole;
        moved = p.moved;
        count = omega (arith, p.count);
        good = p.good;
        passed = p.passed;
        below = p.below;
        whole_run = λ more lent big.
            first l (ls ++ more) r.state (room - length r.wrote) (refused k) q
            (λ z. let c : k ≡ 3 = cc in let d : k ≡ 1 = eqb-true k 1 g in absurd (omega arith)) lent big
            ∙ ap (λ (b : Bool). cond {A = Replayed M.S} b (replay_lines M lent r.state (ls ++ more))
            (record { state = r.state; answers = []; stop = some k })) g
            ∙ p.whole_run more lent big;
        halts = p.halts;
        ends = p.ends;
      }

  -- a line that stopped the replay
  stop-part : (l : List ℕ) (ls : List (List ℕ)) (r : Reached M.S) (k : ℕ) → eqb k 1 ≡ false
      → answer M (room - length r.wrote) r.state text l ≡ refused k
      → Part r (l ∷ ls) (record { state = r.state; wrote = r.wrote; taken = r.taken; stop = some k })
  unfolding resume
  stop-part l ls r k g q =
      none-part r (record { state = r.state; wrote = r.wrote; taken = r.taken; stop = some k }) (l ∷ ls) refl refl
      refl
      (λ j e n more lent big. let i : k ≡ j = some_inj e in
      first l (ls ++ more) r.state (room - length r.wrote) (refused k) q
      (λ z. n (sym i ∙ (let c : k ≡ 3 = cc in c))) lent big
      ∙ ap (λ (b : Bool). cond {A = Replayed M.S} b (replay_lines M lent r.state (ls ++ more))
      (record { state = r.state; answers = []; stop = some k })) g
      ∙ ap (λ (x : Option ℕ). record { state = r.state; answers = []; stop = x }) e)
      (λ e. absurd (none≢some (sym e)))

  one-part : (l : List ℕ) (ls : List (List ℕ)) (r : Reached M.S) (o : Outcome M.S)
      → goes (M.pos r.state) ≡ true
      → answer M (room - length r.wrote) r.state text l ≡ o
      → ((y : Reached M.S) → y.stop ≡ none → Part y ls (lines_while M goes room y ls))
      → Part r (l ∷ ls) (lines_while M goes room (reach r (length l) o) ls)
  unfolding reach
  one-part l ls r (done t a) g q ih =
      let y : Reached M.S = record { state = t; wrote = r.wrote ++ a; taken = r.taken + length l; stop = none } in
      done-part l ls r (lines_while M goes room y ls) t a g q (ih y refl)
  one-part l ls r (refused k) g q ih = go (eqb k 1) refl
    where
      skipped : Reached M.S
      skipped = record { state = r.state; wrote = r.wrote; taken = r.taken + length l; stop = none }

      halt : Reached M.S
      halt = record { state = r.state; wrote = r.wrote; taken = r.taken; stop = some k }

      go : (b : Bool) → eqb k 1 ≡ b
          → Part r (l ∷ ls) (lines_while M goes room (cond {A = Reached M.S} b skipped halt) ls)
      go true e = seen-part l ls r (lines_while M goes room skipped ls) k e q (ih skipped refl)
      go false e = subst (Part r (l ∷ ls)) (sym (stays M room goes halt k ls refl)) (stop-part l ls r k e q)

  -- a replay of lines that has not stopped yet
  pub part : (ls : List (List ℕ)) (r : Reached M.S) → r.stop ≡ none → Part r ls (lines_while M goes room r ls)
  unfolding lines_while
  part [] r e = none-part r r [] refl refl refl (λ k z. absurd (none≢some (sym e ∙ z))) (λ z y. refl)
  part (l ∷ ls) r e =
      go (goes (M.pos r.state)) refl
      (λ g. subst (λ (x : Reached M.S). Part r (l ∷ ls) (lines_while M goes room x ls))
      (sym (line-goes M room r l e))
      (one-part l ls r (answer M (room - length r.wrote) r.state text l) g refl (λ y q. part ls y q)))
    where
      go : (b : Bool) → goes (M.pos r.state) ≡ b
          → (goes (M.pos r.state) ≡ true
          → Part r (l ∷ ls) (lines_while M goes room (line_from M room r.stop r l) ls))
          → Part r (l ∷ ls) (elim b [ true ↦ lines_while M goes room (line_from M room r.stop r l) ls | false ↦ r ])
      go true g f = f g
      go false g f =
          none-part r r (l ∷ ls) refl refl refl (λ k z. absurd (none≢some (sym e ∙ z)))
          (λ z y. absurd (false≢true (sym g ∙ y)))
