-- A replay after which another turn follows on what is held has read a line, where the output has room for one answer.
-- A definition of the proofs alone stands here too: Rooms. Assumes nothing.
use Rattle.std.specs.Prelude.{ℕ, suc, ◌+◌, ◌-◌, ◌≤◌, ◌<◌, Bool, not, cond}
use Rattle.std.proofs.Math.Path.{◌≡◌, refl}
use Rattle.std.proofs.Common.{sym, ap, ◌∙◌, subst, eqb-true, length-append}
use Rattle.std.proofs.Math.Bool.{true, false}
use Rattle.std.proofs.Math.Option.{Option, none, some}
use mathlib.Core.List.{List, [], ◌∷◌, ◌++◌}
use native.Mathlib.Omega.{arith}
use lib.Dec.{eqb, ltb}
use Rattle.std.proofs.Math.ListN.{length}
use Rattle.lines.specs.Hex.{lf}
use Rattle.laws.specs.Tests.{pick}
use Rattle.laws.specs.TestsLaws.{pick-false}
use Rattle.rule.specs.Base.{All}
use Rattle.sessions.specs.Machine.{Machine, Line, Outcome, refused, done, text, answer_room}
use Rattle.sessions.specs.Session.{answer, judge, refuse_if}
use Rattle.sessions.proofs.RefusalsLaws.{answer-unsound, answer-judge}
use Rattle.sessions.specs.Saved.{cut_from}
use Rattle.model.specs.Types.{Model}
use Rattle.model.specs.Frames.{Body, Typed, command, packet, tick, bad, typed}
use Rattle.model.specs.Step.{act, act_typed, refusal_typed, step_typed, answer_typed}
use Rattle.model.specs.Block.{model_of}
use Rattle.editions.specs.Editions.{Gateway, with_prefix, prefix_for, beside, act_on}
use Rattle.wholes.specs.Whole.{held_whole, whole}
use Rattle.wholes.specs.Engine.{engine, act_whole, on_wholes}
use Rattle.replays.specs.Into.{Reached, nothing_read, reach, line_from, lines_while}
use Rattle.turns.specs.Takeover.{Next, reads, again, ended, stopped, next_of, acts}
use Rattle.turns.specs.Takeover.{follows, turn}
use Rattle.turns.specs.MovesTurns.{weight}

refused-inj : {S : Type 0} (k j : ℕ) → ◌≡◌ {A = Outcome S} (refused k) (refused j) → k ≡ j
refused-inj k j e = cc

done≢refused : {S : Type 0} (t : S) (a : List ℕ) (k : ℕ) → ◌≡◌ {A = Outcome S} (done t a) (refused k) → ⊥
done≢refused t a k e = let z : ◌≡◌ {A = ℕ} 0 1 = cc in omega arith

reads≢again : reads ≡ again → ⊥
unfolding weight
reads≢again q = let z : ◌≡◌ {A = ℕ} 0 1 = ap weight q in omega arith

stopped≢again : (k : ℕ) → stopped k ≡ again → ⊥
unfolding weight
stopped≢again k q = let z : ◌≡◌ {A = ℕ} 0 1 = ap weight q in omega arith

-- lines are not empty
pub line-some : (p v : List ℕ) → All (λ (l : List ℕ). 0 < length l) (cut_from p v)
unfolding cut_from
line-some p [] = tt
line-some p (c ∷ v) = go (eqb c lf) (line-some [] v) (line-some (p ++ (c ∷ [])) v)
  where
    go : (b : Bool) → All (λ (l : List ℕ). 0 < length l) (cut_from [] v)
        → All (λ (l : List ℕ). 0 < length l) (cut_from (p ++ (c ∷ [])) v)
        → All (λ (l : List ℕ). 0 < length l)
        (elim b [ true ↦ (p ++ (c ∷ [])) ∷ cut_from [] v | false ↦ cut_from (p ++ (c ∷ [])) v ])
    go true h k = (simp length-append (omega arith), h)
    go false h k = k

-- What the turns ask of an engine: a frame is refused by 3 for its output alone.
pub record Rooms (M : Machine) : Type 0 where
  pub acts : (s : M.S) (b : M.Body) → M.act s b ≡ refused 3 → ⊥

module _ (M : Machine) (𝓡 : Rooms M) where
  -- with room for an answer no line is refused by 3
  judged : (s : M.S) (o : Option (Line M.Body)) → judge M s o ≡ refused 3 → ⊥
  unfolding judge refuse_if
  judged s none e = let z : ◌≡◌ {A = ℕ} 4 3 = refused-inj 4 3 e in omega arith
  judged s (some x) e = go (lib.Dec.leb x.num (M.pos s)) (ltb (suc (M.pos s)) x.num) e
    where
      go : (b c : Bool) → refuse_if b 1 (refuse_if c 2 (M.act s x.body)) ≡ refused 3 → ⊥
      go true c h = let z : ◌≡◌ {A = ℕ} 1 3 = refused-inj 1 3 h in omega arith
      go false true h = let z : ◌≡◌ {A = ℕ} 2 3 = refused-inj 2 3 h in omega arith
      go false false h = 𝓡.acts s x.body h

  answered : (lent : ℕ) (s : M.S) (l : List ℕ) → answer_room ≤ lent → answer M lent s text l ≡ refused 3 → ⊥
  answered lent s l h e = go (M.sound s) refl
    where
      go : (b : Bool) → M.sound s ≡ b → ⊥
      go true g = judged s (M.read text l) (sym (answer-judge M lent s text l g h) ∙ e)
      go false g = let z : ◌≡◌ {A = ℕ} 7 3 = refused-inj 7 3
          (sym (answer-unsound M lent s text l g) ∙ e) in omega arith

  module _ (goes : ℕ → Bool) (room : ℕ) where
    -- a replay that was stopped stays so
    halted : (r : Reached M.S) (ls : List (List ℕ)) (k : ℕ) → r.stop ≡ some k → lines_while M goes room r ls ≡ r
    unfolding lines_while line_from
    halted r [] k e = refl
    halted r (l ∷ ls) k e = go (goes (M.pos r.state)) (halted r ls k e)
      where
        same : (o : Option ℕ) → r.stop ≡ o → o ≡ some k → line_from M room o r l ≡ r
        same none p q = let z : ◌≡◌ {A = ℕ} 0 1 = cc in absurd (omega arith)
        same (some j) p q = refl

        go : (b : Bool) → lines_while M goes room r ls ≡ r
            → elim b [ true ↦ lines_while M goes room (line_from M room r.stop r l) ls | false ↦ r ] ≡ r
        go true h = ap (λ (x : Reached M.S). lines_while M goes room x ls) (same r.stop refl e) ∙ h
        go false h = refl

    abbrev taken_of : Reached M.S → ℕ
    taken_of r = r.taken

    abbrev branch : Bool → Reached M.S → Reached M.S → Reached M.S
    branch b x y = elim b [ true ↦ x | false ↦ y ]

    -- what is read stays read
    further : (r : Reached M.S) (n : ℕ) (o : Outcome M.S) → r.taken ≤ (reach r n o).taken
    unfolding reach
    further r n (done t a) = omega arith
    further r n (refused k) = go (eqb k 1)
      where
        go : (b : Bool) → r.taken ≤ (cond {A = Reached M.S} b
            (record { state = r.state; wrote = r.wrote; taken = r.taken + n; stop = none })
            (record { state = r.state; wrote = r.wrote; taken = r.taken; stop = some k })).taken
        go true = omega arith
        go false = omega arith

    onward : (r : Reached M.S) (ls : List (List ℕ)) → r.taken ≤ (lines_while M goes room r ls).taken
    unfolding lines_while line_from
    onward r [] = omega arith
    onward r (l ∷ ls) = go (goes (M.pos r.state)) r.stop (onward (line_from M room r.stop r l) ls)
      where
        step : (o : Option ℕ) → r.taken ≤ (line_from M room o r l).taken
        step none = further r (length l) (answer M (room - length r.wrote) r.state text l)
        step (some k) = omega arith

        go : (b : Bool) (o : Option ℕ)
            → (line_from M room r.stop r l).taken ≤ (lines_while M goes room (line_from M room r.stop r l) ls).taken
            → r.taken ≤ taken_of
            (elim b [ true ↦ lines_while M goes room (line_from M room r.stop r l) ls | false ↦ r ])
        go true o h = omega (arith, step r.stop)
        go false o h = omega arith

    -- A replay after which another turn follows on what is held has read something, where a first line is taken at all.
    pub moves : (s : M.S) (ls : List (List ℕ)) → All (λ (l : List ℕ). 0 < length l) ls → answer_room ≤ room
        → goes (M.pos s) ≡ true
        → next_of (goes (M.pos (lines_while M goes room (nothing_read s) ls).state))
        (lines_while M goes room (nothing_read s) ls).stop ≡ again
        → (0 < (lines_while M goes room (nothing_read s) ls).taken) × (0 < length ls)
    unfolding lines_while line_from nothing_read next_of pick reach
    moves s [] h k g e = absurd (reads≢again (sym (ap (λ (b : Bool). pick b reads again) g) ∙ e))
    moves s (l ∷ ls) h k g e =
        (ap-less (sym way) (go (answer M (room - 0) s text l) refl (sym (ap after-of way) ∙ e)), omega arith)
      where
        after-of : Reached M.S → Next
        after-of r = next_of (goes (M.pos r.state)) r.stop

        lines-behind : Reached M.S → Reached M.S
        lines-behind r = lines_while M goes room r ls

        way : lines_while M goes room (nothing_read s) (l ∷ ls)
            ≡ lines-behind (reach (nothing_read s) (length l) (answer M (room - 0) s text l))
        way = ap (λ (b : Bool). branch b
            (lines-behind (reach (nothing_read s) (length l) (answer M (room - 0) s text l)))
            (nothing_read s)) g

        ap-less : {x y : Reached M.S} → x ≡ y → 0 < x.taken → 0 < y.taken
        ap-less q w = subst (λ (r : Reached M.S). 0 < r.taken) q w

        stops : (j : ℕ) → answer M (room - 0) s text l ≡ refused j → (r : Reached M.S) → r.stop ≡ some j
            → after-of (lines-behind r) ≡ again → ⊥
        stops j p r q w =
            three (eqb j 3) refl
            (sym (ap (λ (o : Option ℕ). next_of (goes (M.pos r.state)) o) q) ∙ sym (ap after-of (halted r ls j q))
            ∙ w)
          where
            three : (b : Bool) → eqb j 3 ≡ b → pick (eqb j 3) again (stopped j) ≡ again → ⊥
            three true b x = answered (room - 0) s l (omega arith) (p ∙ ap refused (eqb-true j 3 b))
            three false b x = stopped≢again j (sym (pick-false again (stopped j) b) ∙ x)

        go : (o : Outcome M.S) → answer M (room - 0) s text l ≡ o
            → after-of (lines-behind (reach (nothing_read s) (length l) o)) ≡ again
            → 0 < (lines-behind (reach (nothing_read s) (length l) o)).taken
        go (done t a) p w = omega (arith, h.0, onward (reach (nothing_read s) (length l) (done t a)) ls)
        go (refused j) p w = one (eqb j 1) w
          where
            skipped : Reached M.S
            skipped = record { state = s; wrote = []; taken = 0 + length l; stop = none }

            stood : Reached M.S
            stood = record { state = s; wrote = []; taken = 0; stop = some j }

            one : (b : Bool) → after-of (lines-behind (cond {A = Reached M.S} b skipped stood)) ≡ again
                → 0 < (lines-behind (cond {A = Reached M.S} b skipped stood)).taken
            one true x = omega (arith, h.0, onward skipped ls)
            one false x = absurd (stops j p stood refl x)

-- the engine refuses no frame by 3 but for its output
not_three : (m : Model) (f : Typed) → refusal_typed m f ≡ 3 → ⊥
unfolding refusal_typed pick
not_three m (command o l) e = go (eqb o m.opcode) e
  where
    go : (b : Bool) → pick {A = ℕ} b 0 6 ≡ 3 → ⊥
    go true q = omega arith
    go false q = omega arith
not_three m (packet p) e = omega arith
not_three m tick e = omega arith
not_three m bad e = omega arith

typed-rooms : (m : Model) (f : Typed) → act_typed m f ≡ refused 3 → ⊥
unfolding act_typed pick
typed-rooms m f e = go (eqb (refusal_typed m f) 0) e
  where
    go : (b : Bool) → pick b (done (step_typed m f) (answer_typed m f)) (refused (refusal_typed m f)) ≡ refused 3 → ⊥
    go true q = done≢refused (step_typed m f) (answer_typed m f) 3 q
    go false q = not_three m f (refused-inj (refusal_typed m f) 3 q)

pub engine-rooms : Rooms engine
unfolding act_whole on_wholes act_on beside act
engine-rooms =
    record {
      acts = λ s b e. let g : Gateway = held_whole s in
          go s b (with_prefix g.core (prefix_for (suc g.core.position) g.editions))
          (act (with_prefix g.core (prefix_for (suc g.core.position) g.editions)) b) refl e;
    }
  where
    go : (s : List ℕ) (b : Body) (m : Model) (o : Outcome Model) → act m b ≡ o
        → on_wholes (beside (held_whole s).editions o) ≡ refused 3 → ⊥
    go s b m (done t a) p q = done≢refused (whole (record { core = t; editions = (held_whole s).editions })) a 3 q
    go s b m (refused k) p q = typed-rooms m (typed b) (p ∙ ap refused (refused-inj k 3 q))
