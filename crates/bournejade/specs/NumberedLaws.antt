-- Every refusal number that a call gives is one of document 01's (Refusal numbers), so that the case which a call
-- answers has that very number. Assumes nothing.
use Rattle.std.specs.Prelude.{ℕ, suc, ◌+◌, ◌-◌, ◌≡◌, refl, Bool, true, false, cond, List, [], ◌∷◌, eqb, length}
use Rattle.std.proofs.Common.{◌∙◌, eqb-true}
use Rattle.std.proofs.Math.Option.{Option, none, some}
use Rattle.laws.specs.Tests.{pick}
use Rattle.refusals.specs.Numbers.{number}
use Rattle.sessions.specs.Machine.{Outcome, refused, done, Form, Line, text}
use Rattle.sessions.specs.Session.{answer, judge, image, refuse_if}
use Rattle.sessions.specs.Saved.{cut}
use Rattle.model.specs.Types.{Model}
use Rattle.model.specs.Frames.{Body, Typed, command, packet, tick, bad, typed, read}
use Rattle.model.specs.Step.{act, act_typed, refusal_typed, step_typed, answer_typed}
use Rattle.editions.specs.Editions.{Edition, Gateway, with_prefix, prefix_for, beside, act_on, add_edition}
use Rattle.wholes.specs.Whole.{held_whole}
use Rattle.wholes.specs.Engine.{engine, act_whole, on_wholes, add_whole}
use Rattle.model.specs.Block.{model_of}
use Rattle.replays.specs.Into.{Reached, nothing_read, reach, line_from, lines_while, replay_while}
use Rattle.engine.specs.Calls.{case_of, case_from, cases}

-- whether a number is a refusal's
unfoldable pub is_number : ℕ → Bool
is_number n = eqb (number (case_of n)) n

pub is-number : (n : ℕ) → is_number n ≡ true → number (case_of n) ≡ n
unfolding is_number
is-number n e = eqb-true (number (case_of n)) n e

-- whether an outcome's refusal has such a number
unfoldable pub known : {S : Type 0} → Outcome S → Bool
known (refused n) = is_number n
known (done t l) = true

known-if : {S : Type 0} (b : Bool) (n : ℕ) (o : Outcome S) → is_number n ≡ true → known o ≡ true
    → known (refuse_if b n o) ≡ true
unfolding known refuse_if
known-if true n o e f = e
known-if false n o e f = f

-- what a frame with the next number gives
known-typed : (m : Model) (f : Typed) → known (act_typed m f) ≡ true
unfolding known act_typed refusal_typed pick is_number case_of case_from cases number
known-typed m (command o l) = go (eqb o m.opcode)
  where
    go : (b : Bool) → known
        (pick (eqb (pick b 0 6) 0) (done (step_typed m (command o l)) (answer_typed m (command o l)))
        (refused (pick b 0 6))) ≡ true
    go true = refl
    go false = refl
known-typed m (packet p) = refl
known-typed m tick = refl
known-typed m bad = refl

known-blocks : (o : Outcome Gateway) → known (on_wholes o) ≡ known o
unfolding known on_wholes
known-blocks (refused n) = refl
known-blocks (done m l) = refl

known-beside : (es : List Edition) (o : Outcome Model) → known (beside es o) ≡ known o
unfolding known beside
known-beside es (refused n) = refl
known-beside es (done m l) = refl

known-act : (s : List ℕ) (b : Body) → known (act_whole s b) ≡ true
unfolding act_whole act_on act
known-act s b =
    let g : Gateway = held_whole s in
    let m : Model = with_prefix g.core (prefix_for (suc g.core.position) g.editions) in
    known-blocks (beside g.editions (act_typed m (typed b))) ∙ known-beside g.editions (act_typed m (typed b))
    ∙ known-typed m (typed b)

-- an addition
pub known-add : (s : List ℕ) (e : Edition) → known (add_whole s e) ≡ true
unfolding add_whole add_edition is_number case_of case_from cases number pick known
known-add s e =
    known-if _ 7 _ refl (known-blocks (add_edition (held_whole s) e)
    ∙ known-if _ 7 _ refl (known-if _ 15 _ refl (known-if _ 14 _ refl (known-if _ 13 _ refl refl))))

known-judge : (s : List ℕ) (x : Option (Line Body)) → known (judge engine s x) ≡ true
unfolding judge known is_number case_of case_from cases number pick
known-judge s none = refl
known-judge s (some x) = known-if _ 1 _ refl (known-if _ 2 _ refl (known-act s x.body))

-- a frame, a save
pub known-answer : (lent : ℕ) (s : List ℕ) (w : Form) (raw : List ℕ) → known (answer engine lent s w raw) ≡ true
unfolding answer is_number case_of case_from cases number pick
known-answer lent s w raw = known-if _ 7 _ refl (known-if _ 3 _ refl (known-judge s (read w raw)))

pub known-image : (lent : ℕ) (s : List ℕ) → known (image engine lent s) ≡ true
unfolding image is_number case_of case_from cases number pick known
known-image lent s = known-if _ 7 _ refl (known-if _ 3 _ refl refl)

-- what stopped a replay
unfoldable pub known_stop : Option ℕ → Bool
known_stop none = true
known_stop (some n) = is_number n

known-reach : {S : Type 0} (r : Reached S) (n : ℕ) (o : Outcome S) → known o ≡ true
    → known_stop (reach r n o).stop ≡ true
unfolding reach known_stop known
known-reach {S} r n (done t a) e = refl
known-reach {S} r n (refused k) e = go (eqb k 1)
  where
    go : (b : Bool) → known_stop
        (cond {A = Reached S} b (record { state = r.state; wrote = r.wrote; taken = r.taken + n; stop = none })
        (record { state = r.state; wrote = r.wrote; taken = r.taken; stop = some k })).stop ≡ true
    go true = refl
    go false = e

known-line : (room : ℕ) (o : Option ℕ) (r : Reached (List ℕ)) (l : List ℕ) → known_stop r.stop ≡ true
    → known_stop (line_from engine room o r l).stop ≡ true
unfolding line_from
known-line room (some k) r l e = e
known-line room none r l e = known-reach r (length l) _ (known-answer (room - length r.wrote) r.state text l)

known-lines : (goes : ℕ → Bool) (room : ℕ) (r : Reached (List ℕ)) (ls : List (List ℕ)) → known_stop r.stop ≡ true
    → known_stop (lines_while engine goes room r ls).stop ≡ true
unfolding lines_while
known-lines goes room r [] e = e
known-lines goes room r (l ∷ ls) e =
    go (goes (model_of r.state).position)
    (known-lines goes room (line_from engine room r.stop r l) ls (known-line room r.stop r l e))
  where
    branch : Bool → Reached (List ℕ)
    branch b = elim b [ true ↦ lines_while engine goes room (line_from engine room r.stop r l) ls | false ↦ r ]

    go : (b : Bool) → known_stop (lines_while engine goes room (line_from engine room r.stop r l) ls).stop ≡ true
        → known_stop (branch b).stop ≡ true
    go true h = h
    go false h = e

pub known-replay : (goes : ℕ → Bool) (room : ℕ) (s t : List ℕ)
    → known_stop (replay_while engine goes room s t).stop ≡ true
unfolding replay_while nothing_read known_stop
known-replay goes room s t = known-lines goes room (nothing_read s) (cut t) refl
