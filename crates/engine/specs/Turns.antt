-- The turns of replay: what one line does to what was reached. Document 01, Refusal numbers (replay). Assumes nothing.
use Rattle.std.specs.Prelude.{ℕ, zero, suc, ◌+◌, ◌-◌, ◌≤◌, ◌<◌, ◌≡◌, Bool, cond, eqb, drop}
use Rattle.std.proofs.Math.Path.{refl, sym, ap}
use Rattle.std.proofs.Common.{◌∙◌, arith, ne_eqb}
use Rattle.std.proofs.Math.Bool.{true, false}
use Rattle.std.proofs.Math.Option.{Option, none, some}
use mathlib.Core.List.{List, [], ◌∷◌, ◌++◌}
use Rattle.std.proofs.Math.ListN.{length}
use Rattle.sessions.specs.Machine.{Machine, Outcome, refused, done, text}
use Rattle.sessions.specs.Session.{answer}
use Rattle.sessions.specs.Saved.{cut}
use Rattle.sessions.proofs.RefusalsLaws.{answer-unsound}
use Rattle.replays.specs.Into.{Reached, nothing_read, reach, line_from, lines_while, replay_while}
use Rattle.replays.proofs.PiecesLaws.{stays}

-- what was reached: the state, the octets written, the characters read; not stopped, or stopped by a refusal
unfoldable pub going : {S : Type 0} → S → List ℕ → ℕ → Reached S
going s w at = record { state = s; wrote = w; taken = at; stop = none }

unfoldable pub halted : {S : Type 0} → S → List ℕ → ℕ → ℕ → Reached S
halted s w at n = record { state = s; wrote = w; taken = at; stop = some n }

module _ (M : Machine) (goes : ℕ → Bool) (room : ℕ) where
  pub begins : (s : M.S) (t : List ℕ)
      → lines_while M goes room (going s [] 0) (cut (drop 0 t)) ≡ replay_while M goes room s t
  unfolding going replay_while nothing_read
  begins s t = refl

  module _ (s : M.S) (w : List ℕ) (at : ℕ) (t : List ℕ) (end : Reached M.S)
      (q : lines_while M goes room (going s w at) (cut (drop at t)) ≡ end) where
    -- no line is left
    pub turn_end : cut (drop at t) ≡ [] → going s w at ≡ end
    unfolding lines_while
    turn_end e = sym (ap (lines_while M goes room (going s w at)) e) ∙ q

    -- the position fails the test
    pub turn-held : goes (M.pos s) ≡ false → going s w at ≡ end
    unfolding lines_while going
    turn-held e = sym (held_back (cut (drop at t))) ∙ q
      where
        held_back : (ls : List (List ℕ)) → lines_while M goes room (going s w at) ls ≡ going s w at
        held_back [] = refl
        held_back (l ∷ ls) =
            ap (λ (b : Bool). elim b
            [ true ↦ lines_while M goes room (line_from M room none (going s w at) l) ls | false ↦ going s w at ]) e

    module _ (l : List ℕ) (ls : List (List ℕ)) (c : cut (drop at t) ≡ l ∷ ls) (y : goes (M.pos s) ≡ true) where
      pub after : (o : Outcome M.S) → answer M (room - length w) s text l ≡ o
          → lines_while M goes room (reach (going s w at) (length l) o) ls ≡ end
      unfolding lines_while line_from going
      after o e =
          sym (ap (lines_while M goes room (going s w at)) c
          ∙ ap (λ (b : Bool). elim b
          [ true ↦ lines_while M goes room (line_from M room none (going s w at) l) ls | false ↦ going s w at ]) y
          ∙ ap (λ (u : Outcome M.S). lines_while M goes room (reach (going s w at) (length l) u) ls) e) ∙ q

      pub stops : (n : ℕ) → (n ≡ 1 → ⊥) → answer M (room - length w) s text l ≡ refused n → halted s w at n ≡ end
      unfolding reach going halted
      stops n k e =
          sym (ap (λ (b : Bool). lines_while M goes room
          (cond {A = Reached M.S} b (record { state = s; wrote = w; taken = at + length l; stop = none })
          (record { state = s; wrote = w; taken = at; stop = some n })) ls) (ne_eqb n 1 k)
          ∙ stays M room goes (halted s w at n) n ls refl) ∙ after (refused n) e

      pub turn-unsound : M.sound s ≡ false → halted s w at 7 ≡ end
      turn-unsound e = stops 7 (λ z. omega arith) (answer-unsound M (room - length w) s text l e)
