-- Laws of the definitions in Ends: a takeover has ended after so many turns.
use Prim.Native.Nat.{ℕ, suc, ◌+◌, ◌-◌, ◌*◌, ◌≤◌, ◌<◌}
use Rattle.std.specs.Prelude.{◌≡◌, Bool, true, false, not, ◌&&◌, ◌⊎◌, eqb, ltb, length, drop}
use Rattle.std.proofs.Math.Path.{refl}
use Rattle.std.proofs.Common.{ap, inl, inr, arith, lt-ltb, length-append, length-take, length-drop}
use Rattle.std.proofs.lemmas.Bool.{false≢true, eqb-false}
use mathlib.Core.List.{List, [], ◌∷◌, ◌++◌, append-nil}
use Rattle.std.proofs.Math.ListN.{take}
use Rattle.laws.specs.Tests.{pick}
use Rattle.laws.specs.TestsLaws.{cases-le}
use Rattle.sessions.specs.Machine.{Machine, answer_room, last_number}
use Rattle.sessions.specs.Saved.{cut, cut_from}
use Rattle.model.specs.Block.{model_of}
use Rattle.replays.specs.Into.{Reached, replay_while}
use Rattle.turns.specs.Told.{goes_of}
use Rattle.turns.specs.Swap.{long_line}
use Rattle.turns.specs.Takeover.{Next, reads, again, ended, stopped, is_reads, kept, acts, rests, Standing}
use Rattle.turns.specs.Takeover.{reached, follows, turned, rested, turn, Flow, piece, flows, run, start}
use Rattle.turns.specs.MovesTurns.{weight}
use Rattle.turns.proofs.MovesTurns.{line-some, Rooms, moves}
use Rattle.turns.specs.Ends.{is_over}
use Rattle.turns.proofs.EndsTurns.{work, run_ends_lem}

module _ (M : Machine) (𝓡 : Rooms M) (after : ℕ) (numbered : Bool) (room cap : ℕ) (h : answer_room ≤ room) where
  -- A takeover has ended after twice as many turns as its journal has octets, and one, in whatever pieces they come.
  pub takeover-ends : (s : M.S) (journal sizes : List ℕ) → 2 * length journal < length sizes
      → is_over (run M after numbered room cap sizes (start M after numbered room cap s journal)).standing.next ≡ true
  unfolding start work weight
  takeover-ends s journal sizes b = run_ends_lem M 𝓡 after numbered room cap h sizes (start M after numbered room cap s journal) (omega arith)
