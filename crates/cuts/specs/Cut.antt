-- The law of the cut (document 02, T-10): "Where the journal ran through without a refusal, the row of a whole
-- journal is the join of the rows of its two parts, cut after any frame, the second part started from the state at
-- the cut, all three counted from empty rows." Over lists of lines given to any engine whose states have document
-- 01's in them. Assumes nothing.
use Rattle.std.specs.Prelude.{ℕ, suc, ◌≡◌, true, List, [], ◌∷◌, ◌++◌}
use Rattle.std.proofs.Math.Option.{none}
use Rattle.totals.specs.Two.{every_two, map_two}
use Rattle.totals.specs.Table.{row_fits}
use Rattle.totals.specs.Join.{join_of}
use Rattle.sessions.specs.Machine.{Machine}
use Rattle.sessions.specs.Saved.{Replayed, replay_lines}
use Rattle.model.specs.Types.{Model}
use Rattle.model.specs.Frames.{Body}
use Rattle.months.specs.Counted.{Tallied}
use Rattle.months.specs.Counting.{no_rows, counting, at}

-- what the lines behind the first ones are lent
unfoldable pub later : List (List ℕ) → (ℕ → ℕ) → ℕ → ℕ
later [] lent = lent
later (l ∷ ls) lent = later ls (λ i. lent (suc i))

module _ (M : Machine) (core : M.S → Model) (body : M.Body → Body) where
  -- lines given one after another to the engine with rows
  abbrev pub counts_lines : (ℕ → ℕ) → M.S → List (List ℕ) → Replayed (Tallied M.S)
  counts_lines lent s ls = replay_lines (counting M core body) lent (at M core body s no_rows) ls

  -- The lines ls and then ms, from the state s: what the whole leaves, and what its two parts leave, each from empty
  -- rows, the second from the state at the cut.
  pub record CutLaw (lent : ℕ → ℕ) (s : M.S) (ls ms : List (List ℕ)) : Type 0 where
    pub first-ran : (counts_lines lent s ls).stop ≡ none
    pub second-ran : (counts_lines (later ls lent) (counts_lines lent s ls).state.state ms).stop ≡ none
    pub state : (counts_lines lent s (ls ++ ms)).state.state
        ≡ (counts_lines (later ls lent) (counts_lines lent s ls).state.state ms).state.state
    -- no join of two rows is refused ..
    pub fits : every_two row_fits (counts_lines lent s ls).state.rows
        (counts_lines (later ls lent) (counts_lines lent s ls).state.state ms).state.rows ≡ true
    -- .. and each row of the whole is the join of those of the parts
    pub rows : (counts_lines lent s (ls ++ ms)).state.rows
        ≡ map_two join_of (counts_lines lent s ls).state.rows
        (counts_lines (later ls lent) (counts_lines lent s ls).state.state ms).state.rows
