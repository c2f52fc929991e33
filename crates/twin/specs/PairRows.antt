-- The rows of pairs under watch, from the frames behind their starts. Document 01, The image (A3); document 02, T-05,
-- T-13. Assumes nothing.
use Rattle.std.specs.Prelude.{ℕ, ◌-◌, List, [], ◌∷◌, ◌++◌, map, length}
use Rattle.std.proofs.Math.Option.{Option}
use Rattle.laws.specs.Rows.{flat}
use Rattle.octets.specs.Little.{octets_of}
use Rattle.model.specs.Types.{Packet}
use Rattle.model.specs.Types
use Rattle.model.specs.Image.{pair_row}
use Rattle.model.specs.Block.{pad_to}
use Rattle.model.specs.Layout.{pair_size}
use Rattle.pasts.specs.Pair.{adv_of, event_or, pair_of}
use Rattle.twin.specs.declared.watch.Begun.{Begun}
use Rattle.twin.specs.Table.{after}
use Rattle.twin.specs.Hears.{start_of}

-- the pair of a handle and packet number k after n frames; its row
unfoldable pub pair_at : List ℕ → ℕ → ℕ → ℕ → ℕ → Types.Pair
pair_at t n h a k = pair_of (start_of t h a k) (after t k (n - k))

abbrev pub place_of : Types.Pair → List ℕ
place_of q = pad_to pair_size (pair_row q)

unfoldable pub rows_of : List ℕ → ℕ → List Begun → List ℕ
rows_of t n l = flat (map (λ (b : Begun). place_of (pair_at t n b.handle b.monitor b.packet)) l)

-- a row's numbers, and its last fields
unfoldable pub numbers_of : Types.Pair → List ℕ
numbers_of q = octets_of 2 q.since_good
    ++ (q.ticks ∷ (octets_of 4 q.packets ++ (octets_of 8 q.sum ++ (q.kept ∷ []))))

unfoldable pub latest_by : ℕ → Option Packet → List ℕ
latest_by e o = event_or e o ∷ length (adv_of o) ∷ adv_of o
