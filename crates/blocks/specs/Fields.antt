-- Fields written in a pair's row: the row of the changed pair. Document 01, The image (A3), Watching, by history.
-- Assumes nothing.
use Rattle.std.specs.Prelude.{ℕ, ◌-◌, List, ◌∷◌, ◌++◌, length, replicate}
use Rattle.octets.specs.Little.{octets_of}
use Rattle.model.specs.Layout.{most_data}

abbrev pub latest_in : ℕ → ℕ → List ℕ → List ℕ
latest_in room event adv = event ∷ length adv ∷ (adv ++ replicate (room - length adv) 0)

abbrev pub latest_of : ℕ → List ℕ → List ℕ
latest_of event adv = latest_in most_data event adv

abbrev pub window_in : ℕ → ℕ → ℕ → ℕ → ℕ → List ℕ → List ℕ
window_in room packets sum kept event adv =
    octets_of 4 packets ++ (octets_of 8 sum ++ (kept ∷ latest_in room event adv))

abbrev pub window_of : ℕ → ℕ → ℕ → ℕ → List ℕ → List ℕ
window_of packets sum kept event adv = window_in most_data packets sum kept event adv
