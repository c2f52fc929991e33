-- The row of a pair at its start: the writes that make it, behind the pairs held and at the last of 64 places.
-- Document 01, The image (A3), Watching, by history; document 02, T-05. Assumes nothing.
use Rattle.std.specs.Prelude.{ℕ, List, [], ◌∷◌, replicate}
use Rattle.laws.specs.Put.{put}
use Rattle.octets.specs.Little.{octets_of}
use Rattle.model.specs.Layout.{pair_size, rssi_at}

-- the row of a pair at its start, and one written over another of its length
unfoldable pub start_row : ℕ → ℕ → List ℕ
start_row key o = put (put (replicate pair_size 0) 0 (octets_of 8 key)) rssi_at (o ∷ [])
