-- A row with an empty window: its length, and the two writes that make it. Document 01, Watching, by history;
-- document 02, T-05. Assumes nothing.
use Rattle.std.specs.Prelude.{ℕ, ◌+◌, ◌≡◌, Bool, List, leb, length, replicate}
use Rattle.std.proofs.Common.{ap, ◌∙◌, arith}
use Rattle.laws.specs.Put.{put, put_if}
use Rattle.laws.specs.PutLaws.{put_of, length-put}
use Rattle.ticks.specs.Row.{emptied_row}
use Rattle.model.specs.Layout.{counts_size, event_at, latest_size, pair_size, ticks_at}

pub length-emptied : (r : List ℕ) → length r ≡ pair_size → length (emptied_row r) ≡ pair_size
unfolding emptied_row
length-emptied r h =
    let n : length (put r ticks_at (replicate counts_size 0)) ≡ pair_size =
    length-put r ticks_at (replicate counts_size 0) (omega arith) ∙ h in
    length-put (put r ticks_at (replicate counts_size 0)) event_at (replicate latest_size 0) (omega arith) ∙ n

-- what the two fills of a row leave
pub emptied-of : (r : List ℕ) {b d : Bool} {l m : List ℕ} → length r ≡ pair_size
    → b ≡ leb (ticks_at + counts_size) (length r)
    → l ≡ put_if b r ticks_at (replicate counts_size 0) → d ≡ leb (event_at + latest_size) (length l)
    → m ≡ put_if d l event_at (replicate latest_size 0) → m ≡ emptied_row r
unfolding emptied_row
emptied-of r {b} {d} {l} {m} h e p f q =
    let a : l ≡ put r ticks_at (replicate counts_size 0) =
    put_of r ticks_at (replicate counts_size 0) counts_size (length r) e (omega arith) p in
    let n : length l ≡ pair_size = ap length a ∙ length-put r ticks_at (replicate counts_size 0) (omega arith) ∙ h in
    put_of l event_at (replicate latest_size 0) latest_size (length l) f (omega arith) q
    ∙ ap (λ (x : List ℕ). put x event_at (replicate latest_size 0)) a
