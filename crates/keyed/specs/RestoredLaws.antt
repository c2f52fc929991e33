-- Document 02, T-13: a failover between a packet and its duplicate, as rows that the checker computes: an image's
-- text is restored, and further frames are answered. Assumes nothing.
use Rattle.std.specs.Prelude.{◌≡◌, refl, Bool, true, false, ◌&&◌, List, [], ◌∷◌, ◌++◌, ℕ}
use Rattle.std.proofs.Math.Option.{Option, none, some}
use Rattle.laws.specs.Loops.{each}
use Rattle.lines.specs.Hex.{text_of}
use Rattle.model.specs.Types.{Model, fresh}
use Rattle.model.specs.Image.{read_image}
use Rattle.model.specs.Engine.{models}
use Rattle.model.specs.Rows.{Example, Reply, wrote, answered}
use Rattle.model.specs.Requests.{aa, bb, rep}
use Rattle.model.specs.Second.{sent, t13kept, t13none}

-- what a restored state answers to frames
unfoldable pub answers_on : Option Model → List (List ℕ) → List Reply → Bool
answers_on none fs rs = false
answers_on (some m) fs rs = answered models fresh m fs rs

-- the text of a row's image is restored, and these frames are answered so
unfoldable pub goes_on : Example → List (List ℕ) → List Reply → Bool
goes_on r fs rs = answers_on (read_image (each text_of r.image)) fs rs

-- the image keeps the directed packet: its duplicate is told by no report, a packet with other data is
unfoldable pub over_kept : Bool
over_kept = goes_on t13kept (sent 7 1 0 aa 0xC4 ∷ sent 8 1 0 (aa ++ bb) 0xC4 ∷ [])
    (wrote [] ∷ wrote (rep 1 (aa ++ bb) 0xC4) ∷ [])

-- the image keeps none: the same packet is reported, and then its duplicate is not
unfoldable pub over_none : Bool
over_none = goes_on t13none (sent 4 1 0 aa 0xC4 ∷ sent 5 1 0 aa 0xC6 ∷ []) (wrote (rep 1 aa 0xC4) ∷ wrote [] ∷ [])

pub over-holds : (over_kept && over_none) ≡ true
unfolding answers_on goes_on over_kept over_none Rattle.model.specs.Computed.computed
over-holds = refl
