-- Laws of the definitions in Cancelled.
use Rattle.std.specs.Prelude.{ℕ, ◌+◌, ◌-◌, ◌*◌, ◌≤◌, ◌<◌, ◌≡◌, refl, Bool, true, List, [], ◌∷◌, ◌++◌, leb, length, drop, get_or, set, replicate}
use Rattle.std.proofs.Common.{ap, ◌∙◌, arith}
use Rattle.laws.specs.Put.{put, put_if}
use Rattle.laws.specs.PutLaws.{set-put, get_d-put-after}
use Rattle.laws.specs.Loops.{keep}
use Rattle.laws.specs.LoopsLaws.{length-keep}
use Rattle.model.specs.Types.{Model, Pair}
use Rattle.model.specs.Commands.{of_other, cancelled}
use Rattle.model.specs.Sound.{sound_model}
use Rattle.model.specs.Block.{pair_block, padded}
use Rattle.blocks.specs.Block.{Measured}
use Rattle.blocks.specs.BlockLaws.{measured, padded-length, drop-monitors, get_d-count}
use Rattle.blocks.specs.UpdatesLaws.{clear-lists}
use Rattle.commands.specs.StoredLaws.{put-made}
use Rattle.commands.specs.Kept.{Holds}
use Rattle.commands.specs.KeptLaws.{all_keep, kept_block, drop-past-put}
use Rattle.model.specs.Layout.{block_size, count_at, monitor_size, monitors_at, most_monitors, most_pairs, pair_size, pairs_at}
use Rattle.commands.specs.Cancelled.{Compacted, Forgotten}

-- compacted, cleared, counted
pub forgotten : (h count : ℕ) (s : List ℕ) {s1 s2 : List ℕ} {k : ℕ} {r : Bool} → length s ≡ block_size
    → length s1 ≡ length s
    → length s2 ≡ length s1 → (get_or s count_at 0 ≤ most_pairs → count ≡ get_or s count_at 0) → Compacted h count s s1 k
    → (r ≡ leb (pairs_at + pair_size * k + pair_size * (most_pairs - k)) (length s1)) × (s2
    ≡ put_if r s1 (pairs_at + pair_size * k) (replicate (pair_size * (most_pairs - k)) 0))
    → count ≤ most_pairs → Forgotten h s (set s2 count_at k)
forgotten h count s {s1} {s2} {k} l l1 l2 n c w b = record { kept = λ qs t e. all qs t e }
  where
    all : (qs : List Pair) → Holds s qs → get_or s count_at 0 ≡ length qs
        → set s2 count_at k
        ≡ put (put s pairs_at (pair_block (keep (of_other h) qs))) count_at (length (keep (of_other h) qs) ∷ [])
    all qs t e =
        let ps : List Pair = keep (of_other h) qs in
        let q : count ≡ length qs = n (omega (arith, t.most)) ∙ e in
        let d = c.kept qs t q in
        let m : k ≤ count = c.most in
        let p : s2 ≡ put s1 (pairs_at + pair_size * k) (replicate (pair_size * (most_pairs - k)) 0) =
        put-made s1 (pairs_at + pair_size * k) (replicate (pair_size * (most_pairs - k)) 0) (pair_size * (most_pairs - k)) w
        (omega arith) in
        let g : s2 ≡ put s pairs_at (pair_block ps) =
        kept_block s ps (all_keep (of_other h) qs t.fit) (omega arith) d.0 d.1 p in
        set-put s2 count_at k (omega arith) ∙ ap (λ (x : List ℕ). put x count_at (k ∷ [])) g
        ∙ ap (λ (j : ℕ). put (put s pairs_at (pair_block ps)) count_at (j ∷ [])) d.0

-- the monitor's row cleared, and its pairs forgotten
pub cancelled-block : (m : Model) (h : ℕ) (s : List ℕ) {s1 s2 : List ℕ} {r : Bool} → sound_model m ≡ true → s
    ≡ padded m → h < most_monitors
    → (r ≡ leb (monitors_at + monitor_size * h + monitor_size) (length s))
    × (s1 ≡ put_if r s (monitors_at + monitor_size * h) (replicate monitor_size 0)) → Forgotten h s1 s2
    → s2 ≡ padded (cancelled m h)
unfolding cancelled
cancelled-block m h s {s1} {s2} e q b w g =
    let f : Measured m = measured m e in
    let l : length s ≡ block_size = ap length q ∙ padded-length m e in
    let y : List ℕ = replicate monitor_size 0 in
    let z : length y ≡ monitor_size = refl in
    let p : s1 ≡ put (padded m) (monitors_at + monitor_size * h) (replicate monitor_size 0) =
    put-made s (monitors_at + monitor_size * h) (replicate monitor_size 0) monitor_size w (omega arith)
    ∙ ap (λ (x : List ℕ). put x (monitors_at + monitor_size * h) (replicate monitor_size 0)) q in
    let n : length (padded m) ≡ block_size = padded-length m e in
    let t : drop pairs_at s1 ≡ pair_block m.pairs ++ (length m.pairs ∷ []) =
    ap (drop pairs_at) p
    ∙ drop-past-put (padded m) (monitors_at + monitor_size * h) (replicate monitor_size 0) pairs_at (omega arith)
    (omega arith)
    ∙ drop-monitors m f in
    let c : get_or s1 count_at 0 ≡ length m.pairs =
    ap (λ (x : List ℕ). get_or x count_at 0) p
    ∙ get_d-put-after (padded m) (monitors_at + monitor_size * h) (replicate monitor_size 0) count_at 0 (omega arith)
    (omega arith) ∙ get_d-count m f in
    let ps : List Pair = keep (of_other h) m.pairs in
    let k : length ps ≤ most_pairs = omega (arith, length-keep (of_other h) m.pairs, f.pairs-most) in
    g.kept m.pairs (record { fit = f.fit; most = f.pairs-most; rest = length m.pairs ∷ []; table = t }) c
    ∙ ap (λ (x : List ℕ). put (put x pairs_at (pair_block ps)) count_at (length ps ∷ [])) p
    ∙ clear-lists m f h ps b (all_keep (of_other h) m.pairs f.fit) k
