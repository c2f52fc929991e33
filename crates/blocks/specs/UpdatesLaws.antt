-- Writes in the block of a state, each as the block of another state: the position, the filter, a monitor's row, the
-- pairs. Document 01, Lines ("the position"), Commands (03, 04, 05), Watching. Assumes nothing.
use Rattle.std.specs.Prelude.{ℕ, ◌+◌, ◌-◌, ◌*◌, ◌≤◌, ◌<◌, ◌≡◌, refl, List, [], ◌∷◌, ◌++◌, length, set, replicate}
use Rattle.std.proofs.Common.{sym, ap, ◌∙◌, arith, le-leb}
use Rattle.std.proofs.Math.Option.{none}
use Rattle.laws.specs.Put.{put}
use Rattle.laws.specs.PutLaws.{put-left, put_right, put-if-true}
use Rattle.laws.specs.RowsLaws.{put_whole}
use Rattle.octets.specs.Little.{little, octets_of}
use Rattle.rule.specs.Base.{All}
use Rattle.rule.specs.Engine.{find, insert, remove}
use Rattle.rule.proofs.FindsLaws.{all_insert, all_remove}
use Rattle.model.specs.Types.{Model, Monitor, Pair, with_lists, with_filter, moved}
use Rattle.model.specs.Image.{head_row}
use Rattle.model.specs.Block.{pad_to, monitor_block, pair_block, padded, advanced}
use Rattle.blocks.specs.Bounds.{Fits}
use Rattle.blocks.specs.Monitors.{Sized, row_of}
use Rattle.blocks.specs.MonitorsLaws.{length-full, length-monitor_block, put-insert, put-remove}
use Rattle.blocks.specs.PairsLaws.{length-pair_block}
use Rattle.blocks.specs.Block.{Measured}
use Rattle.blocks.specs.BlockLaws.{tables, ending, length-head, read-position}
use Rattle.model.specs.Layout.{count_at, filter_at, head_size, monitor_size, monitors_at, monitors_size, most_monitors, most_pairs, pairs_at, pairs_size, position_at}

-- one frame further
pub put-position : (m : Model) → put (padded m) 0 (octets_of 4 (m.position + 1)) ≡ padded (moved m)
unfolding put padded pad_to head_row octets_of moved
put-position m = refl

-- the same of a block with room for a position
pub advanced-moved : (m : Model) (s : List ℕ) → s ≡ padded m → 4 ≤ length s → m.position < 4294967296
    → advanced s ≡ padded (moved m)
unfolding advanced
advanced-moved m s q l h =
    sym (put-if-true s position_at (octets_of 4 (little 4 s position_at + 1)) (le-leb 4 (length s) l))
    ∙ rw (q, read-position m h) (put-position m)

-- another filter, stored or put
pub put-filter : (m : Model) (on : ℕ) → put (padded m) filter_at (on ∷ []) ≡ padded (with_filter m on)
unfolding put padded pad_to head_row octets_of with_filter
put-filter m on = refl

pub set-filter : (m : Model) (on : ℕ) → set (padded m) filter_at on ≡ padded (with_filter m on)
unfolding padded pad_to head_row octets_of with_filter
set-filter m on = refl

-- rows keep room over every change of a state
pub measured-moved : (m : Model) → Measured m → Measured (moved m)
unfolding moved
measured-moved m f = record {
  prefix-most = f.prefix-most;
  short = f.short;
  fit = f.fit;
  pairs-most = f.pairs-most;
}

pub measured-filter : (m : Model) → Measured m → (on : ℕ) → Measured (with_filter m on)
unfolding with_filter
measured-filter m f on =
    record { prefix-most = f.prefix-most; short = f.short; fit = f.fit; pairs-most = f.pairs-most }

pub measured-insert : (m : Model) → Measured m → (h : ℕ) (x : Monitor) → Sized x
    → Measured (with_lists m (insert h x m.mons) m.pairs)
unfolding with_lists
measured-insert m f h x c =
    record {
      prefix-most = f.prefix-most;
      short = all_insert (λ y. Sized y.1) h x m.mons c f.short;
      fit = f.fit;
      pairs-most = f.pairs-most;
    }

pub measured-remove : (m : Model) → Measured m → (h : ℕ) → Measured (with_lists m (remove h m.mons) m.pairs)
unfolding with_lists
measured-remove m f h =
    record {
      prefix-most = f.prefix-most;
      short = all_remove (λ y. Sized y.1) h m.mons f.short;
      fit = f.fit;
      pairs-most = f.pairs-most;
    }

pub measured-pairs : (m : Model) → Measured m → (qs : List Pair) → All Fits qs → length qs ≤ most_pairs
    → Measured (with_lists m m.mons qs)
unfolding with_lists
measured-pairs m f qs a h = record { prefix-most = f.prefix-most; short = f.short; fit = a; pairs-most = h }

-- a write inside the monitor table
pub put-monitors : (m : Model) → Measured m → (l : List (ℕ × Monitor)) (at : ℕ) (ys : List ℕ)
    → at + length ys ≤ monitors_size
    → put (monitor_block m.mons) at ys ≡ monitor_block l
    → put (padded m) (monitors_at + at) ys ≡ padded (with_lists m l m.pairs)
unfolding padded head_row with_lists
put-monitors m f l at ys h e =
    let n : length (pad_to head_size (head_row m)) ≡ head_size = length-head m f.prefix-most in
    let k : length (monitor_block m.mons) ≡ monitors_size = length-monitor_block m.mons f.short in
    let z : monitors_at + at ≡ length (pad_to head_size (head_row m)) + at = omega arith in
    ap (λ (i : ℕ). put (padded m) i ys) z
    ∙ put_right (pad_to head_size (head_row m)) (tables m) at ys
    ∙ ap (λ (x : List ℕ). pad_to head_size (head_row m) ++ x)
    (put-left (monitor_block m.mons) (ending m) at ys (omega arith))
    ∙ ap (λ (x : List ℕ). pad_to head_size (head_row m) ++ (x ++ ending m)) e

room : (h : ℕ) → h < most_monitors → monitor_size * h + monitor_size ≤ monitors_size
room h b = omega arith

-- a monitor's row written at a handle not live, and a handle's row cleared
pub put-monitor : (m : Model) → Measured m → (h : ℕ) (x : Monitor) → h < most_monitors → Sized x
    → find m.mons h ≡ none
    → put (padded m) (monitors_at + monitor_size * h) (row_of h x) ≡ padded
    (with_lists m (insert h x m.mons) m.pairs)
put-monitor m f h x b c e =
    let n : length (row_of h x) ≡ monitor_size = length-full h x c in
    put-monitors m f (insert h x m.mons) (monitor_size * h) (row_of h x) (omega arith)
    (put-insert m.mons f.short h x b c e)

pub clear-monitor : (m : Model) → Measured m → (h : ℕ) → h < most_monitors
    → put (padded m) (monitors_at + monitor_size * h) (replicate monitor_size 0)
    ≡ padded (with_lists m (remove h m.mons) m.pairs)
clear-monitor m f h b =
    put-monitors m f (remove h m.mons) (monitor_size * h) (replicate monitor_size 0) (room h b)
    (put-remove m.mons f.short h b)

-- a block with a number of pairs that may not be theirs: what stands between the two writes of an update
unfoldable pub counted : Model → ℕ → List ℕ
counted m c = pad_to head_size (head_row m) ++ (monitor_block m.mons ++ (pair_block m.pairs ++ (c ∷ [])))

pub counted-padded : (m : Model) → counted m (length m.pairs) ≡ padded m
unfolding counted padded
counted-padded m = refl

-- a write inside the pair table
pub put-pairs : (m : Model) → Measured m → (c : ℕ) (qs : List Pair) (at : ℕ) (ys : List ℕ) → at + length ys ≤ pairs_size
    → put (pair_block m.pairs) at ys ≡ pair_block qs
    → put (counted m c) (pairs_at + at) ys ≡ counted (with_lists m m.mons qs) c
unfolding counted head_row with_lists
put-pairs m f c qs at ys h e =
    let u : List ℕ = pad_to head_size (head_row m) in
    let v : List ℕ = monitor_block m.mons in
    let w : List ℕ = pair_block m.pairs in
    let a : length u ≡ head_size = length-head m f.prefix-most in
    let b : length v ≡ monitors_size = length-monitor_block m.mons f.short in
    let d : length w ≡ pairs_size = length-pair_block m.pairs f.fit f.pairs-most in
    let z : pairs_at + at ≡ length u + (length v + at) = omega arith in
    ap (λ (i : ℕ). put (counted m c) i ys) z
    ∙ put_right u (v ++ (w ++ (c ∷ []))) (length v + at) ys
    ∙ ap (λ (x : List ℕ). u ++ x) (put_right v (w ++ (c ∷ [])) at ys)
    ∙ ap (λ (x : List ℕ). u ++ (v ++ x)) (put-left w (c ∷ []) at ys (omega arith))
    ∙ ap (λ (x : List ℕ). u ++ (v ++ (x ++ (c ∷ [])))) e

-- the number of pairs written
pub put_count : (m : Model) → Measured m → (c d : ℕ) → put (counted m c) count_at (d ∷ []) ≡ counted m d
unfolding counted put
put_count m f c d =
    let u : List ℕ = pad_to head_size (head_row m) in
    let v : List ℕ = monitor_block m.mons in
    let w : List ℕ = pair_block m.pairs in
    let a : length u ≡ head_size = length-head m f.prefix-most in
    let b : length v ≡ monitors_size = length-monitor_block m.mons f.short in
    let k : length w ≡ pairs_size = length-pair_block m.pairs f.fit f.pairs-most in
    let z : count_at ≡ length u + (length v + (length w + 0)) = omega arith in
    ap (λ (i : ℕ). put (counted m c) i (d ∷ [])) z
    ∙ put_right u (v ++ (w ++ (c ∷ []))) (length v + (length w + 0)) (d ∷ [])
    ∙ ap (λ (x : List ℕ). u ++ x) (put_right v (w ++ (c ∷ [])) (length w + 0) (d ∷ []))
    ∙ ap (λ (x : List ℕ). u ++ (v ++ x)) (put_right w (c ∷ []) 0 (d ∷ []))

-- the pair part and the number of pairs replaced
pub put-lists : (m : Model) → Measured m → (qs : List Pair) → All Fits qs → length qs ≤ most_pairs
    → put (put (padded m) pairs_at (pair_block qs)) count_at (length qs ∷ []) ≡ padded (with_lists m m.mons qs)
unfolding with_lists
put-lists m f qs a h =
    let n : length (pair_block qs) ≡ pairs_size = length-pair_block qs a h in
    let k : length (pair_block m.pairs) ≡ pairs_size = length-pair_block m.pairs f.fit f.pairs-most in
    let w : Model = with_lists m m.mons qs in
    let g : Measured w = measured-pairs m f qs a h in
    let p : put (padded m) pairs_at (pair_block qs) ≡ counted w (length m.pairs) =
    ap (λ (s : List ℕ). put s pairs_at (pair_block qs)) (sym (counted-padded m))
    ∙ put-pairs m f (length m.pairs) qs 0 (pair_block qs) (omega arith)
    (put_whole (pair_block m.pairs) (pair_block qs) (k ∙ sym n)) in
    ap (λ (s : List ℕ). put s count_at (length qs ∷ [])) p ∙ put_count w g (length m.pairs) (length qs)
    ∙ counted-padded w

-- a monitor's row cleared and the pairs replaced: what a cancel leaves
pub clear-lists : (m : Model) → Measured m → (h : ℕ) (qs : List Pair) → h < most_monitors → All Fits qs
    → length qs ≤ most_pairs
    → put (put (put (padded m) (monitors_at + monitor_size * h) (replicate monitor_size 0)) pairs_at (pair_block qs))
    count_at (length qs ∷ [])
    ≡ padded (with_lists m (remove h m.mons) qs)
unfolding with_lists
clear-lists m f h qs b a n =
    ap (λ (s : List ℕ). put (put s pairs_at (pair_block qs)) count_at (length qs ∷ [])) (clear-monitor m f h b)
    ∙ put-lists (with_lists m (remove h m.mons) m.pairs) (measured-remove m f h) qs a n
