-- Writes of pairs in a block: one pair changed, one pair more, and a block known by its rows. Document 01, The image
-- (A3), Watching, by history. Assumes nothing.
use Prim.Native.Nat.{ℕ, zero, suc, ◌+◌, ◌-◌, ◌*◌, ◌≤◌, ◌<◌}
use Rattle.std.specs.Prelude.{◌≡◌, set}
use Rattle.std.proofs.Math.Path.{sym, ap}
use Rattle.std.proofs.Common.{◌∙◌, arith, length-append, length-set, take-append-drop, drop_of_length-le}
use mathlib.Core.List.{List, [], ◌∷◌, ◌++◌, append_assoc}
use Rattle.std.proofs.Math.ListN.{length, take, drop, get_or}
use Rattle.std.proofs.Math.Seq.{take_at, drop-cons, drop-drop}
use Rattle.laws.specs.Put.{put}
use Rattle.laws.specs.Rows.{rows, flat}
use Rattle.laws.specs.RowsLaws.{past, flat_rows}
use Rattle.rule.specs.Base.{All}
use Rattle.rule.specs.BaseLaws.{all_append}
use Rattle.model.specs.Types.{Model, Pair, with_lists}
use Rattle.model.specs.Image.{head_row, pair_row}
use Rattle.model.specs.Block.{pad_to, monitor_block, pair_block, padded}
use Rattle.blocks.specs.Bounds.{Fits}
use Rattle.blocks.specs.MonitorsLaws.{length-monitor_block}
use Rattle.blocks.specs.PairsLaws.{pair_places, length-pair_place, pair_block-flat}
use Rattle.blocks.specs.PlacesLaws.{put-pair, push-pair}
use Rattle.blocks.specs.Block.{Measured}
use Rattle.blocks.specs.BlockLaws.{ending, length-head}
use Rattle.blocks.specs.UpdatesLaws.{counted, counted-padded, put-pairs, put_count, measured-pairs}
use Rattle.model.specs.Layout.{block_size, count_at, head_size, monitors_size, most_pairs, pair_size, pairs_at, pairs_size}

pub all_set : (qs : List Pair) → All Fits qs → (i : ℕ) (q : Pair) → Fits q → All Fits (set qs i q)
all_set [] a i q f = tt
all_set (p ∷ qs) a zero q f = (f, a.1)
all_set (p ∷ qs) a (suc i) q f = (a.0, all_set qs a.1 i q f)

module _ (m : Model) (f : Measured m) where
  -- pair i changed
  pub change-pair : (i : ℕ) (q : Pair) → Fits q → i < length m.pairs
      → put (padded m) (pairs_at + pair_size * i) (pad_to pair_size (pair_row q))
      ≡ padded (with_lists m m.mons (set m.pairs i q))
  unfolding with_lists
  change-pair i q g b =
      let c : ℕ = length m.pairs in
      let r : List ℕ = pad_to pair_size (pair_row q) in
      let n : length r ≡ pair_size = length-pair_place q g in
      let k : c ≡ length (set m.pairs i q) = sym (length-set m.pairs i q) in
      let w : Model = with_lists m m.mons (set m.pairs i q) in
      let u : c ≤ most_pairs = f.pairs-most in
      ap (λ (s : List ℕ). put s (pairs_at + pair_size * i) r) (sym (counted-padded m))
      ∙ put-pairs m f c (set m.pairs i q) (pair_size * i) r (omega arith) (put-pair m.pairs f.fit u i q g b)
      ∙ ap (counted w) k ∙ counted-padded w

  -- one pair more, behind the others
  pub add-pair : (q : Pair) → Fits q → length m.pairs < most_pairs
      → put (put (padded m) (pairs_at + pair_size * length m.pairs) (pad_to pair_size (pair_row q))) count_at
      ((length m.pairs + 1) ∷ [])
      ≡ padded (with_lists m m.mons (m.pairs ++ (q ∷ [])))
  unfolding with_lists
  add-pair q g b =
      let c : ℕ = length m.pairs in
      let r : List ℕ = pad_to pair_size (pair_row q) in
      let qs : List Pair = m.pairs ++ (q ∷ []) in
      let n : length r ≡ pair_size = length-pair_place q g in
      let k : c + 1 ≡ length qs = sym (length-append m.pairs (q ∷ [])) in
      let w : Model = with_lists m m.mons qs in
      let v : Measured w = measured-pairs m f qs (all_append Fits m.pairs (q ∷ []) f.fit (g, tt))
      (omega arith) in
      ap (λ (s : List ℕ). put (put s (pairs_at + pair_size * c) r) count_at ((c + 1) ∷ [])) (sym (counted-padded m))
      ∙ ap (λ (s : List ℕ). put s count_at ((c + 1) ∷ []))
      (put-pairs m f c qs (pair_size * c) r (omega arith) (push-pair m.pairs f.fit b q g))
      ∙ put_count w v c (c + 1) ∙ ap (counted w) k ∙ counted-padded w

  -- head and monitors
  pub take-front : take pairs_at (padded m) ≡ pad_to head_size (head_row m) ++ monitor_block m.mons
  unfolding padded
  take-front =
      let a : length (pad_to head_size (head_row m)) ≡ head_size = length-head m f.prefix-most in
      let b : length (monitor_block m.mons) ≡ monitors_size = length-monitor_block m.mons f.short in
      let u : List ℕ = pad_to head_size (head_row m) ++ monitor_block m.mons in
      ap (λ (l : List ℕ). take pairs_at l)
      (sym (append_assoc (pad_to head_size (head_row m)) (monitor_block m.mons) (ending m)))
      ∙ take_at u (ending m) pairs_at
      (length-append (pad_to head_size (head_row m)) (monitor_block m.mons) ∙ omega arith)

  -- a block with that front, the rows of other pairs and their number is the block with these pairs
  pub rows-lists : (s : List ℕ) (qs : List Pair) → length s ≡ block_size → take pairs_at s ≡ take pairs_at (padded m)
      → rows pair_size most_pairs (drop pairs_at s) ≡ pair_places qs → get_or s count_at 0 ≡ length qs
      → s ≡ padded (with_lists m m.mons qs)
  unfolding padded with_lists head_row past
  rows-lists s qs l a r n =
      let u : List ℕ = pad_to head_size (head_row m) in
      let v : List ℕ = monitor_block m.mons in
      let e : drop pairs_size (drop pairs_at s) ≡ length qs ∷ [] =
      drop-drop pairs_size pairs_at s ∙ drop-cons s count_at 0 (omega arith)
      ∙ ap (λ (x : List ℕ). get_or s count_at 0 ∷ x) (drop_of_length-le s {i = block_size} (omega arith))
      ∙ ap (λ (k : ℕ). k ∷ []) n in
      let t : drop pairs_at s ≡ pair_block qs ++ (length qs ∷ []) =
      sym (flat_rows pair_size most_pairs (drop pairs_at s))
      ∙ ap (λ (x : List (List ℕ)). flat x ++ drop pairs_size (drop pairs_at s)) r
      ∙ ap (λ (x : List ℕ). x ++ drop pairs_size (drop pairs_at s)) (sym (pair_block-flat qs))
      ∙ ap (λ (x : List ℕ). pair_block qs ++ x) e in
      sym (take-append-drop pairs_at s) ∙ ap (λ (x : List ℕ). x ++ drop pairs_at s) (a ∙ take-front)
      ∙ ap (λ (x : List ℕ). u ++ v ++ x) t ∙ append_assoc u v (pair_block qs ++ (length qs ∷ []))
