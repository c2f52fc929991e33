-- A block whose clauses hold is sound: the state that it holds is, and the block is that state's. Document 01, The
-- image ("Sound"). Assumes nothing.
use Prim.Native.Nat.{ℕ, ◌+◌, ◌-◌, ◌≤◌, ◌<◌}
use Rattle.std.specs.Prelude.{◌≡◌, refl, true, false, ◌&&◌, not, eqb, length, take, drop}
use Rattle.std.proofs.Common.{sym, ◌∙◌, arith, length-take, get_or-take, leb-true, eqb-true}
use Rattle.std.proofs.Math.Path.{ap}
use mathlib.Core.List.{List, [], ◌∷◌, ◌++◌}
use Rattle.std.proofs.Math.Option.{Option}
use Rattle.std.proofs.Math.Dec.{leb}
use Rattle.std.proofs.Math.ListN.{get_or}
use Rattle.std.proofs.lemmas.List.{length-map}
use Rattle.std.proofs.Math.Seq.{drop-length}
use Rattle.laws.specs.TestsLaws.{and_left, and_right, and_both, eq-sames}
use Rattle.laws.specs.Loops.{every}
use Rattle.laws.specs.LoopsLaws.{every_take, every_drop}
use Rattle.octets.specs.Little.{little, is_octet}
use Rattle.octets.specs.LittleLaws.{little-take}
use Rattle.parts.specs.Parts.{is_zero}
use Rattle.rule.specs.BaseLaws.{not-true}
use Rattle.model.specs.Types.{Monitor, Pair, watched}
use Rattle.model.specs.Image.{pair_row, pair_in}
use Rattle.model.specs.Watch.{is_pair}
use Rattle.model.specs.Sound.{sound_of, sound_pair, apart}
use Rattle.model.specs.Block.{pad_to, monitor_block, pair_block, padded, model_of, sound}
use Rattle.blocks.specs.LaidLaws.{padded-parts}
use Rattle.blocks.specs.Facts.{SoundModel}
use Rattle.blocks.specs.FactsLaws.{facts-sound, monitors-facts}
use Rattle.blocks.specs.TablesLaws.{from, length_from}
use Rattle.soundness.specs.Below.{all_below}
use Rattle.soundness.specs.BelowLaws.{all-below}
use Rattle.soundness.specs.Clauses.{pair_row_at, live_at, head_test, monitors_test, pair_test, place_test, key_at}
use Rattle.soundness.specs.Clauses.{other_test, free_test, loose_pairs_test, loose, others_test}
use Rattle.soundness.specs.KeysLaws.{key-pair}
use Rattle.soundness.specs.RowsLaws.{one-cut, part_cut, pair_row_lem}
use Rattle.soundness.specs.HeadLaws.{HeadFacts, head-facts, head-row, little-lt}
use Rattle.soundness.specs.FrontLaws.{find-live, held-mons-sound, block-live}
use Rattle.soundness.specs.PairsLaws.{pairs_of, every-pairs, apart-pairs, length-pair_row_at, octets-pair_row_at, key_row}
use Rattle.soundness.specs.PairsLaws.{pairs-held, block-pairs}
use Rattle.model.specs.Layout.{block_size, count_at, data_at, head_size, length_at, monitors_at, monitors_size, most_data, most_pairs, most_prefix, opcode_at, pair_size, pairs_at, pairs_size, position_at, prefix_at, prefix_length_at}

-- the clauses, by name
pub record Clauses (s : List ℕ) : Type 0 where
  pub size : length s ≡ block_size
  pub head : head_test (take head_size s) ≡ true
  pub monitors : monitors_test s ≡ true
  pub few : get_or s count_at 0 ≤ most_pairs
  pub free : free_test s (get_or s count_at 0) ≡ true
  pub row : (i : ℕ) → i < get_or s count_at 0 → place_test s i ≡ true
  pub other : (i j : ℕ) → j < i → i < get_or s count_at 0 → eqb (key_at s i) (key_at s j) ≡ false

-- the size and the number of pairs
pub loose-size : (s : List ℕ) → loose s ≡ true → length s ≡ block_size
unfolding loose
loose-size s e =
    let a = eqb (length s) block_size in
    let b = head_test (take head_size s) in
    let m = monitors_test s in
    eqb-true (length s) block_size
    (and_left a b (and_left (a && b) m (and_left (a && b && m) (loose_pairs_test s (get_or s count_at 0)) e)))

pub loose-few : (s : List ℕ) → loose s ≡ true → get_or s count_at 0 ≤ most_pairs
unfolding loose loose_pairs_test
loose-few s e =
    let c : ℕ = get_or s count_at 0 in
    let f = leb c most_pairs in
    let g = free_test s c in
    let h = all_below (place_test s) c in
    leb-true c most_pairs
    (and_left f g (and_left (f && g) h
    (and_right (eqb (length s) block_size && head_test (take head_size s) && monitors_test s) (loose_pairs_test s c) e)))

pub clauses : (s : List ℕ) → loose s ≡ true → others_test s ≡ true → Clauses s
unfolding loose loose_pairs_test others_test other_test
clauses s e z =
    let c : ℕ = get_or s count_at 0 in
    let a = eqb (length s) block_size in
    let b = head_test (take head_size s) in
    let m = monitors_test s in
    let p = loose_pairs_test s c in
    let e2 = and_left (a && b && m) p e in
    let e1 = and_left (a && b) m e2 in
    let q = and_right (a && b && m) p e in
    let f = leb c most_pairs in
    let g = free_test s c in
    let q1 = and_left (f && g) (all_below (place_test s) c) q in
    record {
      size = eqb-true (length s) block_size (and_left a b e1);
      head = and_right a b e1;
      monitors = and_right (a && b) m e2;
      few = leb-true c most_pairs (and_left f g q1);
      free = and_right f g q1;
      row = all-below (place_test s) c (and_right (f && g) (all_below (place_test s) c) q);
      other = λ i j k n. not-true (eqb (key_at s i) (key_at s j))
          (all-below (λ (j : ℕ). not (eqb (key_at s i) (key_at s j))) i (all-below (other_test s) c z i n) j k);
    }

module _ (s : List ℕ) (o : every is_octet s ≡ true) (f : Clauses s) where
  -- a held row: its pair is sound, and it is the row of its pair
  pair-sound : (i : ℕ) → i < get_or s count_at 0 → sound_pair (model_of s) (pair_in (pair_row_at s i)) ≡ true
  unfolding sound_pair model_of place_test pair_test pair_in
  pair-sound i b =
      let r : List ℕ = pair_row_at s i in
      let t = sound_of (little 4 s position_at) (live_at s (get_or r 0 0)) (pair_in r) in
      let u = leb (get_or r length_at 0) most_data in
      let v = every is_zero (drop (data_at + get_or r length_at 0) r) in
      ap (λ (x : Option Monitor). sound_of (little 4 s position_at) x (pair_in r))
      (find-live s f.size o f.monitors (get_or r 0 0))
      ∙ and_left t u (and_left (t && u) v (f.row i b))

  pair_place_lem : (i : ℕ) → i < get_or s count_at 0 → pad_to pair_size (pair_row (pair_in (pair_row_at s i))) ≡ pair_row_at s i
  unfolding place_test pair_test
  pair_place_lem i b =
      let r : List ℕ = pair_row_at s i in
      let t = sound_of (little 4 s position_at) (live_at s (get_or r 0 0)) (pair_in r) in
      let u = leb (get_or r length_at 0) most_data in
      let v = every is_zero (drop (data_at + get_or r length_at 0) r) in
      let n : get_or s count_at 0 ≤ most_pairs = f.few in
      pair_row_lem r (length-pair_row_at s f.size i (omega arith)) (octets-pair_row_at s f.size o i)
      (leb-true (get_or r length_at 0) most_data (and_right t u (and_left (t && u) v (f.row i b))))
      (and_right (t && u) v (f.row i b))

  pairs-apart : apart (pairs_of (pair_row_at s) 0 (get_or s count_at 0)) ≡ true
  pairs-apart = apart-pairs (pair_row_at s) 0 (get_or s count_at 0) (λ i j a h b. two i j h (omega arith))
    where
      two : (i j : ℕ) → i < j → j < get_or s count_at 0
          → is_pair (pair_in (pair_row_at s i)).handle (watched (pair_in (pair_row_at s i)))
          (pair_in (pair_row_at s j)) ≡ false
      two i j h b =
          let n : get_or s count_at 0 ≤ most_pairs = f.few in
          let x : List ℕ = pair_row_at s i in
          let y : List ℕ = pair_row_at s j in
          let lx : length x ≡ pair_size = length-pair_row_at s f.size i (omega arith) in
          let ly : length y ≡ pair_size = length-pair_row_at s f.size j (omega arith) in
          key-pair x y (omega arith) (omega arith) (octets-pair_row_at s f.size o i)
          (octets-pair_row_at s f.size o j)
          ∙ ap (λ (v : ℕ). eqb v (little 8 x 0)) (sym (key_row s f.size j))
          ∙ ap (λ (v : ℕ). eqb (key_at s j) v) (sym (key_row s f.size i))
          ∙ f.other j i h b

  pairs-now : (model_of s).pairs ≡ pairs_of (pair_row_at s) 0 (get_or s count_at 0)
  pairs-now = pairs-held s f.size (get_or s count_at 0) f.few refl

  pairs-length : length (model_of s).pairs ≡ get_or s count_at 0
  pairs-length =
      ap (λ (x : List Pair). length x) pairs-now ∙ length-map (from (pair_row_at s) 0 (get_or s count_at 0)) pair_in
      ∙ length_from (pair_row_at s) 0 (get_or s count_at 0)

  held-sound : SoundModel (model_of s)
  unfolding model_of
  held-sound =
      let h : HeadFacts (take head_size s) = head-facts (take head_size s) f.head in
      let c : get_or s prefix_length_at 0 ≤ most_prefix = rw (get_or-take head_size s 7 0 (omega arith)) at h.short in
      let p : little 4 s position_at < 4294967296 = little-lt 4 s 0 o in
      let q : little 2 s opcode_at < 65536 = little-lt 2 s 5 o in
      let n : get_or s count_at 0 ≤ most_pairs = f.few in
      record {
        position-most = omega arith;
        filter-most = rw (get_or-take head_size s 4 0 (omega arith)) at h.filter;
        opcode-least = rw (little-take 2 head_size s 5 (omega arith)) at h.opcode;
        opcode-most = omega arith;
        prefix-most = rw (length-take (get_or s prefix_length_at 0) (drop prefix_at s)) (omega arith);
        prefix-octets = every_take is_octet (get_or s prefix_length_at 0) (drop prefix_at s) (every_drop is_octet 8 s o);
        mons-sound = monitors-facts 0 (model_of s).mons (held-mons-sound s f.size o f.monitors);
        pairs-most = omega (arith, pairs-length);
        pairs-apart = ap apart pairs-now ∙ pairs-apart;
        pairs-sound =
            ap (every (sound_pair (model_of s))) pairs-now
            ∙ every-pairs (pair_row_at s) (sound_pair (model_of s)) 0 (get_or s count_at 0)
            (λ i a b. pair-sound i (omega arith));
      }

  held-padded : padded (model_of s) ≡ s
  held-padded =
      let c : ℕ = get_or s count_at 0 in
      let l : length s ≡ block_size = f.size in
      let u : List ℕ = take head_size s in
      let v : List ℕ = take monitors_size (drop monitors_at s) in
      let w : List ℕ = take pairs_size (drop pairs_at s) in
      let mb : List ℕ = monitor_block (model_of s).mons in
      let pb : List ℕ = pair_block (model_of s).pairs in
      let z : drop block_size s ≡ [] = ap (λ (k : ℕ). drop k s) (sym l) ∙ drop-length s in
      let e : c ∷ [] ≡ drop count_at s = ap (λ (x : List ℕ). c ∷ x) (sym z) ∙ one-cut s count_at (omega arith) in
      let pairs : pb ≡ w =
      ap pair_block pairs-now ∙ block-pairs s l c f.few pair_place_lem f.free in
      padded-parts (model_of s)
      ∙ ap (λ (x : List ℕ). x ++ (mb ++ (pb ++ (length (model_of s).pairs ∷ []))))
      (head-row s (omega arith) o f.head)
      ∙ ap (λ (x : List ℕ). u ++ (x ++ (pb ++ (length (model_of s).pairs ∷ [])))) (block-live s l o f.monitors)
      ∙ ap (λ (x : List ℕ). u ++ (v ++ (x ++ (length (model_of s).pairs ∷ [])))) pairs
      ∙ ap (λ (n : ℕ). u ++ (v ++ (w ++ (n ∷ [])))) pairs-length
      ∙ ap (λ (x : List ℕ). u ++ (v ++ (w ++ x))) e
      ∙ ap (λ (x : List ℕ). u ++ (v ++ x)) (part_cut s pairs_at pairs_size)
      ∙ ap (λ (x : List ℕ). u ++ x) (part_cut s head_size monitors_size)
      ∙ part_cut s 0 head_size

  pub clauses-sound : sound s ≡ true
  unfolding sound
  clauses-sound = and_both (facts-sound (model_of s) held-sound) (eq-sames (padded (model_of s)) s held-padded)
