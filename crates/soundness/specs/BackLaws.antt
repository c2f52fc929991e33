-- The clauses hold of a sound block: it is the block of the sound state that it holds. Document 01, The image
-- ("Sound"). Assumes nothing.
use Prim.Native.Nat.{ℕ, ◌+◌, ◌-◌, ◌*◌, ◌≤◌, ◌<◌}
use Rattle.std.specs.Prelude.{◌≡◌, true, false, not, eqb, take, drop}
use Rattle.std.proofs.Math.Path.{refl, sym, ap}
use Rattle.std.proofs.Common.{◌∙◌, arith, length-append, length-drop, length-take-le, drop_at, drop-drop, take-add, le-leb, eq-eqb}
use mathlib.Core.List.{List, [], ◌∷◌, ◌++◌, map}
use Rattle.std.proofs.Math.Option.{Option, none, some}
use Rattle.std.proofs.Math.ListN.{length, get_or, replicate}
use Rattle.laws.specs.TestsLaws.{cases-le}
use Rattle.laws.specs.Loops.{every}
use Rattle.laws.specs.LoopsLaws.{every-at}
use Rattle.laws.specs.Rows.{flat}
use Rattle.octets.specs.Little.{little, octets_of, is_octet}
use Rattle.parts.specs.Parts.{is_zero}
use Rattle.rule.specs.Base.{All}
use Rattle.rule.specs.Engine.{find}
use Rattle.model.specs.Types.{Model, Monitor, Pair, watched}
use Rattle.model.specs.Image.{head_row, pair_row, pair_in}
use Rattle.model.specs.Watch.{is_pair}
use Rattle.model.specs.Sound.{sound_of, sound_pair}
use Rattle.model.specs.Block.{pad_to, pair_block, model_of, sound}
use Rattle.blocks.specs.LaidLaws.{take_head}
use Rattle.blocks.specs.RowsLaws.{length-head_row, length-pair_row, head_row-filter, head_row-opcode, head_row-count, get_d_past}
use Rattle.blocks.specs.Facts.{SoundMonitor, SoundModel}
use Rattle.blocks.specs.Bounds.{Fits}
use Rattle.blocks.specs.BoundsLaws.{live-handle, live-monitor, pairs-fit, pair-at, pair_fits, fits_in_lem}
use Rattle.blocks.specs.PairsLaws.{length-pair_place}
use Rattle.blocks.specs.FieldsLaws.{key_of, times_of, place-split}
use Rattle.blocks.specs.BlockLaws.{padded-held, sound-length, sound-octets}
use Rattle.blocks.specs.HeldLaws.{held-facts-of, held-measured, held-count, held-monitor, held-pair, held-part}
use Rattle.soundness.specs.BelowLaws.{below_all, run-zeros}
use Rattle.soundness.specs.Clauses.{monitor_row_at, pair_row_at, monitor_of_row, monitor_test, live_at, head_test}
use Rattle.soundness.specs.Clauses.{monitors_test, pair_test, key_at}
use Rattle.soundness.specs.Clauses.{other_test, place_test, free_test, loose_pairs_test, loose, others_test}
use Rattle.soundness.specs.KeysLaws.{key-pair}
use Rattle.soundness.specs.HeadLaws.{facts-head}
use Rattle.soundness.specs.MonitorsLaws.{place-row, place-holds}
use Rattle.soundness.specs.FrontLaws.{live-row, live-none}
use Rattle.soundness.specs.PairsLaws.{apart-at, length-pair_row_at, octets-pair_row_at, key_row}
use Rattle.soundness.specs.ThereLaws.{Clauses}
use Rattle.model.specs.Layout.{block_size, condition_at, count_at, data_at, handle_at, head_size, length_at, most_data, most_monitors, most_pairs, pair_size, pairs_at, pairs_size, position_at}

-- the clauses put together
pub facts-loose : (s : List ℕ) → Clauses s → loose s ≡ true
unfolding loose loose_pairs_test
facts-loose s f =
    let c : ℕ = get_or s count_at 0 in
    rw (eq-eqb (length s) block_size f.size, f.head, f.monitors, le-leb c most_pairs f.few, f.free)
    (below_all (place_test s) c f.row)

pub facts-others : (s : List ℕ) → Clauses s → others_test s ≡ true
unfolding others_test other_test
facts-others s f =
    below_all (other_test s) (get_or s count_at 0)
    (λ i b. below_all (λ (j : ℕ). not (eqb (key_at s i) (key_at s j))) i (λ j h. ap not (f.other i j h b)))

-- the head row of a state passes
module _ (m : Model) (f : SoundModel m) where
  head-passes : head_test (pad_to head_size (head_row m)) ≡ true
  unfolding pad_to
  head-passes =
      let z : List ℕ = replicate (head_size - length (head_row m)) 0 in
      let r : List ℕ = head_row m ++ z in
      let n : get_or r condition_at 0 ≡ length m.prefix = head_row-count m z in
      let b : m.opcode ≤ 0xFFFF = f.opcode-most in
      facts-head r record {
        filter = rw (head_row-filter m z) f.filter-most;
        opcode = rw (head_row-opcode m z (omega arith)) f.opcode-least;
        short = rw n f.prefix-most;
        behind =
            ap (λ (j : ℕ). every is_zero (drop (8 + j) r)) n
            ∙ ap (every is_zero) (drop_at (head_row m) z (8 + length m.prefix) (length-head_row m))
            ∙ run-zeros (head_size - length (head_row m));
      }

-- the row of a pair passes, and holds it
row_count : (q : Pair) → length q.address ≡ 6 → get_or (pad_to pair_size (pair_row q)) length_at 0 ≡ length q.adv
unfolding octets_of
row_count q h =
    let l : length (key_of q) ≡ 8 = omega arith in
    ap (λ (x : List ℕ). get_or x length_at 0) (place-split q h) ∙ get_d_past (key_of q) (times_of q) 8 l 17

row-pair : (q : Pair) → Fits q → pair_in (pad_to pair_size (pair_row q)) ≡ q
unfolding pad_to
row-pair q g = fits_in_lem q (replicate (pair_size - length (pair_row q)) 0) g

row-behind : (q : Pair) → Fits q → every is_zero (drop (data_at + length q.adv) (pad_to pair_size (pair_row q))) ≡ true
unfolding pad_to
row-behind q g =
    let z : ℕ = pair_size - length (pair_row q) in
    ap (every is_zero) (drop_at (pair_row q) (replicate z 0) (data_at + length q.adv)
    (length-pair_row q g.address-length))
    ∙ run-zeros z

row-passes : (position : ℕ) (o : Option Monitor) (q : Pair) → Fits q → sound_of position o q ≡ true
    → pair_test position o (pad_to pair_size (pair_row q)) ≡ true
unfolding pair_test
row-passes position o q g e =
    let r : List ℕ = pad_to pair_size (pair_row q) in
    let n : get_or r length_at 0 ≡ length q.adv = row_count q g.address-length in
    let b : get_or r length_at 0 ≤ most_data = rw n g.adv-most in
    rw (
      row-pair q g,
      e,
      le-leb (get_or r length_at 0) most_data b,
    )
    (ap (λ (j : ℕ). every is_zero (drop (data_at + j) r)) n ∙ row-behind q g)

row-handle : (q : Pair) → get_or (pad_to pair_size (pair_row q)) handle_at 0 ≡ q.handle
unfolding pad_to pair_row
row-handle q = refl

-- the places behind the pairs
length-rows : (qs : List Pair) → All Fits qs
    → length (flat (map (λ (q : Pair). pad_to pair_size (pair_row q)) qs)) ≡ pair_size * length qs
unfolding flat
length-rows [] a = refl
length-rows (q ∷ qs) a =
    length-append (pad_to pair_size (pair_row q)) (flat (map (λ (q : Pair). pad_to pair_size (pair_row q)) qs))
    ∙ omega (arith, length-rows qs a.1, length-pair_place q a.0)

free-passes : (qs : List Pair) → All Fits qs → every is_zero (drop (pair_size * length qs) (pair_block qs)) ≡ true
unfolding pair_block
free-passes qs a =
    let z : ℕ = pair_size * (most_pairs - length qs) in
    ap (every is_zero)
    (drop_at (flat (map (λ (q : Pair). pad_to pair_size (pair_row q)) qs)) (replicate z 0) (pair_size * length qs)
    (length-rows qs a))
    ∙ run-zeros z

free_part : (s : List ℕ) (c : ℕ) → length s ≡ block_size → c ≤ most_pairs
    → take (count_at - (pairs_at + pair_size * c)) (drop (pairs_at + pair_size * c) s)
    ≡ drop (pair_size * c) (take pairs_size (drop pairs_at s))
free_part s c l h =
    let t : List ℕ = drop pairs_at s in
    let lt : length t ≡ pairs_size + 1 = length-drop pairs_at s ∙ omega arith in
    let k : count_at - (pairs_at + pair_size * c) ≡ pairs_size - pair_size * c = omega arith in
    let v : pairs_size ≡ pair_size * c + (pairs_size - pair_size * c) = omega arith in
    let a : length (take (pair_size * c) t) ≡ pair_size * c = length-take-le (pair_size * c) t (omega arith) in
    ap (λ (j : ℕ). take j (drop (pairs_at + pair_size * c) s)) k
    ∙ ap (λ (x : List ℕ). take (pairs_size - pair_size * c) x) (sym (drop-drop (pair_size * c) pairs_at s))
    ∙ sym (drop_at (take (pair_size * c) t) (take (pairs_size - pair_size * c) (drop (pair_size * c) t)) (pair_size * c) a)
    ∙ ap (λ (x : List ℕ). drop (pair_size * c) x) (sym (take-add (pair_size * c) (pairs_size - pair_size * c) t))
    ∙ ap (λ (j : ℕ). drop (pair_size * c) (take j t)) (sym v)

module _ (s : List ℕ) (e : sound s ≡ true) where
  l : length s ≡ block_size
  l = sound-length s e

  o : every is_octet s ≡ true
  o = sound-octets s e

  facts : SoundModel (model_of s)
  facts = held-facts-of s e

  sounds : (h : ℕ) (m : Monitor) → find (model_of s).mons h ≡ some m → SoundMonitor m
  sounds h m q = live-monitor (model_of s) facts h m q

  -- the monitor of a handle
  live-find : (h : ℕ) → live_at s h ≡ find (model_of s).mons h
  unfolding monitor_row_at
  live-find h =
      cases-le most_monitors h (λ (u : most_monitors ≤ h). live-none s l h u
      ∙ sym (gone (find (model_of s).mons h) refl u))
      (λ (u : h < most_monitors). live-row s l h u ∙ ap monitor_of_row (held-monitor s e h u)
      ∙ place-holds h (find (model_of s).mons h) (sounds h))
    where
      gone : (x : Option Monitor) → find (model_of s).mons h ≡ x → most_monitors ≤ h → x ≡ none
      gone none q u = refl
      gone (some m) q u = absurd (omega (arith, live-handle (model_of s) facts h m q))

  monitors : monitors_test s ≡ true
  unfolding monitors_test monitor_row_at
  monitors =
      below_all (λ (h : ℕ). monitor_test h (monitor_row_at s h)) most_monitors
      (λ h b. ap (monitor_test h) (held-monitor s e h b) ∙ place-row h (find (model_of s).mons h) (sounds h))

  -- the pair at a place
  abbrev at : ℕ → Pair
  at i = get_or (model_of s).pairs i (pair_in [])

  held_at : (i : ℕ) → i < get_or s count_at 0 → i < length (model_of s).pairs
  held_at i b = rw (← (held-count s e)) b

  fits : (i : ℕ) → i < get_or s count_at 0 → Fits (at i)
  fits i b = pair_fits (model_of s) facts (at i) (pair-at (model_of s) facts i (pair_in []) (held_at i b))

  row_at : (i : ℕ) → i < get_or s count_at 0 → pair_row_at s i ≡ pad_to pair_size (pair_row (at i))
  unfolding pair_row_at
  row_at i b = held-pair s e i (pair_in []) (held_at i b)

  pair_of : (i : ℕ) → i < get_or s count_at 0 → pair_in (pair_row_at s i) ≡ at i
  pair_of i b = ap pair_in (row_at i b) ∙ row-pair (at i) (fits i b)

  pair-sound : (i : ℕ) → i < get_or s count_at 0
      → sound_of (little 4 s position_at) (find (model_of s).mons (at i).handle) (at i) ≡ true
  unfolding sound_pair model_of
  pair-sound i b = every-at (sound_pair (model_of s)) (model_of s).pairs i (pair_in []) facts.pairs-sound (held_at i b)

  rows_pass : (i : ℕ) → i < get_or s count_at 0 → place_test s i ≡ true
  unfolding place_test
  rows_pass i b =
      let q : Pair = at i in
      let h : get_or (pair_row_at s i) handle_at 0 ≡ q.handle =
      ap (λ (x : List ℕ). get_or x 0 0) (row_at i b) ∙ row-handle q in
      ap (λ (n : ℕ). pair_test (little 4 s position_at) (live_at s n) (pair_row_at s i)) h
      ∙ ap (λ (x : Option Monitor). pair_test (little 4 s position_at) x (pair_row_at s i)) (live-find q.handle)
      ∙ ap (λ (x : List ℕ). pair_test (little 4 s position_at) (find (model_of s).mons q.handle) x) (row_at i b)
      ∙ row-passes (little 4 s position_at) (find (model_of s).mons q.handle) q (fits i b) (pair-sound i b)

  -- two places hold two pairs
  others : (i j : ℕ) → j < i → i < get_or s count_at 0 → eqb (key_at s i) (key_at s j) ≡ false
  others i j h b =
      let few : length (model_of s).pairs ≤ most_pairs = facts.pairs-most in
      let c : get_or s count_at 0 ≡ length (model_of s).pairs = held-count s e in
      let x : List ℕ = pair_row_at s j in
      let y : List ℕ = pair_row_at s i in
      let lx : length x ≡ pair_size = length-pair_row_at s l j (omega arith) in
      let ly : length y ≡ pair_size = length-pair_row_at s l i (omega arith) in
      ap (λ (v : ℕ). eqb v (key_at s j)) (key_row s l i) ∙ ap (λ (v : ℕ). eqb (little 8 y 0) v) (key_row s l j)
      ∙ sym (key-pair x y (omega arith) (omega arith) (octets-pair_row_at s l o j) (octets-pair_row_at s l o i))
      ∙ ap (λ (p : Pair). is_pair p.handle (watched p) (pair_in y)) (pair_of j (omega arith))
      ∙ ap (λ (p : Pair). is_pair (at j).handle (watched (at j)) p) (pair_of i b)
      ∙ apart-at (model_of s).pairs j i (pair_in []) facts.pairs-apart h (held_at i b)

  free : free_test s (get_or s count_at 0) ≡ true
  unfolding free_test
  free =
      let c : get_or s count_at 0 ≡ length (model_of s).pairs = held-count s e in
      let few : get_or s count_at 0 ≤ most_pairs = rw c facts.pairs-most in
      ap (every is_zero) (free_part s (get_or s count_at 0) l few)
      ∙ ap (λ (x : List ℕ). every is_zero (drop (pair_size * get_or s count_at 0) x)) (held-part s e)
      ∙ ap (λ (n : ℕ). every is_zero (drop (pair_size * n) (pair_block (model_of s).pairs))) c
      ∙ free-passes (model_of s).pairs (pairs-fit (model_of s) facts)

  pub sound-clauses : Clauses s
  sound-clauses =
      let c : get_or s count_at 0 ≡ length (model_of s).pairs = held-count s e in
      record {
        size = l;
        head =
            ap (λ (x : List ℕ). head_test (take head_size x)) (sym (padded-held s e))
            ∙ ap head_test (take_head (model_of s) (held-measured s e)) ∙ head-passes (model_of s) facts;
        monitors = monitors;
        few = rw c facts.pairs-most;
        free = free;
        row = rows_pass;
        other = others;
      }
