-- The pairs of a block whose clauses hold: those that its rows hold, that they are sound and distinct, and their
-- table. Document 01, The image (A2; "pairs distinct, at most 64, of live handles"). Assumes nothing.
use Prim.Native.Nat.{ℕ, zero, suc, ◌+◌, ◌-◌, ◌*◌, ◌≤◌, ◌<◌}
use Rattle.std.specs.Prelude.{◌≡◌, Bool, true, false, ◌||◌, get_or}
use Rattle.std.proofs.Math.Path.{refl, sym, ap}
use Rattle.std.proofs.Common.{◌∙◌, mul-zero, mul-suc, take-add, drop-drop}
use Rattle.std.proofs.Math.Bool.{not}
use Rattle.std.proofs.lemmas.Bool.{false≢true}
use mathlib.Core.List.{List, [], ◌∷◌, ◌++◌, map}
use native.Mathlib.Omega.{arith}
use Rattle.std.proofs.Math.ListN.{length, take, drop, replicate, length-map, length-drop}
use Rattle.std.proofs.Math.Seq.{length-take-le}
use Rattle.laws.specs.TestsLaws.{and_left, and_right, and_both}
use Rattle.laws.specs.Loops.{every, some}
use Rattle.laws.specs.LoopsLaws.{every_drop}
use Rattle.laws.specs.Rows.{row, rows, flat}
use Rattle.laws.specs.RowsLaws.{length-row}
use Rattle.octets.specs.Little.{little, is_octet}
use Rattle.octets.specs.LittleLaws.{little-row, little-drop}
use Rattle.model.specs.Types.{Pair, watched}
use Rattle.model.specs.Image.{pair_row, pair_in}
use Rattle.model.specs.Watch.{is_pair, holds}
use Rattle.model.specs.Sound.{apart}
use Rattle.model.specs.Block.{pad_to, pair_block, pair_table, model_of}
use Rattle.blocks.specs.TablesLaws.{from, length_from, take-rows}
use Rattle.soundness.specs.BelowLaws.{rows-from, zeros-run}
use Rattle.soundness.specs.Clauses.{pair_row_at, key_at, free_test}
use Rattle.soundness.specs.FrontLaws.{row-octets}
use Rattle.model.specs.Layout.{block_size, count_at, handle_at, most_pairs, pair_size, pairs_at, pairs_size}

-- pairs read from rows that are given by an index
abbrev pub pairs_of : (ℕ → List ℕ) → ℕ → ℕ → List Pair
pairs_of f k n = map pair_in (from f k n)

module _ (f : ℕ → List ℕ) where
  pub every-pairs : (g : Pair → Bool) (k n : ℕ) → ((i : ℕ) → k ≤ i → i < k + n → g (pair_in (f i)) ≡ true)
      → every g (pairs_of f k n) ≡ true
  unfolding every from
  every-pairs g k zero h = refl
  every-pairs g k (suc n) h =
      and_both (h k (omega arith) (omega arith)) (every-pairs g (suc k) n (λ i a b. h i (omega arith) (omega arith)))

  none-pairs : (g : Pair → Bool) (k n : ℕ) → ((i : ℕ) → k ≤ i → i < k + n → g (pair_in (f i)) ≡ false)
      → some g (pairs_of f k n) ≡ false
  unfolding some from
  none-pairs g k zero h = refl
  none-pairs g k (suc n) h =
      rw (h k (omega arith) (omega arith)) (none-pairs g (suc k) n (λ i a b. h i (omega arith) (omega arith)))

  pub apart-pairs : (k n : ℕ)
      → ((i j : ℕ) → k ≤ i → i < j → j < k + n
      → is_pair (pair_in (f i)).handle (watched (pair_in (f i))) (pair_in (f j)) ≡ false)
      → apart (pairs_of f k n) ≡ true
  unfolding apart holds from
  apart-pairs k zero h = refl
  apart-pairs k (suc n) h =
      and_both (ap not (none-pairs (is_pair (pair_in (f k)).handle (watched (pair_in (f k)))) (suc k) n
      (λ j a b. h k j (omega arith) a (omega arith))))
      (apart-pairs (suc k) n (λ i j a b c. h i j (omega arith) b (omega arith)))

  -- rows of the pairs they hold
  pub flat-pairs : (k n : ℕ) → ((i : ℕ) → k ≤ i → i < k + n → pad_to pair_size (pair_row (pair_in (f i))) ≡ f i)
      → flat (map (λ (q : Pair). pad_to pair_size (pair_row q)) (pairs_of f k n)) ≡ flat (from f k n)
  unfolding flat from
  flat-pairs k zero h = refl
  flat-pairs k (suc n) h =
      rw (h k (omega arith) (omega arith), flat-pairs (suc k) n (λ i a b. h i (omega arith) (omega arith)))

-- pairs that are apart, by their places
some_at : (g : Pair → Bool) (l : List Pair) (j : ℕ) (d : Pair) → some g l ≡ false → j < length l
    → g (get_or l j d) ≡ false
unfolding some
some_at g [] j d e h = absurd (omega arith)
some_at g (q ∷ l) zero d e h = or_left (g q) (some g l) e
  where
    or_left : (a b : Bool) → (a || b) ≡ false → a ≡ false
    or_left false b e = refl
    or_left true b e = e
some_at g (q ∷ l) (suc j) d e h = some_at g l j d (or_right (g q) (some g l) e) (omega arith)
  where
    or_right : (a b : Bool) → (a || b) ≡ false → b ≡ false
    or_right false b e = e
    or_right true b e = absurd (false≢true (sym e))

pub apart-at : (l : List Pair) (i j : ℕ) (d : Pair) → apart l ≡ true → i < j → j < length l
    → is_pair (get_or l i d).handle (watched (get_or l i d)) (get_or l j d) ≡ false
unfolding apart holds
apart-at [] i j d e h b = absurd (omega arith)
apart-at (q ∷ l) i zero d e h b = absurd (omega arith)
apart-at (q ∷ l) zero (suc j) d e h b =
    some_at (is_pair q.handle (watched q)) l j d
    (Rattle.rule.specs.BaseLaws.not-true (holds l q.handle (watched q))
    (and_left (not (holds l q.handle (watched q))) (apart l) e))
    (omega arith)
apart-at (q ∷ l) (suc i) (suc j) d e h b =
    apart-at l i j d (and_right (not (holds l q.handle (watched q))) (apart l) e) (omega arith) (omega arith)

-- the first rows of a table, written one after another
flat-take : (n k : ℕ) (t : List ℕ) → flat (rows n k t) ≡ take (n * k) t
unfolding flat rows
flat-take n zero t = rw (mul-zero n)
flat-take n (suc k) t =
    let e : n * suc k ≡ n + n * k = mul-suc n k ∙ omega arith in
    rw (flat-take n k (drop n t), e) (sym (take-add n (n * k) t))

module _ (s : List ℕ) (l : length s ≡ block_size) where
  pub length-pair_row_at : (i : ℕ) → i < most_pairs → length (pair_row_at s i) ≡ pair_size
  unfolding pair_row_at
  length-pair_row_at i b = length-row pair_size i most_pairs (drop pairs_at s) b (rw (length-drop pairs_at s) (omega arith))

  pub octets-pair_row_at : every is_octet s ≡ true → (i : ℕ) → every is_octet (pair_row_at s i) ≡ true
  unfolding pair_row_at
  octets-pair_row_at o i = row-octets pair_size i (drop pairs_at s) (every_drop is_octet pairs_at s o)

  -- the key of a place is that of its row
  pub key_row : (i : ℕ) → key_at s i ≡ little 8 (pair_row_at s i) handle_at
  unfolding key_at pair_row_at
  key_row i =
      let z : pairs_at + (pair_size * i + 0) ≡ pairs_at + pair_size * i = omega arith in
      sym (little-row 8 pair_size i 0 (drop pairs_at s) (omega arith) ∙ little-drop 8 pairs_at s (pair_size * i + 0)
      ∙ ap (λ (j : ℕ). little 8 s j) z)

  -- the pairs that the block holds
  pub pairs-held : (c : ℕ) → c ≤ most_pairs → get_or s count_at 0 ≡ c → (model_of s).pairs ≡ pairs_of (pair_row_at s) 0 c
  unfolding model_of pair_table pair_row_at
  pairs-held c b e =
      ap (λ (k : ℕ). map pair_in (take k (rows pair_size most_pairs (drop pairs_at s)))) e
      ∙ ap (map pair_in) (take-rows pair_size c most_pairs (drop pairs_at s) b ∙ rows-from pair_size c (drop pairs_at s))

  -- and their table
  pub block-pairs : (c : ℕ) → c ≤ most_pairs
      → ((i : ℕ) → i < c → pad_to pair_size (pair_row (pair_in (pair_row_at s i))) ≡ pair_row_at s i)
      → free_test s c ≡ true → pair_block (pairs_of (pair_row_at s) 0 c) ≡ take pairs_size (drop pairs_at s)
  unfolding pair_block pair_row_at free_test
  block-pairs c b h z =
      let t : List ℕ = drop pairs_at s in
      let qs : List Pair = pairs_of (pair_row_at s) 0 c in
      let lt : length t ≡ pairs_size + 1 = length-drop pairs_at s ∙ omega arith in
      let n : length qs ≡ c = length-map (from (pair_row_at s) 0 c) pair_in ∙ length_from (pair_row_at s) 0 c in
      let a : flat (map (λ (q : Pair). pad_to pair_size (pair_row q)) qs) ≡ take (pair_size * c) t =
      flat-pairs (pair_row_at s) 0 c (λ i x w. h i (omega arith)) ∙ ap flat (sym (rows-from pair_size c t))
      ∙ flat-take pair_size c t in
      let k : count_at - (pairs_at + pair_size * c) ≡ pairs_size - pair_size * c = omega arith in
      let y : List ℕ = take (count_at - (pairs_at + pair_size * c)) (drop (pairs_at + pair_size * c) s) in
      let ly : length y ≡ pairs_size - pair_size * c =
      length-take-le (count_at - (pairs_at + pair_size * c)) (drop (pairs_at + pair_size * c) s)
      (rw (length-drop (pairs_at + pair_size * c) s) (omega arith)) ∙ k in
      let u : pair_size * (most_pairs - length qs) ≡ length y = omega arith in
      let v : pair_size * c + (pairs_size - pair_size * c) ≡ pairs_size = omega arith in
      ap (λ (x : List ℕ). x ++ replicate (pair_size * (most_pairs - length qs)) 0) a
      ∙ ap (λ (j : ℕ). take (pair_size * c) t ++ replicate j 0) u
      ∙ ap (λ (x : List ℕ). take (pair_size * c) t ++ x) (sym (zeros-run y z))
      ∙ ap (λ (j : ℕ). take (pair_size * c) t ++ take j (drop (pairs_at + pair_size * c) s)) k
      ∙ ap (λ (x : List ℕ). take (pair_size * c) t ++ take (pairs_size - pair_size * c) x)
      (sym (drop-drop (pair_size * c) pairs_at s))
      ∙ sym (take-add (pair_size * c) (pairs_size - pair_size * c) t)
      ∙ ap (λ (j : ℕ). take j t) v
