-- Laws of the definitions in Renewed.
use Rattle.std.specs.Prelude.{ℕ, ◌+◌, ◌≡◌, Bool, ◌&&◌, leb, length, take, drop, get_or}
use Rattle.std.proofs.Math.Path.{refl, sym, ap}
use Rattle.std.proofs.Common.{◌∙◌, arith, eq-eqb, ne_eqb, length-drop, take-suc, get_or-drop}
use Rattle.std.proofs.Math.Bool.{true, false}
use mathlib.Core.List.{List, [], ◌∷◌, ◌++◌, map}
use Rattle.std.proofs.Math.Dec.{eqb}
use Rattle.laws.specs.Put.{put, put_if}
use Rattle.laws.specs.PutLaws.{put_of}
use Rattle.laws.specs.Tests.{pick, sames}
use Rattle.laws.specs.TestsLaws.{pick_true, pick-false, and-not-left}
use Rattle.laws.specs.Rows.{rows}
use Rattle.octets.specs.Numbers.{at_most, number_at}
use Rattle.model.specs.Types.{Pair}
use Rattle.model.specs.Image.{pair_in}
use Rattle.model.specs.Block.{model_of, pair_table}
use Rattle.model.specs.Layout.{count_at, most_pairs, pair_size, pairs_at, pairs_size}
use Rattle.wholes.specs.Layout.{entries_size, entry_count_at, entry_size, index_at, index_size, whole_size}
use Rattle.wholes.specs.Index.{entry_table, index_block, index_of, mask_for, mask_in}
use Rattle.wholes.specs.Kept.{pair_event}
use Rattle.index.specs.ReadLaws.{rows-most, rows-part}
use Rattle.index.specs.Once.{once}
use Rattle.index.specs.Renewed.{is_indexed, indexed_once, renewed, is_moved, followed}

module _ (before : ℕ) (out : List ℕ) (n : ℕ) (s : List ℕ) where
  pub moved-count : (get_or s count_at 0 ≡ before → ⊥) → true ≡ is_moved before out n s
  unfolding is_moved
  moved-count h = sym
      (pick-false (pick (eqb n 0) false (eqb (number_at 1 out 0) pair_event)) true (ne_eqb (get_or s count_at 0) before h))

  pub moved-silent : get_or s count_at 0 ≡ before → n ≡ 0 → false ≡ is_moved before out n s
  unfolding is_moved
  moved-silent h z =
      sym (pick_true (pick (eqb n 0) false (eqb (number_at 1 out 0) pair_event)) true
      (eq-eqb (get_or s count_at 0) before h)
      ∙ pick_true false (eqb (number_at 1 out 0) pair_event) (eq-eqb n 0 z))

  pub moved-first : get_or s count_at 0 ≡ before → (n ≡ 0 → ⊥) → {k : ℕ} → k ≡ number_at 1 out 0
      → eqb k pair_event ≡ is_moved before out n s
  unfolding is_moved
  moved-first h z e =
      ap (λ (j : ℕ). eqb j pair_event) e
      ∙ sym (pick_true (pick (eqb n 0) false (eqb (number_at 1 out 0) pair_event)) true
      (eq-eqb (get_or s count_at 0) before h)
      ∙ pick-false false (eqb (number_at 1 out 0) pair_event) (ne_eqb n 0 z))

  pub followed-other : (length s ≡ whole_size → ⊥) → s ≡ followed before out n s
  unfolding followed renewed pick
  followed-other h = go (is_moved before out n s)
    where
      go : (b : Bool) → s ≡ pick b (renewed s) s
      go true = sym (pick-false (put s index_at (index_block (model_of s).pairs)) s (ne_eqb (length s) whole_size h))
      go false = refl

  pub followed-moved : {b : Bool} {t : List ℕ} → b ≡ is_moved before out n s → b ≡ true → t ≡ renewed s
      → t ≡ followed before out n s
  unfolding followed
  followed-moved e h q = q ∙ sym (pick_true (renewed s) s (sym e ∙ h))

  pub followed-still : {b : Bool} → b ≡ is_moved before out n s → b ≡ false → s ≡ followed before out n s
  unfolding followed
  followed-still e h = sym (pick-false (renewed s) s (sym e ∙ h))

module _ (s : List ℕ) where
  pub indexed-not : (length s ≡ whole_size → ⊥) → false ≡ indexed_once s
  unfolding indexed_once is_indexed
  indexed-not n =
      sym (and-not-left
      (eqb (length s) whole_size && sames (index_block (model_of s).pairs) (take index_size (drop index_at s)))
      (once (model_of s).pairs)
      (and-not-left (eqb (length s) whole_size) _ (ne_eqb (length s) whole_size n)))

  -- the entries' rows, and their number behind them
  table-count : length s ≡ whole_size
      → take entries_size (drop index_at s) ++ (get_or s entry_count_at 0 ∷ []) ≡ take index_size (drop index_at s)
  table-count l =
      ap (λ (x : ℕ). take entries_size (drop index_at s) ++ (x ∷ [])) (sym (get_or-drop index_at s entries_size 0))
      ∙ sym (take-suc (drop index_at s) entries_size 0 (simp length-drop (omega arith)))

  pub indexed-is : length s ≡ whole_size → (j : ℕ) (qs : List Pair) {r : Bool} → qs ≡ (model_of s).pairs → j ≡ entries_size
      → r ≡ (sames (entry_table (index_of qs) ++ (length (index_of qs) ∷ []))
      (take j (drop index_at s) ++ (get_or s entry_count_at 0 ∷ [])) && once qs)
      → r ≡ indexed_once s
  unfolding indexed_once is_indexed index_block
  indexed-is l j qs e n q =
      q ∙ ap (λ (i : ℕ). sames (entry_table (index_of qs) ++ (length (index_of qs) ∷ []))
      (take i (drop index_at s) ++ (get_or s entry_count_at 0 ∷ [])) && once qs) n
      ∙ ap (λ (x : List ℕ). sames (entry_table (index_of qs) ++ (length (index_of qs) ∷ [])) x && once qs) (table-count l)
      ∙ ap (λ (x : List Pair). sames (entry_table (index_of x) ++ (length (index_of x) ∷ []))
      (take index_size (drop index_at s)) && once x) e
      ∙ sym (ap (λ (b : Bool).
      (b && sames (entry_table (index_of (model_of s).pairs) ++ (length (index_of (model_of s).pairs) ∷ []))
      (take index_size (drop index_at s))) && once (model_of s).pairs)
      (eq-eqb (length s) whole_size l))

  pub renewed-not : (length s ≡ whole_size → ⊥) → s ≡ renewed s
  unfolding renewed
  renewed-not n = sym (pick-false (put s index_at (index_block (model_of s).pairs)) s (ne_eqb (length s) whole_size n))

  pub renewed-is : length s ≡ whole_size → (x : List ℕ) {r : Bool} {t : List ℕ} → x ≡ index_block (model_of s).pairs
      → length x ≡ index_size
      → r ≡ leb (index_at + length x) (length s) → t ≡ put_if r s index_at x → t ≡ renewed s
  unfolding renewed
  renewed-is l x e n p q =
      put_of s index_at x (length x) (length s) p (omega arith) q ∙ ap (put s index_at) e
      ∙ sym (pick_true (put s index_at (index_block (model_of s).pairs)) s (eq-eqb (length s) whole_size l))

-- what a block's index says, from the part that has it
pub mask-said : (s d : List ℕ) (n k v : ℕ) {r : ℕ} → length s ≡ whole_size → n ≡ at_most v most_pairs
    → v ≡ get_or s entry_count_at 0 → k ≡ entries_size
    → r ≡ mask_in d (take n (rows entry_size most_pairs (take k (drop index_at s)))) → r ≡ mask_for d s
unfolding mask_for
mask-said s d n k v l e q p w =
    w ∙ ap (λ (x : List (List ℕ)). mask_in d (take n x))
    (rows-part entry_size most_pairs k (drop index_at s) p (simp length-drop (omega arith)))
    ∙ ap (λ (j : ℕ). mask_in d (take j (rows entry_size most_pairs (drop index_at s)))) e
    ∙ ap (mask_in d) (rows-most entry_size most_pairs (drop index_at s) v)
    ∙ ap (λ (j : ℕ). mask_in d (take j (rows entry_size most_pairs (drop index_at s)))) q

-- the index worked out of a block
pub pairs-held : (s : List ℕ) (n k v : ℕ) → length s ≡ whole_size → n ≡ at_most v most_pairs → v ≡ get_or s count_at 0
    → k ≡ pairs_size
    → map pair_in (take n (rows pair_size most_pairs (take k (drop pairs_at s)))) ≡ (model_of s).pairs
unfolding model_of pair_table
pairs-held s n k v l e q p =
    ap (λ (x : List (List ℕ)). map pair_in (take n x))
    (rows-part pair_size most_pairs k (drop pairs_at s) p (simp length-drop (omega arith)))
    ∙ ap (λ (j : ℕ). map pair_in (take j (rows pair_size most_pairs (drop pairs_at s)))) e
    ∙ ap (map pair_in) (rows-most pair_size most_pairs (drop pairs_at s) v)
    ∙ ap (λ (j : ℕ). map pair_in (take j (rows pair_size most_pairs (drop pairs_at s)))) q
