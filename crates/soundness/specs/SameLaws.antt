-- The clauses on the octets are the model's soundness, for any octets; and pairs that are apart in the model are
-- apart in their rows. Document 01, The image ("Sound"; "pairs distinct"). Assumes nothing.
use Rattle.std.specs.Prelude.{ℕ, ◌+◌, ◌≤◌, ◌<◌, ◌≡◌, refl, Bool, true, false, ◌&&◌, List, [], eqb, length, get_or}
use Rattle.std.proofs.Math.Path.{sym, ap}
use Rattle.std.proofs.Common.{◌∙◌, arith}
use Rattle.std.proofs.Math.Bool.{not}
use borrow.Author.Tests.{not-true, not-false}
use Rattle.std.proofs.lemmas.List.{length-map}
use Rattle.std.proofs.Math.ListN.{get_or-map}
use Rattle.laws.specs.Loops.{every}
use Rattle.laws.specs.TestsLaws.{and_left, and_right, and_both}
use Rattle.octets.specs.Little.{little, is_octet}
use Rattle.model.specs.Types.{Pair, watched}
use Rattle.model.specs.Image.{pair_in}
use Rattle.model.specs.Watch.{is_pair}
use Rattle.model.specs.Sound.{apart}
use Rattle.model.specs.Block.{model_of, sound}
use Rattle.model.specs.Layout.{block_size, count_at, most_pairs, pair_size}
use Rattle.state.specs.StartLaws.{octets-known}
use Rattle.blocks.specs.TablesLaws.{from, length_from, get_d-from}
use Rattle.soundness.specs.Below.{all_below}
use Rattle.soundness.specs.BelowLaws.{test-eq, below_all}
use Rattle.soundness.specs.Clauses.{pair_row_at, key_at, other_test, loose, others_test}
use Rattle.soundness.specs.KeysLaws.{key-pair}
use Rattle.soundness.specs.PairsLaws.{pairs_of, pairs-held, apart-at, length-pair_row_at, octets-pair_row_at, key_row}
use Rattle.soundness.specs.ThereLaws.{clauses, clauses-sound, loose-size, loose-few}
use Rattle.soundness.specs.BackLaws.{facts-loose, facts-others, sound-clauses}

pub sound-both : (s : List ℕ) → every is_octet s ≡ true → (loose s && others_test s) ≡ sound s
sound-both s o =
    test-eq (loose s && others_test s) (sound s)
    (λ e. clauses-sound s o (clauses s (and_left (loose s) (others_test s) e) (and_right (loose s) (others_test s) e)))
    (λ e. let f = sound-clauses s e in and_both (facts-loose s f) (facts-others s f))

pub sound-loose : (s : List ℕ) → sound s ≡ true → loose s ≡ true
sound-loose s e = facts-loose s (sound-clauses s e)

module _ (s : List ℕ) (o : every is_octet s ≡ true) (e : loose s ≡ true) (z : apart (model_of s).pairs ≡ true) where
  abbrev c : ℕ
  c = get_or s count_at 0

  l : length s ≡ block_size
  l = loose-size s e

  few : get_or s count_at 0 ≤ most_pairs
  few = loose-few s e

  pair-at : (i : ℕ) → i < c → get_or (pairs_of (pair_row_at s) 0 c) i (pair_in []) ≡ pair_in (pair_row_at s i)
  pair-at i b =
      get_or-map pair_in (from (pair_row_at s) 0 c) i []
      ∙ ap pair_in (get_d-from (pair_row_at s) 0 c i [] b ∙ ap (pair_row_at s) (let k : 0 + i ≡ i = omega arith in k))

  others : (i j : ℕ) → j < i → i < c → eqb (key_at s i) (key_at s j) ≡ false
  others i j h b =
      let x : List ℕ = pair_row_at s j in
      let y : List ℕ = pair_row_at s i in
      let f = few in
      let lx : length x ≡ pair_size = length-pair_row_at s l j (omega arith) in
      let ly : length y ≡ pair_size = length-pair_row_at s l i (omega arith) in
      let n : length (pairs_of (pair_row_at s) 0 c) ≡ c =
      length-map (from (pair_row_at s) 0 c) pair_in ∙ length_from (pair_row_at s) 0 c in
      ap (λ (v : ℕ). eqb v (key_at s j)) (key_row s l i) ∙ ap (λ (v : ℕ). eqb (little 8 y 0) v) (key_row s l j)
      ∙ sym (key-pair x y (omega arith) (omega arith) (octets-pair_row_at s l o j) (octets-pair_row_at s l o i))
      ∙ ap (λ (p : Pair). is_pair p.handle (watched p) (pair_in y)) (sym (pair-at j (omega arith)))
      ∙ ap (λ (p : Pair). is_pair (get_or (pairs_of (pair_row_at s) 0 c) j (pair_in [])).handle
      (watched (get_or (pairs_of (pair_row_at s) 0 c) j (pair_in []))) p)
      (sym (pair-at i b))
      ∙ apart-at (pairs_of (pair_row_at s) 0 c) j i (pair_in []) (ap apart (sym (pairs-held s l c few refl)) ∙ z) h
      (omega arith)

  -- so a block whose pairs are apart lacks nothing else
  pub loose-sound : sound s ≡ true
  unfolding others_test other_test
  loose-sound =
      clauses-sound s o (clauses s e (below_all (other_test s) c
      (λ i b. below_all (λ (j : ℕ). not (eqb (key_at s i) (key_at s j))) i (λ j h. ap not (others i j h b)))))

-- both tests put together
module _ (s : List ℕ) (o : (k : ℕ) → get_or s k 0 < 256) where
  pub whole-loose : {b : Bool} → b ≡ loose s → not b ≡ true → false ≡ sound s
  whole-loose {b} q t = sym (sym (sound-both s (octets-known s o)) ∙ rw (← q, not-true b t))

  pub whole-others : {b r : Bool} → b ≡ loose s → not b ≡ false → {c : ℕ} → c ≡ get_or s count_at 0
      → r ≡ all_below (other_test s) c → r ≡ sound s
  unfolding others_test
  whole-others {b} q t e p =
      sym (sym (sound-both s (octets-known s o))
      ∙ rw (← q, not-false b t) (ap (all_below (other_test s)) (sym e) ∙ sym p))
