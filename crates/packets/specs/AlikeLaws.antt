-- Laws of the definitions in Alike: what a pair's row holds, and the branches of the tests.
use Rattle.std.specs.Prelude.{◌≡◌, ℕ, suc, ◌+◌, ◌-◌, ◌*◌, ◌/◌, ◌%◌, ◌<◌, ◌≤◌, Bool, true, false, not, ◌&&◌, List, length, take, drop, ◌==◌, ◌≢◌, nat_eq, nat_lt, slice_index, slice_index_or, refl}
use Rattle.std.proofs.Math.Path.{sym, ap, ap₂}
use Rattle.std.proofs.Common.{◌∙◌, arith}
use Rattle.std.proofs.Math.ListN.{length-drop}
use lib.Seq.{drop-drop, get_or-drop, length-take-le, take-take}
use borrow.Author.Tests.{eqb-false, eqb-true, eq-eqb, le-ltb, lt-ltb, ne_eqb}
use Rattle.laws.specs.Tests.{sames}
use Rattle.laws.specs.TestsLaws.{and-not-left, and-not-right, sames-eq}
use Rattle.octets.specs.Little.{octets_of}
use Rattle.model.specs.Types.{Model, Pair}
use Rattle.model.specs.Frames.{packet_of}
use Rattle.model.specs.Image.{pair_row, pair_in}
use Rattle.model.specs.Block.{pad_to, padded}
use Rattle.blocks.specs.Bounds.{Fits}
use Rattle.blocks.specs.RowsLaws.{get_d_past}
use Rattle.blocks.specs.FieldsLaws.{key_of, times_of, place-split}
use Rattle.blocks.specs.PlacesLaws.{pair_in-place}
use Rattle.blocks.specs.BlockLaws.{row-pairs}
use Rattle.marks.specs.Fields.{Framed, framed}
use Rattle.marks.proofs.FieldsLaws.{facts-framed}
use Rattle.marks.specs.Marks.{tells, sifted}
use Rattle.packets.specs.Alike.{alike_in, reason_at, reason_in}
use Rattle.packets.specs.Changes.{alike_to, reason_by}
use Rattle.packets.specs.Writes.{no_pair}
use Rattle.packets.specs.WritesLaws.{part-row}
use Rattle.packets.specs.Moves.{pair_at, AtPair}
use Rattle.packets.specs.MovesLaws.{pair_fits}
use Rattle.model.specs.Layout.{block_size, data_at, event_at, length_at, most_pairs, pair_size, pairs_at}

-- lists of different lengths differ
different : (a b : List ℕ) → (length a ≢ length b) → false ≡ sames a b
different a b n = go (sames a b) refl
  where
    go : (t : Bool) → sames a b ≡ t → false ≡ t
    go false e = refl
    go true e = absurd (n (ap length (sames-eq a b e)))

module _ (m : Model) (s : List ℕ) (i : ℕ) (w : AtPair m s i) where
  abbrev at : ℕ
  at = pairs_at + pair_size * i

  -- the row of the pair
  pub row_is : take pair_size (drop at s) ≡ pad_to pair_size (pair_row (pair_at m i))
  unfolding pair_at
  row_is = ap (λ (l : List ℕ). take pair_size (drop at l)) w.block ∙ part-row (padded m) i
      ∙ row-pairs m w.measured i no_pair w.within

  pub field_is : (k : ℕ) → k < pair_size → slice_index s (at + k) ≡ slice_index (pad_to pair_size (pair_row (pair_at m i))) k
  field_is k h = sym (get_or-drop at s k 0) ∙ sym (lib.Seq.get_or-take pair_size (drop at s) k 0 h)
      ∙ ap (λ (l : List ℕ). slice_index l k) row_is

  pub event-is : slice_index_or s (at + event_at) 0 ≡ (pair_at m i).event
  unfolding pair_in
  event-is = field_is event_at (omega arith) ∙ ap (λ (q : Pair). q.event) (pair_in-place (pair_at m i) (pair_fits w))

  length-is : slice_index_or s (at + length_at) 0 ≡ length (pair_at m i).adv
  unfolding octets_of
  length-is =
      let q : Pair = pair_at m i in
      let f : Fits (pair_at m i) = pair_fits w in
      field_is length_at (omega arith) ∙ ap (λ (l : List ℕ). slice_index l length_at) (place-split q f.address-length)
      ∙ get_d_past (key_of q) (times_of q) 8 (ap (λ (n : ℕ). suc (suc n)) f.address-length) 17

  data_is : take (length (pair_at m i).adv) (drop (at + data_at) s) ≡ (pair_at m i).adv
  unfolding pair_in
  data_is =
      let q : Pair = pair_at m i in
      let f : Fits (pair_at m i) = pair_fits w in
      let n : length q.adv ≤ 31 = f.adv-most in
      let r : List ℕ = pad_to pair_size (pair_row q) in
      ap (λ (l : List ℕ). take (length q.adv) l) (sym (drop-drop data_at at s))
      ∙ sym (take-take (length q.adv) 31 (drop data_at (drop at s)) n)
      ∙ ap (λ (l : List ℕ). take (length q.adv) l)
      (sym (Rattle.marks.proofs.MonitorsLaws.drop-take data_at 31 (drop at s))
      ∙ ap (λ (l : List ℕ). drop data_at l) row_is)
      ∙ ap (λ (k : ℕ). take k (drop data_at r)) (sym length-is ∙ field_is length_at (omega arith))
      ∙ ap (λ (p : Pair). p.adv) (pair_in-place q f)

  -- T-13: the row and the payload say what the pair and the packet do
  pub alike-pair : (l : List ℕ) → Framed l → alike_in s i l ≡ alike_to (packet_of l) (pair_at m i)
  unfolding alike_in alike_to packet_of
  alike-pair l f =
      ap₂ ◌&&◌ (ap (λ (n : ℕ). nat_eq n (slice_index l 0)) event-is) (go (slice_index s (at + length_at) == slice_index l 8) refl)
    where
      long : length (take (slice_index l 8) (drop 9 l)) ≡ slice_index l 8
      long =
          let k : length (drop 9 l) ≡ length l - 9 = length-drop 9 l in
          length-take-le (slice_index l 8) (drop 9 l) (omega (arith, f.0))

      go : (t : Bool) → (slice_index s (at + length_at) == slice_index l 8) ≡ t
          → (t && sames (take (slice_index l 8) (drop (at + data_at) s)) (take (slice_index l 8) (drop 9 l)))
          ≡ sames (pair_at m i).adv (take (slice_index l 8) (drop 9 l))
      go true e =
          ap (λ (x : List ℕ). sames x (take (slice_index l 8) (drop 9 l)))
          (ap (λ (n : ℕ). take n (drop (at + data_at) s)) (sym (eqb-true _ (slice_index l 8) e) ∙ length-is) ∙ data_is)
      go false e =
          different (pair_at m i).adv (take (slice_index l 8) (drop 9 l))
          (λ k. eqb-false _ (slice_index l 8) e (length-is ∙ k ∙ long))

  pub reason-pair : (a : ℕ) (l : List ℕ) → Framed l → reason_in s i a l ≡ reason_by a (packet_of l) (pair_at m i)
  unfolding reason_in reason_by
  reason-pair a l f = ap (λ (t : Bool). tells a && not (sifted a && t)) (alike-pair l f)

module _ (s : List ℕ) (i : ℕ) (l : List ℕ) where
  -- the branches of the test of duplicates
  pub other-event : (slice_index s (pairs_at + pair_size * i + event_at) ≢ slice_index l 0) → false ≡ alike_in s i l
  unfolding alike_in
  other-event n = sym (and-not-left _ _ (ne_eqb _ (slice_index l 0) n))

  pub other_length : (slice_index s (pairs_at + pair_size * i + length_at) ≢ slice_index l 8) → false ≡ alike_in s i l
  unfolding alike_in
  other_length n =
      sym (and-not-right (slice_index s (pairs_at + pair_size * i + event_at) == slice_index l 0) _
      (and-not-left _ _ (ne_eqb _ (slice_index l 8) n)))

  pub same-packet : {x y : List ℕ} {n : ℕ} {r : Bool} → slice_index s (pairs_at + pair_size * i + event_at) ≡ slice_index l 0
      → slice_index s (pairs_at + pair_size * i + length_at) ≡ slice_index l 8 → n ≡ slice_index l 8
      → x ≡ take n (drop (pairs_at + pair_size * i + data_at) s) → y ≡ take n (drop 9 l) → r ≡ sames x y
      → r ≡ alike_in s i l
  unfolding alike_in
  same-packet e k c ex ey q =
      q ∙ ap₂ sames (ex ∙ ap (λ (j : ℕ). take j (drop (pairs_at + pair_size * i + data_at) s)) c)
      (ey ∙ ap (λ (j : ℕ). take j (drop 9 l)) c)
      ∙ sym (rw (eq-eqb _ (slice_index l 0) e, eq-eqb _ (slice_index l 8) k))

  module _ (a : ℕ) where
    -- what an octet tells of a held pair
    pub reason-off : (a / 8 % 2 ≢ 1) → false ≡ reason_in s i a l
    unfolding reason_in tells
    reason-off n = sym (and-not-left _ _ (ne_eqb (a / 8 % 2) 1 n))

    pub reason-plain : a / 8 % 2 ≡ 1 → (a / 16 % 2 ≢ 1) → true ≡ reason_in s i a l
    unfolding reason_in tells sifted
    reason-plain e n = sym (rw (eq-eqb (a / 8 % 2) 1 e, ne_eqb (a / 16 % 2) 1 n))

    pub reason-sifted : {r : Bool} → a / 8 % 2 ≡ 1 → a / 16 % 2 ≡ 1 → r ≡ alike_in s i l → not r ≡ reason_in s i a l
    unfolding reason_in tells sifted
    reason-sifted e n f = ap not f ∙ sym (rw (eq-eqb (a / 8 % 2) 1 e, eq-eqb (a / 16 % 2) 1 n))

    -- and of any octets
    pub no_block : (length s ≢ block_size) → false ≡ reason_at s i a l
    unfolding reason_at
    no_block n = sym (and-not-left _ _ (ne_eqb (length s) block_size n))

    pub no_row : most_pairs ≤ i → false ≡ reason_at s i a l
    unfolding reason_at
    no_row h = sym (and-not-right (length s == block_size) _ (and-not-left _ _ (le-ltb i most_pairs h)))

    pub no-frame : framed l ≡ false → false ≡ reason_at s i a l
    unfolding reason_at
    no-frame e =
        sym (and-not-right (length s == block_size) _
        (and-not-right (nat_lt i most_pairs) _ (and-not-left (framed l) _ e)))

    pub reason-at : length s ≡ block_size → i < most_pairs → framed l ≡ true → reason_in s i a l ≡ reason_at s i a l
    unfolding reason_at
    reason-at n h e = sym (rw (eq-eqb (length s) block_size n, lt-ltb i most_pairs h, e))

-- the public test of a block that has the pair, and a packet frame's payload
pub reason-read : (m : Model) (s : List ℕ) (i : ℕ) → AtPair m s i → (a : ℕ) (l : List ℕ) → length s ≡ block_size
    → i < most_pairs → Framed l → reason_at s i a l ≡ reason_by a (packet_of l) (pair_at m i)
reason-read m s i w a l n h f = sym (reason-at s i l a n h (facts-framed l f)) ∙ reason-pair m s i w a l f
