-- Whether a packet is a duplicate for a pair, read from its row (document 02, T-13), and what a held pair's turn
-- tells. The law of the octets themselves is in packets, AlikeLaws. Assumes nothing.
use Rattle.std.specs.Prelude.{◌≡◌, ℕ, suc, ◌+◌, ◌-◌, ◌*◌, ◌/◌, ◌%◌, ◌<◌, ◌≤◌, Bool, true, false, not, ◌&&◌, List, length, take, drop, ◌==◌, ◌≢◌, slice_index, slice_index_or, refl}
use Rattle.std.proofs.Math.Path.{sym, ap, ap₂}
use Rattle.std.proofs.Common.{◌∙◌, arith, eq-eqb, ne_eqb}
use Rattle.std.proofs.Math.ListN.{length-drop}
use lib.Seq.{drop-drop, get_or-drop, length-take-le, take-take}
use Rattle.laws.specs.Tests.{sames}
use Rattle.laws.specs.TestsLaws.{and-not-left, and-not-right, sames-eq}
use Rattle.octets.specs.Little.{octets_of}
use Rattle.model.specs.Types.{Model, Packet, Pair}
use Rattle.model.specs.Frames.{packet_of}
use Rattle.model.specs.Image.{pair_row, pair_in}
use Rattle.model.specs.Block.{pad_to, padded}
use Rattle.blocks.specs.Bounds.{Fits}
use Rattle.blocks.specs.RowsLaws.{get_d_past}
use Rattle.blocks.specs.FieldsLaws.{key_of, times_of, place-split}
use Rattle.blocks.specs.PlacesLaws.{pair_in-place}
use Rattle.blocks.specs.BlockLaws.{row-pairs}
use Rattle.marks.specs.Fields.{Framed}
use Rattle.marks.specs.Marks.{tells, sifted}
use Rattle.packets.specs.Changes.{alike_to, reason_by}
use Rattle.packets.specs.Writes.{no_pair}
use Rattle.packets.specs.WritesLaws.{part-row}
use Rattle.packets.specs.Moves.{pair_at, AtPair}
use Rattle.packets.specs.MovesLaws.{pair_fits}
use Rattle.model.specs.Layout.{data_at, event_at, length_at, pair_size, pairs_at}

-- lists of different lengths differ
different : (a b : List ℕ) → (length a ≢ length b) → false ≡ sames a b
different a b n = go (sames a b) refl
  where
    go : (t : Bool) → sames a b ≡ t → false ≡ t
    go false e = refl
    go true e = absurd (n (ap length (sames-eq a b e)))

module _ (m : Model) (s : List ℕ) (i : ℕ) (w : AtPair m s i) where
  abbrev at : ℕ
  at = pairs_at + pair_size * i

  -- the row of the pair
  row_is : take pair_size (drop at s) ≡ pad_to pair_size (pair_row (pair_at m i))
  unfolding pair_at
  row_is = ap (λ (l : List ℕ). take pair_size (drop at l)) w.block ∙ part-row (padded m) i
      ∙ row-pairs m w.measured i no_pair w.within

  field_is : (k : ℕ) → k < pair_size → slice_index s (at + k) ≡ slice_index (pad_to pair_size (pair_row (pair_at m i))) k
  field_is k h = sym (get_or-drop at s k 0) ∙ sym (lib.Seq.get_or-take pair_size (drop at s) k 0 h)
      ∙ ap (λ (l : List ℕ). slice_index l k) row_is

  event-is : slice_index_or s (at + event_at) 0 ≡ (pair_at m i).event
  unfolding pair_in
  event-is = field_is event_at (omega arith) ∙ ap (λ (q : Pair). q.event) (pair_in-place (pair_at m i) (pair_fits w))

  length-is : slice_index_or s (at + length_at) 0 ≡ length (pair_at m i).adv
  unfolding octets_of
  length-is =
      let q : Pair = pair_at m i in
      let f : Fits (pair_at m i) = pair_fits w in
      field_is length_at (omega arith) ∙ ap (λ (l : List ℕ). slice_index l length_at) (place-split q f.address-length)
      ∙ get_d_past (key_of q) (times_of q) 8 (ap (λ (n : ℕ). suc (suc n)) f.address-length) 17

  data_is : take (length (pair_at m i).adv) (drop (at + data_at) s) ≡ (pair_at m i).adv
  unfolding pair_in
  data_is =
      let q : Pair = pair_at m i in
      let f : Fits (pair_at m i) = pair_fits w in
      let n : length q.adv ≤ 31 = f.adv-most in
      let r : List ℕ = pad_to pair_size (pair_row q) in
      ap (λ (l : List ℕ). take (length q.adv) l) (sym (drop-drop data_at at s))
      ∙ sym (take-take (length q.adv) 31 (drop data_at (drop at s)) n)
      ∙ ap (λ (l : List ℕ). take (length q.adv) l)
      (sym (Rattle.marks.proofs.MonitorsLaws.drop-take data_at 31 (drop at s))
      ∙ ap (λ (l : List ℕ). drop data_at l) row_is)
      ∙ ap (λ (k : ℕ). take k (drop data_at r)) (sym length-is ∙ field_is length_at (omega arith))
      ∙ ap (λ (p : Pair). p.adv) (pair_in-place q f)

  module _ (l : List ℕ) where
    pub other-event : (slice_index s (at + event_at) ≢ slice_index l 0) → false ≡ alike_to (packet_of l) (pair_at m i)
    unfolding alike_to packet_of
    other-event n = sym (and-not-left _ _ (ne_eqb _ (slice_index l 0) (λ e. n (event-is ∙ e))))

    pub other_length : Framed l → (slice_index s (at + length_at) ≢ slice_index l 8)
        → false ≡ alike_to (packet_of l) (pair_at m i)
    unfolding alike_to packet_of
    other_length f n =
        let k : length (drop 9 l) ≡ length l - 9 = length-drop 9 l in
        let h : length (take (slice_index l 8) (drop 9 l)) ≡ slice_index_or l 8 0 =
        length-take-le (slice_index l 8) (drop 9 l) (omega (arith, f.0)) in
        sym (and-not-right ((pair_at m i).event == slice_index l 0) _
        (sym (different (pair_at m i).adv (take (slice_index l 8) (drop 9 l)) (λ e. n (length-is ∙ e ∙ h)))))

    pub same-packet : {x y : List ℕ} {n : ℕ} {r : Bool} → slice_index s (at + event_at) ≡ slice_index l 0
        → slice_index s (at + length_at) ≡ slice_index l 8
        → n ≡ slice_index l 8 → x ≡ take n (drop (at + data_at) s) → y ≡ take n (drop 9 l) → r ≡ sames x y
        → r ≡ alike_to (packet_of l) (pair_at m i)
    unfolding alike_to packet_of
    same-packet {x} {y} {n} {r} e k c ex ey q =
        let v : n ≡ length (pair_at m i).adv = c ∙ sym k ∙ length-is in
        q ∙ ap₂ sames (ex ∙ ap (λ (j : ℕ). take j (drop (at + data_at) s)) v ∙ data_is)
        (ey ∙ ap (λ (j : ℕ). take j (drop 9 l)) c)
        ∙ sym (ap (λ (t : Bool). t && sames (pair_at m i).adv (take (slice_index l 8) (drop 9 l)))
        (eq-eqb _ (slice_index l 0) (sym event-is ∙ e)))

-- what an octet tells of a held pair
pub reason-off : (a : ℕ) (p : Packet) (q : Pair) → (a / 8 % 2 ≢ 1) → false ≡ reason_by a p q
unfolding reason_by tells
reason-off a p q n = sym (and-not-left _ _ (ne_eqb (a / 8 % 2) 1 n))

pub reason-plain : (a : ℕ) (p : Packet) (q : Pair) → a / 8 % 2 ≡ 1 → (a / 16 % 2 ≢ 1) → true ≡ reason_by a p q
unfolding reason_by tells sifted
reason-plain a p q e n = sym (rw (eq-eqb (a / 8 % 2) 1 e, ne_eqb (a / 16 % 2) 1 n))

pub reason-sifted : (a : ℕ) (p : Packet) (q : Pair) {r : Bool} → a / 8 % 2 ≡ 1 → a / 16 % 2 ≡ 1 → r ≡ alike_to p q
    → not r ≡ reason_by a p q
unfolding reason_by tells sifted
reason-sifted a p q e n f = ap not f ∙ sym (rw (eq-eqb (a / 8 % 2) 1 e, eq-eqb (a / 16 % 2) 1 n))
