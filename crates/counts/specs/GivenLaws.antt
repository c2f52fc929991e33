-- Laws of the definitions in Given.
use Rattle.std.specs.Prelude.{ℕ, suc, ◌+◌, ◌*◌, ◌/◌, ◌%◌, ◌≤◌, ◌<◌, ◌≡◌, Bool, ◌&&◌, eqb}
use Rattle.std.proofs.Math.Path.{sym, ap}
use Rattle.std.proofs.Common.{◌∙◌, arith, eq-eqb, ne_eqb}
use Rattle.std.proofs.Math.Bool.{true, false}
use mathlib.Core.List.{List}
use Rattle.std.proofs.Math.ListN.{get_or}
use Rattle.laws.specs.TestsLaws.{and-not-left, cases_eq}
use Rattle.octets.specs.Little.{little, value}
use Rattle.rule.specs.Engine.{find}
use Rattle.model.specs.Types.{Model, Packet, Pair, device_of, watched}
use Rattle.model.specs.Frames.{has_packet, packet_of}
use Rattle.model.specs.Sound.{sound_model}
use Rattle.model.specs.Block.{padded}
use Rattle.model.specs.Watch.{is_pair, is_reason}
use Rattle.model.specs.Layout.{count_at, most_monitors, most_pairs, pair_size, pairs_at}
use Rattle.blocks.specs.FactsLaws.{sound-facts}
use Rattle.blocks.specs.Bounds.{Fits}
use Rattle.marks.proofs.FieldsLaws.{Clamped}
use Rattle.marks.specs.Marks.{mark, marks, marks_at}
use Rattle.marks.proofs.MarksLaws.{marks-padded, get_d-marks}
use Rattle.packets.specs.Changes.{reason_by}
use Rattle.packets.specs.ChangesLaws.{wants-reason}
use Rattle.packets.specs.Keys.{device_number}
use Rattle.packets.specs.KeysLaws.{same_true, same_false, pair-true, pair-false, key-pairs}
use Rattle.packets.specs.Writes.{no_pair}
use Rattle.packets.specs.Moves.{AtPair, pair_at}
use Rattle.packets.specs.MovesLaws.{pair_fits}
use Rattle.packets.specs.Device.{Sender}
use Rattle.packets.specs.Starts.{Holding, Sought}
use Rattle.packets.specs.WholeLaws.{block-holding, packet-sender}
use Rattle.counts.specs.Given.{Given}

pub begun : (m : Model) (s l acts : List ℕ) (dev n : ℕ) → sound_model m ≡ true → s ≡ padded m
    → ((i : ℕ) → get_or l i 0 < 256) → has_packet l ≡ true
    → acts ≡ marks_at s (packet_of l) → dev ≡ little 8 l 0 / 256 → Clamped (get_or s count_at 0) most_pairs n
    → Holding m s n × Given m.mons (packet_of l) acts dev
begun m s l acts dev n e b o k a d c =
    let t : Sender (packet_of l) dev = packet-sender l dev o k d in (
      block-holding m s n e b c,
      record {
        sent = t.sent;
        octets = a ∙ ap (λ (x : List ℕ). marks_at x (packet_of l)) b ∙ marks-padded m (packet_of l) (sound-facts m e);
        number = t.number;
      },
    )

-- a row's turn, by its key
module _ (m : Model) (s : List ℕ) (i : ℕ) (p : Packet) (acts : List ℕ) (dev key : ℕ) (w : AtPair m s i)
    (g : Given m.mons p acts dev) (k : key ≡ little 8 s (pairs_at + pair_size * i)) where
  key-read : key ≡ (pair_at m i).handle + 256 * value (watched (pair_at m i))
  unfolding pair_at
  key-read =
      k ∙ ap (λ (l : List ℕ). little 8 l (pairs_at + pair_size * i)) w.block
      ∙ key-pairs m w.measured i no_pair w.within (pair_fits w)

  pub handle-low : key % 256 < most_monitors
  handle-low = let f : Fits (pair_at m i) = pair_fits w in omega (arith, key-read, f.handle-most)

  own-octet : (a : ℕ) → a ≡ get_or acts (key % 256) 0 → a ≡ mark (find m.mons (pair_at m i).handle) p
  own-octet a r =
      let q : Pair = pair_at m i in
      let f : Fits (pair_at m i) = pair_fits w in
      let h : key % 256 ≡ q.handle = omega (arith, key-read, f.handle-most) in
      r ∙ ap (λ (l : List ℕ). get_or l (key % 256) 0) g.octets ∙ ap (λ (j : ℕ). get_or (marks m.mons p) j 0) h
      ∙ get_d-marks m.mons p q.handle f.handle-most

  pub told-other : (key / 256 ≡ dev → ⊥) → false ≡ is_reason m.mons p (pair_at m i)
  told-other n =
      let q : Pair = pair_at m i in
      let f : Fits (pair_at m i) = pair_fits w in
      let v : key / 256 ≡ value (watched (pair_at m i)) = omega (arith, key-read, f.handle-most) in
      sym (wants-reason m.mons p q ∙ and-not-left _ _ (same_false p g.sent q (λ y. n (v ∙ y ∙ sym g.number))))

  pub told-own : {t : Bool} (a : ℕ) → key / 256 ≡ dev → a ≡ get_or acts (key % 256) 0 → t ≡ reason_by a p (pair_at m i)
      → t ≡ is_reason m.mons p (pair_at m i)
  told-own {t} a n r e =
      let q : Pair = pair_at m i in
      let f : Fits (pair_at m i) = pair_fits w in
      let v : value (watched (pair_at m i)) ≡ device_number p = omega (arith, key-read, f.handle-most, g.number) in
      e ∙ ap (λ (x : ℕ). reason_by x p q) (own-octet a r)
      ∙ sym (wants-reason m.mons p q
      ∙ ap (λ (b : Bool). b && reason_by (mark (find m.mons q.handle) p) p q) (same_true p g.sent q f v))

-- whether pair i is the one that is sought, by its key
pub key-tells : (m : Model) (s : List ℕ) (i : ℕ) (p : Packet) (h key k : ℕ) → AtPair m s i → Sought p h key
    → k ≡ little 8 s (pairs_at + pair_size * i) → eqb k key ≡ is_pair h (device_of p) (pair_at m i)
unfolding pair_at
key-tells m s i p h key k w x e =
    let g : Pair = get_or m.pairs i no_pair in
    let r : k ≡ g.handle + 256 * value (watched g) =
    e ∙ ap (λ (l : List ℕ). little 8 l (pairs_at + pair_size * i)) w.block
    ∙ key-pairs m w.measured i no_pair w.within (pair_fits w) in
    cases_eq k key
    (λ (y : k ≡ key). eq-eqb k key y ∙ sym (pair-true p x.sent h g (pair_fits w) x.low (sym r ∙ y ∙ x.number)))
    (λ (y : k ≡ key → ⊥). ne_eqb k key y ∙ sym (pair-false p x.sent h g (λ z. y (r ∙ z ∙ sym x.number))))
