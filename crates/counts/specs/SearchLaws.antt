-- The search for the pair of a handle that is a reason for a packet's report. Document 02, T-09. Assumes nothing.
use Rattle.std.specs.Prelude.{ℕ, suc, ◌+◌, ◌*◌, ◌/◌, ◌%◌, ◌≤◌, ◌<◌, ◌≡◌, Bool, true, ◌&&◌, eqb, take, drop}
use Rattle.std.proofs.Math.Path.{refl, sym, ap, ap₂}
use Rattle.std.proofs.Common.{◌∙◌, arith, add-one, drop_of_length-le, drop-cons, take_all, eq-eqb, ne_eqb}
use Rattle.std.proofs.Math.Bool.{false}
use mathlib.Core.List.{List, [], ◌∷◌, ◌++◌, map}
use Rattle.std.proofs.Math.Dec.{leb, ltb}
use Rattle.std.proofs.Math.ListN.{length, get_or, length-append}
use Rattle.laws.specs.Tests.{pick}
use Rattle.laws.specs.TestsLaws.{and_both, and-not-left, and-not-right, cases_eq}
use Rattle.laws.specs.Loops.{some as some_of, keep, only}
use Rattle.laws.specs.LoopsLaws.{some-step, some-stop, some-nil, keep_append, map-take}
use Rattle.octets.specs.Little.{little, value}
use Rattle.rule.specs.Engine.{find}
use Rattle.model.specs.Types.{Model, Monitor, Packet, Pair, device_of, watched}
use Rattle.model.specs.Level.{level}
use Rattle.model.specs.Watch.{packet_move, is_reason}
use Rattle.model.specs.Layout.{most_monitors, pair_size, pairs_at, rssi_at}
use Rattle.blocks.specs.Bounds.{Fits}
use Rattle.packets.specs.Changes.{reason_by}
use Rattle.marks.specs.Marks.{matched, keeps, mark, marks}
use Rattle.marks.proofs.MarksLaws.{get_d-marks}
use Rattle.packets.specs.Keys.{device_number}
use Rattle.packets.specs.KeysLaws.{same_true, same_false, key-pairs}
use Rattle.packets.specs.Writes.{no_pair}
use Rattle.packets.specs.WritesLaws.{read_kept}
use Rattle.packets.specs.Moves.{AtPair, pair_at}
use Rattle.packets.specs.MovesLaws.{pair_fits}
use Rattle.counts.specs.Given.{Given}
use Rattle.counts.specs.GivenLaws.{told-other, told-own}
use Rattle.packets.specs.Starts.{Holding}
use Rattle.months.specs.Counts.{one, of_handle}
use Rattle.counts.specs.Room.{weak, weak_of}
use Rattle.counts.specs.Causes.{met_by, wanted, wants_for}
use Rattle.counts.specs.CausesLaws.{weak-moved}

pub one-true : {t : Bool} → t ≡ true → 1 ≡ one t
unfolding one pick
one-true e = rw e

pub one-false : {t : Bool} → t ≡ false → 0 ≡ one t
unfolding one pick
one-false e = rw e

only_one : (t : Bool) (x : Pair) → one t ≡ length (only t x)
unfolding only one pick
only_one true x = refl
only_one false x = refl

only-keep : (f : Pair → Bool) (x : Pair) → length (keep f (x ∷ [])) ≡ length (only (f x) x)
unfolding keep
only-keep f x = length-append (only (f x) x) [] ∙ omega arith

-- one pair, by its key
module _ (m : Model) (s : List ℕ) (i : ℕ) (p : Packet) (acts : List ℕ) (dev h key k a : ℕ) (w : AtPair m s i)
    (g : Given m.mons p acts dev) (low : h < most_monitors) (is : key ≡ h + 256 * dev) (o : a ≡ get_or acts h 0)
    (e : k ≡ little 8 s (pairs_at + pair_size * i)) where
  read : k ≡ (pair_at m i).handle + 256 * value (watched (pair_at m i))
  unfolding pair_at
  read =
      e ∙ ap (λ (l : List ℕ). little 8 l (pairs_at + pair_size * i)) w.block
      ∙ key-pairs m w.measured i no_pair w.within (pair_fits w)

  pub other_key : (k ≡ key → ⊥) → false ≡ wants_for m p h (pair_at m i)
  unfolding wants_for of_handle
  other_key n =
      let f : Fits (pair_at m i) = pair_fits w in
      cases_eq (pair_at m i).handle h
      (λ (u : (pair_at m i).handle ≡ h).
      sym (and-not-right (eqb (pair_at m i).handle h) (is_reason m.mons p (pair_at m i))
      (sym (told-other m s i p acts dev k w g e (λ v. n (omega (arith, read, is, f.handle-most)))))))
      (λ (u : (pair_at m i).handle ≡ h → ⊥). sym
      (and-not-left _ (is_reason m.mons p (pair_at m i)) (ne_eqb (pair_at m i).handle h u)))

  pub own_key : {t : Bool} → k ≡ key → t ≡ reason_by a p (pair_at m i) → t ≡ wants_for m p h (pair_at m i)
  unfolding wants_for of_handle
  own_key {t} n r =
      let f : Fits (pair_at m i) = pair_fits w in
      let u : (pair_at m i).handle ≡ h = omega (arith, read, is, f.handle-most) in
      let v : k % 256 ≡ h = omega (arith, is) in
      let x : t ≡ is_reason m.mons p (pair_at m i) =
      told-own m s i p acts dev k w g e a (omega (arith, is)) (o ∙ ap (λ (j : ℕ). get_or acts j 0) (sym v)) r in
      x ∙ sym (ap (λ (b : Bool). b && is_reason m.mons p (pair_at m i)) (eq-eqb (pair_at m i).handle h u))

-- whether a pair keeps the packet
module _ (m : Model) (s : List ℕ) (i : ℕ) (p : Packet) (acts : List ℕ) (dev k : ℕ) (w : AtPair m s i)
    (g : Given m.mons p acts dev)
    (e : k ≡ little 8 s (pairs_at + pair_size * i)) where
  key-is : k ≡ (pair_at m i).handle + 256 * value (watched (pair_at m i))
  unfolding pair_at
  key-is =
      e ∙ ap (λ (l : List ℕ). little 8 l (pairs_at + pair_size * i)) w.block
      ∙ key-pairs m w.measured i no_pair w.within (pair_fits w)

  pub met-other : (k / 256 ≡ dev → ⊥) → false ≡ met_by m p (pair_at m i)
  unfolding met_by
  met-other n =
      let f : Fits (pair_at m i) = pair_fits w in
      let v : k / 256 ≡ value (watched (pair_at m i)) = omega (arith, key-is, f.handle-most) in
      sym (and-not-left _ _ (same_false p g.sent (pair_at m i) (λ y. n (v ∙ y ∙ sym g.number))))

  pub met-high : most_monitors ≤ k % 256 → false ≡ met_by m p (pair_at m i)
  met-high n = let f : Fits (pair_at m i) = pair_fits w in absurd (omega (arith, key-is, f.handle-most))

  pub met-own : (a : ℕ) → k / 256 ≡ dev → a ≡ get_or acts (k % 256) 0 → leb matched a ≡ met_by m p (pair_at m i)
  unfolding met_by keeps
  met-own a n r =
      let q : Pair = pair_at m i in
      let f : Fits (pair_at m i) = pair_fits w in
      let v : value (watched (pair_at m i)) ≡ device_number p = omega (arith, key-is, f.handle-most, g.number) in
      let h : k % 256 ≡ q.handle = omega (arith, key-is, f.handle-most) in
      let b : a ≡ mark (find m.mons q.handle) p =
      r ∙ ap (λ (l : List ℕ). get_or l (k % 256) 0) g.octets ∙ ap (λ (j : ℕ). get_or (marks m.mons p) j 0) h
      ∙ get_d-marks m.mons p q.handle f.handle-most in
      ap (leb matched) b
      ∙ sym (ap (λ (t : Bool). t && leb matched (mark (find m.mons q.handle) p))
      (same_true p g.sent q f v))

-- a pair that keeps the packet is not weak; another is, by the level it keeps
module _ (m : Model) (s : List ℕ) (i : ℕ) (p : Packet) (w : AtPair m s i) where
  pub weak-met : true ≡ met_by m p (pair_at m i) → false ≡ weak_of p.rssi (packet_move m.mons p (pair_at m i))
  unfolding met_by pick
  weak-met e = sym
      (weak-moved m.mons p (pair_at m i) ∙ ap (λ (t : Bool). pick t false (weak_of p.rssi (pair_at m i))) (sym e))

  pub weak-own : {o l : ℕ} → false ≡ met_by m p (pair_at m i) → o ≡ level (get_or s (pairs_at + pair_size * i + rssi_at) 0)
      → l ≡ level p.rssi
      → ltb o l ≡ weak_of p.rssi (packet_move m.mons p (pair_at m i))
  unfolding met_by pick weak_of pair_at
  weak-own {o} {l} e x y =
      ap₂ ltb (x ∙ ap (λ (t : List ℕ). level (get_or t (pairs_at + pair_size * i + rssi_at) 0)) w.block
      ∙ ap level (read_kept m w.measured i no_pair w.within (pair_fits w))) y
      ∙ sym (weak-moved m.mons p (pair_at m i)
      ∙ ap (λ (t : Bool). pick t false (weak_of p.rssi (pair_at m i))) (sym e))

-- the weak ones of the first pairs
module _ (mons : List (ℕ × Monitor)) (p : Packet) (qs : List Pair) where
  pub weak-none : 0 ≡ weak p.rssi (map (packet_move mons p) (take 0 qs))
  unfolding weak keep
  weak-none = refl

  pub weak-turn : (i k : ℕ) (t : Bool) → i < length qs → k ≡ weak p.rssi (map (packet_move mons p) (take i qs))
      → t ≡ weak_of p.rssi (packet_move mons p (get_or qs i no_pair))
      → k + one t ≡ weak p.rssi (map (packet_move mons p) (take (i + 1) qs))
  unfolding weak
  weak-turn i k t b e f =
      let x : Pair = packet_move mons p (get_or qs i no_pair) in
      let l : List Pair = map (packet_move mons p) (take i qs) in
      ap₂ (λ (a b : ℕ). a + b) e (ap one f ∙ only_one (weak_of p.rssi x) x)
      ∙ sym (ap (λ (r : List Pair). length (keep (weak_of p.rssi) r)) (map-take (packet_move mons p) qs i no_pair b)
      ∙ ap length (keep_append (weak_of p.rssi) l (x ∷ []))
      ∙ length-append (keep (weak_of p.rssi) l) (keep (weak_of p.rssi) (x ∷ []))
      ∙ ap (λ (r : ℕ). length (keep (weak_of p.rssi) l) + r) (only-keep (weak_of p.rssi) x))

  pub weak-end : (i k : ℕ) → length qs ≤ i → k ≡ weak p.rssi (map (packet_move mons p) (take i qs))
      → k ≡ weak p.rssi (map (packet_move mons p) qs)
  weak-end i k b e = e ∙ ap (λ (l : List Pair). weak p.rssi (map (packet_move mons p) l)) (take_all i qs b)

-- pair i as the loops name it
pub pair_read : (m : Model) (i : ℕ) (p : Packet) {t : Bool}
    → t ≡ weak_of p.rssi (packet_move m.mons p (pair_at m i))
    → t ≡ weak_of p.rssi (packet_move m.mons p (get_or m.pairs i no_pair))
unfolding pair_at
pair_read m i p e = e
