-- Laws of the definitions in Held.
use Rattle.std.specs.Prelude.{◌≡◌, ℕ, zero, suc, ◌+◌, ◌-◌, ◌*◌, ◌/◌, ◌%◌, ◌<◌, ◌≤◌, Bool, false, ◌&&◌, ◌||◌, List, [], ◌∷◌, map, length, get_or, take, drop, ◌≢◌, slice_index, slice_index_or, slice_set}
use Rattle.std.proofs.Math.Path.{refl, sym, ap, ap₂, subst}
use Rattle.std.proofs.Common.{◌∙◌, add-one, take_all, take-suc}
use native.Mathlib.Omega.{arith}
use Rattle.std.proofs.Math.ListN.{length-map}
use Rattle.std.proofs.Math.Seq.{length-take-le}
use Rattle.laws.specs.TestsLaws.{pick_true, pick-false, and-not-left}
use Rattle.laws.specs.Loops.{some as some_of}
use Rattle.laws.specs.Put.{put}
use Rattle.laws.specs.PutLaws.{put-nil, length-put, get_d-put-after}
use Rattle.laws.specs.RowsLaws.{put_whole}
use Rattle.laws.specs.Turns.{map-turn}
use Rattle.octets.specs.Little.{little, value}
use Rattle.rule.specs.Base.{All}
use Rattle.rule.specs.BaseLaws.{all_append}
use Rattle.rule.specs.Engine.{find}
use Rattle.model.specs.Types.{Model, Monitor, Packet, Pair, watched, with_lists}
use Rattle.model.specs.Watch.{packet_move, is_reason}
use Rattle.model.specs.Block.{padded}
use Rattle.blocks.specs.Bounds.{Fits}
use Rattle.blocks.specs.Block.{Measured}
use Rattle.blocks.specs.UpdatesLaws.{measured-pairs}
use Rattle.steps.specs.ListsLaws.{all_drop}
use Rattle.steps.specs.Typed.{Sent}
use Rattle.marks.specs.Marks.{mark}
use Rattle.packets.specs.Changes.{changed, reason_by}
use Rattle.packets.specs.ChangesLaws.{some-append, or-none, move-changed, wants-reason}
use Rattle.packets.specs.Keys.{device_number}
use Rattle.packets.specs.KeysLaws.{same_true, same_false}
use Rattle.packets.specs.Writes.{no_pair}
use Rattle.packets.specs.WritesLaws.{same_row_lem}
use Rattle.packets.specs.Moves.{pair_at, with_pair, AtPair}
use Rattle.packets.specs.MovesLaws.{pair_fits, moved-fits}
use Rattle.packets.specs.Device.{Other, NoneBelow, NoneFrom}
use Rattle.packets.specs.DeviceLaws.{key-read, key-handle, key-device}
use Rattle.model.specs.Layout.{most_monitors, pair_size, pairs_at}
use Rattle.packets.specs.Held.{Given, Roomy}

-- a row of another device
module _ (m : Model) (s : List ℕ) (i : ℕ) (p : Packet) (w : AtPair m s i) (t : Sent p) (n : Other p (pair_at m i)) where
  pub row-left : s ≡ padded (with_pair m i (packet_move m.mons p (pair_at m i)))
  unfolding with_pair pair_at
  row-left =
      let q : Pair = get_or m.pairs i no_pair in
      let e : packet_move m.mons p q ≡ q = move-changed m.mons p q ∙ pick-false _ q (same_false p t q n) in
      w.block ∙ same_row_lem m w.measured i no_pair
      ∙ ap (λ (y : Pair). padded (with_lists m m.mons (slice_set m.pairs i y))) (sym e)

  pub told-left : false ≡ is_reason m.mons p (pair_at m i)
  told-left = sym (wants-reason m.mons p (pair_at m i) ∙ and-not-left _ _ (same_false p t (pair_at m i) n))

-- a row's turn, by its key
module _ (m : Model) (s : List ℕ) (i : ℕ) (p : Packet) (acts : List ℕ) (dev key : ℕ) (w : AtPair m s i)
    (g : Given m.mons p acts dev (pair_at m i)) (k : key ≡ little 8 s (pairs_at + pair_size * i)) where
  pub handle-low : key % 256 < most_monitors
  handle-low = let f : Fits (pair_at m i) = pair_fits w in omega (arith, key-read m s i w k, f.handle-most)

  other : (key / 256 ≢ dev) → Other p (pair_at m i)
  other n e = n (key-device m s i w k ∙ e ∙ sym g.sender.number)

  pub row_other : (key / 256 ≢ dev) → s ≡ padded (with_pair m i (packet_move m.mons p (pair_at m i)))
  row_other n = row-left m s i p w g.sender.sent (other n)

  pub told-other : (key / 256 ≢ dev) → false ≡ is_reason m.mons p (pair_at m i)
  told-other n = told-left m s i p w g.sender.sent (other n)

  same-device : key / 256 ≡ dev → value (watched (pair_at m i)) ≡ device_number p
  same-device e = sym (key-device m s i w k) ∙ e ∙ g.sender.number

  own-octet : (a : ℕ) → key / 256 ≡ dev → a ≡ slice_index acts (key % 256)
      → a ≡ mark (find m.mons (pair_at m i).handle) p
  own-octet a e r = r ∙ ap (λ (j : ℕ). slice_index acts j) (key-handle m s i w k) ∙ g.heard (same-device e)

  pub told-own : {t : Bool} (a : ℕ) → key / 256 ≡ dev → a ≡ slice_index acts (key % 256) → t ≡ reason_by a p (pair_at m i)
      → t ≡ is_reason m.mons p (pair_at m i)
  told-own {t} a n r e =
      let q : Pair = pair_at m i in
      e ∙ ap (λ (x : ℕ). reason_by x p q) (own-octet a n r)
      ∙ sym (wants-reason m.mons p q
      ∙ ap (λ (b : Bool). b && reason_by (mark (find m.mons q.handle) p) p q)
      (same_true p g.sender.sent q (pair_fits w) (same-device n)))

  pub row-own : {t : List ℕ} (a : ℕ) → key / 256 ≡ dev → a ≡ slice_index acts (key % 256)
      → t ≡ padded (with_pair m i (changed a p (pair_at m i)))
      → t ≡ padded (with_pair m i (packet_move m.mons p (pair_at m i)))
  row-own a n r e =
      let q : Pair = pair_at m i in
      let c : changed a p q ≡ packet_move m.mons p q =
      ap (λ (x : ℕ). changed x p q) (own-octet a n r)
      ∙ sym (move-changed m.mons p q
      ∙ pick_true (changed (mark (find m.mons q.handle) p) p q) q
      (same_true p g.sender.sent q (pair_fits w) (same-device n))) in
      e ∙ ap (λ (y : Pair). padded (with_pair m i y)) c

-- the first i pairs moved
unfoldable pub halfway : Model → Packet → ℕ → Model
halfway m p i = with_lists m m.mons (put m.pairs 0 (map (packet_move m.mons p) (take i m.pairs)))

moved_all : (mons : List (ℕ × Monitor)) (p : Packet) (i : ℕ) (qs : List Pair) → Sent p → All Fits qs → Roomy qs
    → All Fits (map (packet_move mons p) (take i qs))
moved_all mons p zero qs t a r = tt
moved_all mons p (suc i) [] t a r = tt
moved_all mons p (suc i) (q ∷ qs) t a r =
    (moved-fits mons p q t a.0 r.0, moved_all mons p i qs t a.1 r.1)

roomy-at : (qs : List Pair) → Roomy qs → (i : ℕ) → i < length qs → (get_or qs i no_pair).packets < 4294967295
roomy-at [] a i h = absurd (omega arith)
roomy-at (q ∷ qs) a zero h = a.0
roomy-at (q ∷ qs) a (suc i) h = roomy-at qs a.1 i (omega arith)

module _ (m : Model) (p : Packet) (f : Measured m) (t : Sent p) (r : Roomy m.pairs) where
  done : ℕ → List Pair
  done i = map (packet_move m.mons p) (take i m.pairs)

  length-done : (i : ℕ) → i ≤ length m.pairs → length (done i) ≡ i
  unfolding done
  length-done i h = length-map (take i m.pairs) (packet_move m.mons p) ∙ length-take-le i m.pairs h

  length-halfway : (i : ℕ) → i ≤ length m.pairs → length (put m.pairs 0 (done i)) ≡ length m.pairs
  length-halfway i h = let n = length-done i h in length-put m.pairs 0 (done i) (omega arith)

  pub halfway-measured : (i : ℕ) → i ≤ length m.pairs → Measured (halfway m p i)
  unfolding halfway put done
  halfway-measured i h =
      let n : length (put m.pairs 0 (done i)) ≡ length m.pairs = length-halfway i h in
      measured-pairs m f (put m.pairs 0 (done i))
      (all_append Fits (done i) (drop (0 + length (done i)) m.pairs) (moved_all m.mons p i m.pairs t
      f.fit r)
      (all_drop Fits (0 + length (done i)) m.pairs f.fit))
      (omega (arith, f.pairs-most))

  -- a turn of the loop
  pub halfway-turn : (i : ℕ) {s u : List ℕ} → i < length m.pairs → s ≡ padded (halfway m p i)
      → ((n : Model) → AtPair n s i → (pair_at n i).packets < 4294967295 → m.mons ≡ n.mons
      → pair_at n i ≡ slice_index_or m.pairs i no_pair
      → u ≡ padded (with_pair n i (packet_move n.mons p (pair_at n i))))
      → u ≡ padded (halfway m p (i + 1))
  unfolding halfway with_pair with_lists pair_at done
  halfway-turn i {s} {u} h e g =
      let qs : List Pair = put m.pairs 0 (done i) in
      let l : length (done i) ≡ i = length-done i (omega arith) in
      let k : length qs ≡ length m.pairs = length-halfway i (omega arith) in
      let same : get_or qs i no_pair ≡ get_or m.pairs i no_pair =
      get_d-put-after m.pairs 0 (done i) i no_pair (omega arith) (omega arith) in
      let w : AtPair (halfway m p i) s i =
      record { measured = halfway-measured i (omega arith); block = e; within = omega arith } in
      g (halfway m p i) w (rw same (roomy-at m.pairs r i h)) refl same
      ∙ ap (λ (x : List Pair). padded (with_lists m m.mons x))
      (map-turn (packet_move m.mons p) m.pairs i no_pair {m = qs} h refl refl)

  -- and whether a pair so far is a reason for a report
  pub told-turn : (i : ℕ) {s : List ℕ} {a b : Bool} → i < length m.pairs → s ≡ padded (halfway m p i)
      → a ≡ some_of (is_reason m.mons p) (take i m.pairs)
      → ((n : Model) → AtPair n s i → (pair_at n i).packets < 4294967295 → m.mons ≡ n.mons
      → pair_at n i ≡ slice_index_or m.pairs i no_pair
      → b ≡ is_reason n.mons p (pair_at n i))
      → (a || b) ≡ some_of (is_reason m.mons p) (take (i + 1) m.pairs)
  unfolding halfway with_lists pair_at done some_of
  told-turn i {s} {a} {b} h e q g =
      let qs : List Pair = put m.pairs 0 (done i) in
      let l : length (done i) ≡ i = length-done i (omega arith) in
      let k : length qs ≡ length m.pairs = length-halfway i (omega arith) in
      let same : get_or qs i no_pair ≡ get_or m.pairs i no_pair =
      get_d-put-after m.pairs 0 (done i) i no_pair (omega arith) (omega arith) in
      let w : AtPair (halfway m p i) s i =
      record { measured = halfway-measured i (omega arith); block = e; within = omega arith } in
      let c : b ≡ is_reason m.mons p (slice_index_or m.pairs i no_pair) =
      g (halfway m p i) w (rw same (roomy-at m.pairs r i h)) refl same ∙ rw same refl in
      ap₂ ◌||◌ q c ∙ sym (ap (λ (j : ℕ). some_of (is_reason m.mons p) (take j m.pairs)) (add-one i)
      ∙ ap (some_of (is_reason m.mons p)) (take-suc m.pairs i no_pair h)
      ∙ some-append (is_reason m.mons p) (take i m.pairs) (slice_index_or m.pairs i no_pair ∷ [])
      ∙ ap (λ (t : Bool). some_of (is_reason m.mons p) (take i m.pairs) || t)
      (or-none (is_reason m.mons p (slice_index_or m.pairs i no_pair))))

  -- rows of other devices, passed over
  pass : (i k : ℕ) {s : List ℕ} {a : Bool} → i + k ≤ length m.pairs
      → ((j : ℕ) → i ≤ j → j < i + k → Other p (slice_index_or m.pairs j no_pair))
      → (a ≡ some_of (is_reason m.mons p) (take i m.pairs)) × (s ≡ padded (halfway m p i))
      → (a ≡ some_of (is_reason m.mons p) (take (i + k) m.pairs)) × (s ≡ padded (halfway m p (i + k)))
  pass i zero {s} {a} b x e =
      subst (λ (j : ℕ). (a ≡ some_of (is_reason m.mons p) (take j m.pairs)) × (s ≡ padded (halfway m p j)))
      (omega arith) e
  pass i (suc k) {s} {a} b x e =
      let y = pass i k (omega arith) (λ j c d. x j c (omega arith)) e in
      let z : Other p (slice_index_or m.pairs (i + k) no_pair) = x (i + k) (omega arith) (omega arith) in
      let n : i + k + 1 ≡ i + suc k = omega arith in
      subst (λ (j : ℕ). (a ≡ some_of (is_reason m.mons p) (take j m.pairs)) × (s ≡ padded (halfway m p j))) n (
        sym (or-none a)
            ∙ told-turn (i + k) (omega arith) y.1 y.0 (λ g w u v q. told-left g s (i + k) p w t (rw q z)),
        halfway-turn (i + k) (omega arith) y.1 (λ g w u v q. row-left g s (i + k) p w t (rw q z)),
      )

  -- its beginning and its end
  pub halfway-none : padded m ≡ padded (halfway m p 0)
  unfolding halfway with_lists
  halfway-none = ap (λ (x : List Pair). padded (with_lists m m.mons x)) (sym (put-nil m.pairs 0))

  pub halfway-all : (i : ℕ) → length m.pairs ≤ i
      → padded (halfway m p i) ≡ padded (with_lists m m.mons (map (packet_move m.mons p) m.pairs))
  unfolding halfway
  halfway-all i h =
      ap (λ (x : List Pair). padded (with_lists m m.mons (put m.pairs 0 (map (packet_move m.mons p) x))))
      (take_all i m.pairs h)
      ∙ ap (λ (x : List Pair). padded (with_lists m m.mons x))
      (put_whole m.pairs (map (packet_move m.mons p) m.pairs) (sym (length-map m.pairs (packet_move
      m.mons p))))

  pub moves-begin : (from : ℕ) {s : List ℕ} → from ≤ length m.pairs → NoneBelow m.pairs p from → s ≡ padded m
      → (false ≡ some_of (is_reason m.mons p) (take from m.pairs)) × (s ≡ padded (halfway m p from))
  unfolding some_of
  moves-begin from {s} b x e =
      let n : 0 + from ≡ from = omega arith in
      subst (λ (j : ℕ). (false ≡ some_of (is_reason m.mons p) (take j m.pairs)) × (s ≡ padded (halfway m p j))) n
      (pass 0 from (omega arith) (λ j c d. x j (omega arith)) (refl, e ∙ halfway-none))

  pub moves-end : (to : ℕ) {s : List ℕ} {a : Bool} → to ≤ length m.pairs → NoneFrom m.pairs p to
      → (a ≡ some_of (is_reason m.mons p) (take to m.pairs)) × (s ≡ padded (halfway m p to))
      → (a ≡ some_of (is_reason m.mons p) m.pairs)
      × (s ≡ padded (with_lists m m.mons (map (packet_move m.mons p) m.pairs)))
  moves-end to {s} {a} b x e =
      let n : ℕ = to + (length m.pairs - to) in
      let y = pass to (length m.pairs - to) (omega arith) (λ j c d. x j c (omega arith)) e in (
        y.0 ∙ ap (some_of (is_reason m.mons p)) (take_all n m.pairs (omega arith)),
        y.1 ∙ halfway-all n (omega arith),
      )

  -- the state with every pair moved has rows with room
  pub all-measured : Measured (with_lists m m.mons (map (packet_move m.mons p) m.pairs))
  all-measured =
      let k : length (map (packet_move m.mons p) m.pairs) ≡ length m.pairs =
      length-map m.pairs (packet_move m.mons p) in
      measured-pairs m f (map (packet_move m.mons p) m.pairs)
      (subst (λ (x : List Pair). All Fits (map (packet_move m.mons p) x)) (take_all (length m.pairs) m.pairs
      (omega arith))
      (moved_all m.mons p (length m.pairs) m.pairs t f.fit r))
      (omega (arith, f.pairs-most))
