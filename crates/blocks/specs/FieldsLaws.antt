-- Laws of the definitions in Fields.
use Prim.Native.Nat.{ℕ, ◌+◌, ◌-◌, ◌≤◌}
use Rattle.std.specs.Prelude.{◌≡◌, false, take, replicate}
use Rattle.std.proofs.Math.Path.{refl}
use Rattle.std.proofs.Common.{sym, ap, ◌∙◌, arith, length-append, drop_of_length-le}
use mathlib.Core.List.{List, [], ◌∷◌, ◌++◌, append_assoc, append-nil}
use Rattle.std.proofs.Math.ListN.{length}
use Rattle.std.proofs.lemmas.List.{length-replicate, replicate-append-replicate}
use Rattle.laws.specs.Tests.{pick}
use Rattle.laws.specs.Loops.{when}
use Rattle.laws.specs.Put.{put}
use Rattle.laws.specs.PutLaws.{put-left, put_right}
use Rattle.octets.specs.Little.{octets_of}
use Rattle.octets.specs.LittleLaws.{length-octets}
use Rattle.model.specs.Types.{Packet, Pair}
use Rattle.model.specs.Level.{add_rssi}
use Rattle.model.specs.Image.{pair_row}
use Rattle.model.specs.Watch.{with_since_good, with_ticks, with_kept, with_latest, gathered, emptied, start_like}
use Rattle.model.specs.Block.{pad_to}
use Rattle.blocks.specs.RowsLaws.{length-pair_row}
use Rattle.model.specs.Layout.{counts_size, data_at, data_room, event_at, latest_size, most_data, packets_at, pair_size, rssi_at, since_good_at, spare_size, ticks_at, times_size, window_size}
use Rattle.blocks.specs.Fields.{latest_of, window_in, window_of}

-- a pair's key, its latest packet, its window from the packets on, and all that follows the key, with zeros behind
-- the data up to a room
abbrev pub key_of : Pair → List ℕ
key_of q = q.handle ∷ q.address_type ∷ q.address

abbrev pub times_in : ℕ → Pair → List ℕ
times_in room q =
    octets_of 2 q.since_good ++ (q.ticks ∷ window_in room q.packets q.sum q.kept q.event q.adv)

abbrev pub times_of : Pair → List ℕ
times_of q = times_in data_room q

pub place-split : (q : Pair) → length q.address ≡ 6 → pad_to pair_size (pair_row q) ≡ key_of q ++ times_of q
unfolding pad_to pair_row octets_of
place-split q h =
    let n : length (pair_row q) ≡ data_at + length q.adv = length-pair_row q h in
    let e : pair_size - length (pair_row q) ≡ data_room - length q.adv = omega arith in
    ap (λ (k : ℕ). pair_row q ++ replicate k 0) e
    ∙ ap (λ (l : List ℕ). q.handle ∷ q.address_type ∷ l)
    (append_assoc q.address _ (replicate (data_room - length q.adv) 0))

-- the octets that no field has
spare : List ℕ
spare = replicate spare_size 0

times-split : (q : Pair) → length q.adv ≤ most_data → times_of q ≡ times_in most_data q ++ spare
unfolding octets_of spare
times-split q l =
    let e : data_room - length q.adv ≡ most_data - length q.adv + spare_size = omega arith in
    ap (λ (x : List ℕ). octets_of 2 q.since_good ++ (q.ticks ∷ (octets_of 4 q.packets ++ (octets_of 8 q.sum
    ++ (q.kept ∷ q.event ∷ length q.adv ∷ x)))))
    (ap (λ (k : ℕ). q.adv ++ replicate k 0) e
    ∙ ap (λ (z : List ℕ). q.adv ++ z) (sym (replicate-append-replicate (most_data - length q.adv) spare_size 0))
    ∙ sym (append_assoc q.adv (replicate (most_data - length q.adv) 0) (replicate spare_size 0)))

-- a write behind the key
put-times : (q p : Pair) → length q.address ≡ 6 → length p.address ≡ 6 → key_of q ≡ key_of p
    → (i : ℕ) (ys : List ℕ)
    → put (times_of q) i ys ≡ times_of p → put (pad_to pair_size (pair_row q)) (8 + i) ys ≡ pad_to pair_size (pair_row p)
put-times q p h g k i ys e =
    let z : 8 + i ≡ length (key_of q) + i = omega arith in
    ap (λ (l : List ℕ). put l (8 + i) ys) (place-split q h)
    ∙ ap (λ (j : ℕ). put (key_of q ++ times_of q) j ys) z
    ∙ put_right (key_of q) (times_of q) i ys
    ∙ ap (λ (l : List ℕ). key_of q ++ l) e
    ∙ ap (λ (l : List ℕ). l ++ times_of p) k
    ∙ sym (place-split p g)

pub length-window : (packets sum kept event : ℕ) (adv : List ℕ) → length adv ≤ most_data
    → length (window_of packets sum kept event adv) ≡ window_size
length-window packets sum kept event adv h = simp (length-append, length-octets, length-replicate) (omega arith)

pub length-latest : (event : ℕ) (adv : List ℕ) → length adv ≤ most_data → length (latest_of event adv) ≡ latest_size
length-latest event adv h = simp (length-append, length-replicate) (omega arith)

length-times : (q : Pair) → length q.adv ≤ most_data → length (times_in most_data q) ≡ times_size
length-times q h = simp (length-append, length-octets, length-replicate) (omega arith)

-- a write up to the end
put-end : (xs : List ℕ) (at : ℕ) (ys : List ℕ) → length xs ≤ at + length ys → put xs at ys ≡ take at xs ++ ys
unfolding put
put-end xs at ys h = rw (drop_of_length-le xs {i = at + length ys} h) (append-nil (take at xs ++ ys))

-- a write from a field to the end of the data
put_last : (q p : Pair) → length q.adv ≤ most_data → length p.adv ≤ most_data → (i : ℕ) (ys : List ℕ)
    → i + length ys ≡ times_size
    → take i (times_in most_data q) ++ ys ≡ times_in most_data p → put (times_of q) i ys ≡ times_of p
put_last q p l k i ys b e =
    let n : length (times_in most_data q) ≡ times_size = length-times q l in
    ap (λ (x : List ℕ). put x i ys) (times-split q l)
    ∙ put-left (times_in most_data q) spare i ys (omega arith)
    ∙ ap (λ (x : List ℕ). x ++ spare) (put-end (times_in most_data q) i ys (omega arith) ∙ e)
    ∙ sym (times-split p k)

module _ (q : Pair) (h : length q.address ≡ 6) where
  -- the ticks since a good packet, the ticks in the window
  pub put-silent : (n : ℕ)
      → put (pad_to pair_size (pair_row q)) since_good_at (octets_of 2 n) ≡ pad_to pair_size (pair_row (with_since_good q n))
  unfolding put octets_of with_since_good
  put-silent n = put-times q (with_since_good q n) h h refl 0 (octets_of 2 n) refl

  pub put-ticks : (n : ℕ) → put (pad_to pair_size (pair_row q)) ticks_at (n ∷ []) ≡ pad_to pair_size
      (pair_row (with_ticks q n))
  unfolding put octets_of with_ticks
  put-ticks n = put-times q (with_ticks q n) h h refl 2 (n ∷ []) refl

  -- the kept RSSI
  pub put-kept : (o : ℕ) → put (pad_to pair_size (pair_row q)) rssi_at (o ∷ []) ≡ pad_to pair_size (pair_row (with_kept q o))
  unfolding put octets_of with_kept
  put-kept o = put-times q (with_kept q o) h h refl 15 (o ∷ []) refl

  -- the window from the packets on: one packet more
  pub put-gathered : (p : Packet) → length q.adv ≤ most_data → length p.adv ≤ most_data
      → put (pad_to pair_size (pair_row q)) packets_at
      (window_of (q.packets + 1) (add_rssi q.sum p.rssi) p.rssi p.event p.adv)
      ≡ pad_to pair_size (pair_row (gathered p q))
  unfolding gathered octets_of
  put-gathered p l k =
      let w : List ℕ = window_of (q.packets + 1) (add_rssi q.sum p.rssi) p.rssi p.event p.adv in
      let a : length w ≡ window_size =
      length-window (q.packets + 1) (add_rssi q.sum p.rssi) p.rssi p.event p.adv k in
      put-times q (gathered p q) h h refl 3 w (put_last q (gathered p q) l k 3 w (omega arith) refl)

  -- the packet kept for duplicates
  pub put-latest : (event : ℕ) (adv : List ℕ) → length q.adv ≤ most_data → length adv ≤ most_data
      → put (pad_to pair_size (pair_row q)) event_at (latest_of event adv)
      ≡ pad_to pair_size (pair_row (with_latest event adv q))
  unfolding with_latest octets_of
  put-latest event adv l k =
      let w : List ℕ = latest_of event adv in
      let a : length w ≡ latest_size = length-latest event adv k in
      put-times q (with_latest event adv q) h h refl 16 w
      (put_last q (with_latest event adv q) l k 16 w (omega arith) refl)

-- a pair whose window has no ticks, packets and sum, and the latest packet still
uncounted : Pair → Pair
uncounted q =
    record {
      handle = q.handle;
      address_type = q.address_type;
      address = q.address;
      since_good = q.since_good;
      ticks = 0;
      packets = 0;
      sum = 0;
      kept = q.kept;
      event = q.event;
      adv = q.adv;
    }

-- an empty window: what is before the kept RSSI, and what is behind it
module _ (q : Pair) (h : length q.address ≡ 6) where
  put-uncounted : put (pad_to pair_size (pair_row q)) ticks_at (replicate counts_size 0)
      ≡ pad_to pair_size (pair_row (uncounted q))
  unfolding put octets_of uncounted
  put-uncounted = put-times q (uncounted q) h h refl 2 (replicate counts_size 0) refl

  put-forgotten : length q.adv ≤ most_data
      → put (pad_to pair_size (pair_row (uncounted q))) event_at (replicate latest_size 0)
      ≡ pad_to pair_size (pair_row (emptied q))
  unfolding emptied octets_of uncounted
  put-forgotten l =
      put-times (uncounted q) (emptied q) h h refl 16 (replicate latest_size 0)
      (put_last (uncounted q) (emptied q) l (omega arith) 16 (replicate latest_size 0) (omega arith) refl)

  pub put-emptied : length q.adv ≤ most_data
      → put (put (pad_to pair_size (pair_row q)) ticks_at (replicate counts_size 0)) event_at (replicate latest_size 0)
      ≡ pad_to pair_size (pair_row (emptied q))
  put-emptied l = ap (λ (x : List ℕ). put x event_at (replicate latest_size 0)) put-uncounted ∙ put-forgotten l

-- a pair at its start, of a monitor that does not filter duplicates: its key over an empty row, and its RSSI
put-key : (n : ℕ) (p : Packet) → length p.address ≡ 6
    → put (replicate pair_size 0) 0 (n ∷ p.address_type ∷ p.address)
    ≡ pad_to pair_size (pair_row (with_kept (start_like false false n p) 0))
unfolding put start_like with_kept octets_of pick when
put-key n p h = rw h (sym (place-split (with_kept (start_like false false n p) 0) h))

pub put-start : (n : ℕ) (p : Packet) → length p.address ≡ 6
    → put (put (replicate pair_size 0) 0 (n ∷ p.address_type ∷ p.address)) rssi_at (p.rssi ∷ [])
    ≡ pad_to pair_size (pair_row (start_like false false n p))
unfolding start_like with_kept
put-start n p h =
    ap (λ (x : List ℕ). put x rssi_at (p.rssi ∷ [])) (put-key n p h)
    ∙ put-kept (with_kept (start_like false false n p) 0) h p.rssi
