-- Laws of the definitions in PairRows.
use Rattle.std.specs.Prelude.{◌≡◌, ℕ, suc, ◌+◌, ◌-◌, ◌*◌, ◌<◌, ◌≤◌, Bool, true, false, List, [], ◌∷◌, ◌++◌, map, length, get_or, take, drop, set, replicate, nat_le, slice_index, slice_index_or, slice_set, refl, Option as Perhaps, Some, None}
use Rattle.std.proofs.Common.{sym, ap, ap₂, ◌∙◌, append_assoc, append-nil, arith, length-append, length-drop, length-set, length-take, length-take-le, take_all}
use Rattle.std.proofs.Math.Option.{Option}
use Rattle.laws.specs.Tests.{pick}
use Rattle.laws.specs.LoopsLaws.{map-take}
use Rattle.laws.specs.Put.{put, put_if}
use Rattle.laws.specs.PutLaws.{length-put, put-nil, put_of, put-push, put_then, set-put}
use Rattle.laws.specs.Rows.{flat}
use Rattle.laws.specs.RowsLaws.{flat_append}
use Rattle.octets.specs.Little.{octets_of}
use Rattle.octets.specs.LittleLaws.{length-octets}
use Rattle.rule.specs.Base.{All}
use Rattle.marks.proofs.FieldsLaws.{packet-framed}
use Rattle.model.specs.Types.{Packet, device_of, device}
use Rattle.model.specs.Types
use Rattle.model.specs.Frames.{packet_of}
use Rattle.model.specs.Monitors.{sifts}
use Rattle.model.specs.Image.{pair_row}
use Rattle.model.specs.Block.{pad_to}
use Rattle.model.specs.Layout.{block_size, data_at, event_at, address_type_at, length_at, most_data, most_pairs, packets_at, pair_size, pairs_at, rssi_at, since_good_at, sum_at, ticks_at}
use Rattle.prefixes.specs.ForceLaws.{zeros-behind}
use Rattle.pasts.specs.Pair.{adv_of, event_or, kept_in, kept_packet, last_reason, matching_packets, newest, pair_of, silent_in, window, window_ticks}
use Rattle.twin.specs.declared.watch.Begun.{Begun}
use Rattle.twin.specs.declared.watch.Seen.{Seen}
use Rattle.twin.specs.Table.{after, payload_at}
use Rattle.twin.specs.Hears.{Start, start_of}
use Rattle.twin.specs.HearsLaws.{device-read}
use Rattle.twin.specs.Numbered.{Sent, Tells, mon_at, numbered, packet_at}
use Rattle.twin.specs.ReasonsLaws.{first-number}
use Rattle.commands.specs.StoredLaws.{put-made}
use Rattle.twin.specs.Silent.{Looks}
use Rattle.twin.specs.Seen.{Frames, Held, Marked, begun_at, list_of, no_begun}
use Rattle.twin.specs.StartsLaws.{all-at, list_at, list_length}
use Rattle.twin.specs.MarksLaws.{looks-at, marked-looks}
use Rattle.twin.specs.PairRows.{pair_at, place_of, rows_of, numbers_of, latest_by}

-- the numbers written one after another
numbers-put : (s : List ℕ) (x y p m r : ℕ) {a b c : List ℕ} → length s ≡ pair_size
    → a ≡ put s since_good_at (octets_of 2 x)
    → b ≡ put (slice_set a ticks_at y) packets_at (octets_of 4 p)
    → c ≡ put b sum_at (octets_of 8 m)
    → slice_set c rssi_at r ≡ put s since_good_at (octets_of 2 x ++ (y ∷ (octets_of 4 p ++ (octets_of 8 m ++ (r ∷ [])))))
numbers-put s x y p m r {a} {b} {c} n ea eb ec =
    let o2 : List ℕ = octets_of 2 x in
    let o4 : List ℕ = octets_of 4 p in
    let o8 : List ℕ = octets_of 8 m in
    let l2 : length o2 ≡ 2 = length-octets 2 x in
    let l4 : length o4 ≡ 4 = length-octets 4 p in
    let l8 : length o8 ≡ 8 = length-octets 8 m in
    let w1 : set a ticks_at y ≡ put s since_good_at (o2 ++ (y ∷ [])) =
    put-push s since_good_at o2 y (omega arith) (omega arith) ea in
    let k1 : length (o2 ++ (y ∷ [])) ≡ 3 = length-append o2 (y ∷ []) ∙ omega arith in
    let w2 : b ≡ put s since_good_at (o2 ++ (y ∷ []) ++ o4) =
    put_then s since_good_at (o2 ++ (y ∷ [])) packets_at o4 (omega arith) w1 (omega arith) eb refl in
    let k2 : length (o2 ++ (y ∷ []) ++ o4) ≡ 7 = length-append (o2 ++ (y ∷ [])) o4 ∙ omega arith in
    let w3 : c ≡ put s since_good_at (o2 ++ (y ∷ []) ++ o4 ++ o8) =
    put_then s since_good_at (o2 ++ (y ∷ []) ++ o4) sum_at o8 (omega arith) w2 (omega arith) ec refl in
    let k3 : length (o2 ++ (y ∷ []) ++ o4 ++ o8) ≡ 15 = length-append (o2 ++ (y ∷ []) ++ o4) o8 ∙ omega arith in
    let w4 : set c rssi_at r ≡ put s since_good_at (o2 ++ (y ∷ []) ++ o4 ++ o8 ++ (r ∷ [])) =
    put-push s since_good_at (o2 ++ (y ∷ []) ++ o4 ++ o8) r (omega arith) (omega arith) w3 in
    let g : o2 ++ (y ∷ []) ++ o4 ++ o8 ++ (r ∷ []) ≡ o2 ++ (y ∷ (o4 ++ (o8 ++ (r ∷ [])))) = simp append_assoc in
    w4 ∙ ap (put s since_good_at) g

pub numbers-written : (t : List ℕ) (n a k : ℕ) (s : List ℕ) {x y p m : ℕ} {l : Perhaps ℕ} {r : ℕ} {u v w : List ℕ}
    {f g e : Bool} → length s ≡ pair_size → Tells t a k n p m l
    → ((h : ℕ) → x ≡ silent_in (start_of t h a k) (after t k (n - k)))
    → ((h : ℕ) → y ≡ window_ticks (start_of t h a k) (after t k (n - k)))
    → ((h : ℕ) → r ≡ kept_in (start_of t h a k) (after t k (n - k)))
    → (f ≡ nat_le (since_good_at + 2) (length s)) × (u ≡ put_if f s since_good_at (octets_of 2 x))
    → (g ≡ nat_le (packets_at + 4) (length (slice_set u ticks_at y))) × (v ≡ put_if g (slice_set u ticks_at y) packets_at (octets_of 4 p))
    → (e ≡ nat_le (sum_at + 8) (length v)) × (w ≡ put_if e v sum_at (octets_of 8 m)) → (h : ℕ)
    → slice_set w rssi_at r ≡ put s since_good_at (numbers_of (pair_at t n h a k))
unfolding numbers_of pair_at pair_of
numbers-written t n a k s {x} {y} {p} {m} {l} {r} {u} {v} {w} z tells ex ey er eu ev ew h =
    let b2 : u ≡ put s since_good_at (octets_of 2 x) =
    put_of s since_good_at (octets_of 2 x) 2 (length s) eu.0 (omega arith) eu.1 in
    let l2 : length (octets_of 2 x) ≡ 2 = length-octets 2 x in
    let n2 : length u ≡ pair_size = ap length b2 ∙ length-put s since_good_at (octets_of 2 x) (omega arith) ∙ z in
    let n3 : length (slice_set u ticks_at y) ≡ pair_size = length-set u ticks_at y ∙ n2 in
    let b4 : v ≡ put (slice_set u ticks_at y) packets_at (octets_of 4 p) =
    put_of (slice_set u ticks_at y) packets_at (octets_of 4 p) 4 (length (slice_set u ticks_at y)) ev.0 (omega arith) ev.1 in
    let l4 : length (octets_of 4 p) ≡ 4 = length-octets 4 p in
    let n4 : length v ≡ pair_size =
    ap length b4 ∙ length-put (slice_set u ticks_at y) packets_at (octets_of 4 p) (omega arith) ∙ n3 in
    let b8 : w ≡ put v sum_at (octets_of 8 m) =
    put_of v sum_at (octets_of 8 m) 8 (length v) ew.0 (omega arith) ew.1 in
    numbers-put s x y p m r z b2 b4 b8
    ∙ ap (put s since_good_at) (rw (ex h, ey h, er h, tells.packets-is h, tells.sum_is h))

-- the last fields
pub latest-none : (t : List ℕ) (e : ℕ) (s : List ℕ) → length s ≡ pair_size
    → slice_set (slice_set s event_at e) length_at 0 ≡ put s event_at (latest_by e (numbered t None))
unfolding latest_by numbered event_or adv_of
latest-none t e s n = put-push s event_at (e ∷ []) 0 (omega arith) (omega arith) (set-put s event_at e (omega arith))

pub latest-some : (t : List ℕ) (r e v : ℕ) (s d : List ℕ) {u : List ℕ} {f : Bool} → length s ≡ pair_size
    → length d ≤ most_data → v ≡ (packet_at t r).event → d ≡ (packet_at t r).adv
    → (f ≡ nat_le (data_at + length d) (length (slice_set (slice_set s event_at v) length_at (length d))))
    × (u ≡ put_if f (slice_set (slice_set s event_at v) length_at (length d)) data_at d)
    → u ≡ put s event_at (latest_by e (numbered t (Some r)))
unfolding latest_by event_or adv_of
latest-some t r e v s d n b ev ed q =
    let s2 : List ℕ = set (slice_set s event_at v) length_at (length d) in
    let k : length s2 ≡ pair_size = length-set (slice_set s event_at v) length_at (length d) ∙ length-set s event_at v ∙ n in
    let w : s2 ≡ put s event_at (v ∷ length d ∷ []) =
    put-push s event_at (v ∷ []) (length d) (omega arith) (omega arith) (set-put s event_at v (omega arith)) in
    put_then s event_at (v ∷ length d ∷ []) data_at d (omega arith) w (omega arith)
    (put-made s2 data_at d (length d) q (omega arith)) refl
    ∙ ap₂ (λ (i : ℕ) (x : List ℕ). put s event_at (i ∷ length x ∷ x)) ev ed ∙ sym (rw (first-number t r))

-- the packet that they tell of
pub last-sifted : (t : List ℕ) (a k n : ℕ) (r : Perhaps ℕ) {b : Bool} → b ≡ sifts (mon_at t a) → b ≡ true
    → ((h : ℕ) → numbered t r ≡ last_reason (start_of t h a k) (matching_packets (start_of t h a k) (after t k (n - k))))
    → (h : ℕ) → numbered t r ≡ kept_packet (start_of t h a k) (after t k (n - k))
unfolding kept_packet pick start_of
last-sifted t a k n r e z w h = w h ∙ sym (rw (sym e ∙ z))

pub last-window : (t : List ℕ) (a k n : ℕ) (r : Perhaps ℕ) {b : Bool} → b ≡ sifts (mon_at t a) → b ≡ false
    → ((h : ℕ) → numbered t r ≡ newest (window (start_of t h a k) (after t k (n - k))))
    → (h : ℕ) → numbered t r ≡ kept_packet (start_of t h a k) (after t k (n - k))
unfolding kept_packet pick start_of
last-window t a k n r e z w h = w h ∙ sym (rw (sym e ∙ z))

-- the whole row
length-numbers : (q : Types.Pair) → length (numbers_of q) ≡ 16
unfolding numbers_of
length-numbers q = simp (length-append, length-octets)

lists-join : (h kind y r : ℕ) (address u v w l : List ℕ)
    → (h ∷ kind ∷ address) ++ (u ++ (y ∷ (v ++ (w ++ (r ∷ []))))) ++ l ≡ h ∷ kind
    ∷ (address ++ (u ++ (y ∷ (v ++ (w ++ (r ∷ l))))))
lists-join h kind y r address u v w l = simp append_assoc

fields_join : (t : List ℕ) (n h a k e : ℕ) (o : Option Packet) (d : List ℕ)
    → d ≡ device_of (packet_of (payload_at t (k - 1)))
    → e ≡ pick (sifts (mon_at t a)) 0xFF 0 → o ≡ kept_packet (start_of t h a k) (after t k (n - k))
    → (h ∷ d) ++ numbers_of (pair_at t n h a k) ++ latest_by e o ≡ pair_row (pair_at t n h a k)
unfolding numbers_of latest_by pair_at pair_of pair_row start_of device_of device
fields_join t n h a k e o d ed ee eo =
    let q : Types.Pair = pair_at t n h a k in
    let p : Packet = packet_of (payload_at t (k - 1)) in
    ap (λ (x : List ℕ). (h ∷ x) ++ numbers_of q ++ latest_by e o) ed
    ∙ ap₂ (λ (i : ℕ) (x : Option Packet). (h ∷ device_of p) ++ numbers_of q ++ latest_by i x) ee eo
    ∙ lists-join h p.address_type q.ticks q.kept p.address (octets_of 2 q.since_good)
    (octets_of 4 q.packets)
    (octets_of 8 q.sum) (q.event ∷ length q.adv ∷ q.adv)

pub row_written : (t : List ℕ) (n h a k e : ℕ) (r : Perhaps ℕ) {p x y z : List ℕ} {f : Bool} → Start t a k → p ≡ payload_at t (k - 1)
    → 8 ≤ length p
    → (f ≡ nat_le (address_type_at + length (take 7 (drop 1 p))) (length (slice_set (replicate pair_size 0) 0 h)))
    × (x ≡ put_if f (slice_set (replicate pair_size 0) 0 h) address_type_at (take 7 (drop 1 p)))
    → y ≡ put x since_good_at (numbers_of (pair_at t n h a k)) → e ≡ pick (sifts (mon_at t a)) 0xFF 0
    → numbered t r ≡ kept_packet (start_of t h a k) (after t k (n - k))
    → z ≡ put y event_at (latest_by e (numbered t r)) → z ≡ place_of (pair_at t n h a k)
unfolding pad_to
row_written t n h a k e r {p} {x} {y} {z} s ep l ex ey ee er ez =
    let s0 : List ℕ = replicate pair_size 0 in
    let d : List ℕ = take 7 (drop 1 p) in
    let q : Types.Pair = pair_at t n h a k in
    let w : length (drop 1 p) ≡ length p - 1 = length-drop 1 p in
    let v : length d ≡ 7 = length-take-le 7 (drop 1 p) (omega arith) in
    let b0 : set s0 0 h ≡ put s0 0 (h ∷ []) = set-put s0 0 h (omega arith) in
    let b1 : x ≡ put s0 0 (h ∷ d) =
    put_then s0 0 (h ∷ []) address_type_at d (omega arith) b0 (omega arith)
    (put-made (slice_set s0 0 h) address_type_at d (length d) ex (omega arith))
    refl in
    let b2 : y ≡ put s0 0 ((h ∷ d) ++ numbers_of q) =
    put_then s0 0 (h ∷ d) since_good_at (numbers_of q) (omega arith) b1 (omega arith) ey refl in
    let c2 : length ((h ∷ d) ++ numbers_of q) ≡ event_at =
    length-append (h ∷ d) (numbers_of q) ∙ ap (λ (i : ℕ). suc (length d) + i) (length-numbers q) ∙ omega arith in
    let b3 : z ≡ put s0 0 ((h ∷ d) ++ numbers_of q ++ latest_by e (numbered t r)) =
    put_then s0 0 ((h ∷ d) ++ numbers_of q) event_at (latest_by e (numbered t r)) (omega arith) b2
    (omega arith) ez refl in
    let g : d ≡ device_of (packet_of (payload_at t (k - 1))) =
    device-read p l ∙ ap (λ (i : List ℕ). device_of (packet_of i)) ep in
    b3 ∙ ap (put s0 0) (fields_join t n h a k e (numbered t r) d g ee er) ∙ zeros-behind pair_size (pair_row q)

-- a packet's data is 31 octets at most
pub data-short : (t : List ℕ) (r : ℕ) (d : List ℕ) → Sent t r → d ≡ (packet_at t r).adv → length d ≤ most_data
unfolding packet_of
data-short t r d s e =
    let l : List ℕ = payload_at t (r - 1) in
    let f : get_or l 8 0 ≤ most_data = (packet-framed l s.sends.form).1 in
    let k : length (take (slice_index l 8) (drop 9 l)) ≤ get_or l 8 0 = simp length-take (omega arith) in
    rw e (omega arith)

-- the frames behind the start at an index
pub looks-of : (t : List ℕ) (n : ℕ) (s : Seen) (j : ℕ) {a k : ℕ} → Frames t n → Held s → All (Marked t n) (list_of s)
    → j < s.count → a ≡ (begun_at s j).monitor → k ≡ (begun_at s j).packet → Looks t a k n
looks-of t n s j {a} {k} f v m l ea ek =
    looks-at t n a k (begun_at s j) ea ek (marked-looks t n (begun_at s j) f (all-at s v (Marked t n) j m l))

-- the table of pairs, row by row
pub record Rowed (t : List ℕ) (n : ℕ) (q : Seen) (s : List ℕ) (j : ℕ) (b : List ℕ) : Type 0 where
  pub most : j ≤ q.count
  pub long : length b ≡ length s
  pub size : length (rows_of t n (take j (list_of q))) ≡ pair_size * j
  pub is : b ≡ put s pairs_at (rows_of t n (take j (list_of q)))

pub rowed-none : (t : List ℕ) (n : ℕ) (q : Seen) (s : List ℕ) → Rowed t n q s 0 s
unfolding rows_of flat
rowed-none t n q s = record { most = omega arith; long = refl; size = refl; is = sym (put-nil s pairs_at) }

rows_more : (t : List ℕ) (n : ℕ) (l : List Begun) (j : ℕ) → j < length l
    → rows_of t n (take (j + 1) l)
    ≡ rows_of t n (take j l)
    ++ place_of (pair_at t n (get_or l j no_begun).handle (get_or l j no_begun).monitor (get_or l j no_begun).packet)
unfolding rows_of flat
rows_more t n l j h =
    let f : Begun → List ℕ = λ (b : Begun). place_of (pair_at t n b.handle b.monitor b.packet) in
    ap flat (map-take f l j no_begun h) ∙ flat_append (map f (take j l)) (f (slice_index_or l j no_begun) ∷ [])
    ∙ ap (λ (x : List ℕ). flat (map f (take j l)) ++ x) (append-nil (f (slice_index_or l j no_begun)))

pub rowed-more : (t : List ℕ) (n : ℕ) (q : Seen) (s : List ℕ) (j h a k : ℕ) (b r : List ℕ) {c : List ℕ} {f : Bool}
    → block_size ≤ length s → Held q → j < q.count
    → Rowed t n q s j b → h ≡ (begun_at q j).handle → a ≡ (begun_at q j).monitor → k ≡ (begun_at q j).packet
    → r ≡ place_of (pair_at t n h a k) → length r ≡ pair_size
    → (f ≡ nat_le (pairs_at + pair_size * j + length r) (length b)) × (c ≡ put_if f b (pairs_at + pair_size * j) r)
    → Rowed t n q s (j + 1) c
rowed-more t n q s j h a k b r {c} m v l p eh ea ek er z w =
    let o : Begun = get_or (list_of q) j no_begun in
    let x : List ℕ = rows_of t n (take j (list_of q)) in
    let u : length b ≡ length s = p.long in
    let d : length (list_of q) ≡ q.count = list_length q v in
    let few : q.count ≤ most_pairs = v.few in
    let y : length x ≡ pair_size * j = p.size in
    let e : c ≡ put b (pairs_at + pair_size * j) r =
    put-made b (pairs_at + pair_size * j) r (length r) w (omega arith) in
    let i : begun_at q j ≡ o = sym (list_at q v j l) in
    let g : r ≡ place_of (pair_at t n o.handle o.monitor o.packet) =
    er ∙ rw (eh, ea, ek) (ap (λ (d : Begun). place_of (pair_at t n d.handle d.monitor d.packet)) i) in
    let more : rows_of t n (take (j + 1) (list_of q)) ≡ x ++ r =
    rows_more t n (list_of q) j (omega arith) ∙ ap (λ (y : List ℕ). x ++ y) (sym g) in
    record {
      most = omega arith;
      long = ap length e ∙ length-put b (pairs_at + pair_size * j) r (omega arith) ∙ u;
      size = ap length more ∙ length-append x r ∙ omega arith;
      is = put_then s pairs_at x (pairs_at + pair_size * j) r (omega arith) p.is (omega arith) e (sym more);
    }

pub rowed-all : (t : List ℕ) (n : ℕ) (q : Seen) (s : List ℕ) (j : ℕ) (b : List ℕ) → Held q → q.count ≤ j
    → Rowed t n q s j b
    → (b ≡ put s pairs_at (rows_of t n (list_of q))) × (length (rows_of t n (list_of q)) ≡ pair_size * q.count)
rowed-all t n q s j b v l p =
    let m : j ≤ q.count = p.most in
    let e : j ≡ q.count = omega arith in
    let d : length (list_of q) ≡ q.count = list_length q v in
    let a : take j (list_of q) ≡ list_of q = take_all j (list_of q) (omega arith) in (
      p.is ∙ ap (λ (y : List Begun). put s pairs_at (rows_of t n y)) a,
      ap (λ (y : List Begun). length (rows_of t n y))
          (sym a) ∙ p.size ∙ ap (λ (i : ℕ). pair_size * i) e,
    )
