-- Laws of the definitions in Frames.
use Rattle.std.specs.Prelude.{◌≡◌, ℕ, zero, suc, ◌+◌, ◌-◌, ◌*◌, ◌/◌, ◌^◌, ◌<◌, ◌≤◌, min, Bool, true, false, ◌&&◌, ◌||◌, List, [], ◌∷◌, Option, None, Some, ◌++◌, map, length, get_or, take, drop, replicate, ◌==◌, nat_eq, nat_le, slice_index, slice_index_or, slice_set, refl}
use Rattle.std.proofs.Math.Path.{sym, ap}
use Rattle.std.proofs.Common.{◌∙◌, drop-cons, take_all, length-take-le}
use native.Mathlib.Omega.{arith}
use borrow.Author.Tests.{lt-ltb, le-ltb, leb-true}
use Rattle.std.proofs.Math.ListN.{length-drop}
use Rattle.std.proofs.lemmas.List.{length-map, length-replicate}
use Rattle.std.proofs.Math.Seq.{get_or-drop}
use Rattle.laws.specs.Put.{put}
use Rattle.laws.specs.PutLaws.{put-push}
use Rattle.laws.specs.Rows.{row, rows}
use Rattle.laws.specs.RowsLaws.{length-rows, row_at, get_d-row, length-row}
use Rattle.laws.specs.LoopsLaws.{map-append, map-take}
use Rattle.laws.specs.Tests.{pick}
use Rattle.laws.specs.TestsLaws.{pick_true, pick-false, and_left, cases-le}
use Rattle.octets.specs.Little.{little, value}
use Rattle.octets.specs.LittleLaws.{little-add, little-value, little-drop, little-row}
use Rattle.octets.specs.Numbers.{number_at, at_most}
use Rattle.octets.specs.NumbersLaws.{number-of, at-is, at-over}
use Rattle.sessions.specs.Machine.{last_number}
use Rattle.model.specs.Types.{Pair, device, device_of, watched}
use Rattle.model.specs.Level.{level}
use Rattle.model.specs.Frames.{frame_of, packet_of}
use Rattle.model.specs.Commands.{sub_of}
use Rattle.model.specs.Image.{pair_in}
use Rattle.model.specs.Block.{model_of, pair_table}
use Rattle.model.specs.Layout.{block_size, count_at, most_pairs, pair_size, pairs_at}
use Rattle.statuses.specs.AnswersLaws.{octet-at}
use Rattle.visit.specs.declared.Visit.{Visit}
use Rattle.visit.specs.declared.Range.{Range}
use Rattle.visit.specs.declared.End.TheVariants.{Silence, Full}
use Rattle.visit.specs.Book.{devices, begun_at, heard_in}
use Rattle.visit.specs.Frames.{kind_of, payload_of, is_tick, is_packet, ticks_with, tick_of, end_of, parameters_of, handle_of, status_of, cancels, least_key, most_key, cancelled_in, heard_of, key_of, visit_of, begun_in}

-- a frame's kind as it is read
pub kind-read : (frame : List ℕ) (k : ℕ) {c : ℕ} → c ≡ number_at 1 frame 0 → (c == k) ≡ (kind_of frame == k)
unfolding kind_of frame_of
kind-read frame k e = ap (λ (x : ℕ). nat_eq x k) (octet-at frame 0 e)

-- the ticks up to a frame, and how a visit ends at it
module _ (frame : List ℕ) (b : Bool) (e : b ≡ (kind_of frame == 3)) where
  pub ticks-more : (ticks : ℕ) → b ≡ true → ticks < 4294967295 → ticks + 1 ≡ ticks_with ticks frame
  unfolding ticks_with is_tick last_number
  ticks-more ticks t h =
      let m : ticks + 1 ≡ min (ticks + 1) 4294967295 = omega arith in
      m ∙ sym (pick_true (min (ticks + 1) 4294967295) ticks (sym e ∙ t))

  pub ticks-most : (ticks : ℕ) → b ≡ true → 4294967295 ≤ ticks → ticks ≤ 4294967295 → ticks ≡ ticks_with ticks frame
  unfolding ticks_with is_tick last_number
  ticks-most ticks t h k =
      let m : ticks ≡ min (ticks + 1) 4294967295 = omega arith in
      m ∙ sym (pick_true (min (ticks + 1) 4294967295) ticks (sym e ∙ t))

  pub ticks-same : (ticks : ℕ) → b ≡ false → ticks ≡ ticks_with ticks frame
  unfolding ticks_with is_tick
  ticks-same ticks t = sym (pick-false (min (ticks + 1) last_number) ticks (sym e ∙ t))

  pub end-silence : b ≡ true → Silence ≡ end_of frame
  unfolding end_of is_tick
  end-silence t = sym (pick_true Silence Full (sym e ∙ t))

  pub end-full : b ≡ false → Full ≡ end_of frame
  unfolding end_of is_tick
  end-full t = sym (pick-false Silence Full (sym e ∙ t))

pub tick-none : (ticks : ℕ) → ticks ≡ 0 → 0 ≡ tick_of ticks
unfolding tick_of
tick-none ticks e = omega arith

pub tick-some : (ticks : ℕ) → ticks - 1 ≡ tick_of ticks
unfolding tick_of
tick-some ticks = refl

-- a command's parameters as they are read
parameter-at : (frame : List ℕ) (i : ℕ) {c : ℕ} → c ≡ number_at 1 frame (5 + (3 + i))
    → c ≡ slice_index (parameters_of frame) i
unfolding parameters_of payload_of frame_of
parameter-at frame i e =
    octet-at frame (5 + (3 + i)) e ∙ sym (get_or-drop 3 (drop 5 frame) i 0 ∙ get_or-drop 5 frame (3 + i) 0)

abbrev pub range_in : ℕ → ℕ → Range
range_in low high = record { low = low; high = high }

-- the keys of a monitor's visits
pub keys-read : (frame : List ℕ) (h : ℕ) → h ≡ number_at 1 frame 9
    → (h * devices ≡ least_key (handle_of frame)) × (h * devices + (devices - 1) ≡ most_key (handle_of frame))
unfolding least_key most_key handle_of
keys-read frame h q =
    let e : h ≡ slice_index (parameters_of frame) 1 = parameter-at frame 1 q in
    (ap (λ (x : ℕ). x * devices) e, ap (λ (x : ℕ). x * devices + (devices - 1)) e)

module _ (frame answer : List ℕ) (b : Bool) (sub status : ℕ) (e : b ≡ (kind_of frame == 1))
    (s : sub ≡ number_at 1 frame 8) (t : status ≡ number_at 1 answer 5) where
  pub cancels-read : (b && (sub == 4 && status == 0)) ≡ cancels frame answer
  unfolding cancels status_of sub_of
  cancels-read = rw (e, parameter-at frame 0 s, octet-at answer 5 t)

  pub cancel-none : (b && (sub == 4 && status == 0)) ≡ false → None ≡ cancelled_in frame answer
  unfolding cancelled_in
  cancel-none k = sym (pick-false _ None (sym cancels-read ∙ k))

  pub cancel-keys : (r : Range) → (b && (sub == 4 && status == 0)) ≡ true → r.low ≡ least_key (handle_of frame)
      → r.high ≡ most_key (handle_of frame) → Some r ≡ cancelled_in frame answer
  unfolding cancelled_in
  cancel-keys r k p q =
      let e : range_in r.low r.high ≡ range_in (least_key (handle_of frame)) (most_key (handle_of frame)) = rw (p, q) in
      ap Some e ∙ sym (pick_true _ None (sym cancels-read ∙ k))

  pub cancel-some : (h : ℕ) → (b && (sub == 4 && status == 0)) ≡ true → h ≡ number_at 1 frame 9
      → Some (range_in (h * devices) (h * devices + (devices - 1))) ≡ cancelled_in frame answer
  unfolding cancelled_in least_key most_key handle_of
  cancel-some h k q =
      ap (λ (x : ℕ). Some (range_in (x * devices) (x * devices + (devices - 1)))) (parameter-at frame 1 q)
      ∙ sym (pick_true _ None (sym cancels-read ∙ k))

-- a packet's frame
module _ (frame : List ℕ) (a b : Bool) (p : a ≡ (kind_of frame == 2)) (q : b ≡ (kind_of frame == 4)) where
  pub packet-read : ((nat_le 15 (length frame) && (a || b)) ≡ is_packet frame)
      × ((nat_le 15 (length frame) && (a || b)) ≡ true → 15 ≤ length frame)
  unfolding is_packet
  packet-read = (
    rw (p, q),
    λ t. leb-true 15 (length frame) (and_left (nat_le 15 (length frame)) (a || b) t),
  )

-- a device's number, read in three parts
pub seven-read : (l : List ℕ) (at : ℕ) {x y z : ℕ} → at + 7 ≤ length l → x ≡ number_at 4 l at
    → y ≡ number_at 2 l (at + 4) → z ≡ number_at 1 l (at + 6)
    → x + 4294967296 * (y + 65536 * z) ≡ little 7 l at
seven-read l at {x} {y} {z} h p q r =
    let a : x ≡ little 4 l at = number-of 4 l at p (omega arith) in
    let b : y ≡ little 2 l (at + 4) = number-of 2 l (at + 4) q (omega arith) in
    let c : z ≡ little 1 l (at + 6) = number-of 1 l (at + 6) r (omega arith) in
    let s : little 7 l at ≡ little 4 l at + 256 ^ 4 * little 3 l (at + 4) = little-add 4 3 l at in
    let t : little 3 l (at + 4) ≡ little 2 l (at + 4) + 256 ^ 2 * little 1 l (at + 4 + 2) = little-add 2 1 l
    (at + 4) in
    let u : at + 4 + 2 ≡ at + 6 = omega arith in
    let v : little 1 l (at + 4 + 2) ≡ little 1 l (at + 6) = ap (little 1 l) u in
    omega arith

-- .. is that of a list's octets from 1 on
seven-value : (l : List ℕ) → 8 ≤ length l → little 7 l 1 ≡ value (slice_index l 1 ∷ take 6 (drop 2 l))
seven-value l n =
    little-value 7 l 1 (omega arith) ∙ ap (λ (x : List ℕ). value (take 7 x)) (drop-cons l 1 0 (omega arith))

pub frame-device : (frame : List ℕ) {d : ℕ} → 15 ≤ length frame → d ≡ little 7 frame 6
    → d ≡ value (device_of (packet_of (payload_of frame)))
unfolding device_of device packet_of payload_of frame_of
frame-device frame h e =
    e ∙ sym (little-drop 7 5 frame 1) ∙ seven-value (drop 5 frame) (let l = length-drop 5 frame in omega arith)

frame-level : (frame : List ℕ) {o : ℕ} → 15 ≤ length frame → o ≡ number_at 1 frame (length frame - 1)
    → o ≡ (packet_of (payload_of frame)).rssi
unfolding packet_of payload_of frame_of
frame-level frame {o} h e =
    let n : length (drop 5 frame) ≡ length frame - 5 = length-drop 5 frame in
    let k : 5 + (length (drop 5 frame) - 1) ≡ length frame - 1 = omega arith in
    octet-at frame (length frame - 1) e ∙ ap (λ (i : ℕ). slice_index frame i) (sym k)
    ∙ sym (get_or-drop 5 frame (length (drop 5 frame) - 1) 0)

-- a packet heard, or another frame
module _ (frame : List ℕ) (rows : List (Option Visit)) (b : Bool) (e : b ≡ is_packet frame) where
  pub heard-packet : (d o v : ℕ) {r : List (Option Visit)} → b ≡ true → 15 ≤ length frame → d ≡ little 7 frame 6
      → o ≡ number_at 1 frame (length frame - 1) → v ≡ level o → r ≡ heard_in d v rows → r ≡ heard_of frame rows
  unfolding heard_of
  heard-packet d o v t h p q w r =
      r ∙ ap (λ (x : ℕ). heard_in x v rows) (frame-device frame h p)
      ∙ ap (λ (x : ℕ). heard_in (value (device_of (packet_of (payload_of frame)))) x rows)
      (w ∙ ap level (frame-level frame h q))
      ∙ sym (pick_true _ rows (sym e ∙ t))

  pub heard-other : b ≡ false → rows ≡ heard_of frame rows
  unfolding heard_of
  heard-other t = sym (pick-false _ rows (sym e ∙ t))

-- the key of the pair in a row of a block
module _ (s : List ℕ) (i : ℕ) (n : block_size ≤ length s) (h : i < most_pairs) where
  pub pair-key : (d o : ℕ) → d ≡ little 7 s (pairs_at + pair_size * i + 1)
      → o ≡ number_at 1 s (pairs_at + pair_size * i)
      → d + o * devices ≡ key_of (pair_in (row pair_size i (drop pairs_at s)))
  unfolding key_of pair_in watched device
  pair-key d o p q =
      let t : List ℕ = drop pairs_at s in
      let l : length t ≡ length s - pairs_at = length-drop pairs_at s in
      let r : length (row pair_size i t) ≡ pair_size = length-row pair_size i most_pairs t h (omega arith) in
      let a : pairs_at + (pair_size * i + 1) ≡ pairs_at + pair_size * i + 1 = omega arith in
      let b : pairs_at + (pair_size * i + 0) ≡ pairs_at + pair_size * i = omega arith in
      let v : d ≡ value (slice_index (row pair_size i t) 1 ∷ take 6 (drop 2 (row pair_size i t))) =
      p ∙ sym (little-row 7 pair_size i 1 t (omega arith) ∙ little-drop 7 pairs_at s (pair_size * i + 1)
      ∙ ap (little 7 s) a) ∙ seven-value (row pair_size i t) (omega arith) in
      let w : o ≡ get_or (row pair_size i t) 0 0 =
      octet-at s (pairs_at + pair_size * i) q
      ∙ sym (get_d-row pair_size i 0 t 0 (omega arith) ∙ get_or-drop pairs_at s (pair_size * i + 0) 0
      ∙ ap (λ (j : ℕ). slice_index s j) b) in
      ap (λ (x : ℕ). x + o * devices) v
      ∙ ap (λ (x : ℕ). value (slice_index (row pair_size i t) 1 ∷ take 6 (drop 2 (row pair_size i t))) + x * devices) w

-- the book of the first so many rows of a block
unfoldable pub book_to : List ℕ → ℕ → List (Option Visit)
book_to s i = put (replicate most_pairs None) 0 (map visit_of (map pair_in (take i (pair_table s))))

pub book-none : (s : List ℕ) → replicate most_pairs None ≡ book_to s 0
unfolding book_to put
book-none s = refl

-- one pair more
pub book-turn : (s : List ℕ) (i : ℕ) {m : List (Option Visit)} {k : ℕ} → i < most_pairs → m ≡ book_to s i
    → k ≡ key_of (pair_in (row pair_size i (drop pairs_at s)))
    → slice_set m i (Some (begun_at k 0 0)) ≡ book_to s (i + 1)
unfolding book_to pair_table visit_of
book-turn s i h e q =
    let t : List (List ℕ) = rows pair_size most_pairs (drop pairs_at s) in
    let l : length t ≡ most_pairs = length-rows pair_size most_pairs (drop pairs_at s) in
    let c : length (take i t) ≡ i = length-take-le i t (omega arith) in
    let d : length (map visit_of (map pair_in (take i t))) ≡ i =
    length-map (map pair_in (take i t)) visit_of ∙ length-map (take i t) pair_in ∙ c in
    let r : get_or t i [] ≡ row pair_size i (drop pairs_at s) = row_at pair_size most_pairs i (drop pairs_at s) h in
    let z : length (replicate {A = Option Visit} most_pairs None) ≡ most_pairs =
    length-replicate {A = Option Visit} most_pairs None in
    let g : map visit_of (map pair_in (take (i + 1) t))
    ≡ map visit_of (map pair_in (take i t)) ++ (visit_of (pair_in (slice_index_or t i [])) ∷ []) =
    ap (map visit_of) (map-take pair_in t i [] (omega arith))
    ∙ map-append visit_of (map pair_in (take i t)) (pair_in (slice_index_or t i []) ∷ []) in
    rw (g, r, q) (put-push (replicate most_pairs None) 0 (map visit_of (map pair_in (take i t)))
    (Some (begun_at (key_of (pair_in (row pair_size i (drop pairs_at s)))) 0 0)) (omega arith) (omega arith) e)

-- all of them
pub book-all : (s : List ℕ) (c n : ℕ) {m : List (Option Visit)} → block_size ≤ length s → c ≡ number_at 1 s count_at
    → n ≡ at_most c most_pairs → m ≡ book_to s n → m ≡ begun_in s
unfolding book_to begun_in model_of pair_table
book-all s c n h p q e =
    let t : List (List ℕ) = rows pair_size most_pairs (drop pairs_at s) in
    let l : length t ≡ most_pairs = length-rows pair_size most_pairs (drop pairs_at s) in
    let w : take n t ≡ take c t =
    cases-le c most_pairs (λ b. ap (λ (j : ℕ). take j t) (q ∙ sym (at-is c most_pairs b)))
    (λ b. ap (λ (j : ℕ). take j t) (q ∙ sym (at-over c most_pairs b)) ∙ take_all most_pairs t (omega arith)
    ∙ sym (take_all c t (omega arith))) in
    e ∙ ap (λ (x : List (List ℕ)). put (replicate most_pairs None) 0 (map visit_of (map pair_in x)))
    (w ∙ ap (λ (j : ℕ). take j t) (octet-at s count_at p))
    ∙ sym (pick-false (replicate most_pairs None) _ (le-ltb (length s) block_size h))

pub book-short : (s : List ℕ) → length s < block_size → replicate most_pairs None ≡ begun_in s
unfolding begun_in
book-short s h = sym (pick_true (replicate most_pairs None) _ (lt-ltb (length s) block_size h))
