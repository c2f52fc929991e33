-- Theorems of Frames and Book: for a frame that the model reads, what Frames says of its octets is what the model
-- reads in them; a range of keys is one of a handle; the key of a pair is that of its events, and of its visit.
use Rattle.std.specs.Prelude.{◌≡◌, ℕ, zero, suc, ◌+◌, ◌-◌, ◌*◌, ◌/◌, ◌%◌, ◌^◌, ◌<◌, ◌≤◌, min, Bool, true, false, ◌&&◌, ◌||◌, List, [], ◌∷◌, Option, None, Some, ◌++◌, map, length, take, drop, replicate, ◌==◌, nat_eq, nat_le, slice_index, slice_index_or}
use Rattle.std.proofs.Math.Path.{refl, sym, ap}
use Rattle.std.proofs.Common.{◌∙◌, append_assoc, lt-ltb, le-ltb, le-leb, eq-eqb, ne_eqb, leb-true, eqb-true, length-drop, take_at}
use Rattle.std.proofs.lemmas.Bool.{false≢true, lt-leb}
use native.Mathlib.Omega.{arith}
use Rattle.std.proofs.Math.ListN.{length-append}
use Rattle.std.proofs.lemmas.List.{length-map, length-replicate}
use Rattle.laws.specs.Put.{put}
use Rattle.laws.specs.PutLaws.{take_put}
use Rattle.laws.specs.Tests.{pick}
use Rattle.laws.specs.TestsLaws.{pick_true, pick-false, and_left, and_right, cases-le, cases_eq}
use Rattle.octets.specs.Little.{little, octets_of, value}
use Rattle.octets.specs.LittleLaws.{little-add, little-value}
use Rattle.octets.specs.Numbers.{number_at}
use Rattle.octets.specs.NumbersLaws.{number_in}
use Rattle.sessions.specs.Machine.{last_number}
use Rattle.model.specs.Types.{Model, Packet, Pair, device, device_of, watched}
use Rattle.model.specs.Level.{level}
use Rattle.model.specs.Frames.{Typed, command, packet, tick, bad, typed, frame_of, packet_of, is_command, is_scanned, has_packet, is_packet as is_plain, is_tick as is_empty}
use Rattle.model.specs.Commands.{sub_of, status, returned, success, failure, adds_monitor, features, new_handle}
use Rattle.model.specs.Events.{complete, event}
use Rattle.model.specs.Block.{model_of}
use Rattle.model.specs.Layout.{block_size, most_pairs}
use Rattle.blocks.specs.RowsLaws.{get_d_past, little-past}
use Rattle.steps.specs.TypedLaws.{fielded}
use Rattle.visit.specs.declared.Visit.{Visit}
use Rattle.visit.specs.declared.End.TheVariants.{Silence, Full}
use Rattle.visit.specs.declared.News.{News}
use Rattle.visit.specs.declared.News.TheVariants.{Start, Stop, Other}
use Rattle.visit.specs.Book.{devices, last_key, is_in, begun_at, heard_in, told_of}
use Rattle.visit.specs.BookLaws.{told-stop, told-start}
use Rattle.visit.specs.Frames.{kind_of, payload_of, is_tick, is_packet, ticks_with, end_of, parameters_of, handle_of, status_of, cancels, least_key, most_key, heard_of, key_of, visit_of, begun_in}

-- the visits that a cancelled handle ends are the open ones of that handle
pub range-handle : (h : ℕ) → (is_in (least_key h) (most_key h) None ≡ false)
    × ((v : Visit) → is_in (least_key h) (most_key h) (Some v) ≡ (v.key / devices == h))
unfolding is_in least_key most_key
range-handle h = (refl, λ v. go v.key)
  where
    go : (k : ℕ) → (nat_le (h * devices) k && nat_le k (h * devices + (devices - 1))) ≡ (k / devices == h)
    go k =
        cases-le (h * devices) k
        (λ a. cases-le k (h * devices + (devices - 1))
        (λ b. rw (le-leb (h * devices) k a, le-leb k (h * devices + (devices - 1)) b)
        (sym (eq-eqb (k / devices) h (omega arith))))
        (λ b. rw (le-leb (h * devices) k a, lt-leb k (h * devices + (devices - 1)) b)
        (sym (ne_eqb (k / devices) h (λ q. omega arith)))))
        (λ a. rw (lt-leb (h * devices) k a) (sym (ne_eqb (k / devices) h (λ q. omega arith))))

-- at a journal's end all that are open are still there: every key has 8 octets
pub range_all : (is_in 0 last_key None ≡ false) × ((v : Visit) → v.key ≤ last_key → is_in 0 last_key (Some v) ≡ true)
unfolding is_in
range_all = (refl, λ v h. rw (le-leb 0 v.key (omega arith), le-leb v.key last_key h) refl)

-- which of the model's frames there is: 1 a command, 2 a packet, 3 a tick, 0 none
tag_of : Typed → ℕ
tag_of (command o l) = 1
tag_of (packet p) = 2
tag_of tick = 3
tag_of bad = 0

packet_in : Packet → Typed → Packet
packet_in d (command o l) = d
packet_in d (packet p) = p
packet_in d tick = d
packet_in d bad = d

params_in : Typed → List ℕ
params_in (command o l) = l
params_in (packet p) = []
params_in tick = []
params_in bad = []

-- what the model reads, by the kind and the payload's form
module _ (l : List ℕ) (p : Packet) where
  abbrev read_by : (c q t s k1 k2 k3 k4 : Bool) → Typed
  read_by c q t s k1 k2 k3 k4 =
      pick k1 (pick c (command (little 2 l 0) (drop 3 l)) bad) (
      pick k2 (pick q (packet p) bad) (
      pick k3 (pick t tick bad) (
      pick k4 (pick s (packet p) bad) bad)))

  tick-kind : (c q t s k1 k2 k3 k4 : Bool) → tag_of (read_by c q t s k1 k2 k3 k4) ≡ 3 → k3 ≡ true
  unfolding pick tag_of
  tick-kind true q t s true k2 k3 k4 e = absurd (omega arith)
  tick-kind false q t s true k2 k3 k4 e = absurd (omega arith)
  tick-kind c true t s false true k3 k4 e = absurd (omega arith)
  tick-kind c false t s false true k3 k4 e = absurd (omega arith)
  tick-kind c q t s false false true k4 e = refl
  tick-kind c q t true false false false true e = absurd (omega arith)
  tick-kind c q t false false false false true e = absurd (omega arith)
  tick-kind c q t s false false false false e = absurd (omega arith)

  packet-kind : (c q t s k1 k2 k3 k4 : Bool) → tag_of (read_by c q t s k1 k2 k3 k4) ≡ 2
      → ((k2 || k4) ≡ true) × ((q || s) ≡ true) × ((d : Packet) → packet_in d (read_by c q t s k1 k2 k3 k4) ≡ p)
  unfolding pick tag_of packet_in
  packet-kind true q t s true k2 k3 k4 e = absurd (omega arith)
  packet-kind false q t s true k2 k3 k4 e = absurd (omega arith)
  packet-kind c true t s false true k3 k4 e = (refl, refl, λ d. refl)
  packet-kind c false t s false true k3 k4 e = absurd (omega arith)
  packet-kind c q true s false false true k4 e = absurd (omega arith)
  packet-kind c q false s false false true k4 e = absurd (omega arith)
  packet-kind c q t true false false false true e = (refl, go q, λ d. refl)
    where
      go : (b : Bool) → (b || true) ≡ true
      go true = refl
      go false = refl
  packet-kind c q t false false false false true e = absurd (omega arith)
  packet-kind c q t s false false false false e = absurd (omega arith)

  command-kind : (c q t s k1 k2 k3 k4 : Bool) → tag_of (read_by c q t s k1 k2 k3 k4) ≡ 1
      → (k1 ≡ true) × (params_in (read_by c q t s k1 k2 k3 k4) ≡ drop 3 l)
  unfolding pick tag_of params_in
  command-kind true q t s true k2 k3 k4 e = (refl, refl)
  command-kind false q t s true k2 k3 k4 e = absurd (omega arith)
  command-kind c true t s false true k3 k4 e = absurd (omega arith)
  command-kind c false t s false true k3 k4 e = absurd (omega arith)
  command-kind c q true s false false true k4 e = absurd (omega arith)
  command-kind c q false s false false true k4 e = absurd (omega arith)
  command-kind c q t true false false false true e = absurd (omega arith)
  command-kind c q t false false false false true e = absurd (omega arith)
  command-kind c q t s false false false false e = absurd (omega arith)

-- a tick is counted, and ends visits by silence
pub tick-read : (frame : List ℕ) (ticks : ℕ) → typed (frame_of frame).body ≡ tick
    → (ticks_with ticks frame ≡ min (ticks + 1) last_number) × (end_of frame ≡ Silence)
unfolding ticks_with end_of is_tick kind_of typed tag_of
tick-read frame ticks e =
    let b = (frame_of frame).body in
    let k : nat_eq b.kind 3 ≡ true = tick-kind b.payload (packet_of b.payload) (is_command b.payload)
    (is_plain b.payload) (is_empty b.payload) (is_scanned b.payload) (b.kind == 1) (b.kind == 2)
    (b.kind == 3) (b.kind == 4) (ap tag_of e) in
    (pick_true (min (ticks + 1) last_number) ticks k, pick_true Silence Full k)

-- a packet is heard by the open visits of its device, with its RSSI's level
pub packet-read : (frame : List ℕ) (p : Packet) (rows : List (Option Visit)) → typed (frame_of frame).body ≡ packet p
    → heard_of frame rows ≡ heard_in (value (device_of p)) (level p.rssi) rows
unfolding heard_of is_packet kind_of payload_of frame_of typed tag_of packet_in has_packet
packet-read frame p rows e =
    let b = (frame_of frame).body in
    let w = packet-kind b.payload (packet_of b.payload) (is_command b.payload)
    (is_plain b.payload) (is_empty b.payload) (is_scanned b.payload) (b.kind == 1) (b.kind == 2)
    (b.kind == 3) (b.kind == 4) (ap tag_of e) in
    let q : p ≡ packet_of (drop 5 frame) = ap (packet_in p) (sym e) ∙ w.2 p in
    let n : 10 + slice_index (drop 5 frame) 8 ≤ length (drop 5 frame) = (fielded (drop 5 frame) w.1).size in
    let l : length (drop 5 frame) ≡ length frame - 5 = length-drop 5 frame in
    rw q (pick_true _ rows (rw (le-leb 15 (length frame) (omega arith)) w.0))

-- a command with its answer cancels a monitor where it is 04 and its status is success
status-first : (m : Model) (l : List ℕ) → slice_index (returned m l) 0 ≡ status m l
unfolding returned success failure pick
status-first m l = go (status m l == 0) (adds_monitor l) (sub_of l == 0) refl
  where
    go : (a b c : Bool) → (status m l == 0) ≡ a
        → slice_index_or (pick a (pick c (0x00 ∷ 0x00 ∷ (features ++ (length m.prefix ∷ m.prefix)))
        (pick b (0x00 ∷ sub_of l ∷ new_handle m ∷ []) (0x00 ∷ sub_of l ∷ [])))
        (pick b (status m l ∷ sub_of l ∷ 0x00 ∷ []) (status m l ∷ sub_of l ∷ []))) 0 0 ≡ status m l
    go true b true e = sym (eqb-true (status m l) 0 e)
    go true true false e = sym (eqb-true (status m l) 0 e)
    go true false false e = sym (eqb-true (status m l) 0 e)
    go false true c e = refl
    go false false c e = refl

status-octet : (o : ℕ) (ret : List ℕ) → status_of (complete o ret) ≡ slice_index ret 0
unfolding status_of complete octets_of
status-octet o ret = refl

pub command-read : (frame : List ℕ) (m : Model) (o : ℕ) (l : List ℕ) → typed (frame_of frame).body ≡ command o l
    → (cancels frame (complete m.opcode (returned m l)) ≡ (sub_of l == 0x04 && status m l == 0))
    × (handle_of frame ≡ slice_index l 1)
unfolding cancels handle_of parameters_of payload_of kind_of frame_of typed tag_of params_in
command-read frame m o l e =
    let b = (frame_of frame).body in
    let w = command-kind b.payload (packet_of b.payload) (is_command b.payload)
    (is_plain b.payload) (is_empty b.payload) (is_scanned b.payload) (b.kind == 1) (b.kind == 2)
    (b.kind == 3) (b.kind == 4) (ap tag_of e) in
    let q : drop 3 (drop 5 frame) ≡ l = sym w.1 ∙ ap params_in e in (
      rw (w.0, q, status-octet m.opcode (returned m l), status-first m l),
      ap (λ (x : List ℕ). slice_index x 1) q,
    )

-- the keys of the book that a block's pairs make are theirs, in start order; all began before the journal
pub begun-pairs : (s : List ℕ) → block_size ≤ length s → take (length (model_of s).pairs) (begun_in s)
    ≡ map visit_of (model_of s).pairs
unfolding begun_in
begun-pairs s h =
    rw (pick-false (replicate most_pairs None) (put (replicate most_pairs None) 0 (map visit_of (model_of s).pairs))
    (le-ltb (length s) block_size h))
    (rw (← length-map (model_of s).pairs visit_of)
    (take_put (replicate most_pairs None) 0 (map visit_of (model_of s).pairs) (omega arith)))

-- the key of a row's visit
abbrev key_in : Option Visit → Option ℕ
key_in None = None
key_in (Some v) = Some v.key

pub begun-keys : (s : List ℕ) → block_size ≤ length s
    → map key_in (take (length (model_of s).pairs) (begun_in s)) ≡ map (λ (q : Pair). Some (key_of q)) (model_of s).pairs
unfolding visit_of begun_at
begun-keys s h = ap (map key_in) (begun-pairs s h) ∙ go (model_of s).pairs
  where
    go : (qs : List Pair) → map key_in (map visit_of qs) ≡ map (λ (q : Pair). Some (key_of q)) qs
    go [] = refl
    go (q ∷ qs) = ap (λ (x : List (Option ℕ)). Some (key_of q) ∷ x) (go qs)

-- the key that an event has is its pair's: a start event begins the visit that the pair's stop event ends
module _ (prefix : List ℕ) (q : Pair) (n : length q.address ≡ 6) where
  abbrev tail_of : ℕ → List ℕ
  tail_of on = q.address_type ∷ (q.address ++ (q.handle ∷ on ∷ []))

  key-tail : (on : ℕ) → little 8 (tail_of on) 0 ≡ key_of q
  unfolding key_of watched device little
  key-tail on =
      let x = tail_of on in
      let l : length (q.address ++ (q.handle ∷ on ∷ [])) ≡ length q.address + 2 =
      length-append q.address (q.handle ∷ on ∷ []) in
      let k : length x ≡ suc (length (q.address ++ (q.handle ∷ on ∷ []))) = refl in
      let s : little 8 x 0 ≡ little 7 x 0 + 256 ^ 7 * little 1 x 7 = little-add 7 1 x 0 in
      let a : little 7 x 0 ≡ value (take 7 x) = little-value 7 x 0 (omega arith) in
      let t : take 7 x ≡ q.address_type ∷ q.address =
      ap (λ (y : List ℕ). q.address_type ∷ y) (take_at q.address (q.handle ∷ on ∷ []) 6 n) in
      let v : little 7 x 0 ≡ value (q.address_type ∷ q.address) = a ∙ ap value t in
      let g : slice_index_or x 7 0 ≡ q.handle = get_d_past q.address (q.handle ∷ on ∷ []) 6 n 0 in
      let w : little 1 x 7 ≡ slice_index x 7 + 256 * 0 = refl in
      omega arith

  length-event : (on : ℕ) → length (event prefix q on) ≡ 12 + length prefix
  unfolding event
  length-event on =
      let a : length (prefix ++ (0x02 ∷ tail_of on)) ≡ length prefix + length (0x02 ∷ tail_of on) =
      length-append prefix (0x02 ∷ tail_of on) in
      let l : length (q.address ++ (q.handle ∷ on ∷ [])) ≡ length q.address + 2 =
      length-append q.address (q.handle ∷ on ∷ []) in
      let k : length (0x02 ∷ tail_of on) ≡ suc (suc (length (q.address ++ (q.handle ∷ on ∷ [])))) = refl in
      let t : length (event prefix q on) ≡ suc (suc (length (prefix ++ (0x02 ∷ tail_of on)))) = refl in
      t ∙ omega (arith, a, l, k, n)

  first-event : (on : ℕ) → 255 ≡ number_at 1 (event prefix q on) 0
  unfolding event little
  first-event on =
      let m : length (event prefix q on) ≡ 12 + length prefix = length-event on in
      number_in 1 (event prefix q on) 0 refl (le-leb 1 (length (event prefix q on)) (omega arith))

  last-event : (on : ℕ) → on ≡ number_at 1 (event prefix q on) (length (event prefix q on) - 1)
  unfolding event little
  last-event on =
      let e = event prefix q on in
      let m : length e ≡ 12 + length prefix = length-event on in
      let p : List ℕ = 0xFF ∷ (10 + length prefix) ∷
      (prefix ++ (0x02 ∷ q.address_type ∷ (q.address ++ (q.handle ∷ [])))) in
      let b : length (q.address ++ (q.handle ∷ [])) ≡ length q.address + 1 =
      length-append q.address (q.handle ∷ []) in
      let a : length (prefix ++ (0x02 ∷ q.address_type ∷ (q.address ++ (q.handle ∷ [])))) ≡ length prefix
      + length (0x02 ∷ q.address_type ∷ (q.address ++ (q.handle ∷ []))) =
      length-append prefix (0x02 ∷ q.address_type ∷ (q.address ++ (q.handle ∷ []))) in
      let y : q.address ++ (q.handle ∷ on ∷ []) ≡ (q.address ++ (q.handle ∷ [])) ++ (on ∷ []) =
      sym (append_assoc q.address (q.handle ∷ []) (on ∷ [])) in
      let z : e ≡ p ++ (on ∷ []) =
      ap (λ (x : List ℕ). 0xFF ∷ (10 + length prefix) ∷ (prefix ++ (0x02 ∷ q.address_type ∷ x))) y
      ∙ ap (λ (x : List ℕ). 0xFF ∷ (10 + length prefix) ∷ x)
      (sym (append_assoc prefix (0x02 ∷ q.address_type ∷ (q.address ++ (q.handle ∷ []))) (on ∷ []))) in
      let g : slice_index_or e (length e - 1) 0 ≡ on =
      ap (λ (x : List ℕ). slice_index x (length e - 1)) z
      ∙ ap (λ (i : ℕ). slice_index (p ++ (on ∷ [])) i) (let i : length e - 1 ≡ length p + 0 = omega arith in i)
      ∙ get_d_past p (on ∷ []) (length p) refl 0 in
      number_in 1 e (length e - 1) (omega (arith, g)) (le-leb (length e - 1 + 1) (length e) (omega arith))

  key-event : (on : ℕ) → number_at 8 (event prefix q on) (length (event prefix q on) - 9) ≡ key_of q
  unfolding event
  key-event on =
      let e = event prefix q on in
      let m : length e ≡ 12 + length prefix = length-event on in
      let i : length e - 9 ≡ 3 + length prefix = omega arith in
      let p : List ℕ = 0xFF ∷ (10 + length prefix) ∷ (prefix ++ (0x02 ∷ [])) in
      let a : length (prefix ++ (0x02 ∷ [])) ≡ length prefix + 1 = length-append prefix (0x02 ∷ []) in
      let z : e ≡ p ++ tail_of on = ap (λ (x : List ℕ). 0xFF ∷ (10 + length prefix) ∷ x)
      (sym (append_assoc prefix (0x02 ∷ []) (tail_of on))) in
      let k : little 8 e (length e - 9) ≡ little 8 (tail_of on) 0 =
      ap (λ (x : List ℕ). little 8 x (length e - 9)) z
      ∙ ap (little 8 (p ++ tail_of on)) (i ∙ omega arith)
      ∙ little-past 8 p (tail_of on) (3 + length prefix) (omega arith) 0 in
      sym (number_in 8 e (length e - 9) refl (le-leb (length e - 9 + 8) (length e) (omega arith))) ∙ k ∙ key-tail on

  pub stop-told : told_of (event prefix q 0) ≡ Stop (key_of q)
  stop-told =
      sym (told-stop (event prefix q 0) 255 (let m = length-event 0 in omega arith) (first-event 0) 0 (key_of q) refl
      (sym (key-event 0)) (last-event 0) refl)

  pub start-told : told_of (event prefix q 1) ≡ Start (key_of q)
  start-told =
      sym (told-start (event prefix q 1) 255 (let m = length-event 1 in omega arith) (first-event 1) 1 (key_of q) refl
      (sym (key-event 1)) (last-event 1) (λ z. omega arith))
