-- Laws of the definitions in Events.
use Rattle.std.specs.Prelude.{◌≡◌, ℕ, zero, suc, ◌+◌, ◌-◌, ◌≤◌, Bool, true, false, ◌&&◌, List, [], ◌∷◌, ◌++◌, length, take, drop, replicate, ◌==◌, ◌≢◌, nat_le, slice_index, slice_index_or, slice_set, Some, None}
use Rattle.std.proofs.Math.Path.{refl, sym, ap, subst}
use Rattle.std.proofs.Common.{◌∙◌, append-nil, arith, le-leb, eq-eqb, length-append, length-take, drop-cons, take-take}
use Rattle.std.proofs.Math.Option.{some}
use Rattle.std.proofs.Math.ListN.{length-drop}
use Rattle.std.proofs.Math.Seq.{length-take-le}
use Rattle.laws.specs.Tests.{pick}
use Rattle.laws.specs.TestsLaws.{and_both}
use Rattle.laws.specs.Loops.{when}
use Rattle.laws.specs.Put.{put_if}
use Rattle.laws.specs.PutLaws.{put-nil, put_of, put_right, put_then}
use Rattle.octets.specs.Numbers.{at_most}
use Rattle.octets.specs.NumbersLaws.{at-most}
use Rattle.rule.specs.BaseLaws.{none≢some}
use Rattle.model.specs.Types.{Packet}
use Rattle.model.specs.Level.{mean}
use Rattle.model.specs.Frames.{packet_of}
use Rattle.model.specs.Events.{event, report, stop_event, start_event, window_report}
use Rattle.model.specs.Monitors.{allows, sifts}
use Rattle.model.specs.Layout.{block_size, event_most, most_data, most_prefix, prefix_at, prefix_length_at, report_most}
use Rattle.events.specs.Octets.{event_fits, event_octets, report_fits, report_octets}
use Rattle.events.specs.OctetsLaws.{length-event, length-report, report-device}
use Rattle.marks.specs.Fields.{Framed}
use Rattle.commands.specs.Replies.{prefix_count, prefix_in}
use Rattle.packets.specs.Writes.{PutAt}
use Rattle.prefixes.specs.ForceLaws.{zeros-behind}
use Rattle.pasts.specs.Pair
use Rattle.pasts.specs.Pair.{adv_of, event_or, kept_packet, newest, pair_of, window}
use Rattle.pasts.specs.Past.{pair_after}
use Rattle.model.specs.Frames.{Typed}
use Rattle.pasts.specs.Says.{has_told}
use Rattle.twin.specs.Table.{after, payload_at}
use Rattle.twin.specs.Hears.{start_of}
use Rattle.twin.specs.Numbered.{Sent, Tells, mon_at, numbered, packet_at}
use Rattle.twin.specs.FiltersLaws.{sent-framed}
use Rattle.twin.specs.Events.{event_of, window_says}

pub stop_is : (prefix : List ℕ) (past : List Typed) (s : Pair.Start)
    → stop_event prefix (pair_after past s) ≡ event_of prefix s.handle s.packet 0
unfolding stop_event event pair_after pair_of event_of
stop_is prefix past s = refl

pub start_is : (prefix : List ℕ) (s : Pair.Start)
    → start_event prefix (pair_of s []) ≡ event_of prefix s.handle s.packet 1
unfolding start_event event pair_of event_of
start_is prefix s = refl

-- what was written where it fits
fits-wrote : (t : Bool) (out : List ℕ) (at : ℕ) (ys : List ℕ) {o : List ℕ} {r : ℕ} → t ≡ true
    → (r ≡ pick t (length ys) 0) × (o ≡ put_if t out at ys) → PutAt out at ys o r
unfolding pick put_if
fits-wrote t out at ys e x = record { octets = rw e at x.1; count = rw e at x.0 }

pub nothing : (out : List ℕ) (at : ℕ) → PutAt out at [] out 0
nothing out at = record { octets = sym (put-nil out at); count = refl }

-- the row that opens with the key: a handle, and a packet's device
row_is : (h : ℕ) (d : List ℕ) {u : Bool} {m : List ℕ} → length d ≡ 7
    → u ≡ nat_le (1 + length d) (length (slice_set (replicate {A = ℕ} 8 0) 0 h))
    → m ≡ put_if u (slice_set (replicate 8 0) 0 h) 1 d → m ≡ h ∷ d
row_is h d {u} {m} n p q =
    let z : List ℕ = replicate 7 0 in
    let l : length (h ∷ z) ≡ 8 = refl in
    let k : 7 - length d ≡ 0 = omega arith in
    put_of (h ∷ z) 1 d (length d) (length (h ∷ z)) p (omega arith) q ∙ put_right (h ∷ []) z 0 d
    ∙ ap (λ (x : List ℕ). h ∷ x) (zeros-behind 7 d ∙ ap (λ (j : ℕ). d ++ replicate j 0) k ∙ append-nil d)

-- the prefix as the code takes it, and a packet's device
prefix-of : (head : List ℕ) (n : ℕ) → 8 + n - 8 ≡ n → n ≡ at_most (slice_index head prefix_length_at) most_prefix
    → take (8 + n - 8) (drop prefix_at head) ≡ prefix_in head
unfolding prefix_in prefix_count
prefix-of head n z c = ap (λ (k : ℕ). take k (drop prefix_at head)) (z ∙ c)

octets-is : (prefix : List ℕ) (h : ℕ) (p : List ℕ) (state : ℕ) → 10 ≤ length p
    → event_octets prefix (h ∷ take 7 (drop 1 p)) state ≡ event_of prefix h (packet_of p) state
unfolding event_octets event_of packet_of
octets-is prefix h p state l =
    let d : drop 1 p ≡ slice_index p 1 ∷ drop 2 p = drop-cons p 1 0 (omega arith) in
    let k : take 7 (take 7 (drop 1 p)) ≡ take 7 (drop 1 p) = take-take 7 7 (drop 1 p) (omega arith) in
    rw (k, d)

-- the event written
pub event-put : (head p : List ℕ) (h state : ℕ) (out : List ℕ) (at : ℕ) {n : ℕ} {u : Bool} {row o : List ℕ} {r : ℕ}
    → length head ≡ block_size → Framed p
    → at + event_most ≤ length out → u ≡ nat_le (1 + length (take 7 (drop 1 p))) (length (slice_set (replicate {A = ℕ} 8 0) 0 h))
    → row ≡ put_if u (slice_set (replicate 8 0) 0 h) 1 (take 7 (drop 1 p))
    → n ≡ at_most (slice_index head prefix_length_at) most_prefix
    → (r ≡ pick (event_fits (length out) at (take (8 + n - 8) (drop prefix_at head)) row state)
    (length (event_octets (take (8 + n - 8) (drop prefix_at head)) row state)) 0)
    × (o ≡ put_if (event_fits (length out) at (take (8 + n - 8) (drop prefix_at head)) row state) out at
    (event_octets (take (8 + n - 8) (drop prefix_at head)) row state))
    → (r ≤ event_most) × PutAt out at (event_of (prefix_in head) h (packet_of p) state) o r
unfolding event_fits
event-put head p h state out at {n} {u} {row} {o} {r} l f room a b c x =
    let d : List ℕ = take 7 (drop 1 p) in
    let j : 10 + slice_index p 8 ≤ length p = f.0 in
    let e1 : length (drop 1 p) ≡ length p - 1 = length-drop 1 p in
    let ld : length d ≡ 7 = length-take-le 7 (drop 1 p) (omega arith) in
    let rw1 : row ≡ h ∷ d = row_is h d ld a b in
    let m : n ≤ most_prefix = let g = at-most (slice_index head prefix_length_at) most_prefix in omega arith in
    let z : 8 + n - 8 ≡ n = omega arith in
    let q : take (8 + n - 8) (drop prefix_at head) ≡ prefix_in head = prefix-of head n z c in
    let e2 : length (drop prefix_at head) ≡ length head - prefix_at = length-drop prefix_at head in
    let lq : length (prefix_in head) ≡ n =
    ap length (sym q) ∙ ap (λ (k : ℕ). length (take k (drop prefix_at head))) z
    ∙ length-take-le n (drop prefix_at head) (omega arith) in
    let le : length (event_octets (prefix_in head) (h ∷ d) state) ≡ 12 + length (prefix_in head) =
    length-event (prefix_in head) (h ∷ d) state (omega arith) in
    let y = rw (q, rw1) at x in
    let w : PutAt out at (event_octets (prefix_in head) (h ∷ d) state) o r =
    fits-wrote (nat_le (length (prefix_in head)) most_prefix
    && (nat_le 8 (length (h ∷ d)) && nat_le (at + length (event_octets (prefix_in head) (h ∷ d) state)) (length out))) out
    at
    (event_octets (prefix_in head) (h ∷ d) state)
    (and_both (le-leb (length (prefix_in head)) most_prefix (omega arith))
    (and_both (le-leb 8 (length (h ∷ d)) (omega arith))
    (le-leb (at + length (event_octets (prefix_in head) (h ∷ d) state)) (length out) (omega arith)))) y in
    let v : event_octets (prefix_in head) (h ∷ d) state ≡ event_of (prefix_in head) h (packet_of p) state =
    octets-is (prefix_in head) h p state (omega arith) in
    (omega (arith, w.count), subst (λ (ys : List ℕ). PutAt out at ys o r) v w)

-- a window without a latest packet, and with one
module _ (t : List ℕ) (a k i : ℕ) (packets sum : ℕ) (w : Tells t a k i packets sum None) where
  pub window-empty : (out : List ℕ) (at h : ℕ) → PutAt out at (window_says (start_of t h a k) (after t k (i - k))) out 0
  unfolding window_says has_told when numbered
  window-empty out at h = rw (← w.last-is h) (nothing out at)

module _ (t : List ℕ) (a k i : ℕ) (packets sum last : ℕ) (w : Tells t a k i packets sum (Some last)) where
  abbrev l : List Typed
  l = after t k (i - k)

  newest-some : (x : List Packet) (p : Packet) → some p ≡ newest x → 1 ≤ length x
  unfolding newest
  newest-some [] p e = absurd (none≢some (sym e))
  newest-some (q ∷ x) p e = omega arith

  -- the latest packet
  pub window-some : 1 ≤ packets
  unfolding numbered
  window-some =
      let n : packets ≡ length (window (start_of t 0 a k) l) = w.packets-is 0 in
      let m : 1 ≤ length (window (start_of t 0 a k) l) =
      newest-some (window (start_of t 0 a k) l) (packet_at t last) (w.last-is 0) in
      omega arith

  module _ (h : ℕ) where
    newest-is : newest (window (start_of t h a k) l) ≡ some (packet_at t last)
    unfolding numbered
    newest-is = sym (w.last-is h)

    told_is : has_told [] [] (start_of t h a k) (newest (window (start_of t h a k) l))
        ≡ allows (mon_at t a) (packet_at t last).event
    unfolding has_told start_of
    told_is = rw newest-is

    pub window-barred : (out : List ℕ) (at : ℕ) {b : Bool} → b ≡ allows (mon_at t a) (packet_at t last).event
        → b ≡ false
        → PutAt out at (window_says (start_of t h a k) l) out 0
    unfolding window_says when
    window-barred out at e z = rw (told_is ∙ sym e ∙ z) (nothing out at)

    window-says : {b : Bool} → b ≡ allows (mon_at t a) (packet_at t last).event → b ≡ true → sifts (mon_at t a) ≡ false
        → window_says (start_of t h a k) l
        ≡ report (packet_at t last).event (packet_at t k).address_type (packet_at t k).address (packet_at t last).adv
        (mean sum packets)
    unfolding window_says window_report pair_of kept_packet when pick event_or adv_of start_of
    window-says e z f = rw (told_is ∙ sym e ∙ z) (rw (f, newest-is, ← (w.packets-is h), ← (w.sum_is h)))

  pub window-put : (out : List ℕ) (at : ℕ) {e m r : ℕ} {d adv o : List ℕ} {b : Bool} → sifts (mon_at t a) ≡ false
      → b ≡ allows (mon_at t a) (packet_at t last).event → b ≡ true → e ≡ (packet_at t last).event
      → d ≡ payload_at t (k - 1) → 10 ≤ length d
      → adv ≡ (packet_at t last).adv → length adv ≤ most_data → m ≡ mean sum packets → at + report_most ≤ length out
      → (r ≡ pick (report_fits (length out) at e (take 7 (drop 1 d)) adv m)
      (length (report_octets e (take 7 (drop 1 d)) adv m)) 0)
      × (o ≡ put_if (report_fits (length out) at e (take 7 (drop 1 d)) adv m) out at
      (report_octets e (take 7 (drop 1 d)) adv m))
      → (r ≤ report_most) × ((h : ℕ) → PutAt out at (window_says (start_of t h a k) l) o r)
  unfolding report_fits packet_of
  window-put out at {e} {m} {r} {d} {adv} {o} f eb zb ee ed ld ea la em room x =
      let dev : List ℕ = take 7 (drop 1 d) in
      let e1 : length (drop 1 d) ≡ length d - 1 = length-drop 1 d in
      let l7 : length dev ≡ 7 = length-take-le 7 (drop 1 d) (omega arith) in
      let lr : length (report_octets e dev adv m) ≡ 14 + length adv = length-report e dev adv m l7 in
      let y : PutAt out at (report_octets e dev adv m) o r =
      fits-wrote (length dev == 7
      && (nat_le (length adv) most_data && nat_le (at + length (report_octets e dev adv m)) (length out))) out at
      (report_octets e dev adv m)
      (and_both (eq-eqb (length dev) 7 l7)
      (and_both (le-leb (length adv) most_data la)
      (le-leb (at + length (report_octets e dev adv m)) (length out) (omega arith)))) x in
      let g : dev ≡ slice_index d 1 ∷ take 6 (drop 2 d) = ap (take 7) (drop-cons d 1 0 (omega arith)) in
      let v : report_octets e dev adv m ≡ report e (slice_index d 1) (take 6 (drop 2 d)) adv m =
      ap (λ (u : List ℕ). report_octets e u adv m) g ∙ report-device e (slice_index d 1) (take 6 (drop 2 d)) adv m in
      let z : report e (slice_index d 1) (take 6 (drop 2 d)) adv m
      ≡ report (packet_at t last).event (packet_at t k).address_type (packet_at t k).address (packet_at t last).adv
      (mean sum packets) = rw (ee, ed, ea, em) in (
        omega (arith, y.count),
        λ h. subst (λ (ys : List ℕ). PutAt out at ys o r)
            (v ∙ z ∙ sym (window-says h eb zb f)) y,
      )

-- one part behind another
pub wrote-two : (out : List ℕ) (at : ℕ) (a b : List ℕ) {o v : List ℕ} {r k : ℕ} → at + r ≤ length out
    → PutAt out at a o r → PutAt o (at + r) b v k
    → PutAt out at (a ++ b) v (r + k)
wrote-two out at a b {o} {v} {r} {k} h x y =
    let n : r ≡ length a = x.count in
    let m : k ≡ length b = y.count in
    record {
      octets = put_then out at a (at + r) b (omega arith) x.octets (omega arith) y.octets refl;
      count = let e : length (a ++ b) ≡ length a + length b = length-append a b in omega arith;
    }

-- a packet's data is at most 31 octets
pub data-few : (t : List ℕ) (r : ℕ) {l : List ℕ} → Sent t r → l ≡ (packet_at t r).adv → length l ≤ most_data
unfolding packet_of
data-few t r {l} s e =
    let p : List ℕ = payload_at t (r - 1) in
    let f : Framed p = sent-framed t r p s refl in
    let m : slice_index_or p 8 0 ≤ most_data = f.1 in
    let n : length (take (slice_index p 8) (drop 9 p)) ≤ slice_index_or p 8 0 = simp length-take (omega arith) in
    let q : length l ≡ length (take (slice_index p 8) (drop 9 p)) = ap length e in
    omega arith
