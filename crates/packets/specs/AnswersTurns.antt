-- What a packet writes: the start and stop events of its turns, then its reports. Document 01,
-- Watching, by history (Event, Report). Assumes nothing.
use Rattle.std.specs.Prelude.{◌≡◌, ℕ, ◌+◌, ◌-◌, ◌*◌, ◌<◌, ◌≤◌, Bool, true, false, List, ◌∷◌, length, get_or, take, drop, nat_le, slice_index, slice_index_or}
use Rattle.std.proofs.Math.Path.{refl, sym, ap}
use Rattle.std.proofs.Common.{◌∙◌, length-append, length-take, take-take, drop-cons, le-leb, eq-eqb}
use Rattle.std.proofs.Math.Option.{none, some}
use native.Mathlib.Omega.{arith}
use Rattle.std.proofs.Math.ListN.{length-drop}
use Rattle.std.proofs.Math.Seq.{length-take-le}
use Rattle.std.proofs.lemmas.Bool.{lt-leb}
use Rattle.laws.specs.Tests.{pick}
use Rattle.laws.specs.TestsLaws.{and_both, and-not-left, and-not-right}
use Rattle.laws.specs.Loops.{when}
use Rattle.laws.specs.LoopsLaws.{when_true, when_false}
use Rattle.laws.specs.Put.{put, put_if}
use Rattle.laws.specs.PutLaws.{put-nil, put_then}
use Rattle.model.specs.Types.{Model}
use Rattle.steps.specs.SteppedLaws.{rest_put}
use Rattle.model.specs.Frames.{packet_of, scan_of}
use Rattle.model.specs.Events.{packet_report, scan_report, packet_reports, event, report}
use Rattle.model.specs.Block.{padded}
use Rattle.blocks.specs.Bounds.{Fits}
use Rattle.blocks.specs.BlockLaws.{row-pairs, read_count, read-prefix}
use Rattle.events.specs.Octets.{event_octets, report_octets, event_fits, report_fits}
use Rattle.events.specs.OctetsLaws.{length-event, length-report}
use Rattle.events.specs.OctetsLaws.{event-opens, event-pair, report-device}
use Rattle.marks.specs.Fields.{Framed, framed, scan_at}
use Rattle.marks.proofs.FieldsLaws.{Clamped, facts-framed, scan-at-some}
use Rattle.packets.specs.Reports.{reports_fit}
use Rattle.packets.specs.Writes.{no_pair, PutAt}
use Rattle.packets.specs.WritesLaws.{part-row}
use Rattle.packets.specs.Moves.{pair_at, AtPair}
use Rattle.packets.specs.MovesLaws.{pair_fits}
use Rattle.model.specs.Layout.{event_most, report_most}
use Rattle.model.specs.Layout.{block_size, most_data, most_pairs, most_prefix, pair_size, pairs_at, prefix_at, prefix_length_at}

fits-wrote : (t : Bool) (out : List ℕ) (at : ℕ) (ys : List ℕ) {o : List ℕ} {r : ℕ} → t ≡ true
    → (r ≡ pick t (length ys) 0) × (o ≡ put_if t out at ys) → PutAt out at ys o r
unfolding pick put_if
fits-wrote t out at ys e w = let v = rw e at w in record { octets = v.1; count = v.0 }

-- the event of pair i: from the prefix and the row's first 8 octets
module _ (m : Model) (s : List ℕ) (i : ℕ) (w : AtPair m s i) where
  prefix-count : get_or s prefix_length_at 0 ≡ length m.prefix
  prefix-count = ap (λ (l : List ℕ). slice_index l 7) w.block ∙ read_count m

  prefix-part : (n : ℕ) → Clamped (slice_index s prefix_length_at) most_prefix n → take n (drop prefix_at s) ≡ m.prefix
  prefix-part n c =
      let e : n ≡ length m.prefix = c.within (omega (arith, prefix-count, w.measured.prefix-most))
      ∙ prefix-count in
      ap (λ (k : ℕ). take k (drop prefix_at s)) e ∙ ap (λ (l : List ℕ). take (length m.prefix) (drop 8 l)) w.block
      ∙ read-prefix m

  event-part : (state : ℕ)
      → event_octets m.prefix (take 8 (drop (pairs_at + pair_size * i) s)) state ≡ event m.prefix (pair_at m i) state
  unfolding pair_at
  event-part state =
      let f : Fits (pair_at m i) = pair_fits w in
      let r : List ℕ = take pair_size (drop (pairs_at + pair_size * i) s) in
      ap (λ (l : List ℕ). event_octets m.prefix l state)
      (sym (take-take 8 pair_size (drop (pairs_at + pair_size * i) s) (omega arith)))
      ∙ event-opens m.prefix r state
      ∙ ap (λ (l : List ℕ). event_octets m.prefix l state)
      (ap (λ (l : List ℕ). take pair_size (drop (pairs_at + pair_size * i) l)) w.block ∙ part-row (padded m) i
      ∙ row-pairs m w.measured i no_pair w.within)
      ∙ event-pair m.prefix (slice_index_or m.pairs i no_pair) state f.address-length

  pub event-wrote : (state : ℕ) (out : List ℕ) (at n : ℕ) {o pre r8 : List ℕ} {r : ℕ}
      → Clamped (slice_index s prefix_length_at) most_prefix n
      → at + event_most ≤ length out
      → length s ≡ block_size → i < most_pairs
      → pre ≡ take n (drop prefix_at s) → r8 ≡ take 8 (drop (pairs_at + pair_size * i) s)
      → (r ≡ pick (event_fits (length out) at pre r8 state) (length (event_octets pre r8 state)) 0)
      × (o ≡ put_if (event_fits (length out) at pre r8 state) out at (event_octets pre r8 state))
      → PutAt out at (event m.prefix (pair_at m i) state) o r
  unfolding event_fits
  event-wrote state out at n {o} {pre} {r8} {r} c h l b ep er x =
      let d : length (drop (pairs_at + pair_size * i) s) ≡ length s - (pairs_at + pair_size * i) =
      length-drop (pairs_at + pair_size * i) s in
      let k : length r8 ≡ 8 = ap (λ (y : List ℕ). length y) er
      ∙ length-take-le 8 (drop (pairs_at + pair_size * i) s) (omega arith) in
      let p : pre ≡ m.prefix = ep ∙ prefix-part n c in
      let q : length pre ≡ length m.prefix = ap (λ (y : List ℕ). length y) p in
      let u : length (event_octets pre r8 state) ≡ 12 + length pre = length-event pre r8 state (omega arith) in
      let v : event_octets pre r8 state ≡ event m.prefix (pair_at m i) state =
      ap (λ (y : List ℕ). event_octets y r8 state) p ∙ ap (λ (y : List ℕ). event_octets m.prefix y state) er
      ∙ event-part state in
      let z : PutAt out at (event_octets pre r8 state) o r =
      fits-wrote (event_fits (length out) at pre r8 state) out at (event_octets pre r8 state)
      (and_both (le-leb (length pre) most_prefix (omega (arith, w.measured.prefix-most)))
      (and_both (le-leb 8 (length r8) (omega arith))
      (le-leb (at + length (event_octets pre r8 state)) (length out) (omega (arith, w.measured.prefix-most))))) x in
      record { octets = z.octets ∙ ap (put out at) v; count = z.count ∙ ap (λ (y : List ℕ). length y) v }

-- an event's length, whatever the octets
pub event-most : (out : List ℕ) (at : ℕ) (pre r8 : List ℕ) (state : ℕ) {r : ℕ} → length pre ≤ most_prefix
    → 8 ≤ length r8
    → r ≡ pick (event_fits (length out) at pre r8 state) (length (event_octets pre r8 state)) 0 → r ≤ event_most
unfolding pick
event-most out at pre r8 state {r} h b e = go (event_fits (length out) at pre r8 state) e
  where
    go : (t : Bool) → r ≡ pick t (length (event_octets pre r8 state)) 0 → r ≤ event_most
    go true e = omega (arith, length-event pre r8 state b)
    go false e = omega arith

-- octets past an event are as they were, whatever the octets
pub event-rest : (out : List ℕ) (at : ℕ) (pre r8 : List ℕ) (state : ℕ) {o : List ℕ} {r : ℕ} → at ≤ length out
    → (r ≡ pick (event_fits (length out) at pre r8 state) (length (event_octets pre r8 state)) 0)
    × (o ≡ put_if (event_fits (length out) at pre r8 state) out at (event_octets pre r8 state))
    → drop (at + r) o ≡ drop (at + r) out
unfolding pick put_if
event-rest out at pre r8 state {o} {r} h e = go (event_fits (length out) at pre r8 state) e
  where
    go : (t : Bool) → (r ≡ pick t (length (event_octets pre r8 state)) 0)
        × (o ≡ put_if t out at (event_octets pre r8 state))
        → drop (at + r) o ≡ drop (at + r) out
    go true x = rest_put out at (event_octets pre r8 state) h x.1 (ap (λ (k : ℕ). at + k) x.0)
    go false x = ap (drop (at + r)) x.1

-- a report of a packet's device, with the packet's RSSI
report-wrote : (out : List ℕ) (at : ℕ) (l : List ℕ) (e : ℕ) (dev adv : List ℕ) {o : List ℕ} {r : ℕ} → 10 ≤ length l
    → length adv ≤ most_data → at + report_most ≤ length out → dev ≡ take 7 (drop 1 l)
    → (r ≡ pick (report_fits (length out) at e dev adv (slice_index l (length l - 1)))
    (length (report_octets e dev adv (slice_index l (length l - 1)))) 0)
    × (o ≡ put_if (report_fits (length out) at e dev adv (slice_index l (length l - 1))) out at
    (report_octets e dev adv (slice_index l (length l - 1))))
    → (r ≤ report_most) × PutAt out at (report e (slice_index l 1) (take 6 (drop 2 l)) adv (slice_index l (length l - 1))) o r
unfolding report_fits
report-wrote out at l e dev adv {o} {r} f j h ed x =
    let s : ℕ = get_or l (length l - 1) 0 in
    let d1 : length (drop 1 l) ≡ length l - 1 = length-drop 1 l in
    let k : length dev ≡ 7 = ap (λ (y : List ℕ). length y) ed ∙ length-take-le 7 (drop 1 l) (omega arith) in
    let g : dev ≡ slice_index l 1 ∷ take 6 (drop 2 l) = ed
    ∙ ap (λ (y : List ℕ). take 7 y) (drop-cons l 1 0 (omega arith)) in
    let u : length (report_octets e dev adv s) ≡ 14 + length adv = length-report e dev adv s k in
    let v : report_octets e dev adv s ≡ report e (slice_index l 1) (take 6 (drop 2 l)) adv s =
    ap (λ (y : List ℕ). report_octets e y adv s) g ∙ report-device e (slice_index l 1) (take 6 (drop 2 l)) adv s in
    let z : PutAt out at (report_octets e dev adv s) o r =
    fits-wrote (report_fits (length out) at e dev adv s) out at (report_octets e dev adv s)
    (and_both (eq-eqb (length dev) 7 k) (and_both (le-leb (length adv) most_data j)
    (le-leb (at + length (report_octets e dev adv s)) (length out) (omega arith)))) x in (
      omega (arith, z.count),
      record { octets = z.octets ∙ ap (put out at) v; count = z.count ∙ ap (λ (y : List ℕ). length y) v },
    )

-- the report of the advertisement
pub adv-wrote : (out : List ℕ) (at : ℕ) (l : List ℕ) {d : ℕ} {o : List ℕ} {r : ℕ} → Framed l
    → at + report_most ≤ length out
    → d ≡ slice_index l 8
    → (r ≡ pick (report_fits (length out) at (slice_index l 0) (take 7 (drop 1 l)) (take (9 + d - 9) (drop 9 l))
    (slice_index l (length l - 1)))
    (length (report_octets (slice_index l 0) (take 7 (drop 1 l)) (take (9 + d - 9) (drop 9 l)) (slice_index l (length l - 1)))) 0)
    × (o ≡ put_if (report_fits (length out) at (slice_index l 0) (take 7 (drop 1 l)) (take (9 + d - 9) (drop 9 l))
    (slice_index l (length l - 1))) out at
    (report_octets (slice_index l 0) (take 7 (drop 1 l)) (take (9 + d - 9) (drop 9 l)) (slice_index l (length l - 1))))
    → (r ≤ report_most) × PutAt out at (packet_report (packet_of l)) o r
unfolding packet_report packet_of
adv-wrote out at l {d} {o} {r} f h e x =
    let n : 9 + d - 9 ≡ get_or l 8 0 = omega arith in
    let k : length (take (9 + d - 9) (drop 9 l)) ≤ most_data = simp (length-take, length-drop) (omega arith) in
    let w = report-wrote out at l (slice_index l 0) (take 7 (drop 1 l)) (take (9 + d - 9) (drop 9 l)) {o = o} {r = r}
    (omega arith) k h refl x in
    (w.0, rw n at w.1)

-- the report of the scan response, or nothing
module _ (out : List ℕ) (at : ℕ) (l : List ℕ) (f : Framed l) {d : ℕ} (e : d ≡ slice_index l 8) where
  pub scan-unwritten : length l ≤ 10 + d → (0 ≤ report_most)
      × PutAt out at (scan_report (packet_of l) (packet_of l).scan) out 0
  unfolding scan_report packet_of
  scan-unwritten b =
      let q : scan_of l ≡ none = f.2.without (omega arith) in
      (omega arith, rw q (record { octets = sym (put-nil out at); count = refl }))

  pub scan-wrote : {o : List ℕ} {r : ℕ} → 10 + d < length l → at + report_most ≤ length out
      → (r ≡ pick (report_fits (length out) at 4 (take 7 (drop 1 l)) (take (length l - 1 - (10 + d)) (drop (10 + d) l))
      (slice_index l (length l - 1)))
      (length (report_octets 4 (take 7 (drop 1 l)) (take (length l - 1 - (10 + d)) (drop (10 + d) l))
      (slice_index l (length l - 1)))) 0)
      × (o ≡ put_if (report_fits (length out) at 4 (take 7 (drop 1 l))
      (take (length l - 1 - (10 + d)) (drop (10 + d) l)) (slice_index l (length l - 1)))
      out at (report_octets 4 (take 7 (drop 1 l)) (take (length l - 1 - (10 + d)) (drop (10 + d) l))
      (slice_index l (length l - 1))))
      → (r ≤ report_most) × PutAt out at (scan_report (packet_of l) (packet_of l).scan) o r
  unfolding scan_report packet_of
  scan-wrote {o} {r} b h x =
      let s : scan_at l ≡ 10 + get_or l 8 0 = scan-at-some l (omega arith) in
      let s2 : scan_at l ≡ 10 + d = omega arith in
      let m : length l ≤ scan_at l + 1 + most_data = f.2.most in
      let k : length (take (length l - 1 - (10 + d)) (drop (10 + d) l)) ≤ most_data =
      simp (length-take, length-drop) (omega arith) in
      let q : scan_of l ≡ some (take (length l - 1 - (10 + d)) (drop (10 + d) l)) =
      f.2.within (omega arith) ∙ ap (λ (j : ℕ). some (take (length l - 1 - j) (drop j l))) s2 in
      let w = report-wrote out at l 4 (take 7 (drop 1 l)) (take (length l - 1 - (10 + d)) (drop (10 + d) l)) {o = o}
      {r = r} (omega arith) k h refl x in
      (w.0, rw q w.1)

-- one after the other
pub reports-wrote : (out : List ℕ) (at : ℕ) (l : List ℕ) {o v : List ℕ} {r k : ℕ} → at + 2 * report_most ≤ length out
    → (r ≤ report_most) × PutAt out at (packet_report (packet_of l)) o r
    → (k ≤ report_most) × PutAt o (at + r) (scan_report (packet_of l) (packet_of l).scan) v k
    → (r + k ≤ 2 * report_most) × PutAt out at (packet_reports (packet_of l)) v (r + k)
unfolding packet_reports
reports-wrote out at l {o} {v} {r} {k} h x y =
    let a : List ℕ = packet_report (packet_of l) in
    let c : List ℕ = scan_report (packet_of l) (packet_of l).scan in (
      omega (arith, x.0, y.0),
      record {
        octets = put_then out at a (at + r) c (omega (arith, x.0, x.1.count)) x.1.octets
            (ap (λ (j : ℕ). at + j) x.1.count) y.1.octets refl;
        count = ap (λ (j : ℕ). j + k) x.1.count ∙ ap (λ (j : ℕ). length a + j) y.1.count
            ∙ sym (length-append a c);
      },
    )

-- the reports, or nothing
pub told_wrote : (out : List ℕ) (at : ℕ) (ys : List ℕ) {t : Bool} {o : List ℕ} {r : ℕ} → t ≡ true → PutAt out at ys o r
    → PutAt out at (when t ys) o r
told_wrote out at ys e w =
    record {
      octets = w.octets ∙ ap (put out at) (sym (when_true ys e));
      count = w.count ∙ ap (λ (y : List ℕ). length y)
          (sym (when_true ys e));
    }

pub untold-wrote : (out : List ℕ) (at : ℕ) (ys : List ℕ) {t : Bool} → t ≡ false → PutAt out at (when t ys) out 0
untold-wrote out at ys e =
    record {
      octets = sym (put-nil out at) ∙ ap (put out at) (sym (when_false ys e));
      count = ap (λ (y : List ℕ). length y)
          (sym (when_false ys e));
    }

-- the reports of any octets in any output
module _ (out : List ℕ) (at : ℕ) (l : List ℕ) where
  pub reports-not : reports_fit (length out) at l ≡ false
      → (0 ≤ 2 * report_most) × (0 ≡ pick (reports_fit (length out) at l) (length (packet_reports (packet_of l))) 0)
      × (out ≡ put_if (reports_fit (length out) at l) out at (packet_reports (packet_of l)))
  unfolding pick put_if
  reports-not e = rw e (omega arith, refl, refl)

  pub reports-room : length out < at + 2 * report_most → reports_fit (length out) at l ≡ false
  unfolding reports_fit
  reports-room h = and-not-left _ (framed l) (lt-leb (at + 2 * report_most) (length out) h)

  pub reports-form : framed l ≡ false → reports_fit (length out) at l ≡ false
  unfolding reports_fit
  reports-form e = and-not-right (nat_le (at + 2 * report_most) (length out)) _ e

  reports-fit : at + 2 * report_most ≤ length out → framed l ≡ true → reports_fit (length out) at l ≡ true
  unfolding reports_fit
  reports-fit h e = and_both (le-leb (at + 2 * report_most) (length out) h) e

  pub reports-done : {o : List ℕ} {r : ℕ} → at + 2 * report_most ≤ length out → framed l ≡ true
      → (r ≤ 2 * report_most) × PutAt out at (packet_reports (packet_of l)) o r
      → (r ≤ 2 * report_most) × (r ≡ pick (reports_fit (length out) at l) (length (packet_reports (packet_of l))) 0)
      × (o ≡ put_if (reports_fit (length out) at l) out at (packet_reports (packet_of l)))
  unfolding pick put_if
  reports-done h e w = (w.0, rw (reports-fit h e) w.1.count, rw (reports-fit h e) w.1.octets)

  pub reports-read : {o : List ℕ} {r : ℕ} → at + 2 * report_most ≤ length out → Framed l
      → (r ≡ pick (reports_fit (length out) at l) (length (packet_reports (packet_of l))) 0)
      × (o ≡ put_if (reports_fit (length out) at l) out at (packet_reports (packet_of l)))
      → PutAt out at (packet_reports (packet_of l)) o r
  reports-read h f w =
      fits-wrote (reports_fit (length out) at l) out at (packet_reports (packet_of l))
      (reports-fit h (facts-framed l f)) w
