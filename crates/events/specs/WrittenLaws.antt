-- What a run of stores and copies leaves: an event, a report. Document 01, Watching, by history. Assumes nothing.
use Rattle.std.specs.Prelude.{ℕ, ◌+◌, ◌≤◌, ◌<◌, ◌≡◌, refl, List, [], ◌∷◌, ◌++◌, take, drop, get_or, set}
use Rattle.std.proofs.Common.{ap, ◌∙◌, append_assoc, arith, length-append, length-set, length-take, length-drop}
use Rattle.std.proofs.Math.ListN.{length}
use borrow.Author.Tests.{le-leb, lt-leb, eq-eqb, ne_eqb}
use Rattle.laws.specs.Put.{put, put_if}
use Rattle.laws.specs.PutLaws.{set-put, put-push, put_then}
use Rattle.laws.specs.Tests.{pick}
use Rattle.events.specs.Octets.{event_octets, report_octets, event_fits, report_fits}
use Rattle.events.specs.OctetsLaws.{length-event, length-report}
use Rattle.model.specs.Layout.{most_data, most_prefix}

-- two stores and a copy, then a store and a copy, keep the length
pub kept-twice : (out : List ℕ) (at n : ℕ) (l m : List ℕ) → length l ≡ length (set (set out at 255) (at + 1) (10 + n))
    → length m ≡ length (set l (at + 2 + n) 2) → length m ≡ length out
kept-twice out at n l m e f =
    f ∙ length-set l (at + 2 + n) 2 ∙ e ∙ length-set (set out at 255) (at + 1) (10 + n) ∙ length-set out at 255

-- two octets, the prefix, one octet, address type and address, two octets
pub event-written : (out : List ℕ) (at : ℕ) (prefix row : List ℕ) (state : ℕ) {l m : List ℕ}
    → at + (12 + length prefix) ≤ length out → 8 ≤ length row
    → l ≡ put (set (set out at 255) (at + 1) (10 + length prefix)) (at + 2) prefix
    → m ≡ put (set l (at + 2 + length prefix) 2) (at + 3 + length prefix) (take 7 (drop 1 row))
    → set (set m (at + 10 + length prefix) (get_or row 0 0)) (at + 11 + length prefix) state ≡ put out at
    (event_octets prefix row state)
unfolding event_octets
event-written out at prefix row state {l} {m} h k p q =
    let n : ℕ = length prefix in
    let d : List ℕ = take 7 (drop 1 row) in
    let ld : length (take 7 (drop 1 row)) ≡ 7 = simp (length-take, length-drop) (omega arith) in
    let a : List ℕ = 255 ∷ (10 + n) ∷ prefix in
    let b : List ℕ = a ++ (2 ∷ []) in
    let e : List ℕ = b ++ d in
    let f : List ℕ = e ++ (get_or row 0 0 ∷ []) in
    let lb : length b ≡ 3 + n = simp length-append (omega arith) in
    let le : length e ≡ 10 + n = simp length-append (omega arith) in
    let lf : length f ≡ 11 + n = simp length-append (omega arith) in
    let s1 : set out at 255 ≡ put out at (255 ∷ []) = set-put out at 255 (omega arith) in
    let s2 : set (set out at 255) (at + 1) (10 + n) ≡ put out at (255 ∷ (10 + n) ∷ []) =
    put-push out at (255 ∷ []) (10 + n) (omega arith) refl s1 in
    let s3 : l ≡ put out at a = put_then out at (255 ∷ (10 + n) ∷ []) (at + 2) prefix (omega arith) s2 refl p refl in
    let s4 : set l (at + 2 + n) 2 ≡ put out at b = put-push out at a 2 (omega arith) (omega arith) s3 in
    let s5 : m ≡ put out at e = put_then out at b (at + 3 + n) d (omega arith) s4 (omega arith) q refl in
    let s6 : set m (at + 10 + n) (get_or row 0 0) ≡ put out at f =
    put-push out at e (get_or row 0 0) (omega arith) (omega arith) s5 in
    put-push out at f state (omega arith) (omega arith) s6 ∙ ap (put out at) (simp append_assoc)

-- five octets, the device, the length, the data, the RSSI
pub report-written : (out : List ℕ) (at event : ℕ) (device adv : List ℕ) (rssi : ℕ) {l m : List ℕ}
    → at + (14 + length adv) ≤ length out → length device ≡ 7
    → l ≡ put (set (set (set (set (set out at 62) (at + 1) (12 + length adv)) (at + 2) 2) (at + 3) 1) (at + 4) event)
    (at + 5) device
    → m ≡ put (set l (at + 12) (length adv)) (at + 13) adv
    → set m (at + 13 + length adv) rssi ≡ put out at (report_octets event device adv rssi)
unfolding report_octets
report-written out at event device adv rssi {l} {m} h k p q =
    let n : ℕ = length adv in
    let a : List ℕ = 62 ∷ (12 + n) ∷ 2 ∷ 1 ∷ event ∷ device in
    let b : List ℕ = a ++ (n ∷ []) in
    let e : List ℕ = b ++ adv in
    let la : length a ≡ 12 = omega arith in
    let lb : length b ≡ 13 = simp length-append (omega arith) in
    let le : length e ≡ 13 + n = simp length-append (omega arith) in
    let s1 : set out at 62 ≡ put out at (62 ∷ []) = set-put out at 62 (omega arith) in
    let s2 : set (set out at 62) (at + 1) (12 + n) ≡ put out at (62 ∷ (12 + n) ∷ []) =
    put-push out at (62 ∷ []) (12 + n) (omega arith) refl s1 in
    let s3 : set (set (set out at 62) (at + 1) (12 + n)) (at + 2) 2 ≡ put out at (62 ∷ (12 + n) ∷ 2 ∷ []) =
    put-push out at (62 ∷ (12 + n) ∷ []) 2 (omega arith) refl s2 in
    let s4 : set (set (set (set out at 62) (at + 1) (12 + n)) (at + 2) 2) (at + 3) 1 ≡ put out at
    (62 ∷ (12 + n) ∷ 2 ∷ 1 ∷ []) =
    put-push out at (62 ∷ (12 + n) ∷ 2 ∷ []) 1 (omega arith) refl s3 in
    let c : List ℕ = 62 ∷ (12 + n) ∷ 2 ∷ 1 ∷ event ∷ [] in
    let s5 : set (set (set (set (set out at 62) (at + 1) (12 + n)) (at + 2) 2) (at + 3) 1)
    (at + 4) event ≡ put out at c =
    put-push out at (62 ∷ (12 + n) ∷ 2 ∷ 1 ∷ []) event (omega arith) refl s4 in
    let s6 : l ≡ put out at a = put_then out at c (at + 5) device (omega arith) s5 refl p refl in
    let s7 : set l (at + 12) n ≡ put out at b = put-push out at a n (omega arith) (omega arith) s6 in
    let s8 : m ≡ put out at e = put_then out at b (at + 13) adv (omega arith) s7 (omega arith) q refl in
    put-push out at e rssi (omega arith) (omega arith) s8 ∙ ap (put out at) (simp append_assoc)

-- what the public functions leave: where an event or a report fits, all of it and its length; else nothing and 0
module _ (out : List ℕ) (at : ℕ) (prefix row : List ℕ) (state : ℕ) where
  pub event-done : {m : List ℕ} → length prefix ≤ most_prefix → 8 ≤ length row → at + (12 + length prefix) ≤ length out
      → m ≡ put out at (event_octets prefix row state)
      → (12 + length prefix ≡ pick (event_fits (length out) at prefix row state)
      (length (event_octets prefix row state)) 0)
      × (m ≡ put_if (event_fits (length out) at prefix row state) out at (event_octets prefix row state))
  unfolding event_fits pick put_if
  event-done a b c e =
      let n : length (event_octets prefix row state) ≡ 12 + length prefix = length-event prefix row state b in
      rw (
        le-leb (length prefix) most_prefix a,
        le-leb 8 (length row) b,
        n,
        le-leb (at + (12 + length prefix))
            (length out) c,
      )
      (refl, e)

  pub event-long : most_prefix < length prefix
      → (0 ≡ pick (event_fits (length out) at prefix row state) (length (event_octets prefix row state)) 0)
      × (out ≡ put_if (event_fits (length out) at prefix row state) out at (event_octets prefix row state))
  unfolding event_fits pick put_if
  event-long a = rw (lt-leb (length prefix) most_prefix a) (refl, refl)

  pub event-part : length prefix ≤ most_prefix → length row < 8
      → (0 ≡ pick (event_fits (length out) at prefix row state) (length (event_octets prefix row state)) 0)
      × (out ≡ put_if (event_fits (length out) at prefix row state) out at (event_octets prefix row state))
  unfolding event_fits pick put_if
  event-part a b = rw (le-leb (length prefix) most_prefix a, lt-leb 8 (length row) b) (refl, refl)

  pub event-out : length prefix ≤ most_prefix → 8 ≤ length row → length out < at + (12 + length prefix)
      → (0 ≡ pick (event_fits (length out) at prefix row state) (length (event_octets prefix row state)) 0)
      × (out ≡ put_if (event_fits (length out) at prefix row state) out at (event_octets prefix row state))
  unfolding event_fits pick put_if
  event-out a b c =
      let n : length (event_octets prefix row state) ≡ 12 + length prefix = length-event prefix row state b in
      rw (
        le-leb (length prefix) most_prefix a,
        le-leb 8 (length row) b,
        n,
        lt-leb (at + (12 + length prefix))
            (length out) c,
      )
      (refl, refl)

module _ (out : List ℕ) (at event : ℕ) (device adv : List ℕ) (rssi : ℕ) where
  pub report-done : {m : List ℕ} → length device ≡ 7 → length adv ≤ most_data → at + (14 + length adv) ≤ length out
      → m ≡ put out at (report_octets event device adv rssi)
      → (14 + length adv ≡ pick (report_fits (length out) at event device adv rssi)
      (length (report_octets event device adv rssi)) 0)
      × (m ≡ put_if (report_fits (length out) at event device adv rssi) out at (report_octets event device adv rssi))
  unfolding report_fits pick put_if
  report-done a b c e =
      let n : length (report_octets event device adv rssi) ≡ 14 + length adv = length-report event device adv rssi a in
      rw (
        eq-eqb (length device) 7 a,
        le-leb (length adv) most_data b,
        n,
        le-leb (at + (14 + length adv))
            (length out) c,
      )
      (refl, e)

  pub report-part : (length device ≡ 7 → ⊥)
      → (0 ≡ pick (report_fits (length out) at event device adv rssi) (length (report_octets event device adv rssi)) 0)
      × (out ≡ put_if (report_fits (length out) at event device adv rssi) out at (report_octets event device adv rssi))
  unfolding report_fits pick put_if
  report-part a = rw (ne_eqb (length device) 7 a) (refl, refl)

  pub report-long : length device ≡ 7 → most_data < length adv
      → (0 ≡ pick (report_fits (length out) at event device adv rssi) (length (report_octets event device adv rssi)) 0)
      × (out ≡ put_if (report_fits (length out) at event device adv rssi) out at (report_octets event device adv rssi))
  unfolding report_fits pick put_if
  report-long a b = rw (eq-eqb (length device) 7 a, lt-leb (length adv) most_data b) (refl, refl)

  pub report-out : length device ≡ 7 → length adv ≤ most_data → length out < at + (14 + length adv)
      → (0 ≡ pick (report_fits (length out) at event device adv rssi) (length (report_octets event device adv rssi)) 0)
      × (out ≡ put_if (report_fits (length out) at event device adv rssi) out at (report_octets event device adv rssi))
  unfolding report_fits pick put_if
  report-out a b c =
      let n : length (report_octets event device adv rssi) ≡ 14 + length adv = length-report event device adv rssi a in
      rw (
        eq-eqb (length device) 7 a,
        le-leb (length adv) most_data b,
        n,
        lt-leb (at + (14 + length adv))
            (length out) c,
      )
      (refl, refl)
