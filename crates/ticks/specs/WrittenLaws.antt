-- Laws of the definitions in Written.
use Rattle.std.specs.Prelude.{ℕ, ◌+◌, ◌-◌, ◌≤◌, ◌<◌, ◌≡◌, refl, Bool, true, false, ◌&&◌, not, List, [], ◌∷◌, ◌++◌, leb, ltb}
use Rattle.std.proofs.Math.Path.{sym}
use Rattle.std.proofs.Common.{ap, ◌∙◌, append-nil, append_assoc, arith, leb-true, leb-false, le-leb, le-ltb, eq-eqb}
use lib.ListN.{length, take, drop, get_or, set, length-append, length-take, length-drop}
use lib.Seq.{length-take-le}
use borrow.Rule.Slice.PartMut.{put_mid}
use Rattle.laws.specs.Put.{put, put_if}
use Rattle.laws.specs.PutLaws.{put-nil, put_of, put_then, length-put, take-before-put}
use Rattle.laws.specs.PutLaws.{drop-after-put, set-put}
use Rattle.laws.specs.Tests.{pick}
use Rattle.laws.specs.TestsLaws.{and-not-left, and-not-right, pick-false, and_left, and_right}
use Rattle.laws.specs.Loops.{when}
use Rattle.laws.specs.LoopsLaws.{length-when}
use Rattle.octets.specs.Little.{little, octets_of}
use Rattle.octets.specs.LittleLaws.{length-octets}
use Rattle.octets.specs.Numbers.{number_at}
use Rattle.octets.specs.NumbersLaws.{number-of}
use Rattle.model.specs.Level.{mean}
use Rattle.events.specs.Octets.{event_octets, report_octets, event_fits, report_fits}
use Rattle.events.specs.OctetsLaws.{length-event, length-report}
use Rattle.ticks.specs.EmptiedLaws.{length-emptied}
use Rattle.model.specs.Monitors.{lets_through}
use Rattle.ticks.specs.Row.{emptied_row, windowed_by, closes_at, goes_on, onward, ticked_row, kept_row, report_row, says_row}
use Rattle.ticks.specs.Row.{told_on}
use Rattle.model.specs.Layout.{event_at, event_most, handle_at, report_most}
use Rattle.model.specs.Layout.{data_at, event_at, length_at, most_data, most_prefix, packets_at, pair_size, since_good_at, sum_at, ticks_at}
use Rattle.ticks.specs.Written.{Appended}

-- a put over a put of the same length
pub put-over : (xs : List ℕ) (at : ℕ) (ys zs : List ℕ) → at ≤ length xs → length ys ≡ length zs
    → put (put xs at ys) at zs ≡ put xs at zs
unfolding put
put-over xs at ys zs h e =
    let t : take at (put xs at ys) ≡ take at xs = take-before-put xs at ys h in
    let d : drop (at + length ys) (put xs at ys) ≡ drop (at + length ys) xs = drop-after-put xs at ys h in
    rw (t, ← e, d)

-- what was there, put again
pub put_same : (xs : List ℕ) (at n : ℕ) → at + n ≤ length xs → put xs at (take n (drop at xs)) ≡ xs
unfolding put
put_same xs at n h =
    let l : length (take n (drop at xs)) ≡ n = length-take-le n (drop at xs) (simp length-drop (omega arith)) in
    rw (l, ← lib.Seq.drop-drop n at xs) (append_assoc (take at xs) (take n (drop at xs)) (drop n (drop at xs))
    ∙ ap (λ (x : List ℕ). take at xs ++ x) (lib.ListN.take-append-drop n (drop at xs))
    ∙ lib.ListN.take-append-drop at xs)

-- a lent part that comes back is a put
pub mid-put : (a e : ℕ) (xs ys : List ℕ) {m : List ℕ} → a ≤ e → length ys ≡ e - a → m ≡ put_mid a (e - a) xs ys
    → m ≡ put xs a ys
unfolding put
mid-put a e xs ys h l q =
    rw (q, ← l) (ap (λ (x : List ℕ). take a xs ++ (ys ++ x)) (lib.Seq.drop-drop (length ys) a xs)
    ∙ sym (append_assoc (take a xs) ys (drop (a + length ys) xs)))

-- rows keep their length
pub length-onward : (r : List ℕ) → length r ≡ pair_size → length (onward r) ≡ pair_size
unfolding onward
length-onward r h =
    let n : length (octets_of 2 (little 2 r since_good_at + 1)) ≡ 2 = length-octets 2 (little 2 r since_good_at + 1) in
    length-put r 8 (octets_of 2 (little 2 r since_good_at + 1)) (omega arith) ∙ h

pub length-ticked : (period : ℕ) (r : List ℕ) → length r ≡ pair_size → length (ticked_row period r) ≡ pair_size
unfolding ticked_row pick
length-ticked period r h = go (windowed_by period) (closes_at period (get_or r ticks_at 0))
  where
    go : (a b : Bool)
        → length (pick a (pick b (emptied_row (onward r)) (put (onward r) 10 ((get_or r ticks_at 0 + 1) ∷ [])))
        (onward r)) ≡ pair_size
    go true true = length-emptied (onward r) (length-onward r h)
    go true false =
        let z : length (onward r) ≡ pair_size = length-onward r h in
        length-put (onward r) 10 ((get_or r ticks_at 0 + 1) ∷ []) (omega arith) ∙ z
    go false b = length-onward r h

pub length-kept : (run period : ℕ) (r : List ℕ) → length r ≡ pair_size → length (kept_row run period r) ≤ pair_size
unfolding kept_row
length-kept run period r h = omega (arith, length-when (goes_on run r) (ticked_row period r), length-ticked period r h)

-- the three ways of a row that stays
module _ (period : ℕ) (r : List ℕ) where
  pub ticked-still : windowed_by period ≡ false → onward r ≡ ticked_row period r
  unfolding ticked_row
  ticked-still e = sym (pick-false _ (onward r) e)

  pub ticked-closed : windowed_by period ≡ true → closes_at period (get_or r ticks_at 0) ≡ true
      → emptied_row (onward r) ≡ ticked_row period r
  unfolding ticked_row pick
  ticked-closed e f = rw (e, f)

  pub ticked-longer : windowed_by period ≡ true → closes_at period (get_or r ticks_at 0) ≡ false
      → put (onward r) 10 ((get_or r ticks_at 0 + 1) ∷ []) ≡ ticked_row period r
  unfolding ticked_row pick
  ticked-longer e f = rw (e, f)

-- what the stores and calls on a row leave
pub onward-of : (r : List ℕ) {v : ℕ} {b : Bool} {m : List ℕ} → length r ≡ pair_size → v ≡ number_at 2 r since_good_at
    → b ≡ leb (8 + 2) (length r)
    → m ≡ put_if b r 8 (octets_of 2 (v + 1)) → m ≡ onward r
unfolding onward
onward-of r {v} {b} {m} h e f q =
    let n : v ≡ little 2 r since_good_at = number-of 2 r 8 e (omega arith) in
    rw (← n) (put_of r 8 (octets_of 2 (v + 1)) 2 (length r) f (omega arith) q)

module _ (period : ℕ) (r : List ℕ) (h : length r ≡ pair_size) {m : List ℕ} (o : m ≡ onward r) where
  pub advance-closed : {l : List ℕ} → l ≡ emptied_row m → windowed_by period ≡ true
      → closes_at period (get_or r ticks_at 0) ≡ true
      → l ≡ ticked_row period r
  advance-closed {l} q w c = q ∙ ap emptied_row o ∙ ticked-closed period r w c

  pub advance-longer : windowed_by period ≡ true → closes_at period (get_or r ticks_at 0) ≡ false
      → set m 10 (get_or r ticks_at 0 + 1) ≡ ticked_row period r
  advance-longer w c =
      let n : length m ≡ pair_size = rw o (length-onward r h) in
      set-put m 10 (get_or r ticks_at 0 + 1) (omega arith) ∙ ap (λ (x : List ℕ). put x 10 ((get_or r ticks_at 0 + 1) ∷ [])) o
      ∙ ticked-longer period r w c

-- a period that was passed before closes its window
pub closes-past : (period ticks : ℕ) → period ≤ ticks → windowed_by period ≡ closes_at period ticks
unfolding closes_at
closes-past period ticks h = rw (le-leb period (ticks + 1) (omega arith)) (go (windowed_by period))
  where
    go : (t : Bool) → t ≡ (t && true)
    go true = refl
    go false = refl

pub stays-over : (silent run : ℕ) → run ≤ silent → false ≡ ltb (silent + 1) run
stays-over silent run h = sym (le-ltb (silent + 1) run (omega arith))

pub says-open : (on : Bool) (period : ℕ) (filters : List ℕ) (r : List ℕ) → closes_at period (get_or r ticks_at 0) ≡ false
    → false ≡ says_row on period filters r
unfolding says_row
says-open on period filters r e =
    sym (and-not-right on _ (and-not-left (closes_at period (get_or r ticks_at 0)) _ e))

pub says_of : (on : Bool) (period : ℕ) (filters : List ℕ) (r : List ℕ) {p f : ℕ} {t : Bool} → length r ≡ pair_size
    → closes_at period (get_or r ticks_at 0) ≡ true → p ≡ number_at 4 r packets_at → f ≡ get_or filters (get_or r handle_at 0) 0
    → t ≡ lets_through f (get_or r event_at 0)
    → (on && (leb 1 p && (leb (get_or r length_at 0) most_data && t))) ≡ says_row on period filters r
unfolding says_row
says_of on period filters r h e f g i = rw (e, number-of 4 r 11 f (omega arith), i, g)

-- a window that does not close is shorter than its period
pub open-below : (period ticks : ℕ) → windowed_by period ≡ true → closes_at period ticks ≡ false → ticks + 1 < period
unfolding closes_at
open-below period ticks e f = leb-false period (ticks + 1) (rw e at f)

pub period-below : (period : ℕ) → windowed_by period ≡ true → period ≤ 254
unfolding windowed_by
period-below period e = leb-true period 254 (and_right (leb 1 period) (leb period 254) e)

-- what a report's tests say
pub record Says (on : Bool) (period : ℕ) (filters : List ℕ) (r : List ℕ) : Type 0 where
  pub goes : on ≡ true
  pub packets : 1 ≤ little 4 r packets_at
  pub short : get_or r length_at 0 ≤ most_data

pub says : (on : Bool) (period : ℕ) (filters : List ℕ) (r : List ℕ) → says_row on period filters r ≡ true
    → Says on period filters r
unfolding says_row
says on period filters r e =
    let b : Bool = closes_at period (get_or r ticks_at 0) in
    let c : Bool = leb 1 (little 4 r packets_at) in
    let d : Bool = leb (get_or r length_at 0) most_data in
    let l : Bool = lets_through (get_or filters (get_or r handle_at 0) 0) (get_or r event_at 0) in
    let f = and_right on (b && (c && (d && l))) e in
    let g = and_right b (c && (d && l)) f in
    record {
      goes = and_left on (b && (c && (d && l))) e;
      packets = leb-true 1 (little 4 r packets_at) (and_left c (d && l) g);
      short = leb-true (get_or r length_at 0) most_data (and_left d l (and_right c (d && l) g));
    }

-- a report's length
pub length-report_row : (r : List ℕ) → length r ≡ pair_size → get_or r length_at 0 ≤ most_data
    → length (report_row r) ≡ 14 + get_or r length_at 0
unfolding report_row
length-report_row r h n =
    let d : length (take 7 (drop 1 r)) ≡ 7 = simp (length-take, length-drop) (omega arith) in
    let a : length (take (get_or r length_at 0) (drop data_at r)) ≡ get_or r length_at 0 =
    length-take-le (get_or r length_at 0) (drop data_at r) (simp length-drop (omega arith)) in
    length-report (get_or r event_at 0) (take 7 (drop 1 r)) (take (get_or r length_at 0) (drop data_at r))
    (mean (little 8 r sum_at) (little 4 r packets_at)) d ∙ ap (λ (k : ℕ). 14 + k) a

pub appended-none : (out : List ℕ) (at : ℕ) (t : Bool) (l : List ℕ) → t ≡ false → Appended out out at 0 (when t l)
unfolding when
appended-none out at t l e = rw e (record { put-there = sym (put-nil out at); count = refl })

pub appended-some : (out : List ℕ) (at : ℕ) (t : Bool) (l : List ℕ) {m : List ℕ} {n : ℕ} → t ≡ true
    → Appended out m at n l → Appended out m at n (when t l)
unfolding when
appended-some out at t l e a = rw e a

-- a report of a window, where it has room
pub window-appended : (out : List ℕ) (at : ℕ) (r : List ℕ) {m : List ℕ} {n v s p : ℕ} → length r ≡ pair_size
    → get_or r length_at 0 ≤ most_data
    → at + report_most ≤ length out → p ≡ number_at 4 r packets_at → s ≡ number_at 8 r sum_at → v ≡ mean s p
    → n ≡ pick
    (report_fits (length out) at (get_or r event_at 0) (take 7 (drop 1 r))
    (take (data_at + get_or r length_at 0 - data_at) (drop data_at r)) v)
    (length (report_octets (get_or r event_at 0) (take 7 (drop 1 r))
    (take (data_at + get_or r length_at 0 - data_at) (drop data_at r)) v)) 0
    → m ≡ put_if
    (report_fits (length out) at (get_or r event_at 0) (take 7 (drop 1 r))
    (take (data_at + get_or r length_at 0 - data_at) (drop data_at r)) v)
    out at (report_octets (get_or r event_at 0) (take 7 (drop 1 r))
    (take (data_at + get_or r length_at 0 - data_at) (drop data_at r)) v)
    → Appended out m at n (report_row r)
unfolding report_fits report_row pick put_if
window-appended out at r {m} {n} {v} {s} {p} h k b ep es ev q t =
    let x : ℕ = get_or r length_at 0 in
    let w : v ≡ mean (little 8 r sum_at) (little 4 r packets_at) =
    ev ∙ rw (number-of 8 r 15 es (omega arith), number-of 4 r 11 ep (omega arith)) in
    let y : data_at + get_or r length_at 0 - data_at ≡ get_or r length_at 0 = omega arith in
    let d : length (take 7 (drop 1 r)) ≡ 7 = simp (length-take, length-drop) (omega arith) in
    let a : length (take (get_or r length_at 0) (drop data_at r)) ≡ get_or r length_at 0 =
    length-take-le x (drop data_at r) (simp length-drop (omega arith)) in
    let o : List ℕ = report_octets (get_or r event_at 0) (take 7 (drop 1 r)) (take (get_or r length_at 0) (drop data_at r))
    (mean (little 8 r sum_at) (little 4 r packets_at)) in
    let l : length o ≡ 14 + x = length-report _ _ _ _ d ∙ ap (λ (j : ℕ). 14 + j) a in
    let f : report_fits (length out) at (get_or r event_at 0) (take 7 (drop 1 r))
    (take (get_or r length_at 0) (drop data_at r))
    (mean (little 8 r sum_at) (little 4 r packets_at)) ≡ true =
    rw (
      eq-eqb (length (take 7 (drop 1 r))) 7 d,
      le-leb (length (take (get_or r length_at 0) (drop data_at r))) most_data
          (omega arith),
      le-leb (at + length o) (length out) (omega arith),
    ) in
    record { put-there = rw (y, w, f) at t; count = rw (y, w, f) at q }

-- a stop event, where the watch ends
pub stop-appended : (out : List ℕ) (at : ℕ) (prefix r : List ℕ) (on : Bool) {m : List ℕ} {n : ℕ} → on ≡ false
    → length r ≡ pair_size
    → length prefix ≤ most_prefix → at + length (when (not on) (event_octets prefix r 0)) ≤ length out
    → n ≡ pick (event_fits (length out) at prefix r 0) (length (event_octets prefix r 0)) 0
    → m ≡ put_if (event_fits (length out) at prefix r 0) out at (event_octets prefix r 0)
    → Appended out m at n (when (not on) (event_octets prefix r 0))
unfolding event_fits pick put_if when
stop-appended out at prefix r on o h a b p q =
    let c : at + length (event_octets prefix r 0) ≤ length out = rw o at b in
    let e : event_fits (length out) at prefix r 0 ≡ true =
    rw (
      le-leb (length prefix) most_prefix a,
      le-leb 8 (length r) (omega arith),
      le-leb (at + length (event_octets prefix r 0))
          (length out) c,
    ) in
    rw o (record { put-there = rw e at q; count = rw e at p })

-- one after the other
pub appended_then : (out : List ℕ) (at : ℕ) (a b : List ℕ) {m l : List ℕ} {j k : ℕ} → at ≤ length out
    → Appended out m at j a → Appended m l (at + j) k b → Appended out l at (j + k) (a ++ b)
appended_then out at a b h p q =
    record {
      put-there = put_then out at a _ b h p.put-there (ap (λ (i : ℕ). at + i) p.count) q.put-there refl;
      count = rw (p.count, q.count) (sym (length-append a b));
    }

-- what a row says is 45 octets at most
length-says : (on : Bool) (period : ℕ) (filters : List ℕ) (r : List ℕ) → length r ≡ pair_size
    → length (when (says_row on period filters r) (report_row r)) ≤ report_most
unfolding when
length-says on period filters r h = go (says_row on period filters r) refl
  where
    go : (t : Bool) → says_row on period filters r ≡ t → length (when t (report_row r)) ≤ report_most
    go true e = let n = (says on period filters r e).short in omega (arith, length-report_row r h n)
    go false e = omega arith

pub says-most : (on : Bool) (period : ℕ) (filters : List ℕ) (r : List ℕ) {out m : List ℕ} {at n : ℕ}
    → length r ≡ pair_size
    → Appended out m at n (when (says_row on period filters r) (report_row r)) → n ≤ report_most
says-most on period filters r h a = rw a.count (length-says on period filters r h)

pub stop-most : (on : Bool) (prefix r : List ℕ) {out m : List ℕ} {at n : ℕ} → length r ≡ pair_size
    → length prefix ≤ most_prefix
    → Appended out m at n (when (not on) (event_octets prefix r 0)) → n ≤ event_most
stop-most on prefix r h p a =
    let k : length (event_octets prefix r 0) ≡ 12 + length prefix = length-event prefix r 0 (omega arith) in
    rw a.count (omega (arith, length-when (not on) (event_octets prefix r 0)))

pub length-told : (on : Bool) (period : ℕ) (filters : List ℕ) (prefix r : List ℕ) → length r ≡ pair_size
    → length prefix ≤ most_prefix
    → length (told_on on period filters prefix r) ≤ report_most
unfolding told_on says_row when
length-told true period filters prefix r h n = simp append-nil (length-says true period filters r h)
length-told false period filters prefix r h n = omega (arith, length-event prefix r 0 (omega arith))

-- what a tick writes for a row, by whether its watch goes on
module _ (on : Bool) (period : ℕ) (filters prefix r : List ℕ) {out m : List ℕ} {at n : ℕ} where
  pub told-stays : on ≡ true → Appended out m at n (when (says_row true period filters r) (report_row r))
      → Appended out m at n (told_on on period filters prefix r)
  unfolding told_on when
  told-stays e a = rw (e, append-nil) a

  pub told-ends : on ≡ false → Appended out m at n (event_octets prefix r 0)
      → Appended out m at n (told_on on period filters prefix r)
  unfolding told_on says_row when
  told-ends e a = rw e a

-- room for a stop event behind a report: there is only one of them
pub stop-room : (on : Bool) (period : ℕ) (filters : List ℕ) (prefix r : List ℕ) (at j n : ℕ) → length r ≡ pair_size
    → length prefix ≤ most_prefix
    → at + report_most ≤ n
    → j ≡ length (when (says_row on period filters r) (report_row r))
    → at + j + length (when (not on) (event_octets prefix r 0)) ≤ n
unfolding told_on
stop-room on period filters prefix r at j n h p b e =
    let l : length (told_on on period filters prefix r) ≤ report_most = length-told on period filters prefix r h p in
    let a = length-append (when (says_row on period filters r) (report_row r))
    (when (not on) (event_octets prefix r 0)) in
    omega arith
