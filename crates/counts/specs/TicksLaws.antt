-- Laws of the definitions in Ticks.
use Prim.Native.Nat.{ℕ, suc, ◌+◌, ◌*◌, ◌≤◌, ◌<◌, zero-le}
use Rattle.std.specs.Prelude.{◌≡◌, Bool, ◌&&◌, ◌||◌, eqb, leb, ltb, take, drop, pos}
use Rattle.std.proofs.Math.Path.{refl, sym, ap, ap₂}
use Rattle.std.proofs.Common.{◌∙◌, add-one, drop_of_length-le, drop-cons, take_all}
use Rattle.std.proofs.Math.Bool.{true, false}
use mathlib.Core.List.{List, [], ◌∷◌}
use Rattle.std.proofs.Math.Option.{Option, none, some}
use native.Mathlib.Omega.{arith}
use Rattle.std.proofs.Math.ListN.{length, get_or, length-append}
use borrow.Author.Tests.{le-ltb, le-leb, lt-leb, eq-eqb, ne_eqb}
use Rattle.std.specs.Int.{from_bool}
use Rattle.laws.specs.Tests.{pick}
use Rattle.laws.specs.TestsLaws.{and-not-left, and-not-right}
use Rattle.laws.specs.Loops.{some as some_of, keep, only}
use Rattle.laws.specs.LoopsLaws.{some-step, some-stop, some-nil, keep-take}
use Rattle.octets.specs.Little.{little}
use Rattle.rule.specs.Base.{map_some as move_each, push}
use Rattle.rule.specs.Engine.{find}
use Rattle.totals.specs.Gains.{wide_row}
use Rattle.model.specs.Types.{Model, Monitor, Pair, ticks_of}
use Rattle.model.specs.Monitors.{allows, lets_through, run_of, windowed}
use Rattle.model.specs.Image.{pair_in}
use Rattle.model.specs.Block.{padded}
use Rattle.model.specs.Frames.{tick}
use Rattle.model.specs.Watch.{goes_on, closes, window_says, window_tick, with_since_good, with_ticks, emptied, at_tick, tick_pairs}
use Rattle.model.specs.Layout.{count_at, most_pairs, event_at, extra_at, filter_at, intervals_at, monitor_size, monitors_at, most_monitors, packets_at, pair_size, pairs_at, periods_at, since_good_at, ticks_at}
use Rattle.blocks.specs.Bounds.{Fits}
use Rattle.blocks.specs.Facts.{SoundModel}
use Rattle.blocks.specs.FactsLaws.{sound-facts}
use Rattle.blocks.specs.Block.{Measured}
use Rattle.blocks.specs.BlockLaws.{sound-measured, get_d-count, read-filter}
use Rattle.blocks.specs.PlacesLaws.{pair_in-place}
use Rattle.blocks.specs.Added.{filtering_of}
use Rattle.ticks.specs.Row.{closes_at, windowed_by}
use Rattle.ticks.specs.Pairs.{filtering_in}
use Rattle.ticks.specs.PairsLaws.{interval_of, sampling_of}
use Rattle.model.specs.Sound.{sound_model}
use Rattle.marks.proofs.FieldsLaws.{Clamped}
use Rattle.packets.specs.KeysLaws.{little-pairs}
use Rattle.ticks.specs.BlockLaws.{interval-is, sampling-is, filtering-is}
use Rattle.packets.specs.AlikeLaws.{field_is, event-is}
use Rattle.packets.specs.Writes.{no_pair}
use Rattle.packets.specs.Moves.{AtPair, pair_at}
use Rattle.packets.specs.MovesLaws.{pair_fits}
use Rattle.packets.specs.Starts.{Holding}
use Rattle.months.specs.Counts.{one, of_handle, closed_by, watching, windows, packets_in, reports_in, ticks_in, sum_in, row_in}
use Rattle.counts.specs.Ticks.{goes_by, through_by, says_by, watched_for, closed_for, Known}

-- what pair i's row holds
module _ (m : Model) (s : List ℕ) (i : ℕ) (w : AtPair m s i) where
  abbrev at : ℕ
  at = pairs_at + pair_size * i

  pub handle-is : get_or s at 0 ≡ (pair_at m i).handle
  unfolding pair_in
  handle-is =
      let e : at + 0 ≡ at = omega arith in
      ap (λ (k : ℕ). get_or s k 0) (sym e) ∙ field_is m s i w 0 (omega arith)
      ∙ ap (λ (q : Pair). q.handle) (pair_in-place (pair_at m i) (pair_fits w))

  pub ticks-is : get_or s (at + ticks_at) 0 ≡ (pair_at m i).ticks
  unfolding pair_in
  ticks-is = field_is m s i w ticks_at (omega arith)
      ∙ ap (λ (q : Pair). q.ticks) (pair_in-place (pair_at m i) (pair_fits w))

  pub silent-is : little 2 s (at + since_good_at) ≡ (pair_at m i).since_good
  unfolding pair_in pair_at
  silent-is =
      ap (λ (l : List ℕ). little 2 l (at + since_good_at)) w.block
      ∙ little-pairs m w.measured i 2 since_good_at no_pair w.within (omega arith)
      ∙ ap (λ (q : Pair). q.since_good) (pair_in-place (pair_at m i) (pair_fits w))

  pub packets-is : little 4 s (at + packets_at) ≡ (pair_at m i).packets
  unfolding pair_in pair_at
  packets-is =
      ap (λ (l : List ℕ). little 4 l (at + packets_at)) w.block
      ∙ little-pairs m w.measured i 4 packets_at no_pair w.within (omega arith)
      ∙ ap (λ (q : Pair). q.packets) (pair_in-place (pair_at m i) (pair_fits w))

-- the watch of pair i
module _ (m : Model) (s : List ℕ) (i : ℕ) (w : AtPair m s i) {h : ℕ} (e : h ≡ get_or s (pairs_at + pair_size * i) 0) where
  own : h ≡ (pair_at m i).handle
  own = e ∙ handle-is m s i w

  pub no-handle : {A : Type 0} → most_monitors ≤ h → A
  no-handle b = let f : Fits (pair_at m i) = pair_fits w in absurd (omega (arith, own, f.handle-most))

  goes-is : (o : Option Monitor) (q : Pair) → ltb (q.since_good + 1) (ticks_of (interval_of o)) ≡ goes_by o q
  unfolding goes_by goes_on run_of interval_of ticks_of
  goes-is none q = le-ltb (q.since_good + 1) 0 zero-le
  goes-is (some n) q = refl

  pub goes-own : {r : Bool} {x y : ℕ} → h < most_monitors → y ≡ little 2 s (pairs_at + pair_size * i + since_good_at)
      → x ≡ ticks_of (get_or s (intervals_at + monitor_size * h) 0) → r ≡ ltb (y + 1) x
      → r ≡ goes_by (find m.mons (pair_at m i).handle) (pair_at m i)
  goes-own {r} {x} {y} low a b c =
      c ∙ ap₂ (λ (u v : ℕ). ltb (u + 1) v) (a ∙ silent-is m s i w)
      (b ∙ ap ticks_of (interval-is m s w.measured w.block h low
      ∙ ap (λ (k : ℕ). interval_of (find m.mons k)) own))
      ∙ goes-is (find m.mons (pair_at m i).handle) (pair_at m i)

  -- whose it is
  pub other-watched : (k : ℕ) → (h ≡ k → ⊥) → false ≡ watched_for m k (pair_at m i)
  unfolding watched_for of_handle
  other-watched k n = sym (and-not-left _ _ (ne_eqb (pair_at m i).handle k (λ z. n (own ∙ z))))

  pub own-watched : (k : ℕ) {r : Bool} → h ≡ k → r ≡ goes_by (find m.mons (pair_at m i).handle) (pair_at m i)
      → r ≡ watched_for m k (pair_at m i)
  unfolding watched_for of_handle
  own-watched k {r} z g =
      g ∙ sym (ap (λ (t : Bool). t && goes_by (find m.mons (pair_at m i).handle) (pair_at m i))
      (eq-eqb (pair_at m i).handle k (sym own ∙ z)))

-- a report that is let through
module _ (m : Model) (s : List ℕ) (k : Known m s) (h : ℕ) (low : h < most_monitors) (event : ℕ) where
  filter-is : get_or s filter_at 0 ≡ m.filter
  filter-is = ap (λ (l : List ℕ). get_or l filter_at 0) k.block ∙ read-filter m

  pub through-off : (get_or s filter_at 0 ≡ 1 → ⊥) → false ≡ through_by m.filter (find m.mons h) event
  unfolding through_by
  through-off n = sym (and-not-left _ _ (ne_eqb m.filter 1 (λ z. n (filter-is ∙ z))))

  pub through-on : {bits : ℕ} {r : Bool} → get_or s filter_at 0 ≡ 1
      → bits ≡ filtering_of (get_or s (monitors_at + monitor_size * h + extra_at) 0)
      (get_or s (monitors_at + monitor_size * h + (extra_at + 1)) 0)
      → r ≡ lets_through bits event → r ≡ through_by m.filter (find m.mons h) event
  unfolding through_by
  through-on n a b =
      b ∙ ap (λ (x : ℕ). lets_through x event) (a ∙ filtering-is m s k.measured k.block h low k.facts)
      ∙ sym (ap (λ (t : Bool). t && lets_through (filtering_in (find m.mons h)) event)
      (eq-eqb m.filter 1 (sym filter-is ∙ n)))

-- the report of a window, test by test
says_is : (filter : ℕ) (o : Option Monitor) (q : Pair)
    → (closes_at (sampling_of o) q.ticks && (leb 1 q.packets && through_by filter o q.event)) ≡ says_by filter o q
unfolding says_by window_says closes closes_at windowed_by windowed sampling_of through_by filtering_in allows
says_is filter none q = refl
says_is filter (some m) q =
    go (leb 1 m.sampling && leb m.sampling 254 && leb m.sampling (q.ticks + 1)) (leb 1 q.packets)
    (eqb filter 1) _
  where
    go : (a b t l : Bool) → (a && (b && (t && l))) ≡ (t && (a && (b && l)))
    go true true true l = refl
    go true true false l = refl
    go true false true l = refl
    go true false false l = refl
    go false b true l = refl
    go false b false l = refl

module _ (m : Model) (s : List ℕ) (i : ℕ) (w : AtPair m s i) {h : ℕ} (e : h ≡ get_or s (pairs_at + pair_size * i) 0)
    (low : h < most_monitors) where
  abbrev q : Pair
  q = pair_at m i

  abbrev o : Option Monitor
  o = find m.mons (pair_at m i).handle

  closing : {c : Bool}
      → c ≡ closes_at (get_or s (periods_at + monitor_size * h) 0) (get_or s (pairs_at + pair_size * i + ticks_at) 0)
      → c ≡ closes_at (sampling_of o) q.ticks
  closing x =
      x ∙ ap₂ closes_at (sampling-is m s w.measured w.block h low
      ∙ ap (λ (k : ℕ). sampling_of (find m.mons k)) (e ∙ handle-is m s i w)) (ticks-is m s i w)

  pub says-open : {c : Bool}
      → c ≡ closes_at (get_or s (periods_at + monitor_size * h) 0) (get_or s (pairs_at + pair_size * i + ticks_at) 0) → c ≡ false
      → false ≡ says_by m.filter o q
  says-open x n = sym (sym (says_is m.filter o q) ∙ and-not-left _ _ (sym (closing x) ∙ n))

  pub says-empty : {n : ℕ} → n ≡ little 4 s (pairs_at + pair_size * i + packets_at) → n ≡ 0
      → false ≡ says_by m.filter o q
  says-empty {n} x z =
      let y : q.packets ≡ 0 = sym (packets-is m s i w) ∙ sym x ∙ z in
      sym (sym (says_is m.filter o q) ∙ and-not-right (closes_at (sampling_of o) q.ticks) _
      (and-not-left (leb 1 q.packets) _ (lt-leb 1 q.packets (omega arith))))

  pub says-full : {c r : Bool} {n : ℕ}
      → c ≡ closes_at (get_or s (periods_at + monitor_size * h) 0) (get_or s (pairs_at + pair_size * i + ticks_at) 0) → c ≡ true
      → n ≡ little 4 s (pairs_at + pair_size * i + packets_at) → (n ≡ 0 → ⊥)
      → r ≡ through_by m.filter (find m.mons h) (get_or s (pairs_at + pair_size * i + event_at) 0)
      → r ≡ says_by m.filter o q
  says-full {c} {r} {n} x t y z v =
      let p : q.packets ≡ n = sym (packets-is m s i w) ∙ sym y in
      v ∙ ap₂ (λ (k : ℕ) (u : ℕ). through_by m.filter (find m.mons k) u) (e ∙ handle-is m s i w)
      (event-is m s i w)
      ∙ sym (sym (says_is m.filter o q)
      ∙ ap₂ (λ (a b : Bool). a && (b && through_by m.filter o q.event)) (sym (closing x) ∙ t)
      (le-leb 1 q.packets (omega arith)))

-- the watch goes on and the window closes with a report
closed_is : (filter : ℕ) (o : Option Monitor) (q : Pair) → (goes_by o q && says_by filter o q) ≡ closed_by filter o q
unfolding goes_by says_by closed_by
closed_is filter none q = refl
closed_is filter (some m) q = refl

module _ (m : Model) (h : ℕ) (q : Pair) where
  abbrev mon : Option Monitor
  mon = find m.mons q.handle

  closed-both : closed_for m h q ≡ (watched_for m h q && says_by m.filter mon q)
  unfolding closed_for watched_for
  closed-both =
      ap (λ (t : Bool). of_handle h q && t) (sym (closed_is m.filter mon q))
      ∙ go (of_handle h q) (goes_by mon q) (says_by m.filter mon q)
    where
      go : (a b c : Bool) → (a && (b && c)) ≡ ((a && b) && c)
      go true b c = refl
      go false b c = refl

  pub closed-not : false ≡ watched_for m h q → false ≡ closed_for m h q
  closed-not e = sym (closed-both ∙ and-not-left _ _ (sym e))

  pub closed-own : {r : Bool} → true ≡ watched_for m h q → r ≡ says_by m.filter mon q → r ≡ closed_for m h q
  closed-own e f = f ∙ sym (closed-both ∙ ap (λ (t : Bool). t && says_by m.filter mon q) (sym e))

and_same : (t : Bool) → (t && true) ≡ t
and_same true = refl
and_same false = refl

-- a handle has a device under watch after the tick
ticked-handle : (m : Monitor) (h : ℕ) (q : Pair)
    → of_handle h (window_tick m (with_since_good q (q.since_good + 1))) ≡ of_handle h q
unfolding window_tick with_since_good with_ticks emptied of_handle pick
ticked-handle m h q = go (windowed m) (closes m (with_since_good q (q.since_good + 1)))
  where
    go : (a b : Bool)
        → of_handle h (pick a
        (pick b (emptied (with_since_good q (q.since_good + 1)))
        (with_ticks (with_since_good q (q.since_good + 1)) ((with_since_good q (q.since_good + 1)).ticks + 1)))
        (with_since_good q (q.since_good + 1))) ≡ of_handle h q
    go true true = refl
    go true false = refl
    go false b = refl

some-moved : (mons : List (ℕ × Monitor)) (h : ℕ) (qs : List Pair)
    → some_of (of_handle h) (move_each (λ q. at_tick (find mons q.handle) q) qs)
    ≡ some_of (λ q. of_handle h q && goes_by (find mons q.handle) q) qs
unfolding some_of at_tick goes_by pick
some-moved mons h [] = refl
some-moved mons h (q ∷ qs) = go (find mons q.handle) (some-moved mons h qs)
  where
    f : Pair → Option Pair
    f q = at_tick (find mons q.handle) q

    g : Pair → Bool
    g q = of_handle h q && goes_by (find mons q.handle) q

    go : (o : Option Monitor) → some_of (of_handle h) (move_each f qs) ≡ some_of g qs
        → some_of (of_handle h) (push (at_tick o q) (move_each f qs)) ≡ ((of_handle h q && goes_by o q) || some_of g qs)
    go none ih = ih ∙ ap (λ (t : Bool). t || some_of g qs) (sym (and-not-right (of_handle h q) false refl))
    go (some m) ih = by (goes_on m q)
      where
        by : (b : Bool) → some_of (of_handle h)
            (push (pick b (some (window_tick m (with_since_good q (q.since_good + 1)))) none) (move_each f qs))
            ≡ ((of_handle h q && b) || some_of g qs)
        by true = ap₂ ◌||◌ (ticked-handle m h q ∙ sym (and_same (of_handle h q))) ih
        by false = ih ∙ ap (λ (t : Bool). t || some_of g qs) (sym (and-not-right (of_handle h q) false refl))

pub watching-is : (m : Model) (h : ℕ) → watching m h ≡ some_of (watched_for m h) m.pairs
unfolding watching tick_pairs watched_for
watching-is m h = some-moved m.mons h m.pairs

pub windows-is : (m : Model) (h : ℕ) → windows m h ≡ length (keep (closed_for m h) m.pairs)
unfolding windows closed_for
windows-is m h = refl

-- a test as a number
pub from-one : (t : Bool) (k : ℕ) → k ≡ from_bool t → k ≡ one t
unfolding one pick
from-one true k e = e
from-one false k e = e

pub from-least : (t : Bool) (k : ℕ) → k ≡ from_bool t → k ≤ 1
from-least true k e = omega arith
from-least false k e = omega arith

-- the loop that counts
one_only : (t : Bool) (x : Pair) → one t ≡ length (only t x)
unfolding only one pick
one_only true x = refl
one_only false x = refl

module _ (m : Model) (h : ℕ) where
  pub closed_none : 0 ≡ length (keep (closed_for m h) (take 0 m.pairs))
  unfolding keep
  closed_none = refl

  pub closed-turn : (i k : ℕ) (t : Bool) → i < length m.pairs
      → k ≡ length (keep (closed_for m h) (take i m.pairs))
      → t ≡ closed_for m h (pair_at m i) → k + one t ≡ length (keep (closed_for m h) (take (i + 1) m.pairs))
  unfolding pair_at
  closed-turn i k t b e f =
      let x : Pair = get_or m.pairs i no_pair in
      ap₂ (λ (a c : ℕ). a + c) e (ap one f ∙ one_only (closed_for m h x) x)
      ∙ sym (ap length (keep-take (closed_for m h) m.pairs i no_pair b)
      ∙ length-append (keep (closed_for m h) (take i m.pairs)) (only (closed_for m h x) x))

  pub closed-end : (i k : ℕ) → length m.pairs ≤ i → k ≡ length (keep (closed_for m h) (take i m.pairs))
      → k ≡ windows m h
  closed-end i k b e =
      e ∙ ap (λ (l : List Pair). length (keep (closed_for m h) l)) (take_all i m.pairs b) ∙ sym (windows-is m h)

-- what a tick adds
pub tick-gain : (m : Model) (h : ℕ) {a b : ℕ} → a ≡ windows m h → b ≡ one (watching m h)
    → wide_row (record { packets = 0; reports = a; ticks = b; level = 128 }) ≡ row_in m tick h
unfolding wide_row row_in packets_in reports_in ticks_in sum_in
tick-gain m h {a} {b} e f = λ i. record { packets = 0; reports = e i; ticks = f i; sum = pos 0 }

-- what a sound state's block gives the loops
pub known : (m : Model) (s : List ℕ) {n : ℕ} → sound_model m ≡ true → s ≡ padded m
    → Clamped (get_or s count_at 0) most_pairs n
    → Known m s × Holding m s n
known m s e b c =
    let f : SoundModel m = sound-facts m e in
    let g : Measured m = sound-measured m f in
    let z : get_or s count_at 0 ≡ length m.pairs = ap (λ (x : List ℕ). get_or x count_at 0) b ∙ get_d-count m g in (
      record { facts = f; measured = g; block = b },
      record { measured = g; block = b; count = c.within (omega (arith, f.pairs-most)) ∙ z },
    )
