-- What a packet and a tick do to one pair held: it stays sound.
-- Document 01, Watching, by history, and The image ("Sound: .."). Assumes nothing.
use Rattle.std.specs.Prelude.{ℕ, ◌+◌, ◌≤◌, ◌<◌, ◌≡◌, false, ◌&&◌, List, leb, length}
use Rattle.std.proofs.Common.{arith}
use Rattle.std.proofs.Math.Path.{refl}
use Rattle.std.proofs.Math.Bool.{Bool, true}
use Rattle.std.proofs.Math.Option.{some}
use borrow.Author.Tests.{leb-true, leb-false, ltb-true, le-leb}
use Rattle.laws.specs.Tests.{pick}
use Rattle.laws.specs.TestsLaws.{and_left}
use Rattle.laws.specs.Loops.{every, when}
use Rattle.laws.specs.LoopsLaws.{every-nil}
use Rattle.octets.specs.Little.{is_octet}
use Rattle.model.specs.Types.{Monitor, Packet, Pair}
use Rattle.model.specs.Monitors.{allows, good, sifts, windowed, run_of}
use Rattle.model.specs.Watch.{with_since_good, with_kept, with_latest, gathered, with_ticks, emptied, counts, refreshed, remembered, window_takes, at_packet}
use Rattle.model.specs.Watch.{goes_on, closes, window_tick, start_like, start_pair}
use Rattle.model.specs.Sound.{sound_fields, sound_window, sound_latest, sound_empty}
use Rattle.steps.proofs.MovesLaws.{by-test}
use Rattle.steps.specs.FactsLaws.{Fields, fields-of, fields-hold, Gathers, gathers-of, gathers-hold, shut-of}
use Rattle.steps.specs.FactsLaws.{shut-holds, latest-none, empty_of, empty_holds}
use Rattle.steps.specs.WholeLaws.{Kept}
use Rattle.steps.specs.Typed.{Sent}
use Rattle.steps.specs.TypedLaws.{pick-both}
use Rattle.model.specs.Layout.{most_data}
use Rattle.steps.specs.SumsLaws.{summed-add, summed-none, sum_below}

-- a packet that was sent is sound as the one kept
latest-sent : (t : Bool) (event : ℕ) (adv : List ℕ) → t ≡ true → event ≤ 3 → sound_latest t event adv ≡ true
unfolding sound_latest
latest-sent t event adv e h = rw (e, le-leb event 3 h)

-- and so is the one of a start, which may be none
latest-start : (sifting reason : Bool) (event : ℕ) (adv : List ℕ) → event ≤ 3
    → sound_latest sifting (pick sifting (pick reason event 255) 0) (when (sifting && reason) adv) ≡ true
unfolding sound_latest pick when
latest-start true true event adv h = rw (le-leb event 3 h)
latest-start true false event adv h = refl
latest-start false reason event adv h = refl

when-short : (t : Bool) (n : ℕ) (l : List ℕ) → length l ≤ n → every is_octet l ≡ true
    → (length (when t l) ≤ n) × (every is_octet (when t l) ≡ true)
unfolding when
when-short true n l h e = (h, e)
when-short false n l h e = (omega arith, every-nil _)

module _ (m : Monitor) where
  -- one frame later a pair is as sound as it was
  pub kept-later : (j k : ℕ) (q : Pair) → j ≤ k → Kept j m q → Kept k m q
  kept-later j k q h s =
      record {
        fields = s.fields;
        silent-below = s.silent-below;
        window = by-test
            (windowed m) opened shut;
        empty = s.empty;
      }
    where
      opened : windowed m ≡ true → sound_window k m q ≡ true
      opened w =
          let g : Gathers j m q = gathers-of j m q w s.window in
          gathers-hold k m q w (record {
            ticks-below = g.ticks-below;
            packets-most = omega (arith, h, g.packets-most);
            sum_below = g.sum_below;
            summed = g.summed;
          })

      shut : windowed m ≡ false → sound_window k m q ≡ true
      shut w = shut-holds k m q w (shut-of j m q w s.window)

  -- another number of ticks since a good packet
  pub kept-silent : (k n : ℕ) (q : Pair) → n < run_of m → Kept k m q → Kept k m (with_since_good q n)
  unfolding with_since_good sound_fields sound_window sound_empty
  kept-silent k n q h s = record { fields = s.fields; silent-below = h; window = s.window; empty = s.empty }

  pub kept-refreshed : (k : ℕ) (p : Packet) (q : Pair) → 0 < run_of m → Kept k m q → Kept k m (refreshed m p q)
  unfolding refreshed
  kept-refreshed k p q h s = pick-both (Kept k m) (good m p) (with_since_good q 0) q (λ e. kept-silent k 0 q h s)
      (λ e. s)

  -- another kept RSSI
  pub kept-strength : (k : ℕ) (p : Packet) (q : Pair) → Sent p → Kept k m q → Kept k m (with_kept q p.rssi)
  unfolding with_kept sound_window sound_empty
  kept-strength k p q t s =
      let f : Fields q = fields-of q s.fields in
      let fs : Fields (with_kept q p.rssi) =
      record {
        kind-most = f.kind-most;
        address-six = f.address-six;
        address-octets = f.address-octets;
        adv-short = f.adv-short;
        adv-octets = f.adv-octets;
        kept-octet = t.rssi-octet;
        kept_in = t.rssi-in;
      } in
      record {
        fields = fields-hold (with_kept q p.rssi) fs;
        silent-below = s.silent-below;
        window = s.window;
        empty = s.empty;
      }

  -- a packet more in the window
  pub kept-gathered : (k : ℕ) (p : Packet) (q : Pair) → Sent p → windowed m ≡ true → k < 4294967295 → Kept k m q
      → Kept (k + 1) m (gathered p q)
  unfolding gathered
  kept-gathered k p q t w h s =
      let g : Gathers k m q = gathers-of k m q w s.window in
      let f : Fields q = fields-of q s.fields in
      let few : q.packets < 4294967295 = omega (arith, h, g.packets-most) in
      let fs : Fields (gathered p q) =
      record {
        kind-most = f.kind-most;
        address-six = f.address-six;
        address-octets = f.address-octets;
        adv-short = t.adv-short;
        adv-octets = t.adv-octets;
        kept-octet = t.rssi-octet;
        kept_in = t.rssi-in;
      } in
      let gs : Gathers (k + 1) m (gathered p q) =
      record {
        ticks-below = g.ticks-below;
        packets-most = omega (arith, g.packets-most);
        sum_below = sum_below q.sum p.rssi;
        summed = summed-add q.sum q.packets p.rssi few t.rssi-in g.summed;
      } in
      record {
        fields = fields-hold (gathered p q) fs;
        silent-below = s.silent-below;
        window = gathers-hold (k + 1) m (gathered p q) w gs;
        empty = empty_holds m (gathered p q) (λ (e : q.packets + 1 ≡ 0). absurd (omega arith)) (λ e. t.event-most);
      }

  pub kept-takes : (k : ℕ) (p : Packet) (q : Pair) → Sent p → k < 4294967295 → Kept k m q
      → Kept (k + 1) m (window_takes m p q)
  unfolding window_takes
  kept-takes k p q t h s =
      pick-both (Kept (k + 1) m) (windowed m) (gathered p q) q
      (λ w. kept-gathered k p q t w h s) (λ w. kept-later k (k + 1) q (omega arith) s)

  -- the packet kept for duplicates
  kept-latest : (k : ℕ) (p : Packet) (q : Pair) → Sent p → sifts m ≡ true → Kept k m q
      → Kept k m (with_latest p.event p.adv q)
  unfolding with_latest sound_window
  kept-latest k p q t z s =
      let f : Fields q = fields-of q s.fields in
      let r : Pair = with_latest p.event p.adv q in
      let fs : Fields r =
      record {
        kind-most = f.kind-most;
        address-six = f.address-six;
        address-octets = f.address-octets;
        adv-short = t.adv-short;
        adv-octets = t.adv-octets;
        kept-octet = f.kept-octet;
        kept_in = f.kept_in;
      } in
      record {
        fields = fields-hold r fs;
        silent-below = s.silent-below;
        window = s.window;
        empty = empty_holds m r
            (λ e. record {
              no-sum = (empty_of m q s.empty e).no-sum;
              latest = latest-sent (sifts m) p.event p.adv z t.event-most;
            })
            (λ e. t.event-most);
      }

  pub kept-remembered : (k : ℕ) (p : Packet) (q : Pair) → Sent p → Kept k m q → Kept k m (remembered m p q)
  unfolding remembered
  kept-remembered k p q t s =
      pick-both (Kept k m) (sifts m && allows m p.event) (with_latest p.event p.adv q) q
      (λ e. kept-latest k p q t (and_left (sifts m) (allows m p.event) e) s) (λ e. s)

  -- a packet
  pub kept-packet : (k : ℕ) (p : Packet) (q : Pair) → 0 < run_of m → Sent p → k < 4294967295 → Kept k m q
      → Kept (k + 1) m (at_packet (some m) p q)
  unfolding at_packet
  kept-packet k p q r t h s =
      let u : Pair = with_kept q p.rssi in
      let w : Pair = window_takes m p (refreshed m p u) in
      pick-both (Kept (k + 1) m) (counts m p q) (remembered m p w) q
      (λ e. kept-remembered (k + 1) p w t
      (kept-takes k p (refreshed m p u) t h (kept-refreshed k p u r (kept-strength k p q t s))))
      (λ e. kept-later k (k + 1) q (omega arith) s)

  -- a closed window is empty
  pub kept-emptied : (k : ℕ) (q : Pair) → windowed m ≡ true → Kept k m q → Kept k m (emptied q)
  unfolding emptied
  kept-emptied k q w s =
      let f : Fields q = fields-of q s.fields in
      let g : Gathers k m q = gathers-of k m q w s.window in
      let fs : Fields (emptied q) =
      record {
        kind-most = f.kind-most;
        address-six = f.address-six;
        address-octets = f.address-octets;
        adv-short = omega arith;
        adv-octets = every-nil _;
        kept-octet = f.kept-octet;
        kept_in = f.kept_in;
      } in
      let gs : Gathers k m (emptied q) =
      record {
        ticks-below = omega (arith, g.ticks-below);
        packets-most = omega arith;
        sum_below = omega arith;
        summed = summed-none;
      } in
      record {
        fields = fields-hold (emptied q) fs;
        silent-below = s.silent-below;
        window = gathers-hold k m (emptied q) w gs;
        empty = empty_holds m (emptied q) (λ e. record { no-sum = refl; latest = latest-none (sifts m) })
            (λ (e : 1 ≤ 0). absurd (omega arith));
      }

  pub kept-ticks : (k n : ℕ) (q : Pair) → windowed m ≡ true → n < m.sampling → Kept k m q → Kept k m (with_ticks q n)
  unfolding with_ticks sound_fields sound_empty
  kept-ticks k n q w h s =
      let g : Gathers k m q = gathers-of k m q w s.window in
      let gs : Gathers k m (with_ticks q n) =
      record {
        ticks-below = h;
        packets-most = g.packets-most;
        sum_below = g.sum_below;
        summed = g.summed;
      } in
      record {
        fields = s.fields;
        silent-below = s.silent-below;
        window = gathers-hold k m
            (with_ticks q n) w gs;
        empty = s.empty;
      }

  open-ticks : (q : Pair) → windowed m ≡ true → closes m q ≡ false → q.ticks + 1 < m.sampling
  unfolding closes
  open-ticks q w e = leb-false m.sampling (q.ticks + 1) (rw w at e)

  pub kept-window : (k : ℕ) (q : Pair) → Kept k m q → Kept k m (window_tick m q)
  unfolding window_tick
  kept-window k q s =
      pick-both (Kept k m) (windowed m) _ q
      (λ w. pick-both (Kept k m) (closes m q) (emptied q) (with_ticks q (q.ticks + 1))
      (λ e. kept-emptied k q w s) (λ e. kept-ticks k (q.ticks + 1) q w (open-ticks q w e) s))
      (λ w. s)

  -- a tick over which the watch goes on
  pub kept-tick : (k : ℕ) (q : Pair) → goes_on m q ≡ true → Kept k m q
      → Kept k m (window_tick m (with_since_good q (q.since_good + 1)))
  unfolding goes_on
  kept-tick k q e s =
      kept-window k (with_since_good q (q.since_good + 1))
      (kept-silent k (q.since_good + 1) q (ltb-true (q.since_good + 1) (run_of m) e) s)

  sampled : windowed m ≡ true → 1 ≤ m.sampling
  unfolding windowed
  sampled w = leb-true 1 m.sampling (and_left (leb 1 m.sampling) (leb m.sampling 254) w)

  -- a pair at its start
  pub kept-start : (k h : ℕ) (p : Packet) → 0 < run_of m → Sent p → Kept k m (start_pair m h p)
  unfolding start_pair start_like
  kept-start k h p r t =
      let b : Bool = sifts m && allows m p.event in
      let d = when-short b most_data p.adv t.adv-short t.adv-octets in
      let fs : Fields (start_pair m h p) =
      record {
        kind-most = t.kind-most;
        address-six = t.address-six;
        address-octets = t.address-octets;
        adv-short = d.0;
        adv-octets = d.1;
        kept-octet = t.rssi-octet;
        kept_in = t.rssi-in;
      } in
      record {
        fields = fields-hold (start_pair m h p) fs;
        silent-below = r;
        window = by-test (windowed m) opened
            (λ w. shut-holds k m (start_pair m h p) w (record { no-ticks = refl; no-packets = refl }));
        empty = empty_holds m (start_pair m h p)
            (λ e. record {
              no-sum = refl;
              latest = latest-start (sifts m) (allows m p.event) p.event p.adv t.event-most;
            })
            (λ (e : 1 ≤ 0). absurd (omega arith));
      }
    where
      opened : windowed m ≡ true → sound_window k m (start_pair m h p) ≡ true
      opened w =
          gathers-hold k m (start_pair m h p) w (record {
            ticks-below = sampled w;
            packets-most = omega arith;
            sum_below = omega arith;
            summed = summed-none;
          })
