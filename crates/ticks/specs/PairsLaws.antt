-- Laws of the definitions in Pairs.
use Prim.Native.Nat.{ℕ, suc, ◌+◌, ◌*◌, zero-le}
use Rattle.std.specs.Prelude.{◌≡◌, Bool, ◌&&◌, not, ltb, eqb, length, take, drop}
use Rattle.std.proofs.Math.Path.{refl, sym, ap}
use Rattle.std.proofs.Common.{◌∙◌}
use Rattle.std.proofs.Math.Bool.{true, false}
use mathlib.Core.List.{List, [], ◌∷◌, ◌++◌, append-nil, map}
use Rattle.std.proofs.Math.Option.{Option, none, some}
use Rattle.std.proofs.Math.Dec.{leb}
use Rattle.std.proofs.Math.ListN.{get_or}
use borrow.Author.Tests.{le-ltb, le-leb}
use Rattle.laws.specs.Put.{put}
use Rattle.laws.specs.Tests.{pick}
use Rattle.laws.specs.Loops.{when}
use Rattle.laws.specs.Rows.{flat}
use Rattle.octets.specs.Little.{little}
use Rattle.rule.specs.Base.{push}
use Rattle.model.specs.Types.{Monitor, Pair, ticks_of}
use Rattle.model.specs.Image.{pair_row, pair_in}
use Rattle.model.specs.Monitors.{allows, has_bit, filtering, lets_through, parameters, run_of, windowed}
use Rattle.model.specs.Watch.{with_since_good, with_ticks, emptied, goes_on as goes_on_pair, closes, window_tick, at_tick}
use Rattle.model.specs.Watch.{window_says, tick_octets}
use Rattle.model.specs.Events.{event, stop_event, window_report}
use Rattle.model.specs.Level.{mean}
use Rattle.model.specs.Block.{pad_to}
use Rattle.blocks.specs.Bounds.{Fits}
use Rattle.blocks.specs.RowsLaws.{get_d_past}
use Rattle.blocks.specs.FieldsLaws.{put-silent, put-ticks, put-emptied, key_of, times_of, place-split}
use Rattle.blocks.specs.PairsLaws.{pair_place}
use Rattle.blocks.specs.PlacesLaws.{pair_in-place}
use Rattle.events.specs.OctetsLaws.{event-pair, report-device}
use Rattle.ticks.specs.Row.{emptied_row, windowed_by, closes_at, goes_on, onward, ticked_row, kept_row, report_row, says_row}
use Rattle.ticks.specs.Row.{told_on, told_row}
use Rattle.model.specs.Layout.{data_at, event_at, handle_at, length_at, most_data, packets_at, pair_size, since_good_at, sum_at, ticks_at}
use Rattle.ticks.specs.Pairs.{filtering_in}

-- the interval and the sampling of a monitor, 0 where there is none
unfoldable pub interval_of : Option Monitor → ℕ
interval_of none = 0
interval_of (some m) = m.interval

unfoldable pub sampling_of : Option Monitor → ℕ
sampling_of none = 0
sampling_of (some m) = m.sampling

unfoldable pub filter_of : ℕ → Option Monitor → ℕ
filter_of filter o = pick (eqb filter 1) (filtering_in o) 0

-- report filtering 0 lets nothing through
through : (t : Bool) (bits event : ℕ) → lets_through (pick t bits 0) event ≡ (t && lets_through bits event)
unfolding lets_through has_bit pick
through true bits event = refl
through false bits event = refl

shuffle : (t a b l : Bool) → (a && (b && (t && l))) ≡ (t && (a && (b && l)))
shuffle true a b l = refl
shuffle false true true l = refl
shuffle false true false l = refl
shuffle false false b l = refl

and_same : (t : Bool) → (t && true) ≡ t
and_same true = refl
and_same false = refl

-- what a pair's row holds
module _ (q : Pair) (f : Fits q) where
  pub place-handle : get_or (pad_to pair_size (pair_row q)) handle_at 0 ≡ q.handle
  unfolding pair_in
  place-handle = ap (λ (p : Pair). p.handle) (pair_in-place q f)

  place-silent : little 2 (pad_to pair_size (pair_row q)) since_good_at ≡ q.since_good
  unfolding pair_in
  place-silent = ap (λ (p : Pair). p.since_good) (pair_in-place q f)

  place-ticks : get_or (pad_to pair_size (pair_row q)) ticks_at 0 ≡ q.ticks
  unfolding pair_in
  place-ticks = ap (λ (p : Pair). p.ticks) (pair_in-place q f)

  place-packets : little 4 (pad_to pair_size (pair_row q)) packets_at ≡ q.packets
  unfolding pair_in
  place-packets = ap (λ (p : Pair). p.packets) (pair_in-place q f)

  place-sum : little 8 (pad_to pair_size (pair_row q)) sum_at ≡ q.sum
  unfolding pair_in
  place-sum = ap (λ (p : Pair). p.sum) (pair_in-place q f)

  place-event : get_or (pad_to pair_size (pair_row q)) event_at 0 ≡ q.event
  unfolding pair_in
  place-event = ap (λ (p : Pair). p.event) (pair_in-place q f)

  place-adv : take (get_or (pad_to pair_size (pair_row q)) length_at 0) (drop data_at (pad_to pair_size (pair_row q))) ≡ q.adv
  unfolding pair_in
  place-adv = ap (λ (p : Pair). p.adv) (pair_in-place q f)

  place-device : take 7 (drop 1 (pad_to pair_size (pair_row q))) ≡ q.address_type ∷ q.address
  place-device =
      ap (λ (l : List ℕ). take 7 (drop 1 l)) (place-split q f.address-length)
      ∙ lib.Seq.take_at (q.address_type ∷ q.address) _ 7 (ap suc f.address-length)

  place-count : get_or (pad_to pair_size (pair_row q)) length_at 0 ≡ length q.adv
  unfolding Rattle.octets.specs.Little.octets_of
  place-count =
      ap (λ (l : List ℕ). get_or l length_at 0) (place-split q f.address-length)
      ∙ get_d_past (key_of q) (times_of q) 8 (ap (λ (n : ℕ). suc (suc n)) f.address-length) 17

  -- the row a tick further
  place-onward : onward (pad_to pair_size (pair_row q)) ≡ pad_to pair_size (pair_row (with_since_good q (q.since_good + 1)))
  unfolding onward
  place-onward = rw place-silent (put-silent q f.address-length (q.since_good + 1))

  place-ticked : (m : Monitor)
      → ticked_row m.sampling (pad_to pair_size (pair_row q)) ≡ pad_to pair_size
      (pair_row (window_tick m (with_since_good q (q.since_good + 1))))
  unfolding ticked_row emptied_row window_tick closes_at windowed_by closes windowed with_since_good pick
  place-ticked m =
      rw (place-onward, place-ticks)
      (go (leb 1 m.sampling && leb m.sampling 254) (leb m.sampling (q.ticks + 1)))
    where
      p : Pair
      p = with_since_good q (q.since_good + 1)

      go : (a b : Bool)
          → pick a (pick (a && b) (emptied_row (pad_to pair_size (pair_row p)))
          (put (pad_to pair_size (pair_row p)) ticks_at ((q.ticks + 1) ∷ [])))
          (pad_to pair_size (pair_row p))
          ≡ pad_to pair_size (pair_row (pick a (pick (a && b) (emptied p) (with_ticks p (q.ticks + 1))) p))
      go true true = put-emptied p f.address-length f.adv-most
      go true false = put-ticks p f.address-length (q.ticks + 1)
      go false b = refl

  pub place_kept : (o : Option Monitor)
      → kept_row (ticks_of (interval_of o)) (sampling_of o) (pad_to pair_size (pair_row q)) ≡ flat
      (map pair_place (push (at_tick o q) []))
  unfolding kept_row goes_on interval_of sampling_of at_tick goes_on_pair run_of ticks_of when pick flat
  place_kept none = rw (le-ltb (little 2 (pad_to pair_size (pair_row q)) since_good_at + 1) 0 zero-le)
  place_kept (some m) = rw place-silent (go (ltb (q.since_good + 1) (10 * m.interval)))
    where
      go : (t : Bool)
          → when t (ticked_row m.sampling (pad_to pair_size (pair_row q)))
          ≡ flat (map pair_place (push (pick t (some (window_tick m (with_since_good q (q.since_good + 1)))) none) []))
      go true = place-ticked m ∙ sym (append-nil _)
      go false = refl

  -- what is written
  place-report : report_row (pad_to pair_size (pair_row q)) ≡ window_report q
  unfolding report_row window_report
  place-report =
      rw (place-event, place-device, place-adv, place-sum, place-packets)
      (report-device q.event q.address_type q.address q.adv (mean q.sum q.packets))

  pub place-told : (o : Option Monitor) (filter : ℕ) (filters prefix : List ℕ)
      → get_or filters q.handle 0 ≡ filter_of filter o
      → told_row (ticks_of (interval_of o)) (sampling_of o) filters prefix
      (pad_to pair_size (pair_row q)) ≡ tick_octets filter prefix o q
  unfolding told_row told_on says_row goes_on interval_of sampling_of closes_at windowed_by tick_octets goes_on_pair window_says
      closes windowed
      run_of ticks_of stop_event allows filter_of filtering_in when pick
  place-told none filter filters prefix e =
      rw (le-ltb (little 2 (pad_to pair_size (pair_row q)) since_good_at + 1) 0 zero-le)
      (event-pair prefix q 0 f.address-length)
  place-told (some m) filter filters prefix e =
      rw (
        place-silent,
        place-ticks,
        place-packets,
        place-count,
        place-handle,
        place-event,
        e,
        le-leb (length q.adv) most_data f.adv-most,
        through (eqb filter 1) (filtering (parameters m)) q.event,
        shuffle (eqb filter 1) (leb 1 m.sampling && leb m.sampling 254 && leb m.sampling (q.ticks + 1))
            (leb 1 q.packets)
            (lets_through (filtering (parameters m)) q.event),
        place-report,
        event-pair prefix q 0 f.address-length,
      )
      (go (ltb (q.since_good + 1) (10 * m.interval)) _)
    where
      go : (t x : Bool) → when (t && x) (window_report q) ++ when (not t) (event prefix q 0) ≡ pick t
          (when x (window_report q)) (event prefix q 0)
      go true x = append-nil (when x (window_report q))
      go false x = refl
