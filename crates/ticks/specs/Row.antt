-- A tick on one row of the pair table: whether the watch goes on, what the row is then, what is written. Document 01,
-- Watching, by
-- history (Tick). Assumes nothing.
use Rattle.std.specs.Prelude.{ℕ, ◌+◌, Bool, ◌&&◌, not, List, [], ◌∷◌, ◌++◌, leb, ltb, take, drop, get_or, replicate}
use Rattle.laws.specs.Put.{put}
use Rattle.laws.specs.Tests.{pick}
use Rattle.laws.specs.Loops.{when}
use Rattle.laws.specs.Rows.{row}
use Rattle.octets.specs.Little.{little, octets_of}
use Rattle.model.specs.Types.{ticks_of}
use Rattle.model.specs.Level.{mean}
use Rattle.model.specs.Monitors.{lets_through}
use Rattle.events.specs.Octets.{event_octets, report_octets}
use Rattle.model.specs.Layout.{data_at, event_at, handle_at, length_at, most_data, packets_at, pair_size, since_good_at, sum_at, ticks_at, counts_size, latest_size}

-- "for sampling P from 0x01 to 0xFE"
unfoldable pub windowed_by : ℕ → Bool
windowed_by period = leb 1 period && leb period 254

-- "each P-th tick since the start closes a window"
unfoldable pub closes_at : ℕ → ℕ → Bool
closes_at period ticks = windowed_by period && leb period (ticks + 1)

-- the watch goes on over one tick more: a run is 10 × interval ticks without a good packet
unfoldable pub goes_on : ℕ → List ℕ → Bool
goes_on run r = ltb (little 2 r since_good_at + 1) run

-- one tick more since a good packet
unfoldable pub onward : List ℕ → List ℕ
onward r = put r 8 (octets_of 2 (little 2 r since_good_at + 1))

-- a row with an empty window: the kept RSSI stays
unfoldable pub emptied_row : List ℕ → List ℕ
emptied_row r = put (put r ticks_at (replicate counts_size 0)) event_at (replicate latest_size 0)

-- the row of a pair that stays: its window closed and empty, or one tick longer, or none
unfoldable pub ticked_row : ℕ → List ℕ → List ℕ
ticked_row period r =
    pick (windowed_by period) (pick (closes_at period (get_or r ticks_at 0)) (emptied_row (onward r))
    (put (onward r) 10 ((get_or r ticks_at 0 + 1) ∷ []))) (onward r)

-- the rows that a row leaves: itself, ticked, or nothing
unfoldable pub kept_row : ℕ → ℕ → List ℕ → List ℕ
kept_row run period r = when (goes_on run r) (ticked_row period r)

-- "one report: the latest of them, with RSSI the greatest whole number not above sum / count"
unfoldable pub report_row : List ℕ → List ℕ
report_row r =
    report_octets (get_or r event_at 0) (take 7 (drop 1 r)) (take (get_or r length_at 0) (drop data_at r))
    (mean (little 8 r sum_at) (little 4 r packets_at))

-- "if the filter is on and the window had matching packets", of a pair that stays, and the report filtering of its
-- monitor lets the latest packet through: it stands by handle, 0 where the filter is off; a row with more data than
-- 31 octets says nothing
unfoldable pub says_row : Bool → ℕ → List ℕ → List ℕ → Bool
says_row on period filters r =
    on && (closes_at period (get_or r ticks_at 0) && (leb 1 (little 4 r packets_at)
    && (leb (get_or r length_at 0) most_data && lets_through (get_or filters (get_or r handle_at 0) 0) (get_or r event_at 0))))

-- "if the watch ends, a stop event and no report. Otherwise .. one report"
unfoldable pub told_on : Bool → ℕ → List ℕ → List ℕ → List ℕ → List ℕ
told_on on period filters prefix r = when (says_row on period filters r) (report_row r) ++ when (not on)
    (event_octets prefix r 0)

unfoldable pub told_row : ℕ → ℕ → List ℕ → List ℕ → List ℕ → List ℕ
told_row run period filters prefix r = told_on (goes_on run r) period filters prefix r

-- a row's run and period, from the intervals and periods by handle; 0 where there are none
unfoldable pub run_in : List ℕ → List ℕ → ℕ
run_in intervals r = ticks_of (get_or intervals (get_or r handle_at 0) 0)

unfoldable pub period_in : List ℕ → List ℕ → ℕ
period_in periods r = get_or periods (get_or r handle_at 0) 0

-- what row j of a table leaves, and what is written for it
unfoldable pub kept_at : List ℕ → List ℕ → List ℕ → ℕ → List ℕ
kept_at intervals periods t j =
    kept_row (run_in intervals (row pair_size j t)) (period_in periods (row pair_size j t))
    (row pair_size j t)

unfoldable pub told_at : List ℕ → List ℕ → List ℕ → List ℕ → List ℕ → ℕ → List ℕ
told_at intervals periods filters prefix t j =
    told_row (run_in intervals (row pair_size j t)) (period_in periods (row pair_size j t)) filters prefix
    (row pair_size j t)
