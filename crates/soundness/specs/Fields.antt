-- The tests of rows by their numbers, as the functions compute them, and that they are the clauses. Document 01, The
-- image ("Sound") and Commands (03). Assumes nothing.
use Rattle.std.specs.Prelude.{ℕ, ◌+◌, ◌%◌, Bool, ◌&&◌, ◌||◌, List, leb, ltb, eqb, take, drop, get_or}
use Rattle.laws.specs.Tests.{pick}
use Rattle.laws.specs.Loops.{every}
use Rattle.octets.specs.Little.{little}
use Rattle.parts.specs.Parts.{is_zero}
use Rattle.advert.specs.Condition.{form_of, form_status}
use Rattle.model.specs.Types.{ticks_of}
use Rattle.model.specs.Level.{in_range, sum_in_range}
use Rattle.model.specs.Monitors.{settings_good, allowed}
use Rattle.blocks.specs.Added.{added_in, filtering_of}
use Rattle.model.specs.Layout.{address_type_at, condition_at, condition_length_at, data_at, event_at, extra_at, high_at, interval_at, length_at, low_at, most_data, packets_at, rssi_at, sampling_at, since_good_at, sum_at, ticks_at, condition_type_at}

-- "for P in 1 to 0xFE window ticks below P, packets at most the position, sum from −127 × packets to 20 × packets;
-- with other sampling window ticks and packets 0"
unfoldable pub window_test : ℕ → ℕ → ℕ → ℕ → ℕ → Bool
window_test position sampling ticks packets sum =
    pick (leb 1 sampling && leb sampling 254)
    (ltb ticks sampling && leb packets position && sum_in_range sum packets)
    (eqb ticks 0 && eqb packets 0)

-- T-13: what stands there "though packets is 0" where duplicates are filtered: a packet, or event type 0xFF and n 0
unfoldable pub latest_test : Bool → ℕ → ℕ → Bool
latest_test sifting event n = pick sifting (leb event 3 || (eqb event 0xFF && eqb n 0)) (eqb event 0 && eqb n 0)

-- "with packets 0 the sum, event type and n are 0"
unfoldable pub empty_test : Bool → ℕ → ℕ → ℕ → ℕ → Bool
empty_test sifting packets sum event n = pick (leb 1 packets) (leb event 3) (eqb sum 0 && latest_test sifting event n)

-- .. what it says of the device and of the latest packet in range, and its window
unfoldable pub seen_test : ℕ → List ℕ → Bool
seen_test interval r =
    leb (get_or r address_type_at 0) 1 && in_range (get_or r rssi_at 0) && ltb (little 2 r since_good_at) (ticks_of interval)

unfoldable pub rest_test : ℕ → ℕ → Bool → List ℕ → Bool
rest_test position sampling sifting r =
    leb (get_or r length_at 0) most_data
    && (window_test position sampling (get_or r ticks_at 0) (little 4 r packets_at) (little 8 r sum_at)
    && empty_test sifting (little 4 r packets_at) (little 8 r sum_at) (get_or r event_at 0) (get_or r length_at 0)
    && every is_zero (drop (data_at + get_or r length_at 0) r))

-- a window that holds nothing but its ticks, and these
unfoldable pub blank_test : List ℕ → Bool
blank_test r = every is_zero (drop packets_at (take rssi_at r)) && every is_zero (drop event_at r)

unfoldable pub ticks_test : ℕ → ℕ → Bool
ticks_test sampling ticks = pick (leb 1 sampling && leb sampling 254) (ltb ticks sampling) (eqb ticks 0)

-- whether the monitor whose row stands at an index filters duplicates
unfoldable pub sifts_at : List ℕ → ℕ → Bool
sifts_at s m = eqb (filtering_of (get_or s (m + extra_at) 0) (get_or s (m + (extra_at + 1)) 0) % 2) 1

-- what version 2 adds, in a row: allowed, or nothing
unfoldable pub added_test : List ℕ → Bool
added_test r =
    pick (eqb (get_or r extra_at 0) 0) (every is_zero (drop extra_at r))
    (allowed (added_in r) (get_or r sampling_at 0) (get_or r condition_type_at 0))

-- the settings and the condition of a row
unfoldable pub form_test : List ℕ → Bool
form_test r =
    settings_good (get_or r high_at 0) (get_or r low_at 0) (get_or r interval_at 0)
    && eqb (form_status (form_of (get_or r condition_type_at 0) (take (get_or r condition_length_at 0) (drop condition_at r)))) 0
