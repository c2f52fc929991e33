-- What is asked of a packet frame's octets, and numbers that are held to a limit. Document 01, Lines (02); document
-- 02, T-06 (04). Assumes nothing.
use Rattle.std.specs.Prelude.{ℕ, ◌+◌, ◌-◌, ◌≤◌, ◌<◌, ◌≡◌, Bool, ◌&&◌, ◌||◌, List, leb, eqb, length, take, drop, get_or}
use Rattle.std.proofs.Math.Option.{none, some}
use Rattle.laws.specs.Tests.{pick}
use Rattle.model.specs.Frames.{packet_of, scan_of}
use Rattle.marks.specs.Marks.{marks_at}
use Rattle.model.specs.Layout.{block_size, most_data, most_monitors}

-- where the scan response of a packet's payload begins: behind the octet that says its length. A payload of kind 02
-- ends there with its RSSI; its scan response is none, and stands as an empty part before the RSSI.
unfoldable pub scan_at : List ℕ → ℕ
scan_at l = pick (leb (length l) (10 + get_or l 8 0)) (9 + get_or l 8 0) (10 + get_or l 8 0)

-- the part between the data and the RSSI that is the scan response
abbrev pub scan_part : List ℕ → List ℕ
scan_part l = take (length l - 1 - scan_at l) (drop (scan_at l) l)

-- where the scan response ends: before the last octet, at most 31 octets on
pub record Ends (l : List ℕ) : Type 0 where
  pub low : 9 + get_or l 8 0 ≤ scan_at l
  pub high : scan_at l < length l
  pub most : length l ≤ scan_at l + 1 + most_data
  pub sized : 10 + get_or l 8 0 < length l → length l ≡ 11 + get_or l 8 0 + get_or l (9 + get_or l 8 0) 0
  pub without : length l ≤ 10 + get_or l 8 0 → scan_of l ≡ none
  pub within : 10 + get_or l 8 0 < length l → scan_of l ≡ some (scan_part l)

-- the octets of a packet frame: its length is told by the data length, at most 31, and the scan response's, at most 31
abbrev pub Framed : List ℕ → Type 0
Framed l = (10 + get_or l 8 0 ≤ length l) × (get_or l 8 0 ≤ most_data) × Ends l

-- the same as a test: 10 octets at least, a data length of at most 31, that many octets of data, and then the RSSI,
-- or the scan response's length of at most 31, that many octets of it, and the RSSI
unfoldable pub scan_fits : List ℕ → Bool
scan_fits l =
    leb (11 + get_or l 8 0) (length l)
    && (leb (get_or l (9 + get_or l 8 0) 0) most_data && eqb (length l) (11 + get_or l 8 0 + get_or l (9 + get_or l 8 0) 0))

unfoldable pub framed : List ℕ → Bool
framed l = leb 10 (length l) && (leb (get_or l 8 0) most_data && (eqb (length l) (10 + get_or l 8 0) || scan_fits l))

-- what the octets of the handles are written from: 16 octets, a block, the octets of a packet frame
unfoldable pub fits_for : ℕ → List ℕ → List ℕ → Bool
fits_for n s l = eqb n most_monitors && (eqb (length s) block_size && framed l)

abbrev pub marks_fit : List ℕ → List ℕ → List ℕ → Bool
marks_fit acts s l = fits_for (length acts) s l

-- what stands in their place after a call that wrote them or refused
unfoldable pub marked : Bool → List ℕ → List ℕ → List ℕ → List ℕ
marked t acts s l = pick t (marks_at s (packet_of l)) acts
