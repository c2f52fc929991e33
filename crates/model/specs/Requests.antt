-- Both sides of the edges of the requests of document 02, as rows of the claim in Edges.
use Rattle.std.specs.Prelude.{ℕ, zero, suc, ◌+◌, List, [], ◌∷◌, ◌++◌, length, drop, replicate}
use Rattle.resolve.specs.Examples.{sample_key}
use Rattle.octets.specs.Little.{octets_of}
use Rattle.model.specs.Rows.{Example, Reply, wrote, refusal, session, cmd, pkt, adv, tck, tcks, quiet, add_watch, added0, added1, start0, stop0, invalid03, on, on_answer}

-- T-01: a monitor for the device of the rows, 1 second, sampling 0xFF, with these thresholds; a report of that device
unfoldable pub add_equal : ℕ → ℕ → List ℕ
add_equal high low = 0x03 ∷ high ∷ low ∷ 1 ∷ 0xFF ∷ 4 ∷ 0 ∷ 6 ∷ 5 ∷ 4 ∷ 3 ∷ 2 ∷ 1 ∷ []

unfoldable pub report_at : ℕ → List ℕ
report_at rssi = 0x3E ∷ 0x0C ∷ 0x02 ∷ 0x01 ∷ 0 ∷ 0 ∷ 6 ∷ 5 ∷ 4 ∷ 3 ∷ 2 ∷ 1 ∷ 0 ∷ rssi ∷ []

-- high equal to low is accepted, at −60, at 20 and at −127; low one above high is 0x12; the image has the monitors
unfoldable pub equal_added : Example
equal_added = session
    (cmd 1 (add_equal 0xC4 0xC4) ∷ cmd 2 (add_equal 0xC4 0xC5) ∷ cmd 3 (add_equal 0x14 0x14) ∷ cmd 4 (add_equal 0x81 0x81)
    ∷ cmd 5 (add_equal 0x81 0x82) ∷ [])
    (wrote added0 ∷ wrote invalid03 ∷ wrote added1
    ∷ wrote (0x0E ∷ 0x06 ∷ 0x01 ∷ 0x1E ∷ 0xFC ∷ 0x00 ∷ 0x03 ∷ 0x02 ∷ []) ∷ wrote invalid03 ∷ [])
    ((0xA0 ∷ 5 ∷ 0 ∷ 0 ∷ 0 ∷ 0 ∷ 0x1E ∷ 0xFC ∷ 2 ∷ 0x4D ∷ 0x53 ∷ [])
    ∷ (0xA1 ∷ 0 ∷ 0xC4 ∷ 0xC4 ∷ 1 ∷ 0xFF ∷ 4 ∷ 7 ∷ 0 ∷ 6 ∷ 5 ∷ 4 ∷ 3 ∷ 2 ∷ 1 ∷ [])
    ∷ (0xA1 ∷ 1 ∷ 0x14 ∷ 0x14 ∷ 1 ∷ 0xFF ∷ 4 ∷ 7 ∷ 0 ∷ 6 ∷ 5 ∷ 4 ∷ 3 ∷ 2 ∷ 1 ∷ [])
    ∷ (0xA1 ∷ 2 ∷ 0x81 ∷ 0x81 ∷ 1 ∷ 0xFF ∷ 4 ∷ 7 ∷ 0 ∷ 6 ∷ 5 ∷ 4 ∷ 3 ∷ 2 ∷ 1 ∷ [])
    ∷ (0xAF ∷ 3 ∷ 0 ∷ []) ∷ [])

-- a start at the shared value −60 counts as good: the 9 ticks after it write nothing, the 10th stops
unfoldable pub equal_start : Example
equal_start = session
    (cmd 1 (add_equal 0xC4 0xC4) ∷ pkt 2 0xC4 ∷ tcks 10 3)
    (wrote added0 ∷ wrote (start0 ++ report_at 0xC4) ∷ (quiet 9 ++ (wrote stop0 ∷ [])))
    []

-- under watch a packet at the shared value is low: 9 ticks after the start, it starts no run anew, and the 10th tick
-- stops
unfoldable pub equal_low : Example
equal_low = session
    (cmd 1 (add_equal 0xC4 0xC4) ∷ pkt 2 0xC4 ∷ (tcks 9 3 ++ (pkt 12 0xC4 ∷ tck 13 ∷ [])))
    (wrote added0 ∷ wrote (start0 ++ report_at 0xC4) ∷ (quiet 9 ++ (wrote (report_at 0xC4) ∷ wrote stop0 ∷ [])))
    []

-- a packet one above it is good: 9 ticks more write nothing, the 10th stops
unfoldable pub equal_good : Example
equal_good = session
    (cmd 1 (add_equal 0xC4 0xC4) ∷ pkt 2 0xC4 ∷ (tcks 9 3 ++ (pkt 12 0xC5 ∷ tcks 10 13)))
    (wrote added0 ∷ wrote (start0 ++ report_at 0xC4)
    ∷ (quiet 9 ++ (wrote (report_at 0xC5) ∷ (quiet 9 ++ (wrote stop0 ∷ [])))))
    []

-- T-06: a packet of kind 04 of the device 06 05 04 03 02 01: number, event type, data, scan response, RSSI
unfoldable pub scn : ℕ → ℕ → List ℕ → List ℕ → ℕ → List ℕ
scn n event l r rssi =
    4 ∷ (octets_of 4 n ++ (event ∷ 0 ∷ 6 ∷ 5 ∷ 4 ∷ 3 ∷ 2 ∷ 1 ∷ length l ∷ (l ++ (length r ∷ (r ++ (rssi ∷ []))))))

-- a report of that device: event type, data, RSSI
unfoldable pub rep : ℕ → List ℕ → ℕ → List ℕ
rep event l rssi =
    0x3E ∷ (12 + length l) ∷ 0x02 ∷ 0x01 ∷ event ∷ 0 ∷ 6 ∷ 5 ∷ 4 ∷ 3 ∷ 2 ∷ 1 ∷ length l ∷ (l ++ (rssi ∷ []))

-- a monitor, high −60, low −80, 3 s, with that sampling, of one pattern: 0xAA at the front of a section of AD type
-- 0xFF; a section that has it and one that has not
unfoldable pub add_ff : ℕ → List ℕ
add_ff sampling = 0x03 ∷ 0xC4 ∷ 0xB0 ∷ 3 ∷ sampling ∷ 1 ∷ 1 ∷ 3 ∷ 0xFF ∷ 0 ∷ 0xAA ∷ []

unfoldable pub aa : List ℕ
aa = 2 ∷ 0xFF ∷ 0xAA ∷ []

unfoldable pub bb : List ℕ
bb = 2 ∷ 0xFF ∷ 0xBB ∷ []

-- "each at most 31": 31 and 32 octets of data, 31 and 32 of scan response
unfoldable pub t06sizes : Example
t06sizes = session
    (scn 1 0 (replicate 31 7) [] 0xC4 ∷ scn 2 0 (replicate 32 7) [] 0xC4 ∷ scn 2 0 [] (replicate 31 7) 0xC4
    ∷ scn 3 0 [] (replicate 32 7) 0xC4 ∷ [])
    (wrote (rep 0 (replicate 31 7) 0xC4 ++ rep 4 [] 0xC4) ∷ refusal 5
    ∷ wrote (rep 0 [] 0xC4 ++ rep 4 (replicate 31 7) 0xC4) ∷ refusal 5 ∷ [])
    []

-- "event type 0 or 2"; RSSI −127 to 20; kind 05 is none
unfoldable pub t06events : Example
t06events = session
    (scn 1 0 [] [] 0xC4 ∷ scn 2 1 [] [] 0xC4 ∷ scn 2 2 [] [] 0xC4 ∷ scn 3 3 [] [] 0xC4 ∷ scn 3 4 [] [] 0xC4
    ∷ scn 3 0 [] [] 21 ∷ (5 ∷ octets_of 4 3) ∷ [])
    (wrote (rep 0 [] 0xC4 ++ rep 4 [] 0xC4) ∷ refusal 5 ∷ wrote (rep 2 [] 0xC4 ++ rep 4 [] 0xC4) ∷ refusal 5
    ∷ refusal 5 ∷ refusal 5 ∷ refusal 4 ∷ [])
    []

-- found in the advertisement, in the scan response alone, in both, in a later section alone, in neither; a list that
-- ended in the advertisement goes on in the scan response
unfoldable pub t06texts : Example
t06texts = session
    (cmd 1 (add_ff 0) ∷ cmd 2 on ∷ scn 3 0 aa bb 0xC4 ∷ scn 4 0 [] aa 0xC4 ∷ scn 5 0 aa aa 0xC4
    ∷ scn 6 0 bb (bb ++ aa) 0xC4 ∷ scn 7 0 bb bb 0xC4
    ∷ scn 8 0 (0 ∷ []) aa 0xC4 ∷ scn 9 0 (9 ∷ 0xFF ∷ []) aa 0xC4 ∷ adv 10 bb 0xC4 ∷ [])
    (wrote added0 ∷ wrote on_answer ∷ wrote (start0 ++ (rep 0 aa 0xC4 ++ rep 4 bb 0xC4))
    ∷ wrote (rep 0 [] 0xC4 ++ rep 4 aa 0xC4)
    ∷ wrote (rep 0 aa 0xC4 ++ rep 4 aa 0xC4) ∷ wrote (rep 0 bb 0xC4 ++ rep 4 (bb ++ aa) 0xC4) ∷ wrote []
    ∷ wrote (rep 0 (0 ∷ []) 0xC4 ++ rep 4 aa 0xC4) ∷ wrote (rep 0 (9 ∷ 0xFF ∷ []) 0xC4 ++ rep 4 aa 0xC4) ∷ wrote []
    ∷ [])
    []

-- a UUID that straddles the two texts does not match, one in the scan response does
unfoldable pub t06straddle : Example
t06straddle = session
    (cmd 1 (0x03 ∷ 0xC4 ∷ 0xB0 ∷ 3 ∷ 0 ∷ 2 ∷ 1 ∷ 0x22 ∷ 0x33 ∷ []) ∷ cmd 2 on
    ∷ scn 3 0 (2 ∷ 3 ∷ 0x22 ∷ []) (2 ∷ 3 ∷ 0x33 ∷ []) 0xC4
    ∷ scn 4 0 (3 ∷ 3 ∷ 0x22 ∷ []) (0x33 ∷ []) 0xC4 ∷ scn 5 0 [] (3 ∷ 2 ∷ 0x22 ∷ 0x33 ∷ []) 0xC4 ∷ [])
    (wrote added0 ∷ wrote on_answer ∷ wrote [] ∷ wrote []
    ∷ wrote (start0 ++ (rep 0 [] 0xC4 ++ rep 4 (3 ∷ 2 ∷ 0x22 ∷ 0x33 ∷ []) 0xC4)) ∷ [])
    []

-- the filter off: two reports of every packet of kind 04, one of kind 02; on, with no monitor, none
unfoldable pub t06off : Example
t06off = session
    (scn 1 2 aa bb 0xEC ∷ adv 2 aa 0xEC ∷ cmd 3 on ∷ scn 4 2 aa bb 0xEC ∷ [])
    (wrote (rep 2 aa 0xEC ++ rep 4 bb 0xEC) ∷ wrote (rep 0 aa 0xEC) ∷ wrote on_answer ∷ wrote [] ∷ [])
    []

-- "Windows keep the advertisement only": a packet that matches by its scan response alone enters the window so, with
-- its own event type
unfoldable pub t06window : Example
t06window = session
    (cmd 1 (add_ff 1) ∷ cmd 2 on ∷ scn 3 0 aa [] 0xC4 ∷ scn 4 2 bb aa 0xC6 ∷ tck 5 ∷ scn 6 2 bb aa 0xC6 ∷ [])
    (wrote added0 ∷ wrote on_answer ∷ wrote (start0 ++ (rep 0 aa 0xC4 ++ rep 4 [] 0xC4)) ∷ wrote []
    ∷ wrote (rep 2 bb 0xC6) ∷ wrote [] ∷ [])
    ((0xA0 ∷ 6 ∷ 0 ∷ 0 ∷ 0 ∷ 1 ∷ 0x1E ∷ 0xFC ∷ 2 ∷ 0x4D ∷ 0x53 ∷ [])
    ∷ (0xA1 ∷ 0 ∷ 0xC4 ∷ 0xB0 ∷ 3 ∷ 1 ∷ 1 ∷ 5 ∷ 1 ∷ 3 ∷ 0xFF ∷ 0 ∷ 0xAA ∷ [])
    ∷ (0xA3 ∷ 0 ∷ 0 ∷ 6 ∷ 5 ∷ 4 ∷ 3 ∷ 2 ∷ 1 ∷ 0 ∷ 0 ∷ 0 ∷ 1 ∷ 0 ∷ 0 ∷ 0 ∷ 0xC6 ∷ 0xFF ∷ 0xFF ∷ 0xFF ∷ 0xFF ∷ 0xFF
    ∷ 0xFF ∷ 0xFF ∷ 0xC6 ∷ 2 ∷ 3 ∷ bb)
    ∷ (0xAF ∷ 1 ∷ 1 ∷ []) ∷ [])

-- sampling 0xFF: the start is reported, twice, and nothing after it
unfoldable pub t06start : Example
t06start = session
    (cmd 1 (add_ff 0xFF) ∷ cmd 2 on ∷ scn 3 0 [] aa 0xC4 ∷ scn 4 0 [] aa 0xC4 ∷ tck 5 ∷ [])
    (wrote added0 ∷ wrote on_answer ∷ wrote (start0 ++ (rep 0 [] 0xC4 ++ rep 4 aa 0xC4)) ∷ wrote [] ∷ wrote [] ∷ [])
    []

-- T-03: a monitor, high −60, low −80, 3 s, sampling 0, of that key
unfoldable pub add_key : List ℕ → List ℕ
add_key k = 0x03 ∷ 0xC4 ∷ 0xB0 ∷ 3 ∷ 0 ∷ 3 ∷ k

-- "exactly 16 octets of key .. otherwise 0x12": 15, 16, 17 and 65; a key of zeros is one
unfoldable pub t03sizes : Example
t03sizes = session
    (cmd 1 (add_key (drop 1 sample_key)) ∷ cmd 2 (add_key sample_key) ∷ cmd 3 (add_key (0 ∷ sample_key)) ∷ cmd 4
    (add_key (replicate 65 0))
    ∷ cmd 5 (add_key (replicate 16 0)) ∷ [])
    (wrote invalid03 ∷ wrote added0 ∷ wrote invalid03 ∷ wrote invalid03 ∷ wrote added1 ∷ [])
    ((0xA0 ∷ 5 ∷ 0 ∷ 0 ∷ 0 ∷ 0 ∷ 0x1E ∷ 0xFC ∷ 2 ∷ 0x4D ∷ 0x53 ∷ [])
    ∷ (0xA1 ∷ 0 ∷ 0xC4 ∷ 0xB0 ∷ 3 ∷ 0 ∷ 3 ∷ 16 ∷ sample_key) ∷
    (0xA1 ∷ 1 ∷ 0xC4 ∷ 0xB0 ∷ 3 ∷ 0 ∷ 3 ∷ 16 ∷ replicate 16 0)
    ∷ (0xAF ∷ 2 ∷ 0 ∷ []) ∷ [])

-- T-05: a packet of the device d 5 4 3 2 1 with data; its report, and its start and stop events at a handle
unfoldable pub from : ℕ → ℕ → List ℕ → ℕ → List ℕ
from n d l rssi = 2 ∷ (octets_of 4 n ++ (0 ∷ 0 ∷ d ∷ 5 ∷ 4 ∷ 3 ∷ 2 ∷ 1 ∷ length l ∷ (l ++ (rssi ∷ []))))

unfoldable pub rep_of : ℕ → List ℕ → ℕ → List ℕ
rep_of d l rssi = 0x3E ∷ (12 + length l) ∷ 0x02 ∷ 0x01 ∷ 0 ∷ 0 ∷ d ∷ 5 ∷ 4 ∷ 3 ∷ 2 ∷ 1 ∷ length l ∷ (l ++ (rssi ∷ []))

unfoldable pub evt : ℕ → ℕ → ℕ → List ℕ
evt h d state = 0xFF ∷ 0x0C ∷ 0x4D ∷ 0x53 ∷ 0x02 ∷ 0x00 ∷ d ∷ 5 ∷ 4 ∷ 3 ∷ 2 ∷ 1 ∷ h ∷ state ∷ []

-- a monitor of 60 s with that high, low −127, that sampling, of one octet at the front of a section of AD type 0xFF;
-- its answer
unfoldable pub add_for : ℕ → ℕ → ℕ → List ℕ
add_for high sampling o = 0x03 ∷ high ∷ 0x81 ∷ 60 ∷ sampling ∷ 1 ∷ 1 ∷ 3 ∷ 0xFF ∷ 0 ∷ o ∷ []

unfoldable pub added_at : ℕ → Reply
added_at h = wrote (0x0E ∷ 0x06 ∷ 0x01 ∷ 0x1E ∷ 0xFC ∷ 0x00 ∷ 0x03 ∷ h ∷ [])

-- the events of one packet for the n handles from h on
unfoldable pub evts : ℕ → ℕ → ℕ → List ℕ
evts zero h d = []
evts (suc n) h d = evt h d 1 ++ evts n (suc h) d

-- k monitors with high −50 from handle h on, by frames from n on, and their answers
unfoldable pub add_commands : ℕ → ℕ → List (List ℕ)
add_commands zero n = []
add_commands (suc k) n = cmd n (add_for 0xCE 0xFF 0xAA) ∷ add_commands k (suc n)

unfoldable pub adds_said : ℕ → ℕ → List Reply
adds_said zero h = []
adds_said (suc k) h = added_at h ∷ adds_said k (suc h)

-- sixteen monitors: handle 0 from −127 on and handles 1 to 14 from −50 on match `aa`, handle 15 from −127 on matches
-- `bb`, with windows of one tick; the filter on; four devices at −50 under the first fifteen, three under the last:
-- 63 pairs
unfoldable pub crowd : List (List ℕ)
crowd =
    cmd 1 (add_for 0x81 0xFF 0xAA)
    ∷ (add_commands 14 2 ++ (cmd 16 (add_for 0x81 1 0xBB) ∷ cmd 17 on ∷ from 18 1 aa 0xCE ∷ from 19 2 aa 0xCE
    ∷ from 20 3 aa 0xCE ∷ from 21 4 aa 0xCE ∷ from 22 5 bb 0xCE ∷ from 23 6 bb 0xCE ∷ from 24 7 bb 0xCE ∷ []))

unfoldable pub crowd_said : List Reply
crowd_said =
    adds_said 16 0 ++ (wrote on_answer ∷ wrote (evts 15 0 1 ++ rep_of 1 aa 0xCE) ∷ wrote (evts 15 0 2 ++ rep_of 2 aa 0xCE)
    ∷ wrote (evts 15 0 3 ++ rep_of 3 aa 0xCE) ∷ wrote (evts 15 0 4 ++ rep_of 4 aa 0xCE)
    ∷ wrote (evt 15 5 1 ++ rep_of 5 bb 0xCE)
    ∷ wrote (evt 15 6 1 ++ rep_of 6 bb 0xCE) ∷ wrote (evt 15 7 1 ++ rep_of 7 bb 0xCE) ∷ [])

-- 63 held: the 64th starts and none goes, at −60. 64 held: at −60 nothing, at −59 the smallest goes, of the same
-- handle, and its window, which had a packet, is not reported; the displaced device starts again at its next packet
unfoldable pub t05full : Example
t05full = session
    (crowd ++ (from 25 8 bb 0xC4 ∷ from 26 8 bb 0xC4 ∷ from 27 9 bb 0xC4 ∷ from 28 9 bb 0xC5 ∷ tck 29
    ∷ from 30 8 bb 0xC6 ∷ []))
    (crowd_said ++ (wrote (evt 15 8 1 ++ rep_of 8 bb 0xC4) ∷ wrote [] ∷ wrote []
    ∷ wrote (evt 15 8 0 ++ (evt 15 9 1 ++ rep_of 9 bb 0xC5)) ∷ wrote []
    ∷ wrote (evt 15 9 0 ++ (evt 15 8 1 ++ rep_of 8 bb 0xC6)) ∷ []))
    []

-- 64 held, and device 2 is heard at −70 by its fifteen monitors. At −69 for handle 15 the earliest started of those
-- goes: of another handle and the same device, then of another device; then one packet for handles 0 and 15 displaces
-- two, stop and start in turn, and at last nothing is below −69
unfoldable pub t05two : Example
t05two = session
    (crowd ++ (from 25 8 bb 0xCE ∷ from 26 2 aa 0xBA ∷ from 27 2 bb 0xBB ∷ from 28 3 bb 0xBB
    ∷ from 29 10 (aa ++ bb) 0xBB ∷ from 30 11 bb 0xBA ∷ []))
    (crowd_said ++ (wrote (evt 15 8 1 ++ rep_of 8 bb 0xCE) ∷ wrote []
    ∷ wrote (evt 0 2 0 ++ (evt 15 2 1 ++ rep_of 2 bb 0xBB))
    ∷ wrote (evt 1 2 0 ++ (evt 15 3 1 ++ rep_of 3 bb 0xBB))
    ∷ wrote (evt 2 2 0 ++ (evt 0 10 1 ++ (evt 3 2 0 ++ (evt 15 10 1 ++ rep_of 10 (aa ++ bb) 0xBB)))) ∷ wrote [] ∷ []))
    []

-- all pairs of the packet's device are updated first: device 1 at −40 for handle 15 and the others, whose pairs of it
-- are at −40 then, so that the smallest, at −50, is of device 2; high has to be reached, also by a packet above the
-- smallest
unfoldable pub t05first : Example
t05first = session
    (crowd ++ (from 25 8 bb 0xCE ∷ from 26 1 (aa ++ bb) 0xD8 ∷ from 27 2 aa 0x81 ∷ from 28 12 aa 0xCD ∷ []))
    (crowd_said ++ (wrote (evt 15 8 1 ++ rep_of 8 bb 0xCE)
    ∷ wrote (evt 0 2 0 ++ (evt 15 1 1 ++ rep_of 1 (aa ++ bb) 0xD8)) ∷ wrote []
    ∷ wrote (evt 1 2 0 ++ (evt 0 12 1 ++ rep_of 12 aa 0xCD)) ∷ []))
    []

-- the kept RSSI is that of any matching packet, good or not, and is in the image: −60 at the start, then −90, which
-- is not above low
unfoldable pub t05kept : Example
t05kept = session
    (cmd 1 add_watch ∷ pkt 2 0xC4 ∷ pkt 3 0xA6 ∷ [])
    (wrote added0 ∷ wrote (start0 ++ report_at 0xC4) ∷ wrote (report_at 0xA6) ∷ [])
    ((0xA0 ∷ 3 ∷ 0 ∷ 0 ∷ 0 ∷ 0 ∷ 0x1E ∷ 0xFC ∷ 2 ∷ 0x4D ∷ 0x53 ∷ [])
    ∷ (0xA1 ∷ 0 ∷ 0xC4 ∷ 0xB0 ∷ 3 ∷ 0 ∷ 4 ∷ 7 ∷ 0 ∷ 6 ∷ 5 ∷ 4 ∷ 3 ∷ 2 ∷ 1 ∷ [])
    ∷ (0xA3 ∷ 0 ∷ 0 ∷ 6 ∷ 5 ∷ 4 ∷ 3 ∷ 2 ∷ 1 ∷ 0 ∷ 0 ∷ 0 ∷ 0 ∷ 0 ∷ 0 ∷ 0 ∷ 0 ∷ 0 ∷ 0 ∷ 0 ∷ 0 ∷ 0 ∷ 0 ∷ 0 ∷ 0xA6 ∷ 0 ∷ 0
    ∷ [])
    ∷ (0xAF ∷ 1 ∷ 1 ∷ []) ∷ [])

-- all rows
unfoldable pub requests : List Example
requests = equal_added ∷ equal_start ∷ equal_low ∷ equal_good ∷ t06sizes ∷ t06events ∷ t06texts ∷ t06straddle ∷ t06off
    ∷ t06window ∷ t06start ∷ t03sizes
    ∷ t05full ∷ t05two ∷ t05first ∷ t05kept ∷ []
