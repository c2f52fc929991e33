-- Both sides of the edges of request T-13 (version 2 of the monitor command), as rows of the claim in Edges. The
-- expected octets follow from the tables of 000 and from document 02 by hand. Rows with a key that resolves an
-- address stand in the crate keyed.
use Rattle.std.specs.Prelude.{ℕ, zero, suc, List, [], ◌∷◌, ◌++◌, length, take, replicate}
use Rattle.octets.specs.Little.{octets_of}
use Rattle.resolve.specs.Examples.{sample_key}
use Rattle.model.specs.Rows.{Example, Reply, wrote, session, cmd, tck, tcks, quiet, start0, stop0, on, on_answer, add_watch}
use Rattle.model.specs.Requests.{aa, bb, rep, evt, from, rep_of, add_commands, adds_said}

-- a monitor of version 2, high −60, low −80, 1 s: sampling, options, report filtering, key, condition; its peer is
-- the device of the rows
unfoldable pub add_second : ℕ → ℕ → ℕ → List ℕ → List ℕ → List ℕ
add_second sampling options filtering k condition =
    0x0F ∷ 0xC4 ∷ 0xB0 ∷ 1 ∷ sampling ∷ options ∷ filtering ∷ 6 ∷ 5 ∷ 4 ∷ 3 ∷ 2 ∷ 1 ∷ 0 ∷ (k ++ condition)

-- no key; the condition of `aa`, that of the device of the rows, that of a key
unfoldable pub zero_key : List ℕ
zero_key = replicate 16 0

unfoldable pub of_aa : List ℕ
of_aa = 1 ∷ 1 ∷ 3 ∷ 0xFF ∷ 0 ∷ 0xAA ∷ []

unfoldable pub of_device : List ℕ
of_device = 4 ∷ 0 ∷ 6 ∷ 5 ∷ 4 ∷ 3 ∷ 2 ∷ 1 ∷ []

unfoldable pub of_key : List ℕ
of_key = 3 ∷ sample_key

-- with `aa` and no key
unfoldable pub add_plain : ℕ → ℕ → ℕ → List ℕ
add_plain sampling options filtering = add_second sampling options filtering zero_key of_aa

-- its answers
unfoldable pub second : ℕ → ℕ → Reply
second status h = wrote (0x0E ∷ 0x06 ∷ 0x01 ∷ 0x1E ∷ 0xFC ∷ status ∷ 0x0F ∷ h ∷ [])

-- a packet of the device of the rows: number, event type, address type, data, RSSI
unfoldable pub sent : ℕ → ℕ → ℕ → List ℕ → ℕ → List ℕ
sent n event kind l rssi = 2 ∷ (octets_of 4 n ++ (event ∷ kind ∷ 6 ∷ 5 ∷ 4 ∷ 3 ∷ 2 ∷ 1 ∷ length l ∷ (l ++ (rssi ∷ []))))

-- fewer than 31 octets; Monitor_options with none of bits 0 to 5, a reserved bit alone too; each of them alone, and
-- with reserved bits
unfoldable pub t13options : Example
t13options = session
    (cmd 1 (take 30 (add_plain 0 0x20 2)) ∷ cmd 2 (add_plain 0 0x00 2) ∷ cmd 3 (add_plain 0 0x40 2)
    ∷ cmd 4 (add_plain 0 0xC0 2) ∷ cmd 5 (add_plain 0 0x01 2)
    ∷ cmd 6 (add_plain 0 0x04 2) ∷ cmd 7 (add_plain 0 0x10 2) ∷ cmd 8 (add_plain 0 0x20 2) ∷ cmd 9 (add_plain 0 0xE0 0xF2)
    ∷ [])
    (second 0x12 0 ∷ second 0x12 0 ∷ second 0x12 0 ∷ second 0x12 0 ∷ second 0 0 ∷ second 0 1 ∷ second 0 2 ∷ second 0 3
    ∷ second 0 4 ∷ [])
    []

-- bit 1 or 3 with a key of zeros, and with another; peer address types 1 and 2
unfoldable pub t13keys : Example
t13keys = session
    (cmd 1 (add_plain 0 0x02 2) ∷ cmd 2 (add_plain 0 0x08 2) ∷ cmd 3 (add_plain 0 0x22 2)
    ∷ cmd 4 (add_second 0 0x02 2 sample_key of_aa)
    ∷ cmd 5 (add_second 0 0x08 2 sample_key of_aa)
    ∷ cmd 6 (0x0F ∷ 0xC4 ∷ 0xB0 ∷ 1 ∷ 0 ∷ 0x20 ∷ 2 ∷ 6 ∷ 5 ∷ 4 ∷ 3 ∷ 2 ∷ 1 ∷ 1 ∷ (zero_key ++ of_aa))
    ∷ cmd 7 (0x0F ∷ 0xC4 ∷ 0xB0 ∷ 1 ∷ 0 ∷ 0x20 ∷ 2 ∷ 6 ∷ 5 ∷ 4 ∷ 3 ∷ 2 ∷ 1 ∷ 2 ∷ (zero_key ++ of_aa)) ∷ [])
    (second 0x12 0 ∷ second 0x12 0 ∷ second 0x12 0 ∷ second 0 0 ∷ second 0 1 ∷ second 0 2 ∷ second 0x12 0 ∷ [])
    []

-- condition types 3 and 4 with each of bits 0 to 3, and without
unfoldable pub t13types : Example
t13types = session
    (cmd 1 (add_second 0 0x21 2 sample_key of_device) ∷ cmd 2 (add_second 0 0x22 2 sample_key of_device)
    ∷ cmd 3 (add_second 0 0x24 2 sample_key of_device)
    ∷ cmd 4 (add_second 0 0x28 2 sample_key of_device) ∷ cmd 5 (add_second 0 0x21 2 sample_key of_key)
    ∷ cmd 6 (add_second 0 0x30 2 sample_key of_device)
    ∷ cmd 7 (add_second 0 0x20 2 sample_key of_key) ∷ [])
    (second 0x12 0 ∷ second 0x12 0 ∷ second 0x12 0 ∷ second 0x12 0 ∷ second 0x12 0 ∷ second 0 0 ∷ second 0 1 ∷ [])
    []

-- duplicates filtered with a sampling period, and windows without
unfoldable pub t13sampling : Example
t13sampling = session
    (cmd 1 (add_plain 0 0x20 3) ∷ cmd 2 (add_plain 1 0x20 3) ∷ cmd 3 (add_plain 0xFF 0x20 3) ∷ cmd 4 (add_plain 1 0x20 2)
    ∷ [])
    (second 0 0 ∷ second 0x12 0 ∷ second 0x12 0 ∷ second 0 1 ∷ [])
    []

-- a well-formed condition of 65 octets
unfoldable pub long_aa : List ℕ
long_aa = 1 ∷ 1 ∷ 63 ∷ 0xFF ∷ 0 ∷ replicate 61 0xAA

-- "whatever its tables forbid is 0x12, before any 0x07": a condition of 65 octets, and 16 monitors live
unfoldable pub t13order : Example
t13order = session
    (cmd 1 (add_second 0 0x20 2 zero_key long_aa) ∷ cmd 2 (add_second 0 0x40 2 zero_key long_aa)
    ∷ cmd 3 (add_second 1 0x20 3 zero_key long_aa)
    ∷ (add_commands 16 4 ++ (cmd 20 (add_plain 0 0x20 2) ∷ cmd 21 (add_plain 0 0x40 2) ∷ cmd 22 (add_plain 0 0x02 2)
    ∷ cmd 23 (add_second 0 0x21 2 zero_key of_device)
    ∷ cmd 24 (add_plain 1 0x20 1) ∷ [])))
    (second 0x07 0 ∷ second 0x12 0 ∷ second 0x12 0
    ∷ (adds_said 16 0 ++ (second 0x07 0 ∷ second 0x12 0 ∷ second 0x12 0 ∷ second 0x12 0 ∷ second 0x12 0 ∷ [])))
    []

-- bit 0: the peer with the condition, not without it, not with the other address type, no other device; a reserved
-- bit beside it changes nothing. The image has A1 and A5 lines by handle, reserved bits kept.
unfoldable pub t13peer : Example
t13peer = session
    (cmd 1 (add_plain 0 0x41 0x82) ∷ cmd 2 add_watch ∷ cmd 3 (0x04 ∷ 1 ∷ []) ∷ cmd 4 on ∷ sent 5 0 0 bb 0xC4
    ∷ sent 6 0 1 aa 0xC4 ∷ from 7 7 aa 0xC4
    ∷ cmd 8 add_watch ∷ cmd 9 (0x04 ∷ 1 ∷ []) ∷ sent 10 0 0 aa 0xC4 ∷ sent 11 0 0 bb 0xC4 ∷ [])
    (second 0 0 ∷ wrote (0x0E ∷ 0x06 ∷ 0x01 ∷ 0x1E ∷ 0xFC ∷ 0x00 ∷ 0x03 ∷ 0x01 ∷ [])
    ∷ wrote (0x0E ∷ 0x05 ∷ 0x01 ∷ 0x1E ∷ 0xFC ∷ 0x00 ∷ 0x04 ∷ [])
    ∷ wrote on_answer ∷ wrote [] ∷ wrote [] ∷ wrote []
    ∷ wrote (0x0E ∷ 0x06 ∷ 0x01 ∷ 0x1E ∷ 0xFC ∷ 0x00 ∷ 0x03 ∷ 0x01 ∷ [])
    ∷ wrote (0x0E ∷ 0x05 ∷ 0x01 ∷ 0x1E ∷ 0xFC ∷ 0x00 ∷ 0x04 ∷ []) ∷ wrote (start0 ++ rep 0 aa 0xC4) ∷ wrote [] ∷ [])
    ((0xA0 ∷ 11 ∷ 0 ∷ 0 ∷ 0 ∷ 1 ∷ 0x1E ∷ 0xFC ∷ 2 ∷ 0x4D ∷ 0x53 ∷ [])
    ∷ (0xA5 ∷ 0 ∷ 0xC4 ∷ 0xB0 ∷ 1 ∷ 0 ∷ 1 ∷ 5 ∷ 1 ∷ 3 ∷ 0xFF ∷ 0 ∷ 0xAA ∷ 0x41 ∷ 0x82 ∷ 6 ∷ 5 ∷ 4 ∷ 3 ∷ 2 ∷ 1 ∷ 0
    ∷ zero_key)
    ∷ (0xA3 ∷ 0 ∷ 0 ∷ 6 ∷ 5 ∷ 4 ∷ 3 ∷ 2 ∷ 1 ∷ (replicate 15 0 ++ (0xC4 ∷ 0 ∷ 0 ∷ []))) ∷ (0xAF ∷ 1 ∷ 1 ∷ []) ∷ [])

-- bits 2, 3 and 4 match nothing, a directed packet neither; bit 5 any device with the condition
unfoldable pub t13others : Example
t13others = session
    (cmd 1 (add_second 0 0x1C 2 sample_key of_aa) ∷ cmd 2 on ∷ sent 3 1 0 aa 0xC4 ∷ sent 4 0 0 aa 0xC4
    ∷ cmd 5 (add_plain 0 0x20 2) ∷ from 6 7 aa 0xC4
    ∷ from 7 8 bb 0xC4 ∷ [])
    (second 0 0 ∷ wrote on_answer ∷ wrote [] ∷ wrote [] ∷ second 0 1 ∷ wrote (evt 1 7 1 ++ rep_of 7 aa 0xC4) ∷ wrote []
    ∷ [])
    []

-- report filtering without a bit that fits, bit 2 too: the pair starts and stops, and nothing is reported, at the
-- start neither; with the filter off every packet is
unfoldable pub t13unheard : Example
t13unheard = session
    (cmd 1 (add_plain 0 0x20 0x04) ∷ cmd 2 on ∷ sent 3 0 0 aa 0xC4 ∷ sent 4 1 0 aa 0xC4 ∷ cmd 5 (0x05 ∷ 0 ∷ [])
    ∷ sent 6 0 0 aa 0xC4 ∷ tcks 10 7)
    (second 0 0 ∷ wrote on_answer ∷ wrote start0 ∷ wrote [] ∷ wrote on_answer ∷ wrote (rep 0 aa 0xC4)
    ∷ (quiet 9 ++ (wrote stop0 ∷ [])))
    []

-- bit 3: directed packets, of event type 1, alone
unfoldable pub t13directed : Example
t13directed = session
    (cmd 1 (add_plain 0 0x20 0x08) ∷ cmd 2 on ∷ sent 3 0 0 aa 0xC4 ∷ sent 4 1 0 aa 0xC4 ∷ sent 5 2 0 aa 0xC4 ∷ [])
    (second 0 0 ∷ wrote on_answer ∷ wrote start0 ∷ wrote (rep 1 aa 0xC4) ∷ wrote [] ∷ [])
    []

-- a window's report is judged by the packet that it reports: one of event type 1 behind one of type 0, and the other
-- way round
unfoldable pub t13window : Example
t13window = session
    (cmd 1 (add_plain 1 0x20 0x08) ∷ cmd 2 on ∷ sent 3 1 0 aa 0xC4 ∷ sent 4 0 0 aa 0xC4 ∷ sent 5 1 0 aa 0xC6 ∷ tck 6
    ∷ sent 7 1 0 aa 0xC4 ∷ sent 8 0 0 aa 0xC4
    ∷ tck 9 ∷ [])
    (second 0 0 ∷ wrote on_answer ∷ wrote (start0 ++ rep 1 aa 0xC4) ∷ wrote [] ∷ wrote [] ∷ wrote (rep 1 aa 0xC5)
    ∷ wrote [] ∷ wrote [] ∷ wrote [] ∷ [])
    []

-- duplicates: another RSSI, another event type and back, other data; after the stop a start with the data that was kept
unfoldable pub t13twice : Example
t13twice = session
    (cmd 1 (add_plain 0 0x20 3) ∷ cmd 2 on ∷ sent 3 0 0 aa 0xC4 ∷ sent 4 0 0 aa 0xB0 ∷ sent 5 2 0 aa 0xC4
    ∷ sent 6 2 0 aa 0xC4 ∷ sent 7 0 0 aa 0xC4
    ∷ sent 8 0 0 (aa ++ bb) 0xC4 ∷ sent 9 0 0 aa 0xB0
    ∷ (tcks 10 10 ++ (sent 20 0 0 aa 0xC4 ∷ sent 21 0 0 aa 0xC4 ∷ [])))
    (second 0 0 ∷ wrote on_answer ∷ wrote (start0 ++ rep 0 aa 0xC4) ∷ wrote [] ∷ wrote (rep 2 aa 0xC4) ∷ wrote []
    ∷ wrote (rep 0 aa 0xC4)
    ∷ wrote (rep 0 (aa ++ bb) 0xC4) ∷ wrote (rep 0 aa 0xB0)
    ∷ (quiet 9 ++ (wrote stop0 ∷ wrote (start0 ++ rep 0 aa 0xC4) ∷ wrote [] ∷ [])))
    []

-- with the filter off a duplicate is reported, and a packet that is a reason is kept; a duplicate for one monitor is
-- a reason for another
unfoldable pub t13off : Example
t13off = session
    (cmd 1 (add_plain 0 0x20 3) ∷ sent 2 0 0 aa 0xC4 ∷ sent 3 0 0 aa 0xC4 ∷ sent 4 2 0 aa 0xC4 ∷ cmd 5 on
    ∷ sent 6 2 0 aa 0xC4 ∷ cmd 7 (add_plain 0 0x20 2)
    ∷ sent 8 2 0 aa 0xC4 ∷ sent 9 2 0 aa 0xC4 ∷ [])
    (second 0 0 ∷ wrote (start0 ++ rep 0 aa 0xC4) ∷ wrote (rep 0 aa 0xC4) ∷ wrote (rep 2 aa 0xC4) ∷ wrote on_answer
    ∷ wrote [] ∷ second 0 1
    ∷ wrote (evt 1 6 1 ++ rep 2 aa 0xC4) ∷ wrote (rep 2 aa 0xC4) ∷ [])
    []

-- bits 0 and 3: a start that is no reason keeps none; of a directed packet and its duplicate, with one between them
-- that is no reason and is not kept, the first alone is told; the image keeps it
unfoldable pub t13none : Example
t13none = session
    (cmd 1 (add_plain 0 0x20 9) ∷ cmd 2 on ∷ sent 3 0 0 aa 0xC4 ∷ [])
    (second 0 0 ∷ wrote on_answer ∷ wrote start0 ∷ [])
    ((0xA0 ∷ 3 ∷ 0 ∷ 0 ∷ 0 ∷ 1 ∷ 0x1E ∷ 0xFC ∷ 2 ∷ 0x4D ∷ 0x53 ∷ [])
    ∷ (0xA5 ∷ 0 ∷ 0xC4 ∷ 0xB0 ∷ 1 ∷ 0 ∷ 1 ∷ 5 ∷ 1 ∷ 3 ∷ 0xFF ∷ 0 ∷ 0xAA ∷ 0x20 ∷ 9 ∷ 6 ∷ 5 ∷ 4 ∷ 3 ∷ 2 ∷ 1 ∷ 0
    ∷ zero_key)
    ∷ (0xA3 ∷ 0 ∷ 0 ∷ 6 ∷ 5 ∷ 4 ∷ 3 ∷ 2 ∷ 1 ∷ (replicate 15 0 ++ (0xC4 ∷ 0xFF ∷ 0 ∷ []))) ∷ (0xAF ∷ 1 ∷ 1 ∷ []) ∷ [])

unfoldable pub t13kept : Example
t13kept = session
    (cmd 1 (add_plain 0 0x20 9) ∷ cmd 2 on ∷ sent 3 0 0 aa 0xC4 ∷ sent 4 1 0 aa 0xC4 ∷ sent 5 0 0 aa 0xC6
    ∷ sent 6 1 0 aa 0xC6 ∷ [])
    (second 0 0 ∷ wrote on_answer ∷ wrote start0 ∷ wrote (rep 1 aa 0xC4) ∷ wrote [] ∷ wrote [] ∷ [])
    ((0xA0 ∷ 6 ∷ 0 ∷ 0 ∷ 0 ∷ 1 ∷ 0x1E ∷ 0xFC ∷ 2 ∷ 0x4D ∷ 0x53 ∷ [])
    ∷ (0xA5 ∷ 0 ∷ 0xC4 ∷ 0xB0 ∷ 1 ∷ 0 ∷ 1 ∷ 5 ∷ 1 ∷ 3 ∷ 0xFF ∷ 0 ∷ 0xAA ∷ 0x20 ∷ 9 ∷ 6 ∷ 5 ∷ 4 ∷ 3 ∷ 2 ∷ 1 ∷ 0
    ∷ zero_key)
    ∷ (0xA3 ∷ 0 ∷ 0 ∷ 6 ∷ 5 ∷ 4 ∷ 3 ∷ 2 ∷ 1 ∷ (replicate 15 0 ++ (0xC6 ∷ 1 ∷ 3 ∷ aa))) ∷ (0xAF ∷ 1 ∷ 1 ∷ []) ∷ [])

-- all rows
unfoldable pub seconds : List Example
seconds = t13options ∷ t13keys ∷ t13types ∷ t13sampling ∷ t13order ∷ t13peer ∷ t13others ∷ t13unheard ∷ t13directed
    ∷ t13window ∷ t13twice ∷ t13off
    ∷ t13none ∷ t13kept ∷ []
