-- Document 01, "Both sides of each edge": P1 to P10 as rows under a single claim, which the checker computes, with
-- the rows of the requests of document 02 (Requests). P1 stands in its own text in InFull.
use Rattle.std.specs.Prelude.{List, [], ◌∷◌, ◌++◌}
use Rattle.model.specs.Requests.{requests}
use Rattle.model.specs.Second.{seconds}
use Rattle.model.specs.Rows.{Example, wrote, refusal, session, cmd, pkt, adv, tck, tcks, quiet, add_watch, added0, start0, stop0, report60}
use Rattle.model.specs.Rows.{on, on_answer, add_sampled, invalid03, added1, added2}

-- P2: a packet at −79 after 29 ticks starts the run anew: the 29 ticks after it write nothing, the 30th stops
unfoldable pub p2good : Example
p2good = session
    (cmd 1 add_watch ∷ pkt 2 0xC4 ∷ (tcks 29 3 ++ (pkt 32 0xB1 ∷ tcks 30 33)))
    (wrote added0 ∷ wrote (start0 ++ report60)
    ∷ (quiet 29 ++ (wrote (0x3E ∷ 0x0C ∷ 0x02 ∷ 0x01 ∷ 0 ∷ 0 ∷ 6 ∷ 5 ∷ 4 ∷ 3 ∷ 2 ∷ 1 ∷ 0 ∷ 0xB1 ∷ [])
    ∷ (quiet 29 ++ (wrote stop0 ∷ [])))))
    ([])

-- P2: a packet at −80 does not: the next tick stops
unfoldable pub p2low : Example
p2low = session
    (cmd 1 add_watch ∷ pkt 2 0xC4 ∷ (tcks 29 3 ++ (pkt 32 0xB0 ∷ tck 33 ∷ [])))
    (wrote added0 ∷ wrote (start0 ++ report60)
    ∷ (quiet 29 ++ (wrote (0x3E ∷ 0x0C ∷ 0x02 ∷ 0x01 ∷ 0 ∷ 0 ∷ 6 ∷ 5 ∷ 4 ∷ 3 ∷ 2 ∷ 1 ∷ 0 ∷ 0xB0 ∷ [])
    ∷ wrote stop0 ∷ [])))
    ([])

-- P3: with the filter on, −61 starts nothing, −60 does
unfoldable pub p3 : Example
p3 = session
    (cmd 1 add_watch ∷ cmd 2 on ∷ pkt 3 0xC3 ∷ pkt 4 0xC4 ∷ [])
    (wrote added0 ∷ wrote on_answer ∷ wrote [] ∷ wrote (start0 ++ report60) ∷ [])
    ([])

-- P4: the mean of −60 and −61 is −61
unfoldable pub p4sixty : Example
p4sixty = session
    (cmd 1 add_sampled ∷ cmd 2 on ∷ pkt 3 0xC4 ∷ pkt 4 0xC4 ∷ pkt 5 0xC3 ∷ tck 6 ∷ [])
    (wrote added0 ∷ wrote on_answer ∷ wrote (start0 ++ report60) ∷ wrote [] ∷ wrote []
    ∷ wrote (0x3E ∷ 0x0C ∷ 0x02 ∷ 0x01 ∷ 0 ∷ 0 ∷ 6 ∷ 5 ∷ 4 ∷ 3 ∷ 2 ∷ 1 ∷ 0 ∷ 0xC3 ∷ []) ∷ [])
    ([])

-- P4: the image inside that window: two packets, their sum −121
unfoldable pub p4image : Example
p4image =
    session (cmd 1 add_sampled ∷ cmd 2 on ∷ pkt 3 0xC4 ∷ pkt 4 0xC4 ∷ pkt 5 0xC3 ∷ [])
    (wrote added0 ∷ wrote on_answer ∷ wrote (start0 ++ report60) ∷ wrote [] ∷ wrote [] ∷ [])
    ((0xA0 ∷ 5 ∷ 0 ∷ 0 ∷ 0 ∷ 1 ∷ 0x1E ∷ 0xFC ∷ 2 ∷ 0x4D ∷ 0x53 ∷ [])
    ∷ (0xA1 ∷ 0 ∷ 0xC4 ∷ 0xB0 ∷ 3 ∷ 1 ∷ 4 ∷ 7 ∷ 0 ∷ 6 ∷ 5 ∷ 4 ∷ 3 ∷ 2 ∷ 1 ∷ [])
    ∷ (0xA3 ∷ 0 ∷ 0 ∷ 6 ∷ 5 ∷ 4 ∷ 3 ∷ 2 ∷ 1 ∷ 0 ∷ 0 ∷ 0 ∷ 2 ∷ 0 ∷ 0 ∷ 0 ∷ 0x87 ∷ 0xFF ∷ 0xFF ∷ 0xFF ∷ 0xFF ∷ 0xFF
    ∷ 0xFF ∷ 0xFF ∷ 0xC3 ∷ 0 ∷ 0 ∷ [])
    ∷ (0xAF ∷ 1 ∷ 1 ∷ []) ∷ [])

-- P4: of −1 and 0, −1
unfoldable pub p4minus : Example
p4minus = session
    (cmd 1 add_sampled ∷ cmd 2 on ∷ pkt 3 0xC4 ∷ pkt 4 0xFF ∷ pkt 5 0x00 ∷ tck 6 ∷ [])
    (wrote added0 ∷ wrote on_answer ∷ wrote (start0 ++ report60) ∷ wrote [] ∷ wrote []
    ∷ wrote (0x3E ∷ 0x0C ∷ 0x02 ∷ 0x01 ∷ 0 ∷ 0 ∷ 6 ∷ 5 ∷ 4 ∷ 3 ∷ 2 ∷ 1 ∷ 0 ∷ 0xFF ∷ []) ∷ [])
    ([])

-- P4: of 0 and 1, 0
unfoldable pub p4plus : Example
p4plus = session
    (cmd 1 add_sampled ∷ cmd 2 on ∷ pkt 3 0xC4 ∷ pkt 4 0x00 ∷ pkt 5 0x01 ∷ tck 6 ∷ [])
    (wrote added0 ∷ wrote on_answer ∷ wrote (start0 ++ report60) ∷ wrote [] ∷ wrote []
    ∷ wrote (0x3E ∷ 0x0C ∷ 0x02 ∷ 0x01 ∷ 0 ∷ 0 ∷ 6 ∷ 5 ∷ 4 ∷ 3 ∷ 2 ∷ 1 ∷ 0 ∷ 0x00 ∷ []) ∷ [])
    ([])

-- P5: threshold 20 is accepted, 21 is not
unfoldable pub p5 : Example
p5 = session
    (cmd 1 (0x03 ∷ 0x14 ∷ 0xB0 ∷ 3 ∷ 0 ∷ 4 ∷ 0 ∷ 6 ∷ 5 ∷ 4 ∷ 3 ∷ 2 ∷ 1 ∷ [])
    ∷ cmd 2 (0x03 ∷ 0x15 ∷ 0xB0 ∷ 3 ∷ 0 ∷ 4 ∷ 0 ∷ 6 ∷ 5 ∷ 4 ∷ 3 ∷ 2 ∷ 1 ∷ []) ∷ [])
    (wrote added0 ∷ wrote invalid03 ∷ [])
    ([])

-- P6: interval 0, 1, 60, 61
unfoldable pub p6 : Example
p6 = session
    (cmd 1 (0x03 ∷ 0xC4 ∷ 0xB0 ∷ 0 ∷ 0 ∷ 4 ∷ 0 ∷ 6 ∷ 5 ∷ 4 ∷ 3 ∷ 2 ∷ 1 ∷ [])
    ∷ cmd 2 (0x03 ∷ 0xC4 ∷ 0xB0 ∷ 1 ∷ 0 ∷ 4 ∷ 0 ∷ 6 ∷ 5 ∷ 4 ∷ 3 ∷ 2 ∷ 1 ∷ [])
    ∷ cmd 3 (0x03 ∷ 0xC4 ∷ 0xB0 ∷ 60 ∷ 0 ∷ 4 ∷ 0 ∷ 6 ∷ 5 ∷ 4 ∷ 3 ∷ 2 ∷ 1 ∷ [])
    ∷ cmd 4 (0x03 ∷ 0xC4 ∷ 0xB0 ∷ 61 ∷ 0 ∷ 4 ∷ 0 ∷ 6 ∷ 5 ∷ 4 ∷ 3 ∷ 2 ∷ 1 ∷ []) ∷ [])
    (wrote invalid03 ∷ wrote added0 ∷ wrote added1 ∷ wrote invalid03 ∷ [])
    ([])

-- P7: handles 0, 1, 2, cancel 1, next is 1
unfoldable pub p7 : Example
p7 = session
    (cmd 1 add_watch ∷ cmd 2 add_watch ∷ cmd 3 add_watch ∷ cmd 4 (0x04 ∷ 1 ∷ []) ∷ cmd 5 add_watch ∷ [])
    (wrote added0 ∷ wrote added1 ∷ wrote added2 ∷ wrote (0x0E ∷ 0x05 ∷ 0x01 ∷ 0x1E ∷ 0xFC ∷ 0x00 ∷ 0x04 ∷ [])
    ∷ wrote added1 ∷ [])
    ([])

-- P8: enable 0 on a fresh state is 0x0C, enable 1 succeeds
unfoldable pub p8 : Example
p8 = session
    (cmd 1 (0x05 ∷ 0 ∷ []) ∷ cmd 2 on ∷ [])
    (wrote (0x0E ∷ 0x05 ∷ 0x01 ∷ 0x1E ∷ 0xFC ∷ 0x0C ∷ 0x05 ∷ []) ∷ wrote on_answer ∷ [])
    ([])

-- the features and the prefix, and a wrong length
unfoldable pub read_prefix : Example
read_prefix =
    session (cmd 1 (0x00 ∷ []) ∷ cmd 2 (0x00 ∷ 0 ∷ []) ∷ [])
    (wrote (0x0E ∷ 0x10 ∷ 0x01 ∷ 0x1E ∷ 0xFC ∷ 0 ∷ 0 ∷ 0x0C ∷ 4 ∷ 0 ∷ 0 ∷ 0 ∷ 0 ∷ 0 ∷ 0 ∷ 2 ∷ 0x4D ∷ 0x53 ∷ [])
    ∷ wrote (0x0E ∷ 0x05 ∷ 0x01 ∷ 0x1E ∷ 0xFC ∷ 0x12 ∷ 0x00 ∷ []) ∷ [])
    []

-- Commands, 03: condition types 0 and 5, a malformed condition, type 3 with one octet
unfoldable pub forms : Example
forms = session
    (cmd 1 (0x03 ∷ 0xC4 ∷ 0xB0 ∷ 3 ∷ 0 ∷ 0 ∷ 0 ∷ []) ∷ cmd 2 (0x03 ∷ 0xC4 ∷ 0xB0 ∷ 3 ∷ 0 ∷ 5 ∷ 0 ∷ [])
    ∷ cmd 3 (0x03 ∷ 0xC4 ∷ 0xB0 ∷ 3 ∷ 0 ∷ 4 ∷ 0 ∷ []) ∷ cmd 4 (0x03 ∷ 0xC4 ∷ 0xB0 ∷ 3 ∷ 0 ∷ 3 ∷ 0 ∷ []) ∷ [])
    (wrote invalid03 ∷ wrote invalid03 ∷ wrote invalid03 ∷ wrote invalid03 ∷ [])
    ([])

-- P9: a 16-bit UUID straddling two others is no match, one of the two is
unfoldable pub p9 : Example
p9 = session
    (cmd 1 (0x03 ∷ 0xC4 ∷ 0xB0 ∷ 3 ∷ 0 ∷ 2 ∷ 1 ∷ 0x22 ∷ 0x33 ∷ []) ∷ cmd 2 on
    ∷ adv 3 (5 ∷ 3 ∷ 0x11 ∷ 0x22 ∷ 0x33 ∷ 0x44 ∷ []) 0xC4 ∷ adv 4 (5 ∷ 3 ∷ 0x11 ∷ 0x44 ∷ 0x22 ∷ 0x33 ∷ []) 0xC4
    ∷ [])
    (wrote added0 ∷ wrote on_answer ∷ wrote []
    ∷ wrote (start0 ++
    (0x3E ∷ 0x12 ∷ 0x02 ∷ 0x01 ∷ 0 ∷ 0 ∷ 6 ∷ 5 ∷ 4 ∷ 3 ∷ 2 ∷ 1 ∷ 6 ∷ 5 ∷ 3 ∷ 0x11 ∷ 0x44 ∷ 0x22 ∷ 0x33 ∷ 0xC4
    ∷ [])) ∷ [])
    ([])

-- P10: a frame number equal to the position is seen, two above is a gap, one above is executed
unfoldable pub p10 : Example
p10 = session
    (tck 1 ∷ tck 1 ∷ tck 3 ∷ tck 2 ∷ [])
    (wrote [] ∷ refusal 1 ∷ refusal 2 ∷ wrote [] ∷ [])
    ([])

-- P2 to P10; P1 is `in_full`, with P2's 30th tick
unfoldable pub edges : List Example
edges =
    p2good ∷ p2low ∷ p3 ∷ p4sixty ∷ p4image ∷ p4minus ∷ p4plus ∷ p5 ∷ p6 ∷ p7 ∷ p8 ∷ read_prefix ∷ forms ∷ p9 ∷ p10
    ∷ (requests ++ seconds)
