-- Texts that are images and texts that are none, as rows of one list under a single claim, which the checker computes.
-- Document 01, The image, A session in full and refusal 10. The first two rows are document 01's own texts; a text that
-- is none is off from an image by the one thing that is named.
use Rattle.std.specs.Prelude.{◌≡◌, refl, Bool, true, not, List, [], ◌∷◌}
use Prim.Native.String.{String}
use Rattle.laws.specs.Loops.{every, each}
use Rattle.model.specs.Image.{is_image}
use Rattle.model.specs.Quoted.{codes}

-- A row is a text, in pieces. Whether it is an image, and is none:
unfoldable pub accepted : List String → Bool
accepted t = is_image (each codes t)

unfoldable pub refused : List String → Bool
refused t = not (is_image (each codes t))

-- the lines of the image of "A session in full", and its monitor with a window of 2 ticks
abbrev a0 : String
a0 = "A002000000001EFC024D53\n"

abbrev a1 : String
a1 = "A100C4B00300040700060504030201\n"

abbrev a3 : String
a3 = "A30000060504030201000000000000000000000000000000C40000\n"

abbrev w1 : String
w1 = "A100C4B00302040700060504030201\n"

-- a monitor of version 2 up to its options, and the peer with its type and its key (T-13)
abbrev s5 : String
s5 = "A500C4B0030001050103090041"

abbrev peer : String
peer = "0605040302010109090909090909090909090909090909\n"

abbrev keyless : String
keyless = "0605040302010000000000000000000000000000000000\n"

-- texts that save writes of sound states
unfoldable pub images : List (List String)
images =
    -- the fresh image and the image of "A session in full"
    ("A000000000001EFC024D53\n" ∷ "AF0000\n" ∷ []) ∷
    (a0 ∷ a1 ∷ a3 ∷ "AF0101\n" ∷ []) ∷
    -- the blank state; the last position, filter on, the last opcode; a prefix of 32 octets
    ("A0000000000000FC00\n" ∷ "AF0000\n" ∷ []) ∷
    ("A0FFFFFFFF01FFFF024D53\n" ∷ "AF0000\n" ∷ []) ∷
    ("A002000000001EFC204D4D4D4D4D4D4D4D4D4D4D4D4D4D4D4D4D4D4D4D4D4D4D4D4D4D4D4D4D4D4D4D\n" ∷ "AF0000\n" ∷ []) ∷
    -- a monitor of handle 15 alone; of interval 60; pairs of one address and two address types
    (a0 ∷ "A10FC4B00300040700060504030201\n" ∷ "AF0100\n" ∷ []) ∷
    (a0 ∷ "A100C4B03C00040700060504030201\n" ∷ "AF0100\n" ∷ []) ∷
    (a0 ∷ a1 ∷ a3 ∷ "A30001060504030201000000000000000000000000000000C40000\n" ∷ "AF0102\n" ∷ []) ∷
    -- high equal to low (T-01)
    (a0 ∷ "A100B0B00300040700060504030201\n" ∷ "AF0100\n" ∷ []) ∷
    -- a kept RSSI of −127 and of 20 (T-05)
    (a0 ∷ a1 ∷ "A30000060504030201000000000000000000000000000000810000\n" ∷ "AF0101\n" ∷ []) ∷
    (a0 ∷ a1 ∷ "A30000060504030201000000000000000000000000000000140000\n" ∷ "AF0101\n" ∷ []) ∷
    -- a key, with a pair of a random address (T-03)
    (a0 ∷ "A100C4B0030003109B7D390AA610103405ADC857A33402EC\n"
    ∷ "A30001AAFB0D948170000000000000000000000000000000C40000\n" ∷ "AF0101\n" ∷ []) ∷
    -- 29 ticks since a good packet, of an interval of 3 seconds
    (a0 ∷ a1 ∷ "A300000605040302011D0000000000000000000000000000C40000\n" ∷ "AF0101\n" ∷ []) ∷
    -- a window of 2 ticks: a packet at −60 with data; at −127 and at 20; as many packets as frames, with 31 octets
    (a0 ∷ w1 ∷ "A3000006050403020100000101000000C4FFFFFFFFFFFFFFC40303020106\n" ∷ "AF0101\n" ∷ []) ∷
    (a0 ∷ w1 ∷ "A300000605040302010000000100000081FFFFFFFFFFFFFFC40000\n" ∷ "AF0101\n" ∷ []) ∷
    (a0 ∷ w1 ∷ "A30000060504030201000000010000001400000000000000C40000\n" ∷ "AF0101\n" ∷ []) ∷
    (a0 ∷ w1 ∷ "A30000060504030201000000020000000000000000000000C4001F" ∷
    "00000000000000000000000000000000000000000000000000000000000000\n" ∷ "AF0101\n" ∷ []) ∷
    -- T-13: version 2 with reserved bits; before and behind an A1 line; options that match nothing, with no key; a
    -- zero address
    (a0 ∷ s5 ∷ "E1F3" ∷ peer ∷ "AF0100\n" ∷ []) ∷
    (a0 ∷ s5 ∷ "2002" ∷ peer ∷ "A101C4B00300040700060504030201\n" ∷ "AF0200\n" ∷ []) ∷
    (a0 ∷ a1 ∷ "A502C4B0030001050103090041" ∷ "2002" ∷ keyless ∷ "AF0200\n" ∷ []) ∷
    (a0 ∷ s5 ∷ "1400" ∷ keyless ∷ "AF0100\n" ∷ []) ∷
    (a0 ∷ s5 ∷ "2106" ∷ "00000000000000" ∷ "00000000000000000000000000000000\n" ∷ "AF0100\n" ∷ []) ∷
    -- type 4 with bits 4 and 5; sampling 1 without duplicate filtering
    (a0 ∷ "A500C4B00300040700060504030201" ∷ "3003" ∷ keyless ∷ "AF0100\n" ∷ []) ∷
    (a0 ∷ "A500C4B0030101050103090041" ∷ "20FE" ∷ keyless ∷ "AF0100\n" ∷ []) ∷
    -- a monitor that filters duplicates: no packet kept, one of event type 3, one without data
    (a0 ∷ s5 ∷ "2003" ∷ keyless ∷ "A30000060504030201000000000000000000000000000000C4FF00\n" ∷ "AF0101\n" ∷ []) ∷
    (a0 ∷ s5 ∷ "2001" ∷ keyless ∷ "A30000060504030201000000000000000000000000000000C40303020941\n" ∷ "AF0101\n" ∷ []) ∷
    (a0 ∷ s5 ∷ "2003" ∷ keyless ∷ "A30000060504030201000000000000000000000000000000C40000\n" ∷ "AF0101\n" ∷ []) ∷ []

-- texts that save writes of no sound state
unfoldable pub others : List (List String)
others =
    -- nothing; no last LF; an LF, a blank line or a line too many; CR
    ([]) ∷
    ("A000000000001EFC024D53\n" ∷ "AF0000" ∷ []) ∷
    (a0 ∷ a1 ∷ a3 ∷ "AF0101" ∷ []) ∷
    ("A000000000001EFC024D53\n" ∷ "AF0000\n" ∷ "\n" ∷ []) ∷
    ("A000000000001EFC024D53\n" ∷ "\n" ∷ "AF0000\n" ∷ []) ∷
    ("A000000000001EFC024D53\n" ∷ "AF0000\n" ∷ "AF0000\n" ∷ []) ∷
    ("A000000000001EFC024D53\n" ∷ "AF0000\n" ∷ "AF0000" ∷ []) ∷
    ("A000000000001EFC024D53\r\n" ∷ "AF0000\r\n" ∷ []) ∷
    -- lower case; a digit too many; a blank
    ("a000000000001EFC024D53\n" ∷ "AF0000\n" ∷ []) ∷
    ("A000000000001EfC024D53\n" ∷ "AF0000\n" ∷ []) ∷
    ("A000000000001EFC024D53\n" ∷ "AF00000\n" ∷ []) ∷
    ("A0 00000000001EFC024D53\n" ∷ "AF0000\n" ∷ []) ∷
    -- counts that lie; an octet too many
    ("A000000000001EFC024D53\n" ∷ "AF0001\n" ∷ []) ∷
    ("A000000000001EFC024D53\n" ∷ "AF0100\n" ∷ []) ∷
    (a0 ∷ a1 ∷ a3 ∷ "AF0100\n" ∷ []) ∷
    (a0 ∷ a1 ∷ a3 ∷ "AF0001\n" ∷ []) ∷
    ("A000000000001EFC024D53\n" ∷ "AF000000\n" ∷ []) ∷
    -- a missing line: A0, A1, A3, AF
    ("AF0000\n" ∷ []) ∷
    (a0 ∷ a3 ∷ "AF0001\n" ∷ []) ∷
    (a0 ∷ a1 ∷ "AF0101\n" ∷ []) ∷
    (a0 ∷ a1 ∷ a3 ∷ []) ∷
    -- lines swapped: A1 and A3, A0 and A1, A0 and AF; a line of another name
    (a0 ∷ a3 ∷ a1 ∷ "AF0101\n" ∷ []) ∷
    (a1 ∷ a0 ∷ a3 ∷ "AF0101\n" ∷ []) ∷
    ("AF0000\n" ∷ "A000000000001EFC024D53\n" ∷ []) ∷
    ("A000000000001EFC024D53\n" ∷ "A4\n" ∷ "AF0000\n" ∷ []) ∷
    -- a handle twice, falling, 16; a pair of no live handle; a pair twice
    (a0 ∷ a1 ∷ a1 ∷ "AF0200\n" ∷ []) ∷
    (a0 ∷ "A101C4B00300040700060504030201\n" ∷ a1 ∷ "AF0200\n" ∷ []) ∷
    (a0 ∷ "A110C4B00300040700060504030201\n" ∷ "AF0100\n" ∷ []) ∷
    (a0 ∷ a1 ∷ "A30100060504030201000000000000000000000000000000C40000\n" ∷ "AF0101\n" ∷ []) ∷
    (a0 ∷ a1 ∷ a3 ∷ a3 ∷ "AF0102\n" ∷ []) ∷
    -- filter 2; opcode 0xFBFF; a prefix length that lies, both ways; a prefix of 33 octets
    ("A002000000021EFC024D53\n" ∷ "AF0000\n" ∷ []) ∷
    ("A00200000000FFFB024D53\n" ∷ "AF0000\n" ∷ []) ∷
    ("A002000000001EFC034D53\n" ∷ "AF0000\n" ∷ []) ∷
    ("A002000000001EFC014D53\n" ∷ "AF0000\n" ∷ []) ∷
    ("A002000000001EFC214D4D4D4D4D4D4D4D4D4D4D4D4D4D4D4D4D4D4D4D4D4D4D4D4D4D4D4D4D4D4D4D4D\n" ∷ "AF0000\n" ∷ []) ∷
    -- monitors that 03 would not accept: low one above high, interval 61, a key of 7, 15 and 17 octets, a malformed
    -- condition
    (a0 ∷ "A100B0B10300040700060504030201\n" ∷ "AF0100\n" ∷ []) ∷
    (a0 ∷ "A100C4B03D00040700060504030201\n" ∷ "AF0100\n" ∷ []) ∷
    (a0 ∷ "A100C4B00300030700060504030201\n" ∷ "AF0100\n" ∷ []) ∷
    (a0 ∷ "A100C4B00300030F9B7D390AA610103405ADC857A33402\n" ∷ "AF0100\n" ∷ []) ∷
    (a0 ∷ "A100C4B0030003119B7D390AA610103405ADC857A33402EC00\n" ∷ "AF0100\n" ∷ []) ∷
    (a0 ∷ "A100C4B003000406000605040302\n" ∷ "AF0100\n" ∷ []) ∷
    -- 30 ticks since a good packet; address type 2; event type 4; 32 octets of data
    (a0 ∷ a1 ∷ "A300000605040302011E0000000000000000000000000000C40000\n" ∷ "AF0101\n" ∷ []) ∷
    (a0 ∷ a1 ∷ "A30002060504030201000000000000000000000000000000C40000\n" ∷ "AF0101\n" ∷ []) ∷
    (a0 ∷ w1 ∷ "A30000060504030201000000010000000000000000000000C40400\n" ∷ "AF0101\n" ∷ []) ∷
    (a0 ∷ w1 ∷ "A30000060504030201000000010000000000000000000000C40020" ∷
    "0000000000000000000000000000000000000000000000000000000000000000\n" ∷ "AF0101\n" ∷ []) ∷
    -- a kept RSSI of −128, of 21 and of 127; a pair's line without it, by both names: an image from before T-05
    (a0 ∷ a1 ∷ "A30000060504030201000000000000000000000000000000800000\n" ∷ "AF0101\n" ∷ []) ∷
    (a0 ∷ a1 ∷ "A30000060504030201000000000000000000000000000000150000\n" ∷ "AF0101\n" ∷ []) ∷
    (a0 ∷ a1 ∷ "A300000605040302010000000000000000000000000000007F0000\n" ∷ "AF0101\n" ∷ []) ∷
    (a0 ∷ a1 ∷ "A200000605040302010000000000000000000000000000000000\n" ∷ "AF0101\n" ∷ []) ∷
    (a0 ∷ a1 ∷ "A300000605040302010000000000000000000000000000000000\n" ∷ "AF0101\n" ∷ []) ∷
    -- a window of 2 ticks with 2 ticks; with more packets than frames; with −128 and 21
    (a0 ∷ w1 ∷ "A30000060504030201000002000000000000000000000000C40000\n" ∷ "AF0101\n" ∷ []) ∷
    (a0 ∷ w1 ∷ "A30000060504030201000000030000000000000000000000C40000\n" ∷ "AF0101\n" ∷ []) ∷
    (a0 ∷ w1 ∷ "A300000605040302010000000100000080FFFFFFFFFFFFFFC40000\n" ∷ "AF0101\n" ∷ []) ∷
    (a0 ∷ w1 ∷ "A30000060504030201000000010000001500000000000000C40000\n" ∷ "AF0101\n" ∷ []) ∷
    -- a packet with sampling 0; a tick with sampling 0xFF
    (a0 ∷ a1 ∷ "A30000060504030201000000010000000000000000000000C40000\n" ∷ "AF0101\n" ∷ []) ∷
    (a0 ∷ "A100C4B003FF040700060504030201\n" ∷ "A30000060504030201000001000000000000000000000000C40000\n" ∷
    "AF0101\n" ∷ []) ∷
    -- an empty window with a sum, an event type, data
    (a0 ∷ w1 ∷ "A30000060504030201000000000000000100000000000000C40000\n" ∷ "AF0101\n" ∷ []) ∷
    (a0 ∷ w1 ∷ "A30000060504030201000000000000000000000000000000C40100\n" ∷ "AF0101\n" ∷ []) ∷
    (a0 ∷ w1 ∷ "A30000060504030201000000000000000000000000000000C4000100\n" ∷ "AF0101\n" ∷ []) ∷
    -- T-13: options 0, with all else 0 too; reserved bits alone; bit 1 and bit 3 without a key; peer type 2
    (a0 ∷ s5 ∷ "0002" ∷ keyless ∷ "AF0100\n" ∷ []) ∷
    (a0 ∷ s5 ∷ "0000" ∷ "00000000000000" ∷ "00000000000000000000000000000000\n" ∷ "AF0100\n" ∷ []) ∷
    (a0 ∷ s5 ∷ "C002" ∷ keyless ∷ "AF0100\n" ∷ []) ∷
    (a0 ∷ s5 ∷ "2202" ∷ keyless ∷ "AF0100\n" ∷ []) ∷
    (a0 ∷ s5 ∷ "0802" ∷ keyless ∷ "AF0100\n" ∷ []) ∷
    (a0 ∷ s5 ∷ "2002" ∷ "0605040302010209090909090909090909090909090909\n" ∷ "AF0100\n" ∷ []) ∷
    -- type 4 with bit 0, type 3 with bit 2; duplicate filtering with sampling 1
    (a0 ∷ "A500C4B00300040700060504030201" ∷ "3103" ∷ keyless ∷ "AF0100\n" ∷ []) ∷
    (a0 ∷ "A500C4B0030003109B7D390AA610103405ADC857A33402EC" ∷ "2402" ∷ keyless ∷ "AF0100\n" ∷ []) ∷
    (a0 ∷ "A500C4B0030101050103090041" ∷ "20FF" ∷ keyless ∷ "AF0100\n" ∷ []) ∷
    -- an octet of the key too few, too many; A1 with what version 2 adds, A5 without; handles that fall
    (a0 ∷ s5 ∷ "2002" ∷ "06050403020101090909090909090909090909090909\n" ∷ "AF0100\n" ∷ []) ∷
    (a0 ∷ s5 ∷ "2002" ∷ "060504030201010909090909090909090909090909090909\n" ∷ "AF0100\n" ∷ []) ∷
    (a0 ∷ "A100C4B0030001050103090041" ∷ "2002" ∷ peer ∷ "AF0100\n" ∷ []) ∷
    (a0 ∷ s5 ∷ "\n" ∷ "AF0100\n" ∷ []) ∷
    (a0 ∷ "A101C4B00300040700060504030201\n" ∷ s5 ∷ "2002" ∷ peer ∷ "AF0200\n" ∷ []) ∷
    -- event type 4 and 254 kept, 255 with data; 255 where duplicates are not filtered
    (a0 ∷ s5 ∷ "2003" ∷ keyless ∷ "A30000060504030201000000000000000000000000000000C40400\n" ∷ "AF0101\n" ∷ []) ∷
    (a0 ∷ s5 ∷ "2003" ∷ keyless ∷ "A30000060504030201000000000000000000000000000000C4FE00\n" ∷ "AF0101\n" ∷ []) ∷
    (a0 ∷ s5 ∷ "2003" ∷ keyless ∷ "A30000060504030201000000000000000000000000000000C4FF0141\n" ∷ "AF0101\n" ∷ []) ∷
    (a0 ∷ s5 ∷ "2002" ∷ keyless ∷ "A30000060504030201000000000000000000000000000000C4FF00\n" ∷ "AF0101\n" ∷ []) ∷ []

-- Each of the first is an image, and none of the others is.
pub edges-hold : (every accepted images ≡ true) × (every refused others ≡ true)
unfolding accepted refused images others codes Rattle.model.specs.Computed.computed
edges-hold = (refl, refl)
