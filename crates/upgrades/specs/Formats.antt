-- The lines of an image in each format that there was, and how those of an earlier one become today's. Definitions
-- alone. Format 1: document 01, with A2 lines. Format 2: document 02, T-05, with A3 lines. Format 3: T-13, A5 lines
-- beside A1. Format 4: T-12, with A4 lines.
use Rattle.std.specs.Prelude.{ℕ, ◌+◌, List, [], ◌∷◌, ◌++◌, map, eqb, length, take, drop}
use Rattle.laws.specs.Tests.{pick}
use Rattle.octets.specs.Little.{octets_of}
use Rattle.model.specs.Types.{Model, Pair}
use Rattle.model.specs.Layout.{rssi_at, prefix_length_at}
use Rattle.model.specs.Image.{head_row, monitor_text, pair_row, end_row}

-- the kept RSSI of a pair that an A2 line does not say: the greatest, so that the pair is not displaced before it is
-- heard again
abbrev pub filled : ℕ
filled = 20

-- document 01: "A2 per pair, in start order: handle, address type, address, ticks since a good packet (2), ticks in
-- the window (1), packets (4), sum (8), event type, n, data of the latest packet in the window"
unfoldable pub old_pair : Pair → List ℕ
old_pair q =
    0xA2 ∷ q.handle ∷ q.address_type
    ∷ (q.address ++ (octets_of 2 q.since_good ++ (q.ticks ∷ (octets_of 4 q.packets ++ (octets_of 8 q.sum
    ++ (q.event ∷ length q.adv ∷ q.adv))))))

-- T-05: the A3 line
unfoldable pub new_pair : Pair → List ℕ
new_pair q = 0xA3 ∷ pair_row q

-- the lines before T-12, with pairs' lines of one kind or the other
unfoldable pub earlier : (Pair → List ℕ) → Model → List (List ℕ)
earlier line m =
    (0xA0 ∷ head_row m) ∷ (map monitor_text m.mons ++ (map line m.pairs ++ ((0xAF ∷ end_row m) ∷ [])))

-- a line behind the head: an A2 line becomes an A3 line with the octet before the event type, every other stays
unfoldable pub fill_line : List ℕ → List ℕ
fill_line [] = []
fill_line (x ∷ r) = pick (eqb x 0xA2) (0xA3 ∷ (take rssi_at r ++ (filled ∷ drop rssi_at r))) (x ∷ r)

-- all lines: behind the head the one edition, from 0 on, with the head's prefix
unfoldable pub renewed : List (List ℕ) → List (List ℕ)
renewed [] = []
renewed (h ∷ rs) = h ∷ ((0xA4 ∷ 0 ∷ 0 ∷ 0 ∷ 0 ∷ drop (1 + prefix_length_at) h) ∷ map fill_line rs)
