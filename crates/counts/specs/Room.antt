-- Which handles a packet starts a pair of, told without its turns: the free places and the pairs that keep a smaller
-- RSSI are the room, and each start takes one of it. Document 02, T-05 ("Each monitor in handle order does this in
-- turn"). Assumes nothing.
use Rattle.std.specs.Prelude.{ℕ, zero, suc, ◌+◌, ◌-◌, Bool, ◌&&◌, not, List, ltb, length}
use Rattle.laws.specs.Tests.{pick}
use Rattle.laws.specs.Loops.{keep}
use Rattle.rule.specs.Engine.{find}
use Rattle.model.specs.Types.{Monitor, Packet, Pair, device_of}
use Rattle.model.specs.Level.{level}
use Rattle.model.specs.Watch.{holds}
use Rattle.model.specs.Layout.{most_pairs}
use Rattle.marks.specs.Marks.{opens, mark}

-- a pair keeps less than an RSSI, and how many of a list do
unfoldable pub weak_of : ℕ → Pair → Bool
weak_of r q = ltb (level q.kept) (level r)

unfoldable pub weak : ℕ → List Pair → ℕ
weak r qs = length (keep (weak_of r) qs)

-- the room for starts at an RSSI
unfoldable pub room : ℕ → List Pair → ℕ
room r qs = (most_pairs - length qs) + weak r qs

-- a handle starts a pair: by its octet, whether its pair is held, and what is left of the room
unfoldable pub begun : ℕ → Bool → ℕ → Bool
begun a held left = opens a && (not held && ltb 0 left)

-- what is left of the room before each handle's turn
unfoldable pub left_of : List (ℕ × Monitor) → Packet → List Pair → ℕ → ℕ
left_of mons p qs zero = room p.rssi qs
left_of mons p qs (suc n) =
    left_of mons p qs n - pick (begun (mark (find mons n) p) (holds qs n (device_of p)) (left_of mons p qs n)) 1 0
