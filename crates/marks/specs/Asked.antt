-- Which handles are asked of a packet, and that the others matter to nothing: a handle whose pair of the packet's
-- device is not held can only start one, and that asks for an RSSI of at least the high threshold, and for room or a
-- weaker pair (`may`). Document 01, Watching, by history; document 02, T-05. Assumes nothing.
use Rattle.std.specs.Prelude.{ℕ, ◌+◌, ◌*◌, Bool, ◌&&◌, ◌||◌, not, List, [], ◌∷◌, ltb, eqb, length, drop, get_or}
use Rattle.laws.specs.Tests.{pick}
use Rattle.laws.specs.Loops.{up_to}
use Rattle.laws.specs.Rows.{row}
use Rattle.model.specs.Level.{level}
use Rattle.model.specs.Types.{Packet}
use Rattle.model.specs.Frames.{packet_of}
use Rattle.marks.specs.Marks.{flag, opens, mark_row}
use Rattle.marks.specs.Fields.{fits_for}
use Rattle.model.specs.Layout.{high_at, monitor_size, monitors_at, most_monitors}

-- the octet of a handle that is asked, 0 of another; those of all 16
unfoldable pub mark_if : ℕ → ℕ → ℕ
mark_if ask a = pick (eqb ask 0) 0 a

-- an octet where it can matter: its handle's pair is held, or a pair may start and it starts one
unfoldable pub spared : Bool → ℕ → ℕ → ℕ
spared may held a = pick (not (eqb held 0) || (may && opens a)) a 0

unfoldable pub marks_for : Bool → List ℕ → List ℕ → Packet → List ℕ
marks_for may held s p =
    up_to (λ h. spared may (get_or held h 0) (mark_row (row monitor_size h (drop monitors_at s)) p) ∷ []) most_monitors

-- the levels that are reached are those below this: up to the packet's where a pair may start, else none
unfoldable pub reach_of : Bool → ℕ → ℕ
reach_of may l = pick may (l + 1) 0

-- whether a handle is asked, as a number: its pair is held, or the high threshold's level is reached
unfoldable pub ask_at : List ℕ → ℕ → ℕ → ℕ → ℕ
ask_at s h held reach = flag (not (eqb held 0) || ltb (level (get_or s (monitors_at + monitor_size * h + high_at) 0)) reach)

unfoldable pub asked_of : List ℕ → List ℕ → ℕ → List ℕ
asked_of held s reach = up_to (λ h. ask_at s h (get_or held h 0) reach ∷ []) most_monitors

-- what the octets are written from, and what stands in their place after a call that wrote them or refused
unfoldable pub held_fit : List ℕ → List ℕ → List ℕ → List ℕ → Bool
held_fit held acts s l = eqb (length held) most_monitors && fits_for (length acts) s l

unfoldable pub marked_for : Bool → Bool → List ℕ → List ℕ → List ℕ → List ℕ → List ℕ
marked_for t may held acts s l = pick t (marks_for may held s (packet_of l)) acts
