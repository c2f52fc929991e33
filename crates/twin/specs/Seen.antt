-- What the code keeps while it reads the kept frames: the pairs under watch by their starts, the frame that added
-- each handle's monitor, the filter; and how that stands for what past frames say. Document 02, T-07. Definitions
-- alone.
use Rattle.std.specs.Prelude.{◌≡◌, ℕ, zero, suc, ◌+◌, ◌-◌, ◌<◌, ◌≤◌, Bool, true, false, not, ◌&&◌, ◌⊎◌, List, [], ◌∷◌, ◌++◌, map, length, take, drop, ◌==◌, ◌≢◌, nat_lt, slice_index, slice_index_or, slice_set, Option as Perhaps, Some, None}
use Rattle.std.proofs.Math.Option.{Option, none, some}
use Rattle.laws.specs.Tests.{pick, sames}
use Rattle.laws.specs.Loops.{keep, when}
use Rattle.rule.specs.Base.{All}
use Rattle.model.specs.Types.{Monitor, Packet, device_of}
use Rattle.model.specs.Level.{level}
use Rattle.model.specs.Frames.{Typed, packet, packet_of}
use Rattle.model.specs.Monitors.{accepts, monitor_of, run_of}
use Rattle.model.specs.Layout.{most_monitors, most_pairs}
use Rattle.statuses.specs.Statuses.{add_of, cancel_of, enable_of}
use Rattle.twins.specs.Twin.{most_kept}
use Rattle.pasts.specs.Pair
use Rattle.pasts.specs.Pair.{kept_in, silent_in}
use Rattle.pasts.specs.Past
use Rattle.pasts.specs.Past.{filter_after, goes_for, is_start, monitor_after, turns_by}
use Rattle.twin.specs.declared.watch.Begun.{Begun}
use Rattle.twin.specs.declared.watch.Seen.{Seen}
use Rattle.twin.specs.declared.watch.Deed.{Deed}
use Rattle.twin.specs.declared.watch.Deed.TheVariants.{Still, Joined, Displaced}
use Rattle.twin.specs.declared.watch.Turn.{Turn}
use Rattle.twin.specs.Table.{Sends, after, kind_at, past_at, payload_at, typed_at}
use Rattle.twin.specs.Hears.{Formed, Start, start_of}
use Rattle.twin.specs.Numbered.{Added}

-- the starts kept, and the one at an index
unfoldable pub list_of : Seen → List Begun
list_of s = take s.count s.starts

abbrev pub no_begun : Begun
no_begun = record { packet = 0; handle = 0; monitor = 0 }

unfoldable pub begun_at : Seen → ℕ → Begun
begun_at s i = slice_index_or s.starts i no_begun

-- one start more, none, other monitors, another filter
unfoldable pub pushed : Seen → Begun → Seen
pushed s b = record { starts = slice_set s.starts s.count b; count = s.count + 1; live = s.live; filter = s.filter }

unfoldable pub bare : Seen → Seen
bare s = record { starts = s.starts; count = 0; live = s.live; filter = s.filter }

unfoldable pub with_live : Seen → ℕ → ℕ → Seen
with_live s h a = record { starts = s.starts; count = s.count; live = slice_set s.live h a; filter = s.filter }

unfoldable pub with_filter : Seen → ℕ → Seen
with_filter s v = record { starts = s.starts; count = s.count; live = s.live; filter = v }

-- it has room for 64 starts and names for 16 handles
pub record Held (s : Seen) : Type 0 where
  pub size : length s.starts ≡ most_pairs
  pub names : length s.live ≡ most_monitors
  pub few : s.count ≤ most_pairs

-- r has the starts of a list, the monitors and the filter of s
pub record Rest (s : Seen) (l : List Begun) (r : Seen) : Type 0 where
  pub held : Held r
  pub list : list_of r ≡ l
  pub live : r.live ≡ s.live
  pub filter : r.filter ≡ s.filter

-- a list less the element at an index
unfoldable pub but_at : ℕ → List Begun → List Begun
but_at g [] = []
but_at zero (b ∷ l) = l
but_at (suc g) (b ∷ l) = b ∷ but_at g l

-- the first handle without a monitor, 16 where all have one; the same if there is one; whether one has
unfoldable pub free_in : List ℕ → ℕ
free_in [] = 0
free_in (a ∷ l) = pick (a == 0) 0 (suc (free_in l))

unfoldable pub free_of : List ℕ → Perhaps ℕ
free_of l = pick (nat_lt (free_in l) (length l)) (Some (free_in l)) None

unfoldable pub is_live : List ℕ → ℕ → Bool
is_live l h = not (slice_index l h == 0)

-- what a command's parameters change: 03 and 0F as frame i, 05
unfoldable pub added_by : List ℕ → ℕ → Seen → Seen
added_by l i s = pick (add_of (nat_lt (free_in s.live) most_monitors) l == 0) (with_live s (free_in s.live) (i + 1)) s

unfoldable pub enabled_by : List ℕ → Seen → Seen
enabled_by l s = pick (enable_of s.filter l == 0) (with_filter s (slice_index l 1)) s

-- 04 of a handle: its monitor and its starts go, where the status is 0
unfoldable pub of_other : ℕ → Begun → Bool
of_other h b = not (b.handle == h)

abbrev pub Cancels : List ℕ → Seen → Seen → Type 0
Cancels l s r =
    ((cancel_of (is_live s.live (slice_index l 1)) l ≢ 0) × (r ≡ s))
    ⊎ ((cancel_of (is_live s.live (slice_index l 1)) l ≡ 0)
    × Rest (with_live s (slice_index l 1) 0) (keep (of_other (slice_index l 1)) (list_of s)) r)

-- the start that a kept one stands for, all of them, the monitor that an octet names
unfoldable pub start_at : List ℕ → Begun → Pair.Start
start_at t b = start_of t b.handle b.monitor b.packet

unfoldable pub starts_of : List ℕ → Seen → List Pair.Start
starts_of t s = map (start_at t) (list_of s)

unfoldable pub named_by : List ℕ → ℕ → Option Monitor
named_by t zero = none
named_by t (suc i) = some (monitor_of (drop 3 (payload_at t i)))

-- what n frames say of a start: whether its watch goes on at a tick, the level of what it keeps
unfoldable pub lasts : List ℕ → ℕ → Begun → Bool
lasts t n b = nat_lt (silent_in (start_at t b) (after t b.packet (n - b.packet))) (run_of (start_at t b).mon)

unfoldable pub level_in : List ℕ → ℕ → Begun → ℕ
level_in t n b = level (kept_in (start_at t b) (after t b.packet (n - b.packet)))

-- whether it is of a handle and the device of packet i
unfoldable pub pair_in : List ℕ → ℕ → ℕ → Begun → Bool
pair_in t i h b = b.handle == h && sames (device_of (start_at t b).packet) (device_of (packet_of (payload_at t i)))

-- the first n frames, each of a known kind and its form; frame i is a packet
pub record Frames (t : List ℕ) (n : ℕ) : Type 0 where
  pub few : n ≤ most_kept
  pub formed : (i : ℕ) → i < n → Formed t i
  pub known : (i : ℕ) → i < n → (1 ≤ kind_at t i) × (kind_at t i ≤ 4)

pub record Comes (t : List ℕ) (i : ℕ) : Type 0 where
  pub sends : Sends t i
  pub typed : typed_at t i ≡ packet (packet_of (payload_at t i))

-- a kept start is told by frames among the first n
pub record Marked (t : List ℕ) (n : ℕ) (b : Begun) : Type 0 where
  pub start : Start t b.monitor b.packet
  pub order : b.packet ≤ n
  pub handle : b.handle < most_monitors

-- it is under watch when frame i comes, so its monitor was accepted
pub record Watches (t : List ℕ) (i : ℕ) (b : Begun) : Type 0 where
  pub marked : Marked t i b
  pub accepted : accepts (start_at t b).mon ≡ true

-- its starts are told by frames among the first n, its monitors and filter are those of a past
pub record Shows (t : List ℕ) (n : ℕ) (past : List Typed) (s : Seen) : Type 0 where
  pub held : Held s
  pub marks : All (Marked t n) (list_of s)
  pub adds : (h : ℕ) → 1 ≤ slice_index s.live h → Added t (slice_index s.live h)
  pub live : (h : ℕ) → h < most_monitors → named_by t (slice_index s.live h) ≡ monitor_after past h
  pub filter : s.filter ≡ filter_after past

-- after n frames it is what they say
pub record Agrees (t : List ℕ) (n : ℕ) (s : Seen) : Type 0 where
  pub shows : Shows t n (past_at t n) s
  pub watch : starts_of t s ≡ Past.watch (past_at t n)

-- at packet i, the turns of the handles below h taken
pub record Turns (t : List ℕ) (i h : ℕ) (s : Seen) : Type 0 where
  pub shows : Shows t (i + 1) (past_at t i) s
  pub watch : starts_of t s ≡ (turns_by (past_at t i) (packet_of (payload_at t i)) (Past.watch (past_at t i)) h).watch

-- whether a handle's turn gives a start
unfoldable pub begins : List Typed → Packet → Option Monitor → ℕ → List Pair.Start → Bool
begins past p none h w = false
begins past p (some m) h w = is_start past p m h w

-- whether a deed gives a start; the start at an index that goes for it
abbrev pub starts_by : Deed → Bool
starts_by Still = false
starts_by Joined = true
starts_by (Displaced g) = true

unfoldable pub gone_by : List ℕ → Seen → Deed → List Pair.Start
gone_by t s Still = []
gone_by t s Joined = []
gone_by t s (Displaced g) = start_at t (begun_at s g) ∷ []

-- what the turn of handle h at packet i gives
pub record Took (t : List ℕ) (i h : ℕ) (s : Seen) (r : Turn) : Type 0 where
  pub turns : Turns t i (h + 1) r.seen
  pub started : starts_by r.deed
      ≡ begins (past_at t i) (packet_of (payload_at t i)) (monitor_after (past_at t i) h) h (starts_of t s)
  pub gone : when (starts_by r.deed) (goes_for (past_at t i) (packet_of (payload_at t i)) (starts_of t s))
      ≡ gone_by t s r.deed
  pub within : (g : ℕ) → r.deed ≡ Displaced g → g < s.count

-- the first of the first j starts of which none is smaller, by their levels
pub record Least (f : ℕ → ℕ) (j w : ℕ) : Type 0 where
  pub within : w < j
  pub before : (m : ℕ) → m < w → f w < f m
  pub all : (m : ℕ) → m < j → f w ≤ f m

-- the start b joins: behind the others where there is room; else, where the packet's RSSI is above the smallest kept,
-- for the first that keeps it
pub record Room (b : Begun) (s : Seen) (r : Turn) : Type 0 where
  pub few : s.count < most_pairs
  pub deed : r.deed ≡ Joined
  pub rest : Rest s (list_of s ++ (b ∷ [])) r.seen

pub record Weak (t : List ℕ) (i : ℕ) (s : Seen) (w : ℕ) : Type 0 where
  pub full : most_pairs ≤ s.count
  pub least : Least (λ j. level_in t (i + 1) (begun_at s j)) s.count w

pub record Keeps (t : List ℕ) (i : ℕ) (s : Seen) (r : Turn) : Type 0 where
  pub at : ℕ
  pub weak : Weak t i s at
  pub above : level (packet_of (payload_at t i)).rssi ≤ level_in t (i + 1) (begun_at s at)
  pub deed : r.deed ≡ Still
  pub seen : r.seen ≡ s

pub record Displaces (t : List ℕ) (i : ℕ) (b : Begun) (s : Seen) (r : Turn) : Type 0 where
  pub at : ℕ
  pub weak : Weak t i s at
  pub above : level_in t (i + 1) (begun_at s at) < level (packet_of (payload_at t i)).rssi
  pub deed : r.deed ≡ Displaced at
  pub rest : Rest s (but_at at (list_of s) ++ (b ∷ [])) r.seen

abbrev pub Joins : List ℕ → ℕ → Begun → Seen → Turn → Type 0
Joins t i b s r = Room b s r ⊎ (Keeps t i s r ⊎ Displaces t i b s r)
