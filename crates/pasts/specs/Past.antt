-- What past frames say of all pairs: which packets were starts, which pairs they displaced, which are under watch;
-- the monitors, the filter and the state. Document 01, Commands and Watching, by history; document 02, T-05.
-- Definitions alone.
use Rattle.std.specs.Prelude.{ℕ, zero, suc, ◌-◌, Bool, false, ◌&&◌, ◌||◌, not, List, [], ◌∷◌, ◌++◌, map, leb, ltb, eqb, length, take, get_or}
use Rattle.std.proofs.Math.Option.{Option, none, some}
use Rattle.std.specs.Int.Signed.{le_z, lt_z}
use Rattle.laws.specs.Tests.{pick, sames}
use Rattle.laws.specs.Loops.{some as some_of, keep}
use Rattle.model.specs.Types.{Model, Monitor, Packet, Pair, device_of}
use Rattle.model.specs.Level.{d_bm}
use Rattle.model.specs.Frames.{Typed, command, packet, tick, bad}
use Rattle.model.specs.Commands.{adds_monitor, sub_of, params_in, table, present}
use Rattle.model.specs.Monitors.{accepts, matches, monitor_of, strong}
use Rattle.model.specs.Layout.{most_monitors, most_pairs}
use Rattle.pasts.specs.Pair.{Start, cancels, unbroken, kept_in, pair_of}

-- 05: the enable of the latest such command that is in range; "A fresh state: .. filter off"
unfoldable pub enables : Typed → Bool
enables (command o l) = eqb (sub_of l) 0x05 && (eqb (length l) (params_in table 0x05) && leb (get_or l 1 0) 1)
enables (packet p) = false
enables tick = false
enables bad = false

unfoldable pub enable_in : Typed → ℕ
enable_in (command o l) = get_or l 1 0
enable_in (packet p) = 0
enable_in tick = 0
enable_in bad = 0

unfoldable pub filter_after : List Typed → ℕ
filter_after [] = 0
filter_after (f ∷ past) = pick (enables f) (enable_in f) (filter_after past)

-- 03 and 0F: the settings of a command that its checks accept, but for the room
unfoldable pub offers : Typed → Option Monitor
offers (command o l) =
    pick (adds_monitor l && (leb (params_in table (sub_of l)) (length l) && accepts (monitor_of l)))
    (some (monitor_of l)) none
offers (packet p) = none
offers tick = none
offers bad = none

-- "The new handle is the lowest not live (H)", of the n from k on; `live` says what each handle names
unfoldable pub lowest_free : (ℕ → Option Monitor) → ℕ → ℕ → Option ℕ
lowest_free live zero k = none
lowest_free live (suc n) k = pick (present (live k)) (lowest_free live n (suc k)) (some k)

unfoldable pub is_at : Option ℕ → ℕ → Bool
is_at none h = false
is_at (some k) h = eqb k h

-- "a monitor is live from the executed command that adds it until the one that cancels it"
unfoldable pub offered : Option Monitor → Bool → Option Monitor → Option Monitor
offered none here before = before
offered (some m) here before = pick here (some m) before

unfoldable pub monitor_after : List Typed → ℕ → Option Monitor
monitor_after [] h = none
monitor_after (f ∷ past) h =
    pick (cancels h f) none
    (offered (offers f) (is_at (lowest_free (λ g. monitor_after past g) most_monitors 0) h) (monitor_after past h))

-- the monitors that are live, by handle, of the n from k on
unfoldable pub live_one : ℕ → Option Monitor → List (ℕ × Monitor)
live_one k none = []
live_one k (some m) = (k, m) ∷ []

unfoldable pub live_from : (ℕ → Option Monitor) → ℕ → ℕ → List (ℕ × Monitor)
live_from live zero k = []
live_from live (suc n) k = live_one k (live k) ++ live_from live n (suc k)

unfoldable pub monitors_after : List Typed → List (ℕ × Monitor)
monitors_after past = live_from (monitor_after past) most_monitors 0

-- the frames after frame n
unfoldable pub after_frame : ℕ → List Typed → List Typed
after_frame n past = take (length past - n) past

unfoldable pub since_start : Start → List Typed → List Typed
since_start s past = after_frame s.number past

unfoldable pub same_start : Start → Start → Bool
same_start s t = eqb s.number t.number && eqb s.handle t.handle

unfoldable pub among : Start → List Start → Bool
among s l = some_of (same_start s) l

-- What a past did: its starts in order (one packet's by handle), and those whose pair a later start displaced.
pub record PastStarts : Type 0 where
  pub starts : List Start
  pub gone : List Start

-- "The pair is under watch if there is a start since which no run of 10 × interval ticks has passed without a good
-- packet", since which its monitor was not cancelled; T-05: "a displaced pair is not under watch until a new start"
unfoldable pub stands : List Typed → List Start → Start → Bool
stands past gone s =
    not (some_of (cancels s.handle) (since_start s past)) && (unbroken s (since_start s past) && not (among s gone))

-- the pairs under watch after a past, in the order they started
unfoldable pub watch_by : List Typed → PastStarts → List Start
watch_by past d = keep (stands past d.gone) d.starts

-- the one that keeps the smallest RSSI, "the earliest started if several"; `kept` says what each keeps
unfoldable pub weaker : (Start → ℕ) → Start → List Start → List Start
weaker kept s [] = s ∷ []
weaker kept s (t ∷ l) = pick (le_z (d_bm (kept s)) (d_bm (kept t))) (s ∷ []) (t ∷ l)

unfoldable pub weakest : (Start → ℕ) → List Start → List Start
weakest kept [] = []
weakest kept (s ∷ l) = weaker kept s (weakest kept l)

-- The turns of a packet behind a past. "Each pair keeps its latest matching RSSI, updated for the present packet
-- first."
pub record Turned : Type 0 where
  pub starts : List Start
  pub gone : List Start
  pub watch : List Start

module _ (past : List Typed) (p : Packet) where
  unfoldable pub kept_now : Start → ℕ
  kept_now s = kept_in s (since_start s (packet p ∷ past))

  -- the pair of the handle and the packet's device
  unfoldable pub is_of : ℕ → Start → Bool
  is_of h s = eqb s.handle h && sames (device_of s.packet) (device_of p)

  -- "fewer than 64 pairs are"; T-05: or "its RSSI is above the smallest kept one"
  unfoldable pub room_in : List Start → Bool
  room_in watch = ltb (length watch) most_pairs

  unfoldable pub above : Start → Bool
  above s = lt_z (d_bm (kept_now s)) (d_bm p.rssi)

  unfoldable pub is_start : Monitor → ℕ → List Start → Bool
  is_start m h watch =
      matches m p && (strong m p && (not (some_of (is_of h) watch)
      && (room_in watch || some_of above (weakest kept_now watch))))

  unfoldable pub start_of : Monitor → ℕ → Start
  start_of m h = record { number = suc (length past); handle = h; mon = m; packet = p }

  -- the pair that a start displaces, and those that stay
  unfoldable pub goes_for : List Start → List Start
  goes_for watch = pick (room_in watch) [] (weakest kept_now watch)

  unfoldable pub stays_but : List Start → List Start → List Start
  stays_but out watch = keep (λ s. not (among s out)) watch

  -- "monitors take one packet in handle order, and a start takes its room at once"
  unfoldable pub turn_by : Option Monitor → ℕ → Turned → Turned
  turn_by none h t = t
  turn_by (some m) h t =
      pick (is_start m h t.watch) (record {
        starts = t.starts ++ (start_of m h ∷ []);
        gone = t.gone ++ goes_for t.watch;
        watch = stays_but (goes_for t.watch) t.watch ++ (start_of m h ∷ []);
      }) t

  unfoldable pub turns_by : List Start → ℕ → Turned
  turns_by watch zero = record { starts = []; gone = []; watch = watch }
  turns_by watch (suc n) = turn_by (monitor_after past n) n (turns_by watch n)

-- what one frame adds to what its past did
unfoldable pub deeds_at : Typed → List Typed → PastStarts → PastStarts
deeds_at (command o l) past d = d
deeds_at (packet p) past d =
    let t : Turned = turns_by past p (watch_by past d) most_monitors in
    record { starts = d.starts ++ t.starts; gone = d.gone ++ t.gone }
deeds_at tick past d = d
deeds_at bad past d = d

unfoldable pub deeds : List Typed → PastStarts
deeds [] = record { starts = []; gone = [] }
deeds (f ∷ past) = deeds_at f past (deeds past)

unfoldable pub watch : List Typed → List Start
watch past = watch_by past (deeds past)

unfoldable pub pair_after : List Typed → Start → Pair
pair_after past s = pair_of s (since_start s past)

-- the state that a past leads to: what the image tells. "The position is the number of the last executed frame."
unfoldable pub history_state : ℕ → List ℕ → List Typed → Model
history_state opcode prefix past =
    record {
      position = length past;
      filter = filter_after past;
      opcode = opcode;
      prefix = prefix;
      mons = monitors_after past;
      pairs = map (pair_after past) (watch past);
    }
