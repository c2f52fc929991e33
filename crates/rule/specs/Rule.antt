-- The history rule: document 01, "Watching, by history", sentence by sentence. Definitions only; nothing of the
-- engine is used. A past is the list of executed frames, the newest first. A place in it is a number of frames back:
-- 0 is the newest frame, and `take k past` are the frames since the one that stands k back.
use Rattle.std.specs.Prelude.{ℕ, zero, suc, ◌≤◌, ◌<◌, ◌≡◌, ◌⊎◌, Bool, true, false, not, ◌&&◌, cond, List, [], ◌∷◌, length, take, drop, ltb, eqb}
use Rattle.rule.specs.Base.{All, Distinct}
use Rattle.rule.specs.Radio.{Radio, Frame, add, cancel, packet, tick, other, most_monitors, most_pairs}

-- What one handle names: no monitor, or one with its settings and the number of frames after the one that added it.
pub data Live (R : Radio) : Type 0 where
  not_live : Live R
  live_since : R.Mon → ℕ → Live R

module _ (R : Radio) where
  abbrev pub is_live : Live R → Bool
  is_live not_live = false
  is_live (live_since m a) = true

  -- One frame later.
  abbrev pub older : Live R → Live R
  older not_live = not_live
  older (live_since m a) = live_since m (suc a)

  -- All handles below n are live.
  abbrev pub all_live : (ℕ → Live R) → ℕ → Bool
  all_live L zero = true
  all_live L (suc n) = is_live (L n) && all_live L n

  -- "The new handle is the lowest not live" (Commands): h is a handle, is not live, and all lower ones are.
  abbrev pub lowest : (ℕ → Live R) → ℕ → Bool
  lowest L h = ltb h most_monitors && (not (is_live (L h)) && all_live L h)

  -- One frame: accepted settings get the lowest handle not live, if there is one; a cancel ends its handle's monitor.
  -- A monitor is live from the executed command that adds it until the one that cancels it (Sessions and failover).
  abbrev pub live_by : Frame R → (ℕ → Live R) → ℕ → Live R
  live_by (add m) L h = cond (R.okay m && lowest L h) (live_since m zero) (older (L h))
  live_by (cancel g) L h = cond (eqb g h) not_live (older (L h))
  live_by (packet p) L h = older (L h)
  live_by tick L h = older (L h)
  live_by other L h = older (L h)

  -- What each handle names after a past.
  abbrev pub live_after : List (Frame R) → ℕ → Live R
  live_after [] h = not_live
  live_after (f ∷ past) h = live_by f (λ g. live_after past g) h

  -- "Only packets that match its condition count. A packet is good if its RSSI is above low": a good frame, after the
  -- start, for a monitor and a device is a packet of the device that matches and is above low.
  abbrev pub good_for : R.Mon → R.Dev → Frame R → Bool
  good_for m d (add n) = false
  good_for m d (cancel h) = false
  good_for m d (packet p) = R.same (R.dev p) d && (R.matches m p && R.good m p)
  good_for m d tick = false
  good_for m d other = false

  -- One more, if the frame is a tick.
  abbrev pub count : Frame R → ℕ → ℕ
  count (add n) k = k
  count (cancel h) k = k
  count (packet p) k = k
  count tick k = suc k
  count other k = k

  -- The number of ticks among the frames.
  abbrev pub ticks : List (Frame R) → ℕ
  ticks [] = zero
  ticks (f ∷ l) = count f (ticks l)

  -- No frame is good.
  abbrev pub NoGood : R.Mon → R.Dev → List (Frame R) → Type 0
  NoGood m d l = All (λ f. good_for m d f ≡ false) l

  -- "No run of 10 × interval ticks has passed without a good packet": every stretch of the frames, the j that stand i
  -- back, has fewer ticks if no frame of it is good. "The tick that completes such a run ends the watch": fewer.
  abbrev pub NoRun : R.Mon → R.Dev → List (Frame R) → Type 0
  NoRun m d l = (i j : ℕ) → NoGood m d (take j (drop i l)) → ticks (take j (drop i l)) < R.run m

  -- A set of pairs of monitor (its handle) and device.
  abbrev pub Pairs : Type 1
  Pairs = ℕ → R.Dev → Type 0

  -- "Fewer than 64 pairs are": distinct pairs of the set, however chosen, are fewer than 64.
  abbrev pub Room : Pairs → Type 0
  Room U = (l : List (ℕ × R.Dev)) → Distinct l → All (λ x. U x.0 x.1) l → length l < most_pairs

  -- A matching frame for a monitor and a device: a packet of the device that matches, good or not.
  abbrev pub match_for : R.Mon → R.Dev → Frame R → Bool
  match_for m d (add n) = false
  match_for m d (cancel h) = false
  match_for m d (packet p) = R.same (R.dev p) d && R.matches m p
  match_for m d tick = false
  match_for m d other = false

  -- A packet's RSSI.
  abbrev pub rssi_of : Frame R → ℕ
  rssi_of (add n) = zero
  rssi_of (cancel h) = zero
  rssi_of (packet p) = R.rssi p
  rssi_of tick = zero
  rssi_of other = zero

  -- The RSSI of the latest matching packet.
  abbrev pub last_rssi : R.Mon → R.Dev → List (Frame R) → ℕ
  last_rssi m d [] = zero
  last_rssi m d (f ∷ l) = cond (match_for m d f) (rssi_of f) (last_rssi m d l)

  abbrev pub last_of : Live R → R.Dev → List (Frame R) → ℕ
  last_of not_live d l = zero
  last_of (live_since m a) d l = last_rssi m d l

  -- "Each pair keeps its latest matching RSSI": what the pair keeps after the past. A start matches, so for a pair
  -- under watch it is the RSSI of the start or of a later packet.
  abbrev pub kept : List (Frame R) → ℕ → R.Dev → ℕ
  kept past h e = last_of (live_after past h) e past

  -- What a frame can do to a pair, other than by its ticks.
  pub data Deed : Type 0 where
    starts : Deed
    displaces : Deed

  -- `D starts k` and `D displaces k` are the pairs that the frame k back started, and those that it displaced.
  abbrev pub Deeds : Type 1
  Deeds = Deed → ℕ → Pairs

  -- The latest start of a pair stands k back.
  pub record Latest (D : Deeds) (k : ℕ) (h : ℕ) (e : R.Dev) : Type 0 where
    pub start : D starts k h e
    pub last : (j : ℕ) → j < k → D starts j h e → ⊥

  -- "Pairs in the order they started (one packet's starts by handle)": one pair's latest start is before the other's.
  abbrev pub Sooner : Deeds → (ℕ × R.Dev) → (ℕ × R.Dev) → Type 0
  Sooner D x y = (j k : ℕ) → Latest D j x.0 x.1 → Latest D k y.0 y.1
      → (k < j) ⊎ ((j ≡ k) × (x.0 < y.0))

  -- "It is a start if its RSSI is at least high, the pair is not under watch just before": the packet would start a
  -- pair of the live monitor h, where U are the pairs under watch just before its turn.
  pub record WouldStart (past : List (Frame R)) (p : R.Pkt) (h : ℕ) (U : Pairs) : Type 0 where
    pub mon : R.Mon
    pub age : ℕ
    pub live : live_after past h ≡ live_since mon age
    pub match : R.matches mon p ≡ true
    pub strong : R.strong mon p ≡ true
    pub fresh : U h (R.dev p) → ⊥

  -- The packet's RSSI is above what a pair keeps, "updated for the present packet first".
  abbrev pub Above : List (Frame R) → R.Pkt → ℕ → R.Dev → Type 0
  Above past p g c = kept (packet p ∷ past) g c < R.rssi p

  -- "And fewer than 64 pairs are", or "its RSSI is above the smallest kept one", that is, above one of them.
  pub record IsStart (past : List (Frame R)) (p : R.Pkt) (h : ℕ) (U : Pairs) : Type 0 where
    pub would : WouldStart past p h U
    pub room : Room U ⊎ ((g : ℕ) × (c : R.Dev) × U g c × Above past p g c)

  -- "When a packet would start a pair but 64 are under watch, and its RSSI is above the smallest kept one, that pair
  -- (the earliest started if several) gets its stop": the start of handle n ends the watch of the pair (g, c).
  pub record Displaces (past : List (Frame R)) (D : Deeds) (p : R.Pkt) (n : ℕ) (U : Pairs) (g : ℕ) (c : R.Dev)
      : Type 0 where
    pub would : WouldStart past p n U
    pub full : Room U → ⊥
    pub within : U g c
    pub above : Above past p g c
    pub smallest : (h : ℕ) (e : R.Dev) → U h e → kept (packet p ∷ past) g c ≤ kept (packet p ∷ past) h e
    pub earliest : (h : ℕ) (e : R.Dev) → U h e → kept (packet p ∷ past) h e ≡ kept (packet p ∷ past) g c
        → ((h ≡ g) × (e ≡ c)) ⊎ Sooner D (g, c) (h, e)

  -- "Monitors take one packet in handle order, and a start takes its room at once": the pairs under watch just before
  -- handle n's turn, where W are those before the packet.
  abbrev pub JustBefore : List (Frame R) → Deeds → R.Pkt → Pairs → ℕ → Pairs
  JustBefore past D p W zero h e = W h e
  JustBefore past D p W (suc n) h e =
      (JustBefore past D p W n h e × (Displaces past D p n (λ g c. JustBefore past D p W n g c) h e → ⊥))
      ⊎ ((h ≡ n) × (e ≡ R.dev p) × IsStart past p n (λ g c. JustBefore past D p W n g c))

  -- What the frame does to the pair (h, e), where W are the pairs under watch before the frame.
  abbrev pub DoneBy : Deed → Frame R → List (Frame R) → Deeds → Pairs → Pairs
  DoneBy d (add m) past D W h e = ⊥
  DoneBy d (cancel g) past D W h e = ⊥
  DoneBy starts (packet p) past D W h e = (e ≡ R.dev p) × IsStart past p h (JustBefore past D p W h)
  DoneBy displaces (packet p) past D W h e = (n : ℕ) × Displaces past D p n (JustBefore past D p W n) h e
  DoneBy d tick past D W h e = ⊥
  DoneBy d other past D W h e = ⊥

  -- "The pair is under watch if there is a start since which no run of 10 × interval ticks has passed without a good
  -- packet". T-01: the start itself counts as good whatever `low` is, so runs are looked for among the frames after
  -- it; a later packet is good only above low, so one at a shared value of high and low is low. Further, "for a live
  -- monitor and a device, looking at frames after the monitor was added"; and (T-05) "a displaced pair is not under
  -- watch until a new start": since which it was not displaced.
  pub record Watching (past : List (Frame R)) (D : Deeds) (h : ℕ) (e : R.Dev) : Type 0 where
    pub mon : R.Mon
    pub age : ℕ
    pub back : ℕ
    pub live : live_after past h ≡ live_since mon age
    pub since : back < age
    pub start : D starts back h e
    pub unbroken : NoRun mon e (take back past)
    pub stays : (j : ℕ) → j < back → D displaces j h e → ⊥

  -- What the frame k back did. It asks what was under watch just before, that is, after the shorter past: one
  -- recursion on the past.
  abbrev pub DoneAt : List (Frame R) → Deeds
  DoneAt [] d k h e = ⊥
  DoneAt (f ∷ past) d zero h e =
      DoneBy d f past (λ b k x y. DoneAt past b k x y) (λ g c. Watching past (λ b k x y. DoneAt past b k x y) g c) h e
  DoneAt (f ∷ past) d (suc k) h e = DoneAt past d k h e

  -- The pairs that the frame k back started, and those that it displaced.
  abbrev pub StartAt : List (Frame R) → ℕ → Pairs
  StartAt past k h e = DoneAt past starts k h e

  abbrev pub DisplacedAt : List (Frame R) → ℕ → Pairs
  DisplacedAt past k h e = DoneAt past displaces k h e

  -- The pair of monitor h and device e is under watch after the past.
  abbrev pub UnderWatch : List (Frame R) → Pairs
  UnderWatch past h e = Watching past (λ b k x y. DoneAt past b k x y) h e

  -- The latest start of a pair after the past stands k back, and the order of two pairs by it.
  abbrev pub LatestStart : List (Frame R) → ℕ → ℕ → R.Dev → Type 0
  LatestStart past k h e = Latest (λ b k x y. DoneAt past b k x y) k h e

  abbrev pub InOrder : List (Frame R) → (ℕ × R.Dev) → (ℕ × R.Dev) → Type 0
  InOrder past x y = Sooner (λ b k x y. DoneAt past b k x y) x y

  -- The ticks since the last good packet, or all of them where no packet is good.
  abbrev pub ticks_since_good : R.Mon → R.Dev → List (Frame R) → ℕ
  ticks_since_good m d [] = zero
  ticks_since_good m d (f ∷ l) = cond (good_for m d f) zero (count f (ticks_since_good m d l))
