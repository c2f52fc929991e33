-- What the answers of a session tell of its pairs, against the history rule: which frames carry a start or a stop of
-- a pair, and that they take turns. Document 02, T-14; document 01, Watching, by history. Definitions alone, over any
-- radio; the theorem is `tells` of Turns.
use Rattle.std.specs.Prelude.{ℕ, zero, suc, ◌<◌, ◌≡◌, ◌⊎◌, ◌↔◌, Bool, true, false, not, ◌&&◌, cond, List, [], ◌∷◌, map, take, drop, eqb}
use Rattle.rule.specs.Base.{In}
use Rattle.rule.specs.Radio.{Radio, Frame, tick}
use Rattle.rule.specs.Rule.{live_since, live_after, ticks_since_good, StartAt, DisplacedAt, UnderWatch, LatestStart}

-- An event of a pair: its monitor's handle, its device, and whether it is a start (true) or a stop (false).
pub record Event (R : Radio) : Type 0 where
  pub handle : ℕ
  pub device : R.Dev
  pub starts : Bool

module _ (R : Radio) where
  abbrev pub start : ℕ → R.Dev → Event R
  start h e = record { handle = h; device = e; starts = true }

  abbrev pub stop : ℕ → R.Dev → Event R
  stop h e = record { handle = h; device = e; starts = false }

  -- Executed frames, each with the events of its answer in order; the newest frame first.
  abbrev pub Told : Type 0
  Told = List (Frame R × List (Event R))

  abbrev pub frames_of : Told → List (Frame R)
  frames_of told = map (λ x. x.0) told

  -- One answer's events of the pair (h, e), put before those that came earlier.
  abbrev pub puts : ℕ → R.Dev → List (Event R) → List Bool → List Bool
  puts h e [] l = l
  puts h e (x ∷ xs) l = puts h e xs (cond (eqb x.handle h && R.same x.device e) (x.starts ∷ l) l)

  -- The events of the pair (h, e), the newest first: true is a start, false a stop.
  abbrev pub pair_events : ℕ → R.Dev → Told → List Bool
  pair_events h e [] = []
  pair_events h e (x ∷ told) = puts h e x.1 (pair_events h e told)

  -- The newest event is a start; before any event, no.
  abbrev pub going : List Bool → Bool
  going [] = false
  going (x ∷ l) = x

  -- "Start, stop, start, stop, beginning with start", the newest first: each differs from the one before it, and the
  -- first is a start.
  abbrev pub Alternates : List Bool → Type 0
  Alternates [] = Unit {0}
  Alternates (x ∷ l) = (x ≡ not (going l)) × Alternates l

  -- The tick that comes after the past completes 10 × interval ticks since the pair's last good packet, its latest
  -- start being one, and the pair is under watch.
  pub record Due (past : List (Frame R)) (h : ℕ) (e : R.Dev) : Type 0 where
    pub mon : R.Mon
    pub age : ℕ
    pub back : ℕ
    pub live : live_after R past h ≡ live_since mon age
    pub since : back < age
    pub latest : LatestStart R past back h e
    pub under : UnderWatch R past h e
    pub full : suc (ticks_since_good R mon e (take back past)) ≡ R.run mon

  -- One answer, to the frame f after the past. starts: it tells a start of a pair exactly where the rule has one.
  -- stops: it tells a stop of a pair exactly where f is the tick that is due, neither sooner nor later, and none is
  -- left out; or where f is the packet that displaces the pair, 64 being under watch (T-05).
  pub record Answer (f : Frame R) (xs : List (Event R)) (past : List (Frame R)) : Type 0 where
    pub starts : (h : ℕ) (e : R.Dev) → In (start h e) xs ↔ StartAt R (f ∷ past) zero h e
    pub stops : (h : ℕ) (e : R.Dev) → In (stop h e) xs
        ↔ (((f ≡ tick) × Due past h e) ⊎ DisplacedAt R (f ∷ past) zero h e)

  -- All answers, at every moment, i frames back.
  --   each: every answer tells what the rule says.
  --   turns: the events of a pair within one life of its monitor, so far, take turns, beginning with a start. (A cancel
  --     ends the life, whatever the newest event: it may leave a start without its stop.)
  --   watch: the pair is under watch exactly while its newest event in this life is a start.
  pub record Tells (told : Told) : Type 0 where
    pub each : (i : ℕ) (f : Frame R) (xs : List (Event R)) (before : Told) → drop i told ≡ (f, xs) ∷ before
        → Answer f xs (frames_of before)
    pub turns : (i h : ℕ) (e : R.Dev) (m : R.Mon) (a : ℕ) → live_after R (frames_of (drop i told)) h ≡ live_since m a
        → Alternates (pair_events h e (take a (drop i told)))
    pub watch : (i h : ℕ) (e : R.Dev) (m : R.Mon) (a : ℕ) → live_after R (frames_of (drop i told)) h ≡ live_since m a
        → (going (pair_events h e (take a (drop i told))) ≡ true) ↔ UnderWatch R (frames_of (drop i told)) h e
