-- The pairs that past frames put under watch move, at a packet and at a tick, as those that document 01's engine
-- holds. Assumes nothing.
use Prim.Native.Nat.{ℕ, zero, suc, ◌+◌, ◌≤◌}
use Rattle.std.specs.Prelude.{◌≡◌, ◌&&◌, ◌||◌, length}
use Rattle.std.proofs.Math.Path.{refl, ap}
use Rattle.std.proofs.Common.{sym, ◌∙◌, arith}
use Rattle.std.proofs.Math.Bool.{Bool, true, false, not}
use Rattle.std.proofs.lemmas.Bool.{false≢true}
use mathlib.Core.List.{List, [], ◌∷◌, ◌++◌, map, append-nil}
use Rattle.std.proofs.Math.Option.{Option, none, some}
use Rattle.std.proofs.Math.Dec.{ltb}
use Rattle.std.specs.Int.Signed.{lt_z}
use Rattle.laws.specs.Tests.{pick}
use Rattle.laws.specs.TestsLaws.{and_left, and_right}
use Rattle.laws.specs.Loops.{keep, only, some as some_of, when}
use Rattle.laws.specs.LoopsLaws.{map-append}
use Rattle.rule.specs.Base.{All, Ordered}
use Rattle.rule.specs.Base
use Rattle.rule.specs.BaseLaws
use Rattle.rule.specs.Engine.{find}
use Rattle.steps.specs.ListsLaws.{all-weaken}
use Rattle.model.specs.Types.{Monitor, Packet, Pair, device, device_of, watched}
use Rattle.model.specs.Level.{d_bm}
use Rattle.model.specs.Frames.{Typed, packet, tick}
use Rattle.model.specs.Monitors.{accepts, matches, run_of, strong}
use Rattle.model.specs.Watch.{at_packet, at_tick, begins, first_keeping, fits, goes_for, goes_on, has_room, holds, is_pair, least, packet_move, start_of, start_pair, starts_below, stays_for, turn, turns, window_tick, with_since_good, without}
use Rattle.model.specs.Layout.{most_pairs}
use Rattle.pasts.specs.ListsLaws.{all_keep, all-zip, keep_all, keep-passes, length-map, ordered-keep, some-map}
use Rattle.pasts.specs.Pair.{Start, cancels, count, matching_at, pair_of, silent_in, unbroken}
use Rattle.pasts.specs.Past
use Rattle.pasts.specs.Past.{Turned, deeds, kept_now, monitor_after, monitors_after, pair_after, since_start, stands, turns_by, watch, watch_by}
use Rattle.pasts.proofs.PairsLaws.{pair-packet, pair-start}
use Rattle.pasts.proofs.TicksLaws.{pair-tick}
use Rattle.pasts.proofs.MonitorsLaws.{live}
use Rattle.pasts.proofs.DeedsLaws.{Apart, Well, since-more, since_none, turns-well}
use Rattle.pasts.proofs.DoneLaws.{Done, done, watch-apart}
use Rattle.pasts.proofs.WeakLaws.{goes-is, least_above, stays-is}

-- What holds of each pair under watch.
pub record Watched (past : List Typed) (s : Start) : Type 0 where
  pub old : s.number ≤ length past
  pub accepted : accepts s.mon ≡ true
  pub found : find (monitors_after past) s.handle ≡ some s.mon

stands_live : (past : List Typed) (gone : List Start) (s : Start) → stands past gone s ≡ true
    → some_of (cancels s.handle) (since_start s past) ≡ false
unfolding stands
stands_live past gone s e =
    BaseLaws.not-true (some_of (cancels s.handle) (since_start s past))
    (and_left (not (some_of (cancels s.handle) (since_start s past)))
    (unbroken s (since_start s past) && not (Past.among s gone)) e)

pub watched-all : (past : List Typed) → All (Watched past) (watch past)
unfolding watch watch_by
watched-all past =
    let d = deeds past in
    let v : Done past d = done past in
    let S : Start → Bool = stands past d.gone in
    let O : Start → Type 0 = λ s. s.number ≤ length past in
    let A : Start → Type 0 = λ s. accepts s.mon ≡ true in
    let L : Start → Type 0 =
    λ s. some_of (cancels s.handle) (since_start s past) ≡ false → monitor_after past s.handle ≡ some s.mon in
    all-zip (λ s. S s ≡ true) (λ s. S s ≡ true → Watched past s) (Watched past) (λ s e f. f e) (keep S d.starts)
    (keep-passes S d.starts)
    (all_keep (λ s. S s ≡ true → Watched past s) S d.starts
    (all-zip O (λ s. A s × L s) (λ s. S s ≡ true → Watched past s)
    (λ s o a e. record {
      old = o;
      accepted = a.0;
      found = sym ((live past).same s.handle) ∙ a.1 (stands_live past d.gone s e);
    }) d.starts v.old (all-zip A L (λ s. A s × L s) (λ s a b. (a, b)) d.starts v.accepted v.live)))

-- a tick
module _ (past : List Typed) where
  goes_on_lem : (s : Start)
      → ltb (silent_in s (tick ∷ since_start s past)) (run_of s.mon) ≡ goes_on s.mon (pair_after past s)
  unfolding goes_on pair_after pair_of silent_in matching_at some_of count pick
  goes_on_lem s = refl

  pub found-by : (s : Start) → Watched past s → find (monitors_after past) (pair_after past s).handle ≡ some s.mon
  unfolding pair_after pair_of
  found-by s v = v.found

  tick-pair : (s : Start) → Watched past s
      → pair_after (tick ∷ past) s ≡ window_tick s.mon
      (with_since_good (pair_after past s) ((pair_after past s).since_good + 1))
  unfolding pair_after
  tick-pair s v = ap (pair_of s) (since-more s tick past v.old) ∙ pair-tick s (since_start s past) v.accepted

  tick-one : (s : Start) → Watched past s
      → at_tick (find (monitors_after past) (pair_after past s).handle) (pair_after past s)
      ≡ pick (ltb (silent_in s (tick ∷ since_start s past)) (run_of s.mon)) (some (pair_after (tick ∷ past) s)) none
  unfolding at_tick
  tick-one s v = rw (found-by s v, goes_on_lem s, tick-pair s v)

  tick-list : (l : List Start) → All (Watched past) l
      → map (pair_after (tick ∷ past)) (keep (λ s. ltb (silent_in s (tick ∷ since_start s past)) (run_of s.mon)) l)
      ≡ Base.map_some (λ q. at_tick (find (monitors_after past) q.handle) q) (map (pair_after past) l)
  unfolding keep only pick
  tick-list [] a = refl
  tick-list (s ∷ l) a =
      rw (tick-one s a.0) (go (ltb (silent_in s (tick ∷ since_start s past)) (run_of s.mon)) (tick-list l a.1))
    where
      go : (b : Bool)
          → map (pair_after (tick ∷ past)) (keep (λ s. ltb (silent_in s (tick ∷ since_start s past)) (run_of s.mon)) l)
          ≡ Base.map_some (λ q. at_tick (find (monitors_after past) q.handle) q) (map (pair_after past) l)
          → map (pair_after (tick ∷ past))
          (only b s ++ keep (λ s. ltb (silent_in s (tick ∷ since_start s past)) (run_of s.mon)) l)
          ≡ Base.push (pick b (some (pair_after (tick ∷ past) s)) none)
          (Base.map_some (λ q. at_tick (find (monitors_after past) q.handle) q) (map (pair_after past) l))
      go true ih = ap (λ (r : List Pair). pair_after (tick ∷ past) s ∷ r) ih
      go false ih = ih

  pub tick-moves : map (pair_after (tick ∷ past))
      (keep (λ s. ltb (silent_in s (tick ∷ since_start s past)) (run_of s.mon)) (watch past))
      ≡ Base.map_some (λ q. at_tick (find (monitors_after past) q.handle) q) (map (pair_after past) (watch past))
  tick-moves = tick-list (watch past) (watched-all past)

-- a packet
module _ (past : List Typed) (p : Packet) where
  abbrev v : Start → Pair
  v = pair_after (packet p ∷ past)

  abbrev mons : List (ℕ × Monitor)
  mons = monitors_after past

  packet-pair : (s : Start) → Watched past s → v s ≡ at_packet (some s.mon) p (pair_after past s)
  unfolding pair_after
  packet-pair s w =
      ap (pair_of s) (since-more s (packet p) past w.old) ∙ pair-packet s p (since_start s past) w.accepted

  move-one : (s : Start) → Watched past s → v s ≡ packet_move mons p (pair_after past s)
  unfolding packet_move
  move-one s w =
      rw (found-by past s w) (packet-pair s w)

  kept-now : (s : Start) → (v s).kept ≡ kept_now past p s
  unfolding pair_after pair_of kept_now
  kept-now s = refl

  -- whether a packet is a start
  holds-is : (h : ℕ) (l : List Start) → holds (map v l) h (device_of p) ≡ some_of (Past.is_of past p h) l
  unfolding holds is_pair watched device device_of pair_after pair_of Past.is_of
  holds-is h l = some-map v (is_pair h (device_of p)) l

  pub begins-is : (m : Monitor) (h : ℕ) (l : List Start) → begins m p h (map v l) ≡ Past.is_start past p m h l
  unfolding begins Past.is_start fits has_room Past.room_in Past.above
  begins-is m h l = rw (holds-is h l, length-map v l, least_above v (kept_now past p) kept-now p.rssi l)

  -- the pair that starts
  pub new-pair : (m : Monitor) (n : ℕ) → v (Past.start_of past p m n) ≡ start_pair m n p
  unfolding pair_after Past.start_of
  new-pair m n =
      ap (pair_of (Past.start_of past p m n)) (since_none (Past.start_of past p m n) (packet p ∷ past) (omega arith))
      ∙ pair-start (Past.start_of past p m n)

  -- where a packet is a start, the pair that goes for it and those that stay
  module _ (m : Monitor) (n : ℕ) (l : List Start) (o : Ordered Apart l) (e : Past.is_start past p m n l ≡ true) where
    above-or : (Past.room_in past p l || some_of (Past.above past p) (Past.weakest (kept_now past p) l)) ≡ true
    unfolding Past.is_start
    above-or =
        let r : Bool = Past.room_in past p l || some_of (Past.above past p) (Past.weakest (kept_now past p) l) in
        let h : Bool = not (some_of (Past.is_of past p n) l) in
        and_right h r (and_right (strong m p) (h && r) (and_right (matches m p) (strong m p && (h && r)) e))

    or-second : (a b : Bool) → (a || b) ≡ true → a ≡ false → b ≡ true
    or-second true b q z = absurd (false≢true (sym z))
    or-second false b q z = q

    no_room : ltb (length l) most_pairs ≡ false
        → some_of (λ s. lt_z (d_bm (kept_now past p s)) (d_bm p.rssi)) (Past.weakest (kept_now past p) l) ≡ true
    unfolding Past.room_in Past.above
    no_room q = or-second (Past.room_in past p l) (some_of (Past.above past p) (Past.weakest (kept_now past p) l))
        above-or q

    nobody : (k : List Start) → All (λ s. not (Past.among s []) ≡ true) k
    unfolding Past.among some_of
    nobody [] = tt
    nobody (s ∷ k) = (refl, nobody k)

    stays-for : stays_for p.rssi (map v l) ≡ map v (Past.stays_but past p (Past.goes_for past p l) l)
    unfolding stays_for has_room Past.stays_but Past.goes_for Past.room_in Past.above pick
    stays-for = rw (length-map v l) (go (ltb (length l) most_pairs) refl)
      where
        go : (b : Bool) → ltb (length l) most_pairs ≡ b
            → pick b (map v l) (without (least p.rssi (map v l)) (map v l))
            ≡ map v (keep (λ s. not (Past.among s (pick b [] (Past.weakest (kept_now past p) l)))) l)
        go true q = ap (map v) (sym (keep_all (λ s. not (Past.among s [])) l (nobody l)))
        go false q = stays-is v (kept_now past p) kept-now p.rssi l o (no_room q)

    pub goes-for : goes_for p.rssi (map v l) ≡ map v (Past.goes_for past p l)
    unfolding goes_for has_room Past.goes_for Past.room_in pick
    goes-for = rw (length-map v l) (go (ltb (length l) most_pairs) refl)
      where
        go : (b : Bool) → ltb (length l) most_pairs ≡ b
            → pick b [] (first_keeping (least p.rssi (map v l)) (map v l))
            ≡ map v (pick b [] (Past.weakest (kept_now past p) l))
        go true q = refl
        go false q = goes-is v (kept_now past p) kept-now p.rssi l o (no_room q)

  turn_is : (o : Option Monitor) (n : ℕ) (t : Turned) → Ordered Apart t.watch
      → turn o p n (map v t.watch) ≡ map v (Past.turn_by past p o n t).watch
  unfolding turn Past.turn_by pick
  turn_is none n t o = refl
  turn_is (some m) n t o = rw (begins-is m n t.watch) (go (Past.is_start past p m n t.watch) refl)
    where
      go : (b : Bool) → Past.is_start past p m n t.watch ≡ b
          → pick b (stays_for p.rssi (map v t.watch) ++ (start_pair m n p ∷ [])) (map v t.watch)
          ≡ map v (pick b (record {
            starts = t.starts ++ (Past.start_of past p m n ∷ []);
            gone = t.gone ++ Past.goes_for past p t.watch;
            watch = Past.stays_but past p (Past.goes_for past p t.watch) t.watch ++ (Past.start_of past p m n ∷ []);
          }) t).watch
      go true e =
          rw (stays-for m n t.watch o e, ← new-pair m n)
          (sym (map-append v (Past.stays_but past p (Past.goes_for past p t.watch) t.watch)
          (Past.start_of past p m n ∷ [])))
      go false e = refl

  -- what a turn gives: its start, and the pair that goes for it
  start_is : (o : Option Monitor) (n : ℕ) (t : Turned)
      → map v t.starts ++ start_of o p n (map v t.watch) ≡ map v (Past.turn_by past p o n t).starts
  unfolding start_of Past.turn_by pick when
  start_is none n t = append-nil (map v t.starts)
  start_is (some m) n t = rw (begins-is m n t.watch) (go (Past.is_start past p m n t.watch))
    where
      go : (b : Bool) → map v t.starts ++ when b (start_pair m n p ∷ [])
          ≡ map v (pick b (record {
            starts = t.starts ++ (Past.start_of past p m n ∷ []);
            gone = t.gone ++ Past.goes_for past p t.watch;
            watch = Past.stays_but past p (Past.goes_for past p t.watch) t.watch ++ (Past.start_of past p m n ∷ []);
          }) t).starts
      go true = rw (← new-pair m n) (sym (map-append v t.starts (Past.start_of past p m n ∷ [])))
      go false = append-nil (map v t.starts)

  abbrev T : ℕ → Turned
  T n = turns_by past p (watch past) n

  old : All (λ s. s.number ≤ length past) (watch past)
  old = all-weaken (Watched past) (λ s. s.number ≤ length past) (λ s w. w.old) (watch past) (watched-all past)

  apart : Ordered Apart (watch past)
  unfolding watch
  apart = watch-apart past (deeds past) (done past)

  pub well-at : (n : ℕ) → Well past p (watch past) n (T n)
  well-at n = turns-well past p (watch past) old apart n

  pub apart-at : (n : ℕ) → Ordered Apart (T n).watch
  apart-at n =
      let w = well-at n in
      rw w.kept (ordered-keep Apart (λ s. not (Past.among s (T n).gone)) (watch past ++ (T n).starts) w.apart)

  -- the pairs held, moved
  pub first-is : map (packet_move mons p) (map (pair_after past) (watch past)) ≡ map v (watch past)
  first-is = go (watch past) (watched-all past)
    where
      go : (l : List Start) → All (Watched past) l → map (packet_move mons p) (map (pair_after past) l) ≡ map v l
      go [] a = refl
      go (s ∷ l) a = rw (← move-one s a.0, go l a.1)

  pub turns-is : (n : ℕ) → turns mons p n (map v (watch past)) ≡ map v (T n).watch
  unfolding turns turns_by
  turns-is zero = refl
  turns-is (suc n) = rw (turns-is n, ← (live past).same n) (turn_is (monitor_after past n) n (T n) (apart-at n))

  pub starts_is : (n : ℕ) → starts_below mons p n (map v (watch past)) ≡ map v (T n).starts
  unfolding starts_below turns_by
  starts_is zero = refl
  starts_is (suc n) = rw (starts_is n, turns-is n, ← (live past).same n) (start_is (monitor_after past n) n (T n))
