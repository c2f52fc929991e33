-- What a packet and a tick do to all pairs: at most 64, distinct and sound they stay. Document 01, Watching, by
-- history, and The image ("Sound: .."). Assumes nothing.
use Rattle.std.specs.Prelude.{ℕ, zero, suc, ◌+◌, ◌≤◌, ◌<◌, ◌≡◌, refl, Bool, true, false, ◌&&◌, not, List, [], ◌∷◌, ◌++◌, map, length}
use Rattle.std.proofs.Common.{arith, sym, ap, ◌∙◌, subst, length-append}
use Rattle.std.proofs.lemmas.Bool.{false≢true, not-true}
use Rattle.std.proofs.Math.Option.{Option, none, some}
use Rattle.laws.specs.TestsLaws.{and_left, and_right}
use Rattle.rule.specs.Base.{In, map_some}
use Rattle.rule.specs.BaseLaws.{From, all_in, in_all, all_append, each_in, each-length}
use Rattle.rule.specs.BaseLaws.{each-distinct, distinct_snoc, map-append, some_inj}
use Rattle.rule.specs.Engine.{find}
use Rattle.rule.proofs.FindsLaws.{find-all}
use Rattle.model.specs.Types.{Model, Monitor, Packet, Pair, device_of, watched}
use Rattle.model.proofs.AcceptedLaws.{accepts-run}
use Rattle.model.specs.Monitors.{run_of, matches, strong}
use Rattle.model.specs.Watch.{at_packet, packet_move, at_tick, holds, fits, stays_for, begins, start_like, start_pair, turn, turns, packet_pairs}
use Rattle.model.specs.Watch.{tick_pairs}
use Rattle.steps.specs.ListsLaws.{map_each, all-weaken}
use Rattle.steps.specs.FactsLaws.{stored_of}
use Rattle.steps.specs.WholeLaws.{Row, key, in-holds, Kept, Held, Pairs, Monitors}
use Rattle.steps.specs.Typed.{Sent}
use Rattle.steps.specs.TypedLaws.{pick-both}
use Rattle.steps.specs.StartsLaws.{turn-none, turn-pick}
use Rattle.steps.proofs.DropsLaws.{stays-fewer, stays_all, stays-once, stays-in}
use Rattle.steps.proofs.MovesLaws.{packet-key, Ticked, ticked, tick-key}
use Rattle.steps.proofs.StaysLaws.{kept-later, kept-packet, kept-tick, kept-start}
use Rattle.model.specs.Layout.{most_monitors}

-- the run of a monitor that is held has ticks
pub live-run : (mons : List (ℕ × Monitor)) (h : ℕ) (n : Monitor) → Monitors mons → find mons h ≡ some n → 0 < run_of n
live-run mons h n s e = accepts-run n (stored_of n (find-all Row mons h n s.rows e).1).accepted

-- a move of every pair that keeps keys, and each moved pair sound
pub pairs-moved : (j k : ℕ) (mons next : List (ℕ × Monitor)) (f : Pair → Option Pair) (qs : List Pair)
    → ((q r : Pair) → f q ≡ some r → key r ≡ key q) → ((q r : Pair) → Held j mons q → f q ≡ some r → Held k next r)
    → Pairs j mons qs → Pairs k next (map_some f qs)
pairs-moved j k mons next f qs keys keep s =
    let n : length (map_some f qs) ≤ length qs = each-length f qs in
    record {
      room = omega (arith, n, s.room);
      once = each-distinct key f qs keys s.once;
      held = in_all (Held k next) (map_some f qs) one;
    }
  where
    one : (r : Pair) → In r (map_some f qs) → Held k next r
    one r i =
        let w : From f qs r = each_in f qs r i in
        keep w.was r (all_in (Held j mons) qs s.held w.was w.place) w.moved

-- the pairs one frame later
pub pairs-later : (j k : ℕ) (mons : List (ℕ × Monitor)) (qs : List Pair) → j ≤ k → Pairs j mons qs → Pairs k mons qs
pairs-later j k mons qs h s =
    record {
      room = s.room;
      once = s.once;
      held = all-weaken (Held j mons) (Held k mons) later qs s.held;
    }
  where
    later : (q : Pair) → Held j mons q → Held k mons q
    later q t = record { mon = t.mon; live = t.live; kept = kept-later t.mon j k q h t.kept }

-- a tick
pub held-tick : (k : ℕ) (mons : List (ℕ × Monitor)) (q r : Pair) → Held k mons q
    → at_tick (find mons q.handle) q ≡ some r → Held k mons r
held-tick k mons q r t e =
    let w : Ticked (some t.mon) q r = ticked (some t.mon) q r (rw t.live at e) in
    let same : w.mon ≡ t.mon = sym (some_inj w.is) in
    let old : Kept k w.mon q = rw same t.kept in
    let new : Kept k w.mon r = subst (Kept k w.mon) w.gives (kept-tick w.mon k q w.on old) in
    let g : r.handle ≡ q.handle = ap (λ x. x.0) (tick-key (find mons q.handle) q r e) in
    record { mon = w.mon; live = ap (find mons) g ∙ t.live ∙ w.is; kept = new }

pub tick-pairs : (m : Model) → Pairs m.position m.mons m.pairs → Pairs m.position m.mons (tick_pairs m)
unfolding tick_pairs
tick-pairs m s =
    pairs-moved m.position m.position m.mons m.mons (λ q. at_tick (find m.mons q.handle) q)
    m.pairs
    (λ q r e. tick-key (find m.mons q.handle) q r e) (λ q r t e. held-tick m.position m.mons q r t e) s

-- a packet, for one pair held
pub held-packet : (k : ℕ) (mons : List (ℕ × Monitor)) (p : Packet) (q : Pair) → Monitors mons → Sent p
    → k < 4294967295
    → Held k mons q → Held (k + 1) mons (packet_move mons p q)
unfolding packet_move
held-packet k mons p q s t h w =
    let g : (packet_move mons p q).handle ≡ q.handle = ap (λ x. x.0) (packet-key mons p q) in
    let run : 0 < run_of w.mon = live-run mons q.handle w.mon s w.live in
    let new : Kept (k + 1) w.mon (at_packet (some w.mon) p q) = kept-packet w.mon k p q run t h w.kept in
    record {
      mon = w.mon;
      live = ap (find mons) g ∙ w.live;
      kept = subst (λ o. Kept (k + 1) w.mon (at_packet o p q)) (sym w.live) new;
    }

-- What a start tells: the pair is not held, and there is room, or a pair that goes.
pub record Begins (p : Packet) (h : ℕ) (qs : List Pair) : Type 0 where
  pub new : In (h, device_of p) (map key qs) → ⊥
  pub fit : fits p.rssi qs ≡ true

pub begins-tells : (m : Monitor) (p : Packet) (h : ℕ) (qs : List Pair) → begins m p h qs ≡ true → Begins p h qs
unfolding begins watched device_of
begins-tells m p h qs e =
    let d : List ℕ = device_of p in
    let f : Bool = fits p.rssi qs in
    let a = and_right (matches m p) (strong m p && (not (holds qs h d) && f)) e in
    let b = and_right (strong m p) (not (holds qs h d) && f) a in
    let free : holds qs h d ≡ false = not-true (holds qs h d) (and_left (not (holds qs h d)) f b) in
    record { new = λ i. false≢true (sym free ∙ in-holds qs h d i); fit = and_right (not (holds qs h d)) f b }

-- one handle's turn
pub turn-pairs : (k : ℕ) (mons : List (ℕ × Monitor)) (p : Packet) (h : ℕ) (qs : List Pair) → Monitors mons → Sent p
    → Pairs k mons qs → Pairs k mons (turn (find mons h) p h qs)
unfolding start_pair start_like watched device_of
turn-pairs k mons p h qs s t w = go (find mons h) refl
  where
    l : List Pair
    l = stays_for p.rssi qs

    started : (n : Monitor) → find mons h ≡ some n → Begins p h qs → Pairs k mons (l ++ (start_pair n h p ∷ []))
    started n e b =
        let new : Held k mons (start_pair n h p) =
        record { mon = n; live = e; kept = kept-start n k h p (live-run mons h n s e) t } in
        record {
          room = rw (length-append l (start_pair n h p ∷ []))
              (omega (arith, stays-fewer p.rssi qs w.room b.fit));
          once = rw (map-append key l (start_pair n h p ∷ []))
              (distinct_snoc (map key l) (key (start_pair n h p)) (stays-once p.rssi qs w.once)
              (λ i. b.new (stays-in p.rssi qs (key (start_pair n h p)) i)));
          held = all_append (Held k mons) l (start_pair n h p ∷ []) (stays_all (Held k mons) p.rssi qs w.held)
              (new, tt);
        }

    go : (o : Option Monitor) → find mons h ≡ o → Pairs k mons (turn o p h qs)
    go none e = subst (Pairs k mons) (sym (turn-none p h qs)) w
    go (some n) e =
        subst (Pairs k mons) (sym (turn-pick n p h qs))
        (pick-both (Pairs k mons) (begins n p h qs) (l ++ (start_pair n h p ∷ [])) qs
        (λ b. started n e (begins-tells n p h qs b)) (λ b. w))

pub turns-pairs : (k : ℕ) (mons : List (ℕ × Monitor)) (p : Packet) (n : ℕ) (qs : List Pair) → Monitors mons → Sent p
    → Pairs k mons qs → Pairs k mons (turns mons p n qs)
unfolding turns
turns-pairs k mons p zero qs s t w = w
turns-pairs k mons p (suc n) qs s t w =
    turn-pairs k mons p n (turns mons p n qs) s t (turns-pairs k mons p n qs s t w)

-- a packet, for all pairs
pub packet-pairs : (m : Model) (p : Packet) → Monitors m.mons → Sent p → m.position < 4294967295
    → Pairs m.position m.mons m.pairs → Pairs (m.position + 1) m.mons (packet_pairs m p)
unfolding packet_pairs
packet-pairs m p s t h w =
    turns-pairs (m.position + 1) m.mons p most_monitors (map (packet_move m.mons p) m.pairs) s t
    (rw (map_each (packet_move m.mons p) m.pairs) (
    pairs-moved m.position (m.position + 1) m.mons m.mons (λ q. some (packet_move m.mons p q))
    m.pairs keys keep w))
  where
    keys : (q r : Pair) → some (packet_move m.mons p q) ≡ some r → key r ≡ key q
    keys q r e = ap key (sym (some_inj e)) ∙ packet-key m.mons p q

    keep : (q r : Pair) → Held m.position m.mons q → some (packet_move m.mons p q) ≡ some r
        → Held (m.position + 1) m.mons r
    keep q r a e =
        subst (Held (m.position + 1) m.mons) (some_inj e) (held-packet m.position m.mons p q s t h a)
