-- The events of a packet: each pair held has a key that an event can carry, over every turn, and a turn writes at
-- most two events. Document 01, Watching, by history (Event); document 02, T-05. Assumes nothing.
use Prim.Native.Nat.{ℕ, zero, suc, ◌+◌, ◌*◌, ◌≤◌, ◌<◌}
use Rattle.std.proofs.Common.{arith, sym, subst}
use Rattle.std.proofs.Math.Nat.{mul-suc}
use Rattle.std.specs.Prelude.{◌≡◌, refl, Bool, true, false, ◌&&◌}
use Rattle.std.proofs.Math.Option.{Option, none, some}
use mathlib.Core.List.{List, [], ◌∷◌, ◌++◌, map}
use Rattle.std.proofs.Math.ListN.{length}
use Rattle.laws.specs.Tests.{pick}
use Rattle.laws.specs.Loops.{every, each, when}
use Rattle.octets.specs.Little.{is_octet}
use Rattle.rule.specs.Base.{All}
use Rattle.rule.specs.BaseLaws.{all_append}
use Rattle.rule.specs.Engine.{find}
use Rattle.rule.proofs.FindsLaws.{find-all}
use Rattle.model.specs.Types.{Model, Monitor, Packet, Pair}
use Rattle.model.specs.Events.{start_event, stop_event}
use Rattle.model.specs.Watch.{with_since_good, with_kept, with_latest, gathered, counts, refreshed, remembered, window_takes, at_packet, packet_move, begins, start_like, start_pair}
use Rattle.model.specs.Watch.{goes_for, stays_for, start_of, stop_of, turn, turns, turn_answer, turns_answer}
use Rattle.model.specs.Monitors.{allows, good, sifts, windowed}
use Rattle.steps.specs.ListsLaws.{all-weaken, short-nil, short-append, short-more, short-each}
use Rattle.steps.specs.FactsLaws.{Settings, Fields, fields-of}
use Rattle.steps.specs.WholeLaws.{Row, Held, Sound}
use Rattle.steps.specs.Typed.{Sent}
use Rattle.steps.specs.TypedLaws.{pick-both}
use Rattle.steps.proofs.DropsLaws.{goes-all, goes-few, stays_all}
use Rattle.steps.specs.SizesLaws.{Octets, event-short}
use Rattle.model.specs.Layout.{event_most, most_monitors, turn_most}

-- what an event carries of a pair
pub record Named (q : Pair) : Type 0 where
  pub handle-most : q.handle < most_monitors
  pub kind-most : q.address_type ≤ 1
  pub address-six : length q.address ≡ 6
  pub address-octets : every is_octet q.address ≡ true

pub held-named : (m : Model) → Sound m → (q : Pair) → Held m.position m.mons q → Named q
held-named m s q h =
    let f : Fields q = fields-of q h.kept.fields in
    let row : Row (q.handle, h.mon) = find-all Row m.mons q.handle h.mon s.monitors.rows h.live in
    record {
      handle-most = row.0;
      kind-most = f.kind-most;
      address-six = f.address-six;
      address-octets = f.address-octets;
    }

pub start-named : (m : Monitor) (p : Packet) (h : ℕ) → Sent p → h < most_monitors → Named (start_pair m h p)
unfolding start_pair start_like
start-named m p h t b =
    record {
      handle-most = b;
      kind-most = t.kind-most;
      address-six = t.address-six;
      address-octets = t.address-octets;
    }

-- a packet changes no key
named-so : (q r : Pair) → Named q → r.handle ≡ q.handle → r.address_type ≡ q.address_type → r.address ≡ q.address
    → Named r
named-so q r n h k a =
    record {
      handle-most = rw h n.handle-most;
      kind-most = rw k n.kind-most;
      address-six = rw a n.address-six;
      address-octets = rw a n.address-octets;
    }

move-named : (o : Option Monitor) (p : Packet) (q : Pair) → Named q → Named (at_packet o p q)
unfolding at_packet remembered window_takes refreshed pick gathered with_latest with_since_good with_kept
move-named none p q n = n
move-named (some m) p q n =
    pick-both Named (counts m p q) _ q
    (λ e. remembers (sifts m && allows m p.event) _ (takes (windowed m) (good m p))) (λ e. n)
  where
    k : Pair
    k = with_kept q p.rssi

    remembers : (a : Bool) (r : Pair) → Named r → Named (pick a (with_latest p.event p.adv r) r)
    remembers true r x = named-so r (with_latest p.event p.adv r) x refl refl refl
    remembers false r x = x

    takes : (a b : Bool) → Named (pick a (gathered p (pick b (with_since_good k 0) k)) (pick b (with_since_good k 0) k))
    takes true true = named-so q (gathered p (with_since_good k 0)) n refl refl refl
    takes true false = named-so q (gathered p k) n refl refl refl
    takes false true = named-so q (with_since_good k 0) n refl refl refl
    takes false false = named-so q k n refl refl refl

pub named-moved : (mons : List (ℕ × Monitor)) (p : Packet) (qs : List Pair) → All Named qs
    → All Named (map (packet_move mons p) qs)
unfolding packet_move
named-moved mons p [] a = tt
named-moved mons p (q ∷ qs) a = (move-named (find mons q.handle) p q a.0, named-moved mons p qs a.1)

turn-named : (o : Option Monitor) (p : Packet) (h : ℕ) (qs : List Pair) → Sent p → h < most_monitors → All Named qs
    → All Named (turn o p h qs)
unfolding turn
turn-named none p h qs t b a = a
turn-named (some m) p h qs t b a =
    pick-both (All Named) (begins m p h qs) _ qs
    (λ e. all_append Named (stays_for p.rssi qs) (start_pair m h p ∷ []) (stays_all Named p.rssi qs a)
    (start-named m p h t b, tt))
    (λ e. a)

pub turns-named : (mons : List (ℕ × Monitor)) (p : Packet) (n : ℕ) (qs : List Pair) → Sent p → n ≤ most_monitors
    → All Named qs
    → All Named (turns mons p n qs)
unfolding turns
turns-named mons p zero qs t b a = a
turns-named mons p (suc n) qs t b a =
    turn-named (find mons n) p n (turns mons p n qs) t (omega arith) (turns-named mons p n qs t (omega arith) a)

-- at most one pair stops and one starts in a turn, and both are named
pub stop-named : (o : Option Monitor) (p : Packet) (h : ℕ) (qs : List Pair) → All Named qs
    → (length (stop_of o p h qs) ≤ 1) × All Named (stop_of o p h qs)
unfolding stop_of when
stop-named none p h qs a = (omega arith, tt)
stop-named (some m) p h qs a = go (begins m p h qs)
  where
    go : (t : Bool) → (length (when t (goes_for p.rssi qs)) ≤ 1) × All Named (when t (goes_for p.rssi qs))
    go true = (goes-few p.rssi qs, goes-all Named p.rssi qs a)
    go false = (omega arith, tt)

pub starts-named : (o : Option Monitor) (p : Packet) (h : ℕ) (qs : List Pair) → Sent p → h < most_monitors
    → (length (start_of o p h qs) ≤ 1) × All Named (start_of o p h qs)
unfolding start_of when
starts-named none p h qs t b = (omega arith, tt)
starts-named (some m) p h qs t b = go (begins m p h qs)
  where
    go : (u : Bool) → (length (when u (start_pair m h p ∷ [])) ≤ 1) × All Named (when u (start_pair m h p ∷ []))
    go true = (omega arith, (start-named m p h t b, tt))
    go false = (omega arith, tt)

module _ (opcode : ℕ) (prefix : List ℕ) (mons : List (ℕ × Monitor)) (p : Packet) (s : Settings opcode prefix)
    (t : Sent p) where
  stop-short : (q : Pair) → Named q → Octets event_most (stop_event prefix q)
  unfolding stop_event
  stop-short q n =
      event-short opcode prefix q 0 s n.kind-most n.address-six n.address-octets
      (omega (arith, n.handle-most)) (omega arith)

  start-short : (q : Pair) → Named q → Octets event_most (start_event prefix q)
  unfolding start_event
  start-short q n =
      event-short opcode prefix q 1 s n.kind-most n.address-six n.address-octets
      (omega (arith, n.handle-most)) (omega arith)

  -- one turn
  pub turn-short : (o : Option Monitor) (h : ℕ) (qs : List Pair) → h < most_monitors → All Named qs
      → Octets turn_most (turn_answer prefix o p h qs)
  unfolding turn_answer
  turn-short o h qs b a =
      let x = stop-named o p h qs a in
      let y = starts-named o p h qs t b in
      short-append is_octet event_most event_most (each (stop_event prefix) (stop_of o p h qs))
      (each (start_event prefix) (start_of o p h qs))
      (short-more is_octet (event_most * length (stop_of o p h qs)) event_most _ (omega (arith, x.0))
      (short-each is_octet event_most (stop_event prefix) (stop_of o p h qs)
      (all-weaken Named (λ q. Octets event_most (stop_event prefix q)) stop-short (stop_of o p h qs) x.1)))
      (short-more is_octet (event_most * length (start_of o p h qs)) event_most _ (omega (arith, y.0))
      (short-each is_octet event_most (start_event prefix) (start_of o p h qs)
      (all-weaken Named (λ q. Octets event_most (start_event prefix q)) start-short (start_of o p h qs) y.1)))

  -- the turns of the handles below n
  pub turns-short : (n : ℕ) (qs : List Pair) → n ≤ most_monitors → All Named qs
      → Octets (turn_most * n) (turns_answer prefix mons p n qs)
  unfolding turns_answer
  turns-short zero qs b a = short-nil is_octet (turn_most * 0)
  turns-short (suc n) qs b a =
      let e : turn_most * suc n ≡ turn_most * n + turn_most = mul-suc turn_most n in
      let l : List Pair = turns mons p n qs in
      short-more is_octet (turn_most * n + turn_most) (turn_most * suc n) _ (omega arith)
      (short-append is_octet (turn_most * n) turn_most (turns_answer prefix mons p n qs)
      (turn_answer prefix (find mons n) p n l)
      (turns-short n qs (omega arith) a)
      (turn-short (find mons n) n l (omega arith) (turns-named mons p n qs t (omega arith) a)))
