-- The starts of one packet: at most 16 pairs, each at its start. Document 01, Watching,
-- by history ("monitors take one packet in handle order"). Assumes nothing.
use Rattle.std.specs.Prelude.{ℕ, zero, suc, ◌+◌, ◌≤◌, ◌<◌, ◌≡◌, refl, Bool, true, false, List, [], ◌∷◌, ◌++◌, map, length, drop}
use Rattle.std.proofs.Common.{arith, sym, ap, ◌∙◌, append_assoc, append-nil, length-append, drop_at}
use Rattle.std.proofs.Math.Option.{Option, none, some}
use Rattle.std.proofs.lemmas.List.{length-map}
use Rattle.laws.specs.Tests.{pick}
use Rattle.laws.specs.Loops.{when}
use Rattle.rule.specs.Base.{All}
use Rattle.rule.specs.BaseLaws.{all_append}
use Rattle.rule.specs.Engine.{find}
use Rattle.model.specs.Types.{Model, Monitor, Packet, Pair}
use Rattle.model.specs.Watch.{packet_move, begins, stays_for, start_pair, start_of, turn, turns, starts_below, starts_of}
use Rattle.steps.specs.ListsLaws.{all-weaken}
use Rattle.model.specs.Layout.{most_monitors}

-- a pair at the start that the packet gives it, of a handle below n
pub record Started (p : Packet) (n : ℕ) (q : Pair) : Type 0 where
  pub of : ℕ
  pub below : of < n
  pub mon : Monitor
  pub is : q ≡ start_pair mon of p

-- a turn, by its test
pub turn-none : (p : Packet) (h : ℕ) (qs : List Pair) → turn none p h qs ≡ qs
unfolding turn
turn-none p h qs = refl

pub turn-pick : (m : Monitor) (p : Packet) (h : ℕ) (qs : List Pair)
    → turn (some m) p h qs ≡ pick (begins m p h qs) (stays_for p.rssi qs ++ (start_pair m h p ∷ [])) qs
unfolding turn
turn-pick m p h qs = refl

-- at most one start a handle, each at its start
pub record Below (p : Packet) (n : ℕ) (qs : List Pair) : Type 0 where
  pub few : length qs ≤ n
  pub starts : All (Started p n) qs

pub start-below : (o : Option Monitor) (p : Packet) (n : ℕ) (qs : List Pair) → (length (start_of o p n qs) ≤ 1)
    × All (Started p (suc n)) (start_of o p n qs)
unfolding start_of when
start-below none p n qs = (omega arith, tt)
start-below (some m) p n qs = go (begins m p n qs)
  where
    go : (t : Bool) → (length (when t (start_pair m n p ∷ [])) ≤ 1)
        × All (Started p (suc n)) (when t (start_pair m n p ∷ []))
    go true = (omega arith, (record { of = n; below = omega arith; mon = m; is = refl }, tt))
    go false = (omega arith, tt)

pub starts-below : (mons : List (ℕ × Monitor)) (p : Packet) (n : ℕ) (qs : List Pair)
    → Below p n (starts_below mons p n qs)
unfolding starts_below
starts-below mons p zero qs = record { few = omega arith; starts = tt }
starts-below mons p (suc n) qs =
    let a : Below p n (starts_below mons p n qs) = starts-below mons p n qs in
    let s : List Pair = start_of (find mons n) p n (turns mons p n qs) in
    let b = start-below (find mons n) p n (turns mons p n qs) in
    record {
      few = rw (length-append (starts_below mons p n qs) s) (omega (arith, a.few, b.0));
      starts = all_append (Started p (suc n)) (starts_below mons p n qs) s
          (all-weaken (Started p n) (Started p (suc n)) up (starts_below mons p n qs) a.starts) b.1;
    }
  where
    up : (q : Pair) → Started p n q → Started p (suc n) q
    up q s = record { of = s.of; below = omega (arith, s.below); mon = s.mon; is = s.is }

-- the starts of a packet
pub packet-starts : (m : Model) (p : Packet) → Below p most_monitors (starts_of m p)
unfolding starts_of
packet-starts m p = starts-below m.mons p most_monitors (map (packet_move m.mons p) m.pairs)
