-- Laws of the definitions in Shut.
use Rattle.std.specs.Prelude.{◌≡◌, ℕ, zero, suc, ◌+◌, ◌<◌, ◌≤◌, Bool, true, false, not, ◌||◌, List, [], ◌∷◌, map, length, int_lt, nat_lt, refl}
use Rattle.std.proofs.Common.{sym, ap, ◌∙◌, subst, arith, le-ltb, ltb-false}
use Rattle.std.proofs.lemmas.Bool.{false≢true}
use Rattle.std.proofs.Math.Option.{Option, none, some}
use Rattle.std.proofs.lemmas.List.{length-map}
use Rattle.laws.specs.TestsLaws.{pick-false, and-not-right, cases_eq}
use Rattle.rule.specs.Base.{All}
use Rattle.rule.specs.Engine.{find}
use Rattle.model.specs.Types.{Model, Monitor, Packet, Pair, device_of}
use Rattle.model.specs.Level.{level, d_bm}
use Rattle.model.proofs.LevelsLaws.{below-levels}
use Rattle.model.specs.Monitors.{matches, strong}
use Rattle.model.specs.Watch.{with_kept, gathered, holds, least, has_room, fits, begins, turn, turns, packet_move}
use Rattle.steps.specs.TypedLaws.{pick-both}
use Rattle.marks.specs.Marks.{takes, keeps, mark}
use Rattle.packets.specs.Changes.{freshened, collected, strengthened, counted, changed}
use Rattle.packets.specs.ChangesLaws.{move-changed}
use Rattle.packets.specs.FirmLaws.{recalled-kept, freshened-kept}
use Rattle.packets.specs.Weakest.{level_at}
use Rattle.packets.specs.WeakestLaws.{level_in, smaller-low}
use Rattle.packets.specs.Starts.{Holding}
use Rattle.packets.specs.StartsLaws.{level-is, full-pairs}
use Rattle.model.specs.Layout.{most_pairs}
use Rattle.packets.specs.Shut.{NoneLess, Shut}

-- a turn of the loop that asks
pub none-less-more : (s : List ℕ) (l n : ℕ) {x : Bool} {k : ℕ} → (x ≡ false → NoneLess s l n) → k ≡ level_at s n
    → (x || nat_lt k l) ≡ false → NoneLess s l (n + 1)
none-less-more s l n {x} {k} f e z j b =
    cases_eq j n (λ i. rw (i, ← e) (ltb-false k l (or_right x z))) (λ i. f (or_left x z) j (omega arith))
  where
    or_left : (s : Bool) → (s || nat_lt k l) ≡ false → s ≡ false
    or_left false e = refl
    or_left true e = absurd (false≢true (sym e))

    or_right : (s : Bool) → (s || nat_lt k l) ≡ false → nat_lt k l ≡ false
    or_right false e = e
    or_right true e = absurd (false≢true (sym e))

-- a pair keeps no less than an RSSI
abbrev Over : ℕ → Pair → Type 0
Over r q = level r ≤ level q.kept

least-over : (r : ℕ) (qs : List Pair) → All (Over r) qs → level r ≤ level (least r qs)
unfolding least
least-over r [] a = omega arith
least-over r (q ∷ qs) a = smaller-low (level r) q.kept (least r qs) a.0 (least-over r qs a.1)

over-fits : (r : ℕ) (qs : List Pair) → most_pairs ≤ length qs → All (Over r) qs → fits r qs ≡ false
unfolding fits has_room
over-fits r qs b a =
    ap (λ (t : Bool). t || int_lt (d_bm (least r qs)) (d_bm r)) (le-ltb (length qs) most_pairs b)
    ∙ below-levels (least r qs) r ∙ le-ltb (level (least r qs)) (level r) (least-over r qs a)

all-over : (r : ℕ) (qs : List Pair) → ((j : ℕ) → j < length qs → level r ≤ level_in qs j) → All (Over r) qs
unfolding level_in
all-over r [] f = tt
all-over r (q ∷ qs) f = (f 0 (omega arith), all-over r qs (λ j b. f (suc j) (omega arith)))

-- the packet that moves a pair leaves it no less than its own RSSI
changed-over : (a : ℕ) (p : Packet) (q : Pair) → Over p.rssi q → Over p.rssi (changed a p q)
unfolding changed counted strengthened collected with_kept gathered
changed-over a p q o =
    let x : Pair = strengthened a p.rssi q in
    let y : Pair = freshened a x in
    let u : Over p.rssi x =
    pick-both (Over p.rssi) (keeps a) (with_kept q p.rssi) q (λ e. omega arith) (λ e. o) in
    let v : Over p.rssi y = subst (λ (k : ℕ). level p.rssi ≤ level k) (sym (freshened-kept a x)) u in
    let w : Over p.rssi (collected a p y) =
    pick-both (Over p.rssi) (takes a) (gathered p y) y (λ e. omega arith) (λ e. v) in
    subst (λ (k : ℕ). level p.rssi ≤ level k) (sym (recalled-kept a p (collected a p y))) w

moved-over : (mons : List (ℕ × Monitor)) (p : Packet) (qs : List Pair) → All (Over p.rssi) qs
    → All (Over p.rssi) (map (packet_move mons p) qs)
moved-over mons p [] a = tt
moved-over mons p (q ∷ qs) a = (
  subst (Over p.rssi) (sym (move-changed mons p q))
      (pick-both (Over p.rssi) _ _ q (λ e. changed-over (mark (find mons q.handle) p) p q a.0) (λ e. a.0)),
  moved-over mons p qs a.1,
)

-- where no pair can start, none can after the pairs are moved
pub moved-shut : (m : Model) (s : List ℕ) (n : ℕ) (p : Packet) → Holding m s n → Shut s n p.rssi
    → fits p.rssi (map (packet_move m.mons p) m.pairs) ≡ false
moved-shut m s n p w z =
    let l : length m.pairs ≡ most_pairs = full-pairs m s n w z.0 in
    let k : length (map (packet_move m.mons p) m.pairs) ≡ length m.pairs =
    length-map m.pairs (packet_move m.mons p) in
    over-fits p.rssi (map (packet_move m.mons p) m.pairs) (omega arith)
    (moved-over m.mons p m.pairs
    (all-over p.rssi m.pairs (λ j b. rw (← level-is m s n w j b) (z.1 j (omega arith)))))

-- and no turn changes the pairs
turn-shut : (o : Option Monitor) (p : Packet) (h : ℕ) (qs : List Pair) → fits p.rssi qs ≡ false → turn o p h qs ≡ qs
unfolding turn begins
turn-shut none p h qs e = refl
turn-shut (some m) p h qs e =
    pick-false _ qs (and-not-right (matches m p) _
    (and-not-right (strong m p) _ (and-not-right (not (holds qs h (device_of p))) _ e)))

pub turns-shut : (mons : List (ℕ × Monitor)) (p : Packet) (h : ℕ) (qs : List Pair) → fits p.rssi qs ≡ false
    → turns mons p h qs ≡ qs
unfolding turns
turns-shut mons p zero qs e = refl
turns-shut mons p (suc n) qs e =
    ap (turn (find mons n) p n) (turns-shut mons p n qs e) ∙ turn-shut (find mons n) p n qs e
