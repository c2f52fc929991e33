-- Laws of the definitions in Changes.
use Rattle.std.specs.Prelude.{◌≡◌, ℕ, Bool, true, false, not, ◌&&◌, ◌||◌, List, [], ◌∷◌, ◌++◌, ◌==◌, refl}
use Rattle.std.proofs.Common.{sym, ap, ◌∙◌, append-nil}
use Rattle.std.proofs.Math.Option.{Option, none, some}
use Rattle.laws.specs.Tests.{pick, sames}
use Rattle.laws.specs.TestsLaws.{and_left}
use Rattle.laws.specs.Loops.{some as some_of, each, when}
use Rattle.rule.specs.Engine.{find}
use Rattle.model.specs.Types.{Monitor, Packet, Pair, device_of, watched}
use Rattle.model.specs.Monitors.{allows, matches, sifts, strong}
use Rattle.model.specs.Events.{event, start_event, stop_event}
use Rattle.model.specs.Watch.{with_kept, counts, duplicate, refreshed, remembered, window_takes, at_packet, packet_move, holds, begins}
use Rattle.model.specs.Watch.{fits, goes_for, stays_for, start_like, start_pair, start_of, stop_of, turn, turn_answer, reason_for, is_reason, allows_by, start_told}
use Rattle.steps.specs.StartsLaws.{turn-none, turn-pick}
use Rattle.marks.specs.Marks.{refreshes, takes, opens, tells, sifted, allowed, keeps, instant, mark_of, mark}
use Rattle.marks.proofs.MarksLaws.{mark-refreshes, mark-takes, mark-opens, mark-tells, mark-sifted, mark-allowed, mark-keeps}
use Rattle.packets.specs.Changes.{freshened, collected, strengthened, counted, recalled, changed, started, starts, after, start_events, alike_to, reason_by}

-- a test of some element, over two lists
pub or-none : (t : Bool) → (t || false) ≡ t
or-none true = refl
or-none false = refl

pub some-append : {A : Type 0} (f : A → Bool) (l m : List A) → some_of f (l ++ m) ≡ (some_of f l || some_of f m)
unfolding some_of
some-append f [] m = refl
some-append f (x ∷ l) m = ap (λ (t : Bool). f x || t) (some-append f l m) ∙ go (f x)
  where
    go : (t : Bool) → (t || (some_of f l || some_of f m)) ≡ (t || some_of f l || some_of f m)
    go true = refl
    go false = refl

pub move-changed : (mons : List (ℕ × Monitor)) (p : Packet) (q : Pair)
    → packet_move mons p q
    ≡ pick (sames (device_of p) (watched q)) (changed (mark (find mons q.handle) p) p q) q
unfolding packet_move at_packet mark changed recalled counted counts collected freshened strengthened takes refreshes
    keeps sifted allowed pick remembered
    window_takes refreshed
move-changed mons p q = go (find mons q.handle)
  where
    same : (t : Bool) → pick t (recalled 0 p (collected 0 p (freshened 0 (strengthened 0 p.rssi q)))) q ≡ q
    same true = refl
    same false = refl

    at : (m : Monitor) (t b : Bool) → matches m p ≡ b
        → pick (t && b) (remembered m p (window_takes m p (refreshed m p (with_kept q p.rssi)))) q
        ≡ pick t (recalled (mark_of m p) p
        (collected (mark_of m p) p (freshened (mark_of m p) (strengthened (mark_of m p) p.rssi q)))) q
    at m false b e = refl
    at m true true e = rw (mark-sifted m p, mark-allowed m p, mark-takes m p, mark-refreshes m p, mark-keeps m p, e)
    at m true false e = rw (mark-sifted m p, mark-allowed m p, mark-takes m p, mark-refreshes m p, mark-keeps m p, e)

    go : (o : Option Monitor) → at_packet o p q ≡ pick (sames (device_of p) (watched q)) (changed (mark o p) p q) q
    go none = sym (same (sames (device_of p) (watched q)))
    go (some m) = at m (sames (device_of p) (watched q)) (matches m p) refl

started-is : (m : Monitor) (h : ℕ) (p : Packet) → matches m p ≡ true → start_pair m h p ≡ started (mark_of m p) h p
unfolding start_pair started
started-is m h p e = sym (rw (mark-sifted m p, mark-allowed m p, e) refl)

begins-starts : (m : Monitor) (p : Packet) (h : ℕ) (qs : List Pair) → begins m p h qs ≡ starts (mark_of m p) h p qs
unfolding begins starts
begins-starts m p h qs =
    rw (mark-opens m p) (go (matches m p) (strong m p) (not (holds qs h (device_of p)) && fits p.rssi qs))
  where
    go : (a b c : Bool) → (a && (b && c)) ≡ (a && b && c)
    go true b c = refl
    go false b c = refl

begins-matches : (m : Monitor) (p : Packet) (h : ℕ) (qs : List Pair) → begins m p h qs ≡ true → matches m p ≡ true
unfolding begins
begins-matches m p h qs e = and_left (matches m p) _ e

pub turn-after : (o : Option Monitor) (p : Packet) (h : ℕ) (qs : List Pair) → turn o p h qs ≡ after (mark o p) h p qs
unfolding mark starts opens after pick
turn-after none p h qs = turn-none p h qs
turn-after (some m) p h qs =
    turn-pick m p h qs ∙ go (begins m p h qs) refl
    ∙ ap (λ (t : Bool). pick t (stays_for p.rssi qs ++ (started (mark_of m p) h p ∷ [])) qs) (begins-starts m p h qs)
  where
    go : (t : Bool) → begins m p h qs ≡ t → pick t (stays_for p.rssi qs ++ (start_pair m h p ∷ [])) qs
        ≡ pick t (stays_for p.rssi qs ++ (started (mark_of m p) h p ∷ [])) qs
    go true e = ap (λ (q : Pair). stays_for p.rssi qs ++ (q ∷ [])) (started-is m h p (begins-matches m p h qs e))
    go false e = refl

pub answer-told : (prefix : List ℕ) (o : Option Monitor) (p : Packet) (h : ℕ) (qs : List Pair)
    → turn_answer prefix o p h qs ≡ start_events prefix (mark o p) h p qs
unfolding turn_answer stop_of start_of mark start_events starts opens when each start_event event start_pair started start_like
answer-told prefix none p h qs = refl
answer-told prefix (some m) p h qs =
    go (begins m p h qs)
    ∙ ap (λ (t : Bool). when t
    (each (stop_event prefix) (goes_for p.rssi qs) ++ start_event prefix (started (mark_of m p) h p)))
    (begins-starts m p h qs)
  where
    go : (t : Bool) → each (stop_event prefix) (when t (goes_for p.rssi qs))
        ++ each (start_event prefix) (when t (start_pair m h p ∷ []))
        ≡ when t (each (stop_event prefix) (goes_for p.rssi qs) ++ start_event prefix (start_pair m h p))
    go true = ap (λ (l : List ℕ). each (stop_event prefix) (goes_for p.rssi qs) ++ l)
        (append-nil (start_event prefix (start_pair m h p)))
    go false = refl

pub wants-reason : (mons : List (ℕ × Monitor)) (p : Packet) (q : Pair)
    → is_reason mons p q ≡ (sames (device_of p) (watched q) && reason_by (mark (find mons q.handle) p) p q)
unfolding is_reason reason_for reason_by mark counts duplicate alike_to tells instant
wants-reason mons p q = go (find mons q.handle)
  where
    d : Bool
    d = sames (device_of p) (watched q)

    none_of : (t : Bool) → false ≡ (t && false)
    none_of true = refl
    none_of false = refl

    at : (a b z l f e : Bool) → (a && b && (z && (l && not (f && e)))) ≡ (a && (b && (z && l) && not (b && f && e)))
    at false b z l f e = refl
    at true false z l f e = refl
    at true true true true f e = refl
    at true true true false f e = refl
    at true true false l f e = refl

    go : (o : Option Monitor)
        → reason_for o p q
        ≡ (d && (tells (mark o p) && not
        (sifted (mark o p) && (q.event == p.event && sames q.adv p.adv))))
    go none = none_of d
    go (some m) =
        rw (mark-tells m p, mark-sifted m p)
        (at d (matches m p) (m.sampling == 0) (allows m p.event) (sifts m)
        (q.event == p.event && sames q.adv p.adv))

told-one : (mons : List (ℕ × Monitor)) (p : Packet) (h : ℕ) (m : Monitor) → find mons h ≡ some m
    → (start_told mons p (start_pair m h p) || false) ≡ allows m p.event
unfolding start_told start_pair start_like allows_by
told-one mons p h m e = rw e (or-none (allows m p.event))

-- the start of a handle's turn is told, by its octet
pub start-told : (mons : List (ℕ × Monitor)) (p : Packet) (h : ℕ) (qs : List Pair)
    → some_of (start_told mons p) (start_of (find mons h) p h qs)
    ≡ (starts (mark (find mons h) p) h p qs && allowed (mark (find mons h) p))
unfolding start_of start_told mark starts opens when some_of start_pair start_like
start-told mons p h qs = go (find mons h) refl
  where
    go : (o : Option Monitor) → find mons h ≡ o
        → some_of (start_told mons p) (start_of o p h qs) ≡ (starts (mark o p) h p qs && allowed (mark o p))
    go none e = refl
    go (some m) e =
        rw (← begins-starts m p h qs, mark-allowed m p) (at (begins m p h qs) refl)
      where
        at : (t : Bool) → begins m p h qs ≡ t
            → some_of (start_told mons p) (when t (start_pair m h p ∷ [])) ≡ (t && (matches m p && allows m p.event))
        at true f = told-one mons p h m e ∙ sym (rw (begins-matches m p h qs f))
        at false f = refl
