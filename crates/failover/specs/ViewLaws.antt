-- Laws of the definitions in View.
use Rattle.std.specs.Prelude.{ℕ, zero, suc, ◌+◌, ◌≡◌, refl, Bool, true, false, ◌&&◌, not, cond, List, [], ◌∷◌, ◌++◌, map, ltb, eqb, length}
use Rattle.std.proofs.Common.{sym, ap, ◌∙◌, add-one, eqb-true}
use Rattle.std.proofs.lemmas.Bool.{false≢true}
use Rattle.std.proofs.Math.Option.{Option, none, some}
use Rattle.laws.specs.Tests.{pick, sames}
use Rattle.laws.specs.TestsLaws.{and_left, and_right}
use Rattle.laws.specs.Loops.{every, keep, only, some as some_of}
use Rattle.laws.specs.LoopsLaws.{map-append}
use Rattle.rule.specs.Base.{map_some, push}
use Rattle.rule.specs.BaseLaws.{none≢some}
use Rattle.rule.specs.Radio.{cancel, other}
use Rattle.rule.specs.Engine.{find, remove, Pair as CorePair, move, held, begins, started, turns}
use Rattle.rule.specs.Engine
use Rattle.rule.proofs.ProjectTurns.{over}
use Rattle.model.specs.Types.{Model, Monitor, Packet, Pair, watched, device_of}
use Rattle.model.specs.Level.{level}
use Rattle.model.proofs.LevelsLaws.{below-levels}
use Rattle.model.specs.Monitors.{allows, matches, good, sifts, run_of, windowed}
use Rattle.model.specs.Commands.{of_other}
use Rattle.model.specs.Watch
use Rattle.steps.proofs.DropsLaws.{keeps-level}
use Rattle.steps.specs.StartsLaws.{turn-none, turn-pick}
use Rattle.model.specs.Sound.{sound_pair, sound_of}
use Rattle.model.proofs.Radio.{radio}
use Rattle.model.specs.Layout.{most_pairs}
use Rattle.failover.specs.View.{view_pair}

-- the two ways to pick are one
pub pick-cond : {A : Type 0} (t : Bool) (a b : A) → pick t a b ≡ cond t a b
unfolding pick
pick-cond true a b = refl
pick-cond false a b = refl

-- moving none of the elements
pub each-some : {A : Type 0} (l : List A) → map_some (λ x. some x) l ≡ l
each-some [] = refl
each-some (x ∷ l) = ap (λ r. x ∷ r) (each-some l)

-- what is held of a handle and a device
pub held-holds : (qs : List Pair) (h : ℕ) (d : List ℕ) → held radio (map view_pair qs) h d ≡ Watch.holds qs h d
unfolding Watch.holds some_of Watch.is_pair view_pair
held-holds [] h d = refl
held-holds (q ∷ qs) h d = rw (held-holds qs h d)

pub length-view : (qs : List Pair) → length (map view_pair qs) ≡ length qs
length-view [] = refl
length-view (q ∷ qs) = ap suc (length-view qs)

-- the smallest RSSI kept, the pairs without the first that keeps it, and whether there is room: the core has levels
-- for RSSI
pub least-view : (r : ℕ) (qs : List Pair) → Engine.least radio (level r) (map view_pair qs) ≡ level (Watch.least r qs)
unfolding Watch.least Watch.smaller view_pair pick
least-view r [] = refl
least-view r (q ∷ qs) =
    ap (Engine.smaller radio (level q.kept)) (least-view r qs)
    ∙ rw (below-levels q.kept (Watch.least r qs)) (go (ltb (level q.kept) (level (Watch.least r qs))))
  where
    go : (t : Bool) → cond t (level q.kept) (level (Watch.least r qs)) ≡ level (pick t q.kept (Watch.least r qs))
    go true = refl
    go false = refl

pub without-view : (k : ℕ) (qs : List Pair)
    → map view_pair (Watch.without k qs) ≡ Engine.drop_first radio (level k) (map view_pair qs)
unfolding Watch.without pick view_pair
without-view k [] = refl
without-view k (q ∷ qs) = rw (keeps-level k q) (go (eqb (level q.kept) (level k)) (without-view k qs))
  where
    go : (t : Bool) → map view_pair (Watch.without k qs) ≡ Engine.drop_first radio (level k) (map view_pair qs)
        → map view_pair (pick t qs (q ∷ Watch.without k qs))
        ≡ cond t (map view_pair qs) (view_pair q ∷ Engine.drop_first radio (level k) (map view_pair qs))
    go true e = refl
    go false e = ap (λ (l : List (CorePair radio)). view_pair q ∷ l) e

pub fits-view : (r : ℕ) (qs : List Pair) → Engine.fits radio (level r) (map view_pair qs) ≡ Watch.fits r qs
unfolding Watch.fits Watch.has_room
fits-view r qs = rw (length-view qs, least-view r qs, below-levels (Watch.least r qs) r)

pub stays-view : (r : ℕ) (qs : List Pair)
    → map view_pair (Watch.stays_for r qs) ≡ Engine.room_for radio (level r) (map view_pair qs)
unfolding Watch.stays_for Watch.has_room pick
stays-view r qs = rw (length-view qs, least-view r qs) (go (ltb (length qs) most_pairs))
  where
    go : (t : Bool) → map view_pair (pick t qs (Watch.without (Watch.least r qs) qs))
        ≡ cond t (map view_pair qs) (Engine.drop_first radio (level (Watch.least r qs)) (map view_pair qs))
    go true = refl
    go false = without-view (Watch.least r qs) qs

-- a start is a start of the core
pub begins-view : (m : Monitor) (p : Packet) (h : ℕ) (qs : List Pair)
    → begins radio m p h (map view_pair qs) ≡ Watch.begins m p h qs
unfolding Watch.begins
begins-view m p h qs = rw (held-holds qs h (device_of p), fits-view p.rssi qs)

pub turn-view : (o : Option Monitor) (p : Packet) (h : ℕ) (qs : List Pair)
    → map view_pair (Watch.turn o p h qs) ≡ started radio o p h (map view_pair qs)
unfolding pick view_pair Watch.start_pair Watch.start_like watched device_of
turn-view none p h qs = ap (map view_pair) (turn-none p h qs)
turn-view (some m) p h qs =
    ap (map view_pair) (turn-pick m p h qs) ∙ rw (begins-view m p h qs) (go (Watch.begins m p h qs))
  where
    r : ℕ
    r = p.rssi

    go : (b : Bool) → map view_pair (pick b (Watch.stays_for r qs ++ (Watch.start_pair m h p ∷ [])) qs)
        ≡ cond b (Engine.room_for radio (level r) (map view_pair qs) ++ ((h, device_of p, zero, level r) ∷ []))
        (map view_pair qs)
    go true =
        map-append view_pair (Watch.stays_for r qs) (Watch.start_pair m h p ∷ [])
        ∙ ap (λ (l : List (CorePair radio)). l ++ ((h, device_of p, zero, level r) ∷ [])) (stays-view r qs)
    go false = refl

pub all-turns-view : (l : List (ℕ × Monitor)) (p : Packet) (n : ℕ) (qs : List Pair)
    → map view_pair (Watch.turns l p n qs) ≡ turns radio l p n (map view_pair qs)
unfolding Watch.turns
all-turns-view l p zero qs = refl
all-turns-view l p (suc n) qs =
    turn-view (find l n) p n (Watch.turns l p n qs) ∙ ap (started radio (find l n) p n) (all-turns-view l p n qs)

-- a held pair at a packet: a window and the packet kept for duplicates do not show
pub packet-view : (o : Option Monitor) (p : Packet) (q : Pair)
    → view_pair (Watch.at_packet o p q) ≡ Engine.at_packet radio o p (view_pair q)
unfolding Watch.at_packet Watch.remembered Watch.with_latest Watch.window_takes Watch.refreshed Watch.gathered
    Watch.with_since_good Watch.with_kept
    Watch.counts view_pair watched pick
packet-view none p q = refl
packet-view (some m) p q =
    go (sames (device_of p) (watched q)) (matches m p) (good m p) (windowed m) (sifts m && allows m p.event)
  where
    k : Pair
    k = Watch.with_kept q p.rssi

    w-of : (c w : Bool) → Pair
    w-of c w = pick w (Watch.gathered p (pick c (Watch.with_since_good k 0) k)) (pick c (Watch.with_since_good k 0) k)

    go : (a b c w s : Bool)
        → view_pair (pick (a && b) (pick s (Watch.with_latest p.event p.adv (w-of c w)) (w-of c w)) q)
        ≡ (
          q.handle,
          watched q,
          cond (a && (b && c)) zero q.since_good,
          cond (a && b) (level p.rssi)
              (level q.kept),
        )
    go true true true true true = refl
    go true true true true false = refl
    go true true true false true = refl
    go true true true false false = refl
    go true true false true true = refl
    go true true false true false = refl
    go true true false false true = refl
    go true true false false false = refl
    go true false c w s = refl
    go false b c w s = refl

-- moving every element and dropping none
pub map_each : {A B : Type 0} (v : A → B) (f : A → A) (g : B → B) (l : List A) → ((x : A) → v (f x) ≡ g (v x))
    → map v (map f l) ≡ map_some (λ y. some (g y)) (map v l)
map_each v f g [] h = refl
map_each v f g (x ∷ l) h = rw (h x, map_each v f g l h)

-- a window's tick does not show
pub window-tick-view : (m : Monitor) (q : Pair) → view_pair (Watch.window_tick m q) ≡ view_pair q
unfolding Watch.window_tick pick view_pair Watch.emptied Watch.with_ticks watched
window-tick-view m q = go (windowed m) (Watch.closes m q)
  where
    go : (s t : Bool) → view_pair (pick s (pick t (Watch.emptied q) (Watch.with_ticks q (q.ticks + 1))) q) ≡ view_pair q
    go true true = refl
    go true false = refl
    go false t = refl

-- a held pair at a tick
pub tick-view : (o : Option Monitor) (q : Pair) → over view_pair (Watch.at_tick o q) ≡ Engine.at_tick radio o (view_pair q)
unfolding Watch.at_tick view_pair Watch.goes_on Watch.with_since_good watched pick
tick-view none q = refl
tick-view (some m) q = rw (add-one q.since_good) (go (ltb (suc q.since_good) (run_of m)))
  where
    go : (t : Bool) → over view_pair
        (pick t (some (Watch.window_tick m (Watch.with_since_good q (suc q.since_good)))) none)
        ≡ cond t (some (q.handle, watched q, suc q.since_good, level q.kept)) none
    go true = ap some (window-tick-view m (Watch.with_since_good q (suc q.since_good)))
    go false = refl

-- a handle that names no monitor: forgetting it changes nothing
pub remove-none : (l : List (ℕ × Monitor)) (h : ℕ) → find l h ≡ none → remove h l ≡ l
remove-none [] h e = refl
remove-none (x ∷ l) h e = go (eqb x.0 h) e (remove-none l h)
  where
    go : (t : Bool) → cond t (some x.1) (find l h) ≡ none → (find l h ≡ none → remove h l ≡ l)
        → cond t (remove h l) (x ∷ remove h l) ≡ x ∷ l
    go true f ih = absurd (none≢some (sym f))
    go false f ih = ap (λ r. x ∷ r) (ih f)

-- a cancel, pair by pair
pub cancel-view : (l : List (ℕ × Monitor)) (h : ℕ) (qs : List Pair)
    → map view_pair (keep (of_other h) qs) ≡ map_some (move radio l (cancel h)) (map view_pair qs)
unfolding keep only of_other view_pair
cancel-view l h [] = refl
cancel-view l h (q ∷ qs) = go (eqb h q.handle) (cancel-view l h qs)
  where
    go : (t : Bool) → map view_pair (keep (of_other h) qs) ≡ map_some (move radio l (cancel h)) (map view_pair qs)
        → map view_pair (only (not t) q ++ keep (of_other h) qs)
        ≡ push (cond t none (some (view_pair q))) (map_some (move radio l (cancel h)) (map view_pair qs))
    go true ih = ih
    go false ih = ap (λ r. view_pair q ∷ r) ih

-- pairs of live handles: a cancel of a handle that is not live drops none
pub keep_live : (m : Model) (h : ℕ) → find m.mons h ≡ none → (qs : List Pair) → every (sound_pair m) qs ≡ true
    → keep (of_other h) qs ≡ qs
unfolding keep only of_other every sound_pair sound_of
keep_live m h e [] s = refl
keep_live m h e (q ∷ qs) s =
    let n : eqb h q.handle ≡ false = other q (and_left (sound_pair m q) (every (sound_pair m) qs) s) in
    rw (n, keep_live m h e qs (and_right (sound_pair m q) (every (sound_pair m) qs) s))
  where
    dead : (o : Option Monitor) (q : Pair) → o ≡ none → sound_of m.position o q ≡ true → ⊥
    dead o q f t = false≢true (sym (ap (λ (u : Option Monitor). sound_of m.position u q) f) ∙ t)

    other : (q : Pair) → sound_pair m q ≡ true → eqb h q.handle ≡ false
    other q t = go (eqb h q.handle) refl
      where
        go : (b : Bool) → eqb h q.handle ≡ b → b ≡ false
        go false f = refl
        go true f = absurd (dead (find m.mons q.handle) q (rw (← eqb-true h q.handle f) e) t)
