-- Every executed frame of the model is a step of the core engine, as the core sees it: `shows`. Document 01, Commands
-- and Watching, by history. Definitions of the proofs alone stand here too: shows, whose last field is a law. Assumes
-- nothing.
use Rattle.std.specs.Prelude.{ℕ, ◌≡◌, refl, Bool, true, false, ◌&&◌, ◌||◌, not, cond, List, map, leb, ltb, eqb, length, get_or}
use Rattle.std.proofs.Common.{sym, ap, ap₂, ◌∙◌, eqb-true}
use Rattle.std.proofs.Math.Option.{Option, none, some}
use Rattle.laws.specs.Tests.{pick}
use Rattle.laws.specs.TestsLaws.{and_right}
use Rattle.laws.specs.Loops.{every, keep}
use Rattle.rule.specs.Radio.{add, cancel, packet, tick, other}
use Rattle.rule.specs.Engine.{find, slot, insert_at, remove, State, step, move}
use Rattle.rule.specs.Engine
use Rattle.rule.proofs.ProjectTurns.{each-view}
use Rattle.rule.proofs.ShowsLaws.{Shows}
use Rattle.model.specs.Types.{Model, Monitor, Packet, Pair, with_lists, with_filter, moved}
use Rattle.model.specs.Frames.{Body, Typed, command, packet as packet_frame, tick as tick_frame, bad, typed}
use Rattle.model.specs.Monitors.{accepts, fault_of, monitor_of, invalid, full}
use Rattle.model.specs.Commands.{adds_monitor, status, add_status, cancel_status, commanded, changed, added, cancelled, of_other, sub_of, params_in, table, present}
use Rattle.model.specs.Watch
use Rattle.model.specs.Step.{step_typed}
use Rattle.sessions.specs.Machine.{last_number}
use Rattle.model.specs.Sound.{sound_model, sound_pair, sound_settings, sound_monitors, apart}
use Rattle.model.proofs.Radio.{radio, core, core_typed, core_command}
use Rattle.failover.specs.View.{view_pair}
use Rattle.failover.specs.View.{view}
use Rattle.failover.specs.ViewLaws.{each-some, map_each, packet-view, all-turns-view, tick-view, remove-none, cancel-view, keep_live}
use Rattle.model.specs.Layout.{most_monitors, most_pairs}

-- the core state of given monitors and pairs
abbrev shown : List (ℕ × Monitor) → List Pair → State radio
shown mons qs = record { mons = mons; pairs = map view_pair qs }

-- the core's step at frames that leave the pairs
pub step_other : (m : Model) → step radio (view m) other ≡ view m
unfolding view
step_other m = ap (λ ps. record { mons = m.mons; pairs = ps }) (each-some (map view_pair m.pairs))

pub step-add : (m : Model) (x : Monitor)
    → step radio (view m) (add x)
    ≡ shown (cond (accepts x) (insert_at (slot m.mons most_monitors 0) x m.mons) m.mons) m.pairs
unfolding view
step-add m x =
    ap (λ ps. record {
      mons = cond (accepts x) (insert_at (slot m.mons most_monitors 0) x m.mons) m.mons;
      pairs = ps;
    })
    (each-some (map view_pair m.pairs))

-- a monitor command
agree-sub : (m : Model) (l : List ℕ) (s : ℕ) → sub_of l ≡ s → eqb s 0 ≡ false → (eqb s 3 || eqb s 15) ≡ true
    → view (commanded m l) ≡ step radio (view m) (core_command l)
unfolding commanded status add_status changed added adds_monitor core_command pick present view with_lists accepts
agree-sub m l s e z a =
    rw (e, z, a) (go (ltb (length l) (params_in table s)) (fault_of (monitor_of l)) (eqb (fault_of (monitor_of l)) 0) refl
    (slot m.mons most_monitors 0)
    (step-add m (monitor_of l)))
  where
    x : Monitor
    x = monitor_of l

    go : (t : Bool) (f : ℕ) (a : Bool) → eqb f 0 ≡ a → (o : Option ℕ)
        → step radio (view m) (add x) ≡ shown (cond a (insert_at o x m.mons) m.mons) m.pairs
        → view (pick (eqb (pick t invalid (pick (not (eqb f 0)) f (pick (present o) 0 full))) 0)
        (with_lists m (insert_at o x m.mons) m.pairs) m)
        ≡ step radio (view m) (pick t other (add x))
    go true f a q o s = sym (step_other m)
    go false f true q none s = rw q (sym s)
    go false f true q (some h) s = rw q (sym s)
    go false f false q o s = rw q (rw q (sym s))

pub agree-add : (m : Model) (l : List ℕ) → adds_monitor l ≡ true
    → view (commanded m l) ≡ step radio (view m) (core_command l)
unfolding adds_monitor
agree-add m l e = go (eqb (sub_of l) 3) refl e
  where
    go : (t : Bool) → eqb (sub_of l) 3 ≡ t → (t || eqb (sub_of l) 15) ≡ true
        → view (commanded m l) ≡ step radio (view m) (core_command l)
    go true h a = agree-sub m l 3 (eqb-true (sub_of l) 3 h) refl refl
    go false h a = agree-sub m l 15 (eqb-true (sub_of l) 15 a) refl refl

-- a cancel command
pub agree-cancel : (m : Model) (l : List ℕ) → every (sound_pair m) m.pairs ≡ true → sub_of l ≡ 4
    → view (commanded m l) ≡ step radio (view m) (core_command l)
unfolding commanded status cancel_status changed cancelled adds_monitor core_command pick present view with_lists
agree-cancel m l s e = rw e (go (eqb (length l) (params_in table 4)) (find m.mons (get_or l 1 0)) refl)
  where
    h : ℕ
    h = get_or l 1 0

    forgot : State radio
    forgot = shown (remove h m.mons) (keep (of_other h) m.pairs)

    stepped : forgot ≡ step radio (view m) (cancel h)
    stepped = ap (λ ps. record { mons = remove h m.mons; pairs = ps }) (cancel-view m.mons h m.pairs)

    go : (t : Bool) (o : Option Monitor) → find m.mons h ≡ o
        → view (pick (eqb (pick t (pick (present o) 0 invalid) invalid) 0)
        (with_lists m (remove h m.mons) (keep (of_other h) m.pairs)) m)
        ≡ step radio (view m) (pick t (cancel h) other)
    go true (some x) f = stepped
    go true none f = ap₂ shown (sym (remove-none m.mons h f)) (sym (keep_live m h f m.pairs s)) ∙ stepped
    go false o f = sym (step_other m)

-- any other command
pub agree-rest : (m : Model) (l : List ℕ) → adds_monitor l ≡ false → eqb (sub_of l) 4 ≡ false
    → view (commanded m l) ≡ step radio (view m) (core_command l)
unfolding commanded changed core_command pick view with_filter
agree-rest m l a b = rw (a, b) (go (eqb (status m l) 0) (eqb (sub_of l) 5) ∙ sym (step_other m))
  where
    go : (s t : Bool) → view (pick s (pick t (with_filter m (get_or l 1 0)) m) m) ≡ view m
    go true true = refl
    go true false = refl
    go false t = refl

pub agree-command : (m : Model) (l : List ℕ) → every (sound_pair m) m.pairs ≡ true
    → view (commanded m l) ≡ step radio (view m) (core_command l)
agree-command m l s = go (adds_monitor l) (eqb (sub_of l) 4) refl refl
  where
    go : (a b : Bool) → adds_monitor l ≡ a → eqb (sub_of l) 4 ≡ b
        → view (commanded m l) ≡ step radio (view m) (core_command l)
    go true b p q = agree-add m l p
    go false true p q = agree-cancel m l s (eqb-true (sub_of l) 4 q)
    go false false p q = agree-rest m l p q

-- a packet, a tick
pub agree-packet : (m : Model) (p : Packet)
    → view (with_lists m m.mons (Watch.packet_pairs m p)) ≡ step radio (view m) (packet p)
unfolding view with_lists Watch.packet_pairs Watch.packet_move view_pair
agree-packet m p =
    ap (λ ps. record { mons = m.mons; pairs = ps })
    (all-turns-view m.mons p most_monitors (map (Watch.packet_move m.mons p) m.pairs)
    ∙ ap (Engine.turns radio m.mons p most_monitors)
    (map_each view_pair (Watch.packet_move m.mons p) (λ q. Engine.at_packet radio (find m.mons q.0) p q)
    m.pairs
    (λ q. packet-view (find m.mons q.handle) p q)))

pub agree-tick : (m : Model) → view (with_lists m m.mons (Watch.tick_pairs m)) ≡ step radio (view m) tick
unfolding view with_lists Watch.tick_pairs view_pair
agree-tick m =
    ap (λ ps. record { mons = m.mons; pairs = ps })
    (each-view view_pair (λ q. Watch.at_tick (find m.mons q.handle) q) (move radio m.mons tick) m.pairs
    (λ q. tick-view (find m.mons q.handle) q))

-- the position does not show
pub view-moved : (m : Model) → view (moved m) ≡ view m
unfolding view moved
view-moved m = refl

pub agree-typed : (m : Model) (f : Typed) → every (sound_pair m) m.pairs ≡ true
    → view (step_typed m f) ≡ step radio (view m) (core_typed f)
unfolding step_typed core_typed
agree-typed m (command o l) s = view-moved (commanded m l) ∙ agree-command m l s
agree-typed m (packet_frame p) s = view-moved (with_lists m m.mons (Watch.packet_pairs m p)) ∙ agree-packet m p
agree-typed m tick_frame s = view-moved (with_lists m m.mons (Watch.tick_pairs m)) ∙ agree-tick m
agree-typed m bad s = sym (step_other m)

-- the pairs of a sound state are sound
pub sound-pairs : (m : Model) → sound_model m ≡ true → every (sound_pair m) m.pairs ≡ true
unfolding sound_model
sound-pairs m s =
    and_right
    (leb m.position last_number && leb m.filter 1 && sound_settings m.opcode m.prefix
    && sound_monitors 0 m.mons
    && leb (length m.pairs) most_pairs && apart m.pairs)
    (every (sound_pair m) m.pairs) s

pub agree : (m : Model) (b : Body) → sound_model m ≡ true → view (step_typed m (typed b)) ≡ step radio (view m) (core b)
unfolding core
agree m b s = agree-typed m (typed b) (sound-pairs m s)

-- the model shows the core engine, at sound states
abbrev pub shows : Shows radio Model Body
shows = record {
  step = λ m b. step_typed m (typed b);
  May = λ m b. sound_model m ≡ true;
  view = view;
  core = core;
  agree = agree;
}
