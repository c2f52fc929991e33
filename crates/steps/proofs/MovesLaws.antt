-- What a packet and a tick do to one pair held: it stays the same pair, of the same monitor, and stays sound.
-- Document 01, Watching, by history, and The image ("Sound: .."). Assumes nothing.
use Rattle.std.specs.Prelude.{ℕ, ◌+◌, ◌≡◌, refl, Bool, true, false, ◌&&◌, List, eqb}
use Rattle.std.proofs.Common.{sym, ap, ◌∙◌, eqb-true}
use Rattle.std.proofs.Math.Option.{Option, none, some}
use Rattle.laws.specs.Tests.{sames}
use Rattle.laws.specs.TestsLaws.{and_left, and_right, sames-eq}
use Rattle.rule.specs.BaseLaws.{none≢some}
use Rattle.rule.specs.Engine.{find}
use Rattle.model.specs.Types.{Monitor, Packet, Pair, watched}
use Rattle.model.specs.Monitors.{allows, good, sifts, windowed}
use Rattle.model.specs.Watch.{with_since_good, with_kept, with_latest, gathered, with_ticks, emptied, counts, duplicate, refreshed, remembered, window_takes, at_packet}
use Rattle.model.specs.Watch.{packet_move, goes_on, closes, window_tick, at_tick}
use Rattle.blocks.specs.RowsLaws.{pair_eq}
use Rattle.steps.specs.ListsLaws.{picked}
use Rattle.steps.specs.WholeLaws.{key}
use Rattle.steps.specs.TypedLaws.{pick-both}

-- by a test's two values
pub by-test : {P : Type 0} (t : Bool) → (t ≡ true → P) → (t ≡ false → P) → P
by-test true f g = f refl
by-test false f g = g refl

-- Keys stay.
pub refreshed-key : (m : Monitor) (p : Packet) (q : Pair) → key (refreshed m p q) ≡ key q
unfolding refreshed with_since_good watched
refreshed-key m p q = pick-both (λ r. key r ≡ key q) (good m p) (with_since_good q 0) q (λ e. refl) (λ e. refl)

pub strength-key : (o : ℕ) (q : Pair) → key (with_kept q o) ≡ key q
unfolding with_kept watched
strength-key o q = refl

pub takes_key : (m : Monitor) (p : Packet) (q : Pair) → key (window_takes m p q) ≡ key q
unfolding window_takes gathered watched
takes_key m p q = pick-both (λ r. key r ≡ key q) (windowed m) (gathered p q) q (λ e. refl) (λ e. refl)

pub remembered-key : (m : Monitor) (p : Packet) (q : Pair) → key (remembered m p q) ≡ key q
unfolding remembered with_latest watched
remembered-key m p q =
    pick-both (λ r. key r ≡ key q) (sifts m && allows m p.event) (with_latest p.event p.adv q) q (λ e. refl)
    (λ e. refl)

pub packet-key : (mons : List (ℕ × Monitor)) (p : Packet) (q : Pair) → key (packet_move mons p q) ≡ key q
unfolding packet_move at_packet
packet-key mons p q = go (find mons q.handle)
  where
    go : (o : Option Monitor) → key (at_packet o p q) ≡ key q
    go none = refl
    go (some m) =
        let k : Pair = with_kept q p.rssi in
        let w : Pair = window_takes m p (refreshed m p k) in
        pick-both (λ r. key r ≡ key q) (counts m p q) (remembered m p w) q
        (λ e. remembered-key m p w ∙ takes_key m p (refreshed m p k) ∙ refreshed-key m p k ∙ strength-key p.rssi q)
        (λ e. refl)

pub window-key : (m : Monitor) (q : Pair) (n : ℕ) → key (window_tick m (with_since_good q n)) ≡ key q
unfolding window_tick with_since_good with_ticks emptied watched
window-key m q n =
    pick-both (λ r. key r ≡ key q) (windowed m) _ _
    (λ e. pick-both (λ r. key r ≡ key q) (closes m (with_since_good q n)) (emptied (with_since_good q n))
    (with_ticks (with_since_good q n) (q.ticks + 1))
    (λ f. refl) (λ f. refl))
    (λ e. refl)

-- a duplicate has the event type and the data that are kept: keeping it changes nothing (document 02, T-13, "is
-- itself no reason for one")
pub duplicate-kept : (m : Monitor) (p : Packet) (q : Pair) → duplicate m p q ≡ true → remembered m p q ≡ q
unfolding duplicate remembered with_latest
duplicate-kept m p q e =
    let v : Bool = eqb q.event p.event in
    let d : Bool = sames q.adv p.adv in
    let r : (v && d) ≡ true = and_right (sifts m) (v && d) e in
    let same : with_latest p.event p.adv q ≡ q =
    pair_eq q refl refl refl refl refl refl refl refl (sym (eqb-true q.event p.event (and_left v d r)))
    (sym (sames-eq q.adv p.adv (and_right v d r))) in
    pick-both (λ x. x ≡ q) (sifts m && allows m p.event) (with_latest p.event p.adv q) q (λ t. same)
    (λ t. refl)

-- what a tick leaves: of a live monitor, whose watch goes on
pub record Ticked (o : Option Monitor) (q r : Pair) : Type 0 where
  pub mon : Monitor
  pub is : o ≡ some mon
  pub on : goes_on mon q ≡ true
  pub gives : window_tick mon (with_since_good q (q.since_good + 1)) ≡ r

pub ticked : (o : Option Monitor) (q r : Pair) → at_tick o q ≡ some r → Ticked o q r
unfolding at_tick
ticked none q r e = absurd (none≢some e)
ticked (some m) q r e =
    let w = picked (goes_on m q) (window_tick m (with_since_good q (q.since_good + 1))) r e in
    record { mon = m; is = refl; on = w.0; gives = w.1 }

pub tick-key : (o : Option Monitor) (q r : Pair) → at_tick o q ≡ some r → key r ≡ key q
tick-key o q r e =
    let t : Ticked o q r = ticked o q r e in ap key (sym t.gives) ∙ window-key t.mon q (q.since_good + 1)
