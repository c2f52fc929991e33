-- Laws of the definitions in Bounds.
use Rattle.std.specs.Prelude.{ℕ, ◌≤◌, ◌<◌, ◌≡◌, refl, Bool, true, false, ◌&&◌, ◌||◌, List, [], ◌∷◌, ◌++◌, leb, ltb, eqb, length, get_or}
use Rattle.std.proofs.Math.Option.{some}
use Rattle.std.proofs.Common.{arith, leb-true, ltb-true, eqb-true}
use Rattle.laws.specs.Tests.{pick}
use Rattle.laws.specs.TestsLaws.{and_left, and_right}
use Rattle.laws.specs.Loops.{every}
use Rattle.laws.specs.LoopsLaws.{every-at}
use Rattle.octets.specs.Little.{is_octet}
use Rattle.rule.specs.Base.{All}
use Rattle.rule.specs.Engine.{find}
use Rattle.rule.proofs.FindsLaws.{find-all}
use Rattle.model.specs.Types.{Model, Monitor, Pair}
use Rattle.model.specs.Level.{sum_in_range}
use Rattle.model.specs.Monitors.{run_of, sifts, windowed}
use Rattle.model.proofs.AcceptedLaws.{Accepted, accepted, accepts-run-most}
use Rattle.model.specs.Image.{head_row, monitor_row, pair_row, pair_in}
use Rattle.model.specs.Sound.{sound_window, sound_latest, sound_empty, sound_pair}
use Rattle.blocks.specs.RowsLaws.{head_row-octets, monitor_row-octets, pair_row-octets, pair_in-row}
use Rattle.blocks.specs.Facts.{SoundMonitor, SoundModel}
use Rattle.blocks.specs.FactsLaws.{SoundPair, pair-facts}
use Rattle.model.specs.Layout.{most_monitors}
use Rattle.blocks.specs.Bounds.{Fits}

-- a sound monitor's row is octets, where its handle is one
pub sound-monitor_row : (x : ℕ × Monitor) → x.0 < 256 → SoundMonitor x.1 → every is_octet (monitor_row x) ≡ true
sound-monitor_row x h f =
    let a : Accepted x.1 = accepted x.1 f.accept in
    monitor_row-octets x h f.high-octet f.low-octet (omega (arith, a.interval-most)) f.sampling-octet
    (omega (arith, a.kind-most)) (omega (arith, a.short)) f.condition-octets

-- what the window's test says, whatever the sampling
pub record Window (position : ℕ) (q : Pair) : Type 0 where
  pub ticks-most : q.ticks < 254
  pub packets-most : q.packets ≤ position
  pub sum-most : q.sum < 18446744073709551616

pub window-facts : (position : ℕ) (m : Monitor) (q : Pair) → sound_window position m q ≡ true → sound_empty m q ≡ true
    → Window position q
unfolding sound_window sound_empty windowed pick
window-facts position m q = go (leb 1 m.sampling) (leb m.sampling 254) refl
  where
    tested : m.sampling ≤ 254
        → (ltb q.ticks m.sampling && leb q.packets position && ltb q.sum 18446744073709551616
        && sum_in_range q.sum q.packets) ≡ true → Window position q
    tested h e =
        let a = ltb q.ticks m.sampling in
        let b = leb q.packets position in
        let c = ltb q.sum 18446744073709551616 in
        let e2 = and_left (a && b && c) (sum_in_range q.sum q.packets) e in
        let e1 = and_left (a && b) c e2 in
        let t : q.ticks < m.sampling = ltb-true q.ticks m.sampling (and_left a b e1) in
        record {
          ticks-most = omega arith;
          packets-most = leb-true q.packets position (and_right a b e1);
          sum-most = ltb-true q.sum 18446744073709551616 (and_right (a && b) c e2);
        }

    Empty : Type 0
    Empty = pick (leb 1 q.packets) (leb q.event 3) (eqb q.sum 0 && sound_latest (sifts m) q.event q.adv)
        ≡ true

    idle : (eqb q.ticks 0 && eqb q.packets 0) ≡ true → Empty → Window position q
    idle e z =
        let t : q.ticks ≡ 0 = eqb-true q.ticks 0 (and_left (eqb q.ticks 0) (eqb q.packets 0) e) in
        let p : q.packets ≡ 0 = eqb-true q.packets 0 (and_right (eqb q.ticks 0) (eqb q.packets 0) e) in
        let y : (eqb q.sum 0 && sound_latest (sifts m) q.event q.adv) ≡ true = rw p at z in
        let s : q.sum ≡ 0 =
        eqb-true q.sum 0 (and_left (eqb q.sum 0) (sound_latest (sifts m) q.event q.adv) y) in
        record { ticks-most = omega arith; packets-most = omega arith; sum-most = omega arith }

    go : (s t : Bool) → leb m.sampling 254 ≡ t
        → pick (s && t) (ltb q.ticks m.sampling && leb q.packets position && ltb q.sum 18446744073709551616
        && sum_in_range q.sum q.packets) (eqb q.ticks 0 && eqb q.packets 0) ≡ true
        → Empty → Window position q
    go true true h e z = tested (leb-true m.sampling 254 h) e
    go true false h e z = idle e z
    go false t h e z = idle e z

-- the event type is an octet: 0 to 3, or 0xFF
latest-event : (t : Bool) (event : ℕ) (adv : List ℕ) → sound_latest t event adv ≡ true → event < 256
unfolding sound_latest
latest-event true event adv e = go (leb event 3) refl e
  where
    go : (b : Bool) → leb event 3 ≡ b → (b || (eqb event 255 && eqb (length adv) 0)) ≡ true → event < 256
    go true h z = let n : event ≤ 3 = leb-true event 3 h in omega arith
    go false h z = let n : event ≡ 255 =
        eqb-true event 255 (and_left (eqb event 255) (eqb (length adv) 0) z) in omega arith
latest-event false event adv e = let n : event ≡ 0 =
    eqb-true event 0 (and_left (eqb event 0) (eqb (length adv) 0) e) in omega arith

pub empty-event : (m : Monitor) (q : Pair) → sound_empty m q ≡ true → q.event < 256
unfolding sound_empty pick
empty-event m q = go (leb 1 q.packets)
  where
    go : (t : Bool) → pick t (leb q.event 3) (eqb q.sum 0 && sound_latest (sifts m) q.event q.adv) ≡ true
        → q.event < 256
    go true e = let n : q.event ≤ 3 = leb-true q.event 3 e in omega arith
    go false e = latest-event (sifts m) q.event q.adv
        (and_right (eqb q.sum 0) (sound_latest (sifts m) q.event q.adv) e)

-- the monitor of a live handle
pub live-handle : (m : Model) → SoundModel m → (h : ℕ) (n : Monitor) → find m.mons h ≡ some n → h < most_monitors
live-handle m f h n e = (find-all (λ x. (0 ≤ x.0) × (x.0 < most_monitors)) m.mons h n f.mons-sound.handles e).1

pub live-monitor : (m : Model) → SoundModel m → (h : ℕ) (n : Monitor) → find m.mons h ≡ some n → SoundMonitor n
live-monitor m f h n e = find-all (λ x. SoundMonitor x.1) m.mons h n f.mons-sound.monitors e

pub pair_fits : (m : Model) → SoundModel m → (q : Pair) → SoundPair m q → Fits q
pair_fits m f q s =
    let w : Window m.position q = window-facts m.position s.mon q s.fields.window s.fields.empty in
    let n : SoundMonitor s.mon = live-monitor m f q.handle s.mon s.live in
    let r : run_of s.mon ≤ 600 = accepts-run-most s.mon n.accept in
    record {
      handle-most = live-handle m f q.handle s.mon s.live;
      kind-most = s.fields.kind-most;
      address-length = s.fields.address-length;
      address-octets = s.fields.address-octets;
      silent-most = omega (arith, s.fields.silent-below);
      ticks-most = w.ticks-most;
      packets-most = omega (arith, w.packets-most, f.position-most);
      sum-most = w.sum-most;
      kept-octet = s.fields.kept-octet;
      event-octet = empty-event s.mon q s.fields.empty;
      adv-most = s.fields.adv-most;
      adv-octets = s.fields.adv-octets;
    }

every-all : (m : Model) → SoundModel m → (qs : List Pair) → every (sound_pair m) qs ≡ true → All Fits qs
unfolding every
every-all m f [] e = tt
every-all m f (q ∷ qs) e = (
  pair_fits m f q (pair-facts m q (and_left (sound_pair m q) (every (sound_pair m) qs) e)),
  every-all m f qs (and_right (sound_pair m q) (every (sound_pair m) qs) e),
)

-- every pair of a sound state
pub pairs-fit : (m : Model) → SoundModel m → All Fits m.pairs
pairs-fit m f = every-all m f m.pairs f.pairs-sound

pub pair-at : (m : Model) → SoundModel m → (i : ℕ) (d : Pair) → i < length m.pairs
    → SoundPair m (get_or m.pairs i d)
pair-at m f i d h = pair-facts m (get_or m.pairs i d) (every-at (sound_pair m) m.pairs i d f.pairs-sound h)

-- a pair whose fields fit is read from its row, and its row is octets
pub fits_in_lem : (q : Pair) (zs : List ℕ) → Fits q → pair_in (pair_row q ++ zs) ≡ q
fits_in_lem q zs f =
    pair_in-row q zs f.address-length (omega (arith, f.silent-most)) (omega (arith, f.packets-most)) f.sum-most

pub fits-pair_row : (q : Pair) → Fits q → every is_octet (pair_row q) ≡ true
fits-pair_row q f =
    pair_row-octets q (omega (arith, f.handle-most)) (omega (arith, f.kind-most)) f.address-octets
    (omega (arith, f.ticks-most))
    f.kept-octet
    f.event-octet (omega (arith, f.adv-most)) f.adv-octets

-- a sound state's head row is octets
pub sound-head_row : (m : Model) → SoundModel m → every is_octet (head_row m) ≡ true
sound-head_row m f = head_row-octets m (omega (arith, f.filter-most)) (omega (arith, f.prefix-most)) f.prefix-octets
