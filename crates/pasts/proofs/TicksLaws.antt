-- A tick: what past frames say of a pair, and of its window, a tick later. Assumes nothing.
use Rattle.std.specs.Prelude.{ℕ, ◌+◌, ◌%◌, ◌≤◌, ◌<◌, ◌≡◌, refl, Bool, true, false, ◌&&◌, List, [], ◌∷◌, leb, eqb}
use Rattle.std.proofs.Common.{sym, ap, ◌∙◌, mod-lt, mod-eq_of_lt, add-one, arith}
use Rattle.std.proofs.Math.Nat.{mod_self, mod-add-mod}
use borrow.Author.Tests.{leb-true, leb-false, eq-eqb, ne_eqb}
use Rattle.laws.specs.Tests.{pick}
use Rattle.laws.specs.TestsLaws.{and_left}
use Rattle.laws.specs.Loops.{some as some_of, when}
use Rattle.model.specs.Types.{Packet}
use Rattle.model.specs.Frames.{Typed, tick}
use Rattle.model.specs.Monitors.{accepts, sifts, windowed}
use Rattle.model.specs.Watch.{closes, emptied, window_tick, with_since_good, with_ticks}
use Rattle.pasts.specs.Pair.{Start, adv_of, count, event_or, matching_packets, matching_at, newest, pair_of, silent_in, stretch, sum_of, ticks_among, window, window_ticks}
use Rattle.pasts.proofs.PairsLaws.{apart, pair-shape, shape}

-- one tick more in a window, or the tick that closes it
module _ (P T : ℕ) (pos : 1 ≤ P) where
  phase-more : leb P (T % P + 1) ≡ false → (T + 1) % P ≡ T % P + 1
  phase-more e =
      let h : T % P + 1 < P = leb-false P (T % P + 1) e in
      sym (mod-add-mod T P 1) ∙ mod-eq_of_lt h

  phase-shut : leb P (T % P + 1) ≡ true → (T + 1) % P ≡ 0
  phase-shut e =
      let h : P ≤ T % P + 1 = leb-true P (T % P + 1) e in
      let k : T % P < P = mod-lt T pos in
      let n : T % P + 1 ≡ P = omega arith in
      sym (mod-add-mod T P 1) ∙ ap (λ (k : ℕ). k % P) n ∙ mod_self P

stretch-more : (n : ℕ) (l : List Typed) → stretch (n + 1) (tick ∷ l) ≡ tick ∷ stretch n l
unfolding stretch
stretch-more n l = rw (add-one n)

-- a tick, as the engine moves the pair
tick-shape : (s : Start) (w b f : Bool) (sil wt wt' : ℕ) (win win' all : List Packet) → (w ≡ true → f ≡ false)
    → (w ≡ true → b ≡ true → (wt' ≡ 0) × (win' ≡ [])) → (w ≡ true → b ≡ false → (wt' ≡ wt + 1) × (win' ≡ win))
    → (w ≡ false → (wt' ≡ wt) × (win' ≡ win))
    → shape s f (sil + 1) wt' win' all
    ≡ pick w (pick (w && b) (emptied (with_since_good (shape s f sil wt win all) (sil + 1)))
    (with_ticks (with_since_good (shape s f sil wt win all) (sil + 1)) (wt + 1)))
    (with_since_good (shape s f sil wt win all) (sil + 1))
unfolding pick shape emptied with_since_good with_ticks newest event_or adv_of sum_of
tick-shape s true true f sil wt wt' win win' all n c m o = rw (n refl, (c refl refl).0, (c refl refl).1)
tick-shape s true false f sil wt wt' win win' all n c m o = rw ((m refl refl).0, (m refl refl).1)
tick-shape s false b f sil wt wt' win win' all n c m o = rw ((o refl).0, (o refl).1)

module _ (s : Start) (l : List Typed) where
  abbrev P : ℕ
  P = s.mon.sampling

  abbrev T : ℕ
  T = ticks_among l

  least : windowed s.mon ≡ true → 1 ≤ P
  unfolding windowed
  least w = leb-true 1 P (and_left (leb 1 P) (leb P 0xFE) w)

  -- ticks and packets of the window, where there are windows and where there are none
  in_window : windowed s.mon ≡ true → (window_ticks s l ≡ T % P)
      × (window s l ≡ matching_packets s (stretch (T % P) l))
  unfolding window_ticks window pick when
  in_window w = (rw w, rw w)

  no-window : windowed s.mon ≡ false → (window_ticks s l ≡ 0) × (window s l ≡ [])
  unfolding window_ticks window pick when
  no-window w = (rw w, rw w)

  shut-tick : windowed s.mon ≡ true → leb P (T % P + 1) ≡ true → (window_ticks s (tick ∷ l) ≡ 0)
      × (window s (tick ∷ l) ≡ [])
  unfolding window_ticks window pick when ticks_among count stretch matching_packets
  shut-tick w e = (rw (w, phase-shut P T (least w) e), rw (w, phase-shut P T (least w) e))

  more-tick : windowed s.mon ≡ true → leb P (T % P + 1) ≡ false
      → (window_ticks s (tick ∷ l) ≡ T % P + 1) × (window s (tick ∷ l) ≡ matching_packets s (stretch (T % P) l))
  unfolding window_ticks window pick when ticks_among count matching_packets matching_at
  more-tick w e = (rw (w, phase-more P T (least w) e), rw (w, phase-more P T (least w) e, stretch-more (T % P) l))

no-window-tick : (s : Start) (l : List Typed) → windowed s.mon ≡ false
    → (window_ticks s (tick ∷ l) ≡ window_ticks s l) × (window s (tick ∷ l) ≡ window s l)
no-window-tick s l w =
    let a = no-window s (tick ∷ l) w in
    let b = no-window s l w in
    (a.0 ∙ sym b.0, a.1 ∙ sym b.1)

pub pair-tick : (s : Start) (l : List Typed) → accepts s.mon ≡ true
    → pair_of s (tick ∷ l) ≡ window_tick s.mon (with_since_good (pair_of s l) ((pair_of s l).since_good + 1))
unfolding window_tick closes shape silent_in matching_at some_of pick count matching_packets with_since_good
pair-tick s l ok =
    rw (pair-shape s (tick ∷ l), pair-shape s l)
    (tick-shape s (windowed s.mon) (leb s.mon.sampling (window_ticks s l + 1)) (sifts s.mon) (silent_in s l)
    (window_ticks s l)
    (window_ticks s (tick ∷ l)) (window s l) (window s (tick ∷ l)) (matching_packets s l) (λ w. apart s.mon ok w)
    (λ w e. shut w e) (λ w e. more w e)
    (λ w. no-window-tick s l w))
  where
    shut : windowed s.mon ≡ true → leb s.mon.sampling (window_ticks s l + 1) ≡ true
        → (window_ticks s (tick ∷ l) ≡ 0) × (window s (tick ∷ l) ≡ [])
    shut w e = shut-tick s l w (rw (in_window s l w).0 at e)

    more : windowed s.mon ≡ true → leb s.mon.sampling (window_ticks s l + 1) ≡ false
        → (window_ticks s (tick ∷ l) ≡ window_ticks s l + 1) × (window s (tick ∷ l) ≡ window s l)
    more w e =
        let i = in_window s l w in
        let m = more-tick s l w (rw i.0 at e) in
        (m.0 ∙ ap (λ (n : ℕ). n + 1) (sym i.0), m.1 ∙ sym i.1)

-- when a window closes, as the engine tells it
pub closes-tick : (s : Start) (l : List Typed)
    → closes s.mon (pair_of s l) ≡ (windowed s.mon && eqb (ticks_among (tick ∷ l) % s.mon.sampling) 0)
unfolding closes pair_of window_ticks ticks_among count pick
closes-tick s l = go (windowed s.mon) refl
  where
    go : (w : Bool) → windowed s.mon ≡ w
        → (w && leb s.mon.sampling (pick w (ticks_among l % s.mon.sampling) 0 + 1))
        ≡ (w && eqb ((ticks_among l + 1) % s.mon.sampling) 0)
    go false w = refl
    go true w = on (leb s.mon.sampling (ticks_among l % s.mon.sampling + 1)) refl
      where
        on : (b : Bool) → leb s.mon.sampling (ticks_among l % s.mon.sampling + 1) ≡ b
            → b ≡ eqb ((ticks_among l + 1) % s.mon.sampling) 0
        on true e = sym (eq-eqb ((ticks_among l + 1) % s.mon.sampling) 0
            (phase-shut s.mon.sampling (ticks_among l) (least s l w) e))
        on false e =
            let n : (ticks_among l + 1) % s.mon.sampling ≡ ticks_among l % s.mon.sampling + 1 =
            phase-more s.mon.sampling (ticks_among l) (least s l w) e in
            sym (ne_eqb ((ticks_among l + 1) % s.mon.sampling) 0 (λ z. omega arith))
