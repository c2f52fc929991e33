-- What past frames say of a pair moves, frame by frame, as the pair that document 01's engine holds. Assumes nothing.
use Rattle.std.specs.Prelude.{ℕ, ◌%◌, ◌≤◌, ◌≡◌, Bool, ◌&&◌, ◌||◌, not, List, [], ◌∷◌, leb, eqb, length}
use Rattle.std.proofs.Math.Path.{refl}
use Rattle.std.proofs.Common.{sym, ap, ◌∙◌, add-one, arith, leb-true, eqb-true, ne_eqb}
use Rattle.std.proofs.Math.Bool.{true, false}
use Rattle.std.proofs.lemmas.Bool.{false≢true, not-true}
use Rattle.std.proofs.Math.Option.{Option, none, some}
use Rattle.std.proofs.Math.Nat.{zero-mod}
use Rattle.laws.specs.Tests.{pick, sames}
use Rattle.laws.specs.TestsLaws.{sames-eq, and_left, and_right}
use Rattle.laws.specs.Loops.{some as some_of, when}
use Rattle.model.specs.Types.{Monitor, Packet, Pair, device, device_of, watched}
use Rattle.model.specs.Frames.{Typed, command, packet, bad}
use Rattle.model.specs.Monitors.{accepts, allowed, allows, good, is_none, matches, no_key, no_option, parameters, peer_type, sampled_sifting, sifts, sifts_by, two_devices, windowed}
use Rattle.model.proofs.AcceptedLaws.{accepted}
use Rattle.model.specs.Watch.{at_packet, counts, gathered, refreshed, remembered, start_like, start_pair, window_takes, with_kept, with_latest, with_since_good}
use Rattle.pasts.specs.Pair.{Start, adv_of, alike, count, event_or, matching_packets, matching_at, kept_in, kept_packet, last_reason, newest, newest_or, pair_of, silent_in, stretch, sum_of, ticks_among, window, window_ticks}

-- an accepted monitor that has windows does not filter duplicates
pub apart : (m : Monitor) → accepts m ≡ true → windowed m ≡ true → sifts m ≡ false
unfolding allowed sampled_sifting sifts windowed
apart m a w =
    let a' : List ℕ = parameters m in
    let front : Bool = not (no_option a') && not (no_key a') && not (two_devices a' m.condition_type) in
    let l = and_left (front && not (sampled_sifting a' m.sampling)) (leb (peer_type a') 1)
    (accepted m a).permitted in
    let n : (sifts_by a' && not (is_none m.sampling)) ≡ false =
    not-true (sampled_sifting a' m.sampling) (and_right front (not (sampled_sifting a' m.sampling)) l) in
    let h : 1 ≤ m.sampling = leb-true 1 m.sampling (and_left (leb 1 m.sampling) (leb m.sampling 0xFE) w) in
    let z : is_none m.sampling ≡ false = ne_eqb m.sampling 0 (λ e. omega arith) in
    go (sifts_by a') (rw z at n)
  where
    go : (b : Bool) → (b && true) ≡ false → b ≡ false
    go true e = e
    go false e = refl

-- a command, and a frame of no form, say nothing of a pair
pub pair-command : (s : Start) (o : ℕ) (c : List ℕ) (l : List Typed) → pair_of s (command o c ∷ l) ≡ pair_of s l
unfolding pair_of silent_in matching_at count some_of pick window_ticks ticks_among window stretch matching_packets kept_in kept_packet
pair-command s o c l = refl

pub pair-bad : (s : Start) (l : List Typed) → pair_of s (bad ∷ l) ≡ pair_of s l
unfolding pair_of silent_in matching_at count some_of pick window_ticks ticks_among window stretch matching_packets kept_in kept_packet
pair-bad s l = refl

-- a pair by what it is worked out from: whether its monitor filters duplicates, ticks since a good packet, ticks in
-- the window, the window's packets, all that were heard
unfoldable pub shape : Start → Bool → ℕ → ℕ → List Packet → List Packet → Pair
shape s f silent ticks win all =
    record {
      handle = s.handle;
      address_type = s.packet.address_type;
      address = s.packet.address;
      since_good = silent;
      ticks = ticks;
      packets = length win;
      sum = sum_of win;
      kept = (newest_or s.packet all).rssi;
      event = event_or (pick f 0xFF 0) (pick f (last_reason s all) (newest win));
      adv = adv_of (pick f (last_reason s all) (newest win));
    }

pub pair-shape : (s : Start) (l : List Typed)
    → pair_of s l ≡ shape s (sifts s.mon) (silent_in s l) (window_ticks s l) (window s l) (matching_packets s l)
unfolding pair_of shape kept_in kept_packet
pair-shape s l = refl

-- a packet that does not count for the pair
miss-silent : (s : Start) (p : Packet) (l : List Typed) → matching_at s (packet p) ≡ []
    → silent_in s (packet p ∷ l) ≡ silent_in s l
unfolding silent_in count some_of pick
miss-silent s p l e = rw e

miss-heard : (s : Start) (p : Packet) (l : List Typed) → matching_at s (packet p) ≡ []
    → matching_packets s (packet p ∷ l) ≡ matching_packets s l
unfolding matching_packets
miss-heard s p l e = rw e

same-ticks : (s : Start) (p : Packet) (l : List Typed) → window_ticks s (packet p ∷ l) ≡ window_ticks s l
unfolding window_ticks ticks_among count
same-ticks s p l = refl

miss-window : (s : Start) (p : Packet) (l : List Typed) → matching_at s (packet p) ≡ []
    → window s (packet p ∷ l) ≡ window s l
unfolding window ticks_among count stretch matching_packets
miss-window s p l e = rw e

miss : (s : Start) (p : Packet) (l : List Typed) → matching_at s (packet p) ≡ [] → pair_of s (packet p ∷ l) ≡ pair_of s l
miss s p l e =
    rw (pair-shape s (packet p ∷ l), miss-silent s p l e, same-ticks s p l, miss-window s p l e, miss-heard s p l e)
    (sym (pair-shape s l))

-- one that counts
hit-silent : (s : Start) (p : Packet) (l : List Typed) → matching_at s (packet p) ≡ p ∷ []
    → silent_in s (packet p ∷ l) ≡ pick (good s.mon p) 0 (silent_in s l)
unfolding silent_in count some_of
hit-silent s p l e = rw e (go (good s.mon p))
  where
    go : (b : Bool) → pick (b || false) 0 (silent_in s l) ≡ pick b 0 (silent_in s l)
    go true = refl
    go false = refl

hit-heard : (s : Start) (p : Packet) (l : List Typed) → matching_at s (packet p) ≡ p ∷ []
    → matching_packets s (packet p ∷ l) ≡ p ∷ matching_packets s l
unfolding matching_packets
hit-heard s p l e = rw e

hit-window : (s : Start) (p : Packet) (l : List Typed) → matching_at s (packet p) ≡ p ∷ []
    → window s (packet p ∷ l) ≡ when (windowed s.mon)
    (p ∷ matching_packets s (stretch (ticks_among l % s.mon.sampling) l))
unfolding window ticks_among count stretch matching_packets
hit-window s p l e = rw e

-- an event type and data that stay when a duplicate is kept
reason-event : (s : Start) (p : Packet) (all : List Packet)
    → (event_or 0xFF (last_reason s (p ∷ all))
    ≡ pick (allows s.mon p.event) p.event (event_or 0xFF (last_reason s all)))
    × (adv_of (last_reason s (p ∷ all)) ≡ pick (allows s.mon p.event) p.adv (adv_of (last_reason s all)))
unfolding last_reason pick event_or adv_of alike
reason-event s p all = go (allows s.mon p.event) (last_reason s all)
  where
    go : (a : Bool) (r : Option Packet)
        → (event_or 0xFF (pick (a && not (alike p r)) (some p) r) ≡ pick a p.event (event_or 0xFF r))
        × (adv_of (pick (a && not (alike p r)) (some p) r) ≡ pick a p.adv (adv_of r))
    go false r = (refl, refl)
    go true none = (refl, refl)
    go true (some r) = dup (eqb r.event p.event) (sames r.adv p.adv) refl refl
      where
        dup : (a b : Bool) → eqb r.event p.event ≡ a → sames r.adv p.adv ≡ b
            → (event_or 0xFF (pick (not (a && b)) (some p) (some r)) ≡ p.event)
            × (adv_of (pick (not (a && b)) (some p) (some r)) ≡ p.adv)
        dup true true e f = (eqb-true r.event p.event e, sames-eq r.adv p.adv f)
        dup true false e f = (refl, refl)
        dup false b e f = (refl, refl)

module _ (s : Start) (p : Packet) (all x : List Packet) (sil ticks : ℕ) where
  hit-shape : (w f g a : Bool) → (w ≡ true → f ≡ false) → allows s.mon p.event ≡ a
      → shape s f (pick g 0 sil) ticks (when w (p ∷ x)) (p ∷ all)
      ≡ pick (f && a)
      (with_latest p.event p.adv
      (pick w (gathered p (pick g (with_since_good (with_kept (shape s f sil ticks (when w x) all) p.rssi) 0)
      (with_kept (shape s f sil ticks (when w x) all) p.rssi)))
      (pick g (with_since_good (with_kept (shape s f sil ticks (when w x) all) p.rssi) 0)
      (with_kept (shape s f sil ticks (when w x) all) p.rssi))))
      (pick w (gathered p (pick g (with_since_good (with_kept (shape s f sil ticks (when w x) all) p.rssi) 0)
      (with_kept (shape s f sil ticks (when w x) all) p.rssi)))
      (pick g (with_since_good (with_kept (shape s f sil ticks (when w x) all) p.rssi) 0)
      (with_kept (shape s f sil ticks (when w x) all) p.rssi)))
  unfolding pick when shape gathered with_latest with_since_good with_kept sum_of newest newest_or event_or adv_of
  hit-shape true true g a n e = absurd (false≢true (sym (n refl)))
  hit-shape true false true a n e = rw (add-one (length x))
  hit-shape true false false a n e = rw (add-one (length x))
  hit-shape false true true true n e = rw ((reason-event s p all).0, (reason-event s p all).1, e)
  hit-shape false true false true n e = rw ((reason-event s p all).0, (reason-event s p all).1, e)
  hit-shape false true true false n e = rw ((reason-event s p all).0, (reason-event s p all).1, e)
  hit-shape false true false false n e = rw ((reason-event s p all).0, (reason-event s p all).1, e)
  hit-shape false false true a n e = refl
  hit-shape false false false a n e = refl

hit : (s : Start) (p : Packet) (l : List Typed) → accepts s.mon ≡ true → matching_at s (packet p) ≡ p ∷ []
    → pair_of s (packet p ∷ l)
    ≡ remembered s.mon p (window_takes s.mon p (refreshed s.mon p (with_kept (pair_of s l) p.rssi)))
unfolding remembered window_takes refreshed window
hit s p l ok e =
    rw (pair-shape s (packet p ∷ l), hit-silent s p l e, same-ticks s p l, hit-heard s p l e, pair-shape s l)
    (ap (λ (y : List Packet). shape s (sifts s.mon) (pick (good s.mon p) 0 (silent_in s l)) (window_ticks s l) y
    (p ∷ matching_packets s l)) (hit-window s p l e)
    ∙ hit-shape s p (matching_packets s l) (matching_packets s (stretch (ticks_among l % s.mon.sampling) l))
    (silent_in s l) (window_ticks s l)
    (windowed s.mon)
    (sifts s.mon) (good s.mon p) (allows s.mon p.event) (λ w. apart s.mon ok w) refl)

-- a packet, as the engine moves the pair
heard-by : (s : Start) (p : Packet) (b : Bool) → (sames (device_of p) (device_of s.packet) && matches s.mon p) ≡ b
    → matching_at s (packet p) ≡ when b (p ∷ [])
unfolding matching_at
heard-by s p b e = rw e

pub counts-by : (s : Start) (p : Packet) (l : List Typed)
    → counts s.mon p (pair_of s l) ≡ (sames (device_of p) (device_of s.packet) && matches s.mon p)
unfolding counts watched pair_of device device_of
counts-by s p l = refl

pub pair-packet : (s : Start) (p : Packet) (l : List Typed) → accepts s.mon ≡ true
    → pair_of s (packet p ∷ l) ≡ at_packet (some s.mon) p (pair_of s l)
unfolding at_packet pick when
pair-packet s p l ok =
    rw (counts-by s p l) (go (sames (device_of p) (device_of s.packet) && matches s.mon p) refl)
  where
    go : (b : Bool) → (sames (device_of p) (device_of s.packet) && matches s.mon p) ≡ b
        → pair_of s (packet p ∷ l)
        ≡ pick b (remembered s.mon p
        (window_takes s.mon p (refreshed s.mon p (with_kept (pair_of s l) p.rssi)))) (pair_of s l)
    go true e = hit s p l ok (heard-by s p true e)
    go false e = miss s p l (heard-by s p false e)

-- a pair at its start
pub pair-start : (s : Start) → pair_of s [] ≡ start_pair s.mon s.handle s.packet
unfolding pair_of start_pair start_like silent_in window_ticks ticks_among window stretch matching_packets kept_in newest_or kept_packet
    last_reason when pick
    sum_of newest event_or adv_of
pair-start s = rw (zero-mod s.mon.sampling)
    (go (windowed s.mon) (sifts s.mon) (allows s.mon s.packet.event))
  where
    go : (w f a : Bool)
        → ◌≡◌ {A = Pair}
        (record {
          handle = s.handle;
          address_type = s.packet.address_type;
          address = s.packet.address;
          since_good = 0;
          ticks = pick w 0 0;
          packets = length (when {A = Packet} w []);
          sum = sum_of (when {A = Packet} w []);
          kept = s.packet.rssi;
          event = event_or (pick f 0xFF 0) (pick f (pick a (some s.packet) none) (newest (when {A = Packet} w [])));
          adv = adv_of (pick f (pick a (some s.packet) none) (newest (when {A = Packet} w [])));
        })
        (start_like f a s.handle s.packet)
    go true true true = refl
    go true true false = refl
    go true false true = refl
    go true false false = refl
    go false true true = refl
    go false true false = refl
    go false false true = refl
    go false false false = refl
