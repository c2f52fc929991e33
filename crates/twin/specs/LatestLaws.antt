-- The RSSI that a pair keeps, looked for from the newest frame back. Document 02, T-05. Assumes nothing.
use Rattle.std.specs.Prelude.{◌≡◌, ℕ, zero, suc, ◌+◌, ◌-◌, ◌<◌, ◌≤◌, Bool, true, false, ◌&&◌, ◌||◌, eqb, List, [], ◌∷◌, ◌++◌, length, drop, refl}
use Rattle.std.proofs.Common.{sym, ◌∙◌, ne_eqb}
use Rattle.std.proofs.Math.Path.{ap}
use native.Mathlib.Omega.{arith}
use Rattle.laws.specs.Tests.{pick, sames}
use Rattle.laws.specs.Loops.{when}
use Rattle.model.specs.Types.{Packet, device_of}
use Rattle.model.specs.Frames.{packet, packet_of}
use Rattle.model.specs.Monitors.{matches, monitor_of}
use Rattle.pasts.specs.Pair.{matching_packets, matching_at, kept_in, newest_or}
use Rattle.twin.specs.Table.{after, kind_at, payload_at, typed_at}
use Rattle.twin.specs.Hears.{Formed, Start, hears, start_of}
use Rattle.twin.specs.SilentLaws.{after-back, kinds, typed-bad, typed-command, typed-packet, typed-scanned, typed-tick}

pub heard-typed : (t : List ℕ) (i : ℕ) (f : Formed t i) (a k h : ℕ)
    → matching_at (start_of t h a k) (typed_at t i) ≡ when (hears t a k i) (packet_of (payload_at t i) ∷ [])
unfolding hears matching_at when start_of
heard-typed t i f a k h =
    kinds t i f (λ z. rw (typed-command t i f z, z)) (λ z. rw (typed-packet t i f z, z))
    (λ z. rw (typed-tick t i f z, z)) (λ z. rw (typed-scanned t i f z, z))
    (λ x y c d. rw (typed-bad t i f x y c d, ne_eqb (kind_at t i) 2 y, ne_eqb (kind_at t i) 4 d))

module _ (t : List ℕ) (a k h : ℕ) where
  heard-back : (i : ℕ) (b : Bool) → k < i → Formed t (i - 1) → hears t a k (i - 1) ≡ b
      → matching_packets (start_of t h a k) (after t k (i - k)) ≡ when b (packet_of (payload_at t (i - 1)) ∷ [])
      ++ matching_packets (start_of t h a k) (after t k (i - 1 - k))
  unfolding matching_packets
  heard-back i b l f e = rw (after-back t a k h i l, heard-typed t (i - 1) f a k h, e)

  pub last-heard : (i : ℕ) {r : Bool} → k < i → Formed t (i - 1) → r ≡ hears t a k (i - 1) → r ≡ true
      → kept_in (start_of t h a k) (after t k (i - k)) ≡ (packet_of (payload_at t (i - 1))).rssi
  unfolding kept_in when newest_or
  last-heard i l f e z =
      ap (λ (x : List Packet). (newest_or (start_of t h a k).packet x).rssi) (heard-back i true l f (sym e ∙ z))

  pub last-other : (i : ℕ) {r : Bool} → k < i → Formed t (i - 1) → r ≡ hears t a k (i - 1) → r ≡ false
      → kept_in (start_of t h a k) (after t k (i - k)) ≡ kept_in (start_of t h a k) (after t k (i - 1 - k))
  unfolding kept_in when
  last-other i l f e z =
      ap (λ (x : List Packet). (newest_or (start_of t h a k).packet x).rssi) (heard-back i false l f (sym e ∙ z))

  pub last-start : (i : ℕ) → i ≤ k
      → kept_in (start_of t h a k) (after t k (i - k)) ≡ (packet_of (payload_at t (k - 1))).rssi
  unfolding kept_in matching_packets newest_or after start_of
  last-start i l = let z : i - k ≡ 0 = omega arith in ap (λ (j : ℕ). kept_in (start_of t h a k) (after t k j)) z
