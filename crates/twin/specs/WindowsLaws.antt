-- Windows of a pair, over the frames behind its start: the ticks, where a window begins, its packets. Document 01,
-- Watching, by history. Assumes nothing.
use Rattle.std.specs.Prelude.{◌≡◌, ℕ, zero, suc, ◌+◌, ◌-◌, ◌%◌, ◌<◌, ◌≤◌, Bool, true, false, ◌&&◌, List, [], ◌∷◌, ◌++◌, ◌==◌, ◌≢◌, nat_le, refl}
use Rattle.std.proofs.Math.Path.{sym, ap, ap₂}
use Rattle.std.proofs.Common.{◌∙◌}
use mathlib.Core.List.{append_assoc, append-nil}
use native.Mathlib.Omega.{arith}
use borrow.Author.Tests.{eqb-true, eqb-false, leb-true}
use Rattle.laws.specs.Tests.{pick}
use Rattle.laws.specs.TestsLaws.{and_left, and_right}
use Rattle.laws.specs.Loops.{when}
use Rattle.model.specs.Frames.{Typed, tick}
use Rattle.model.specs.Monitors.{windowed}
use Rattle.pasts.specs.Pair.{matching_packets, stretch, ticks_among, window, window_ticks}
use Rattle.twin.specs.Table.{after, kind_at, typed_at}
use Rattle.twin.specs.Hears.{Formed, start_of}
use Rattle.twin.specs.SilentLaws.{kinds, tick-typed, typed-bad, typed-command, typed-packet, typed-scanned, typed-tick}
use Rattle.twin.specs.Numbered.{mon_at}

-- the frames behind number k: none, one more at the end, one more in front
module _ (t : List ℕ) where
  pub after_none : (k : ℕ) → after t k (k - k) ≡ []
  unfolding after
  after_none k = let z : k - k ≡ 0 = omega arith in ap (after t k) z

  pub after_more : (k i : ℕ) → k ≤ i → after t k (i + 1 - k) ≡ typed_at t i ∷ after t k (i - k)
  unfolding after
  after_more k i l =
      let n : i + 1 - k ≡ suc (i - k) = omega arith in
      let m : k + (i - k) ≡ i = omega arith in
      ap (after t k) n ∙ ap (λ (j : ℕ). typed_at t j ∷ after t k (i - k)) m

  after_front : (k j : ℕ) → after t k (suc j) ≡ after t (suc k) j ++ (typed_at t k ∷ [])
  unfolding after
  after_front k zero = let z : k + 0 ≡ k = omega arith in ap (λ (i : ℕ). typed_at t i ∷ []) z
  after_front k (suc j) =
      let z : k + suc j ≡ suc k + j = omega arith in
      ap₂ (λ (i : ℕ) (l : List Typed). typed_at t i ∷ l) z (after_front k j)

  pub after-back-more : (i n : ℕ) → 1 ≤ i → i ≤ n
      → after t (i - 1) (n - (i - 1)) ≡ after t i (n - i) ++ (typed_at t (i - 1) ∷ [])
  after-back-more i n l m =
      let z : n - (i - 1) ≡ suc (n - i) = omega arith in
      let y : suc (i - 1) ≡ i = omega arith in
      ap (after t (i - 1)) z ∙ after_front (i - 1) (n - i)
      ∙ ap (λ (j : ℕ). after t j (n - i) ++ (typed_at t (i - 1) ∷ [])) y

  -- the ticks among them
  ticks-one : (k i : ℕ) → k ≤ i → Formed t i
      → ticks_among (after t k (i + 1 - k))
      ≡ pick (kind_at t i == 3) (ticks_among (after t k (i - k)) + 1) (ticks_among (after t k (i - k)))
  unfolding ticks_among
  ticks-one k i l f = rw (after_more k i l) (tick-typed t i f (ticks_among (after t k (i - k))))

  pub ticks-more : (k i : ℕ) {r : Bool} → k ≤ i → Formed t i → r ≡ (kind_at t i == 3) → r ≡ true
      → ticks_among (after t k (i + 1 - k)) ≡ ticks_among (after t k (i - k)) + 1
  unfolding pick
  ticks-more k i l f e z = ticks-one k i l f ∙ rw (sym e ∙ z)

  pub ticks-same : (k i : ℕ) {r : Bool} → k ≤ i → Formed t i → r ≡ (kind_at t i == 3) → r ≡ false
      → ticks_among (after t k (i + 1 - k)) ≡ ticks_among (after t k (i - k))
  unfolding pick
  ticks-same k i l f e z = ticks-one k i l f ∙ rw (sym e ∙ z)

  pub ticks-none : (k : ℕ) → ticks_among (after t k (k - k)) ≡ 0
  unfolding ticks_among after
  ticks-none k = let z : k - k ≡ 0 = omega arith in ap (λ (j : ℕ). ticks_among (after t k j)) z

-- the stretch of the last ticks, looked for from the newest frame back: what stands behind frame i, and what is left
-- of it
unfoldable pub looked : List ℕ → ℕ → ℕ → ℕ → ℕ → List Typed
looked t k n left i = after t i (n - i) ++ stretch left (after t k (i - k))

module _ (t : List ℕ) (k n : ℕ) where
  pub look-first : (last : ℕ) → stretch last (after t k (n - k)) ≡ looked t k n last n
  unfolding looked
  look-first last = rw (after_none t n)

  back_one : (i : ℕ) → k < i → after t k (i - k) ≡ typed_at t (i - 1) ∷ after t k (i - 1 - k)
  back_one i l =
      let z : i ≡ i - 1 + 1 = omega arith in
      ap (λ (j : ℕ). after t k (j - k)) z ∙ after_more t k (i - 1) (omega arith)

  stretch-other : (i left : ℕ) (l : List Typed) → Formed t i → (kind_at t i ≢ 3)
      → stretch left (typed_at t i ∷ l) ≡ typed_at t i ∷ stretch left l
  unfolding stretch
  stretch-other i left l f z =
      kinds t i f (λ e. rw (typed-command t i f e)) (λ e. rw (typed-packet t i f e)) (λ e. absurd (z e))
      (λ e. rw (typed-scanned t i f e))
      (λ a b c d. rw (typed-bad t i f a b c d))

  stretch-tick : (i left : ℕ) (l : List Typed) → Formed t i → kind_at t i ≡ 3 → (left ≢ 0)
      → stretch left (typed_at t i ∷ l) ≡ typed_at t i ∷ stretch (left - 1) l
  unfolding stretch
  stretch-tick i left l f z n = rw (typed-tick t i f z) (go left n)
    where
      go : (m : ℕ) → (m ≢ 0) → stretch m (tick ∷ l) ≡ tick ∷ stretch (m - 1) l
      go zero e = absurd (e refl)
      go (suc m) e = let y : m ≡ suc m - 1 = omega arith in ap (λ (j : ℕ). tick ∷ stretch j l) y

  one-back : (i left : ℕ) → k < i → i ≤ n
      → after t i (n - i) ++ (typed_at t (i - 1) ∷ stretch left (after t k (i - 1 - k))) ≡ looked t k n left (i - 1)
  unfolding looked
  one-back i left l m =
      sym (ap (λ (x : List Typed). x ++ stretch left (after t k (i - 1 - k))) (after-back-more t i n (omega arith) m)
      ∙ append_assoc (after t i (n - i)) (typed_at t (i - 1) ∷ []) (stretch left (after t k (i - 1 - k))))

  pub look-other : (i left : ℕ) {r : Bool} → k < i → i ≤ n → Formed t (i - 1) → r ≡ (kind_at t (i - 1) == 3)
      → r ≡ false
      → looked t k n left i ≡ looked t k n left (i - 1)
  unfolding looked
  look-other i left l m f e z =
      ap (λ (x : List Typed). after t i (n - i) ++ x)
      (ap (stretch left) (back_one i l)
      ∙ stretch-other (i - 1) left (after t k (i - 1 - k)) f (eqb-false (kind_at t (i - 1)) 3 (sym e ∙ z)))
      ∙ one-back i left l m

  pub look-tick : (i left : ℕ) {r : Bool} → k < i → i ≤ n → Formed t (i - 1) → r ≡ (kind_at t (i - 1) == 3) → r ≡ true
      → (left ≢ 0)
      → looked t k n left i ≡ looked t k n (left - 1) (i - 1)
  unfolding looked
  look-tick i left l m f e z y =
      ap (λ (x : List Typed). after t i (n - i) ++ x)
      (ap (stretch left) (back_one i l)
      ∙ stretch-tick (i - 1) left (after t k (i - 1 - k)) f (eqb-true (kind_at t (i - 1)) 3 (sym e ∙ z)) y)
      ∙ one-back i (left - 1) l m

  look_stop : (i left : ℕ) {r : Bool} → k < i → Formed t (i - 1) → r ≡ (kind_at t (i - 1) == 3) → r ≡ true → left ≡ 0
      → looked t k n left i ≡ after t i (n - i)
  unfolding looked stretch
  look_stop i left l f e z y =
      ap (λ (x : List Typed). after t i (n - i) ++ x)
      (ap₂ stretch y (back_one i l)
      ∙ ap (λ (x : Typed). stretch 0 (x ∷ after t k (i - 1 - k)))
      (typed-tick t (i - 1) f (eqb-true (kind_at t (i - 1)) 3 (sym e ∙ z))))
      ∙ append-nil (after t i (n - i))

  pub look-stopped : (i left last : ℕ) {r : Bool} → k < i → Formed t (i - 1) → r ≡ (kind_at t (i - 1) == 3) → r ≡ true
      → left ≡ 0
      → stretch last (after t k (n - k)) ≡ looked t k n left i
      → after t (i - 1 + 1) (n - (i - 1 + 1)) ≡ stretch last (after t k (n - k))
  look-stopped i left last l f e z y g =
      let w : i - 1 + 1 ≡ i = omega arith in
      ap (λ (j : ℕ). after t j (n - j)) w ∙ sym (g ∙ look_stop i left l f e z y)

  pub look-end : (i left : ℕ) → k ≤ i → i ≤ k → looked t k n left i ≡ after t i (n - i)
  unfolding looked stretch after
  look-end i left l m =
      let z : i - k ≡ 0 = omega arith in
      ap (λ (j : ℕ). after t i (n - i) ++ stretch left (after t k j)) z ∙ append-nil (after t i (n - i))

-- where the window begins
module _ (t : List ℕ) (a k n : ℕ) where
  pub from-none : {r : Bool} → r ≡ windowed (mon_at t a) → r ≡ false → (h : ℕ)
      → matching_packets (start_of t h a k) (after t n (n - n)) ≡ window (start_of t h a k) (after t k (n - k))
  unfolding window when matching_packets start_of
  from-none e z h = rw (after_none t n, sym e ∙ z)

  pub from_some : {r : Bool} (b p : ℕ) → r ≡ windowed (mon_at t a) → r ≡ true
      → ((h : ℕ) → p ≡ window_ticks (start_of t h a k) (after t k (n - k)))
      → after t b (n - b) ≡ stretch p (after t k (n - k)) → (h : ℕ)
      → matching_packets (start_of t h a k) (after t b (n - b)) ≡ window (start_of t h a k) (after t k (n - k))
  unfolding window when window_ticks pick start_of
  from_some b p e z w q h =
      let y : p ≡ ticks_among (after t k (n - k)) % (mon_at t a).sampling = w h ∙ rw (sym e ∙ z) in
      ap (matching_packets (start_of t h a k)) q
      ∙ ap (λ (j : ℕ). matching_packets (start_of t h a k) (stretch j (after t k (n - k)))) y
      ∙ sym (rw (sym e ∙ z))

  pub phase-none : {r : Bool} → r ≡ windowed (mon_at t a) → r ≡ false → (h : ℕ)
      → 0 ≡ window_ticks (start_of t h a k) (after t k (n - k))
  unfolding window_ticks pick start_of
  phase-none e z h = sym (rw (sym e ∙ z))

  pub phase-some : {r : Bool} (c p : ℕ) → r ≡ windowed (mon_at t a) → r ≡ true → c ≡ ticks_among (after t k (n - k))
      → p ≡ (mon_at t a).sampling → (h : ℕ)
      → c % p ≡ window_ticks (start_of t h a k) (after t k (n - k))
  unfolding window_ticks pick start_of
  phase-some c p e z x y h = sym (rw (sym e ∙ z, ← x, ← y))

  pub windowed-least : {r : Bool} (p : ℕ) → r ≡ windowed (mon_at t a) → r ≡ true → p ≡ (mon_at t a).sampling
      → (1 ≤ p) × (p ≤ 254)
  unfolding windowed
  windowed-least p e z y =
      let s : ℕ = (mon_at t a).sampling in
      let w : (nat_le 1 s && nat_le s 254) ≡ true = sym e ∙ z in
      let l : 1 ≤ s = leb-true 1 s (and_left (nat_le 1 s) (nat_le s 254) w) in
      let m : s ≤ 254 = leb-true s 254 (and_right (nat_le 1 s) (nat_le s 254) w) in
      (omega arith, omega arith)
