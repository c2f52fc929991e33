-- Laws of the definitions in Silent.
use Rattle.std.specs.Prelude.{◌≡◌, ℕ, suc, ◌+◌, ◌-◌, ◌<◌, ◌≤◌, Bool, true, false, ◌&&◌, ◌||◌, List, [], ◌∷◌, length, drop, ◌==◌, ◌≢◌, nat_lt, slice_index}
use Rattle.std.proofs.Math.Path.{refl, sym, ap}
use Rattle.std.proofs.Common.{◌∙◌}
use Rattle.std.proofs.lemmas.Bool.{false≢true}
use native.Mathlib.Omega.{arith}
use borrow.Author.Tests.{eqb-true, ne_eqb}
use Rattle.laws.specs.Tests.{pick, sames}
use Rattle.laws.specs.TestsLaws.{cases_eq, and-not-left}
use Rattle.octets.specs.Little.{little}
use Rattle.laws.specs.Loops.{some as some_of, when}
use Rattle.model.specs.Types.{device_of}
use Rattle.model.specs.Level.{level}
use Rattle.model.proofs.LevelsLaws.{below-levels}
use Rattle.model.specs.Frames.{command, packet, tick, bad, packet_of, typed, is_packet}
use Rattle.model.specs.Monitors.{good, matches, monitor_of}
use Rattle.pasts.specs.Pair.{count, matching_at, silent_in}
use Rattle.model.specs.Frames.{has_packet}
use Rattle.model.specs.Monitors.{is_second, type_in}
use Rattle.model.specs.Layout.{first_type_in, second_type_in}
use Rattle.twin.specs.Table.{Sends, after, body_at, kind_at, payload_at, typed_at}
use Rattle.twin.specs.Hears.{Formed, Start, hears, start_of}
use Rattle.twin.specs.Silent.{refreshes}

pub good_none : (t : List ℕ) (a k i : ℕ) {r : Bool} → r ≡ hears t a k i → r ≡ false → false ≡ refreshes t a k i
unfolding refreshes
good_none t a k i e z = sym (and-not-left _ _ (sym e ∙ z))

pub good-asked : (t : List ℕ) (a k i x y z : ℕ) {r : Bool} {l : List ℕ} → r ≡ hears t a k i → r ≡ true
    → l ≡ drop 3 (payload_at t (a - 1)) → x ≡ level (slice_index l 2)
    → z ≡ (packet_of (payload_at t i)).rssi → y ≡ level z → nat_lt x y ≡ refreshes t a k i
unfolding refreshes good monitor_of
good-asked t a k i x y z e q el ex ez ey = sym (rw (sym e ∙ q) (below-levels _ _ ∙ rw (← el, ← ex, ← ez, ← ey)))

-- what one frame is to the pair
module _ (t : List ℕ) (i : ℕ) (f : Formed t i) where
  abbrev pub K : ℕ
  K = kind_at t i

  pub kinds : {P : Type 0} → (K ≡ 1 → P) → (K ≡ 2 → P) → (K ≡ 3 → P) → (K ≡ 4 → P)
      → ((K ≢ 1) → (K ≢ 2) → (K ≢ 3) → (K ≢ 4) → P) → P
  kinds p q r s o =
      cases_eq K 1 p (λ n1. cases_eq K 2 q (λ n2. cases_eq K 3 r (λ n3. cases_eq K 4 s (λ n4. o n1 n2 n3 n4))))

  pub typed-command : (z : K ≡ 1) → typed_at t i ≡ command (little 2 (payload_at t i) 0) (drop 3 (payload_at t i))
  unfolding typed_at body_at typed pick
  typed-command z = rw (f.command z, z)

  pub typed-packet : (z : K ≡ 2) → typed_at t i ≡ packet (packet_of (payload_at t i))
  unfolding typed_at body_at typed pick
  typed-packet z = rw (f.packet z, z)

  pub typed-tick : (z : K ≡ 3) → typed_at t i ≡ tick
  unfolding typed_at body_at typed pick
  typed-tick z = rw (f.tick z, z)

  pub typed-scanned : (z : K ≡ 4) → typed_at t i ≡ packet (packet_of (payload_at t i))
  unfolding typed_at body_at typed pick
  typed-scanned z = rw (f.scanned z, z)

  pub typed-bad : (K ≢ 1) → (K ≢ 2) → (K ≢ 3) → (K ≢ 4) → typed_at t i ≡ bad
  unfolding typed_at body_at typed pick
  typed-bad a b c d = rw (ne_eqb K 1 a, ne_eqb K 2 b, ne_eqb K 3 c, ne_eqb K 4 d)

  pub tick-typed : (n : ℕ) → count (typed_at t i) n ≡ pick (K == 3) (n + 1) n
  unfolding pick count
  tick-typed n =
      kinds (λ z. rw (typed-command z, z)) (λ z. rw (typed-packet z, z)) (λ z. rw (typed-tick z, z))
      (λ z. rw (typed-scanned z, z))
      (λ a b c d. rw (typed-bad a b c d, ne_eqb K 3 c))

  module _ (a k h : ℕ) where
    heard-packet : some_of (good (start_of t h a k).mon)
        (matching_at (start_of t h a k) (packet (packet_of (payload_at t i))))
        ≡ ((sames (device_of (packet_of (payload_at t i))) (device_of (packet_of (payload_at t (k - 1))))
        && matches (monitor_of (drop 3 (payload_at t (a - 1)))) (packet_of (payload_at t i)))
        && good (monitor_of (drop 3 (payload_at t (a - 1)))) (packet_of (payload_at t i)))
    unfolding matching_at when some_of start_of
    heard-packet =
        go (sames (device_of (packet_of (payload_at t i))) (device_of (packet_of (payload_at t (k - 1))))
        && matches (monitor_of (drop 3 (payload_at t (a - 1)))) (packet_of (payload_at t i)))
        (good (monitor_of (drop 3 (payload_at t (a - 1)))) (packet_of (payload_at t i)))
      where
        none_more : (b : Bool) → (b || false) ≡ b
        none_more true = refl
        none_more false = refl

        go : (c b : Bool)
            → some_of (good (monitor_of (drop 3 (payload_at t (a - 1))))) (when c (packet_of (payload_at t i) ∷ []))
            ≡ (c && good (monitor_of (drop 3 (payload_at t (a - 1)))) (packet_of (payload_at t i)))
        go true b = none_more (good (monitor_of (drop 3 (payload_at t (a - 1)))) (packet_of (payload_at t i)))
        go false b = refl

    good-typed : some_of (good (start_of t h a k).mon) (matching_at (start_of t h a k) (typed_at t i)) ≡ refreshes t a k i
    unfolding refreshes hears matching_at some_of
    good-typed =
        kinds (λ z. rw (typed-command z, z)) (λ z. rw (typed-packet z, heard-packet, z)) (λ z. rw (typed-tick z, z))
        (λ z. rw (typed-scanned z, heard-packet, z))
        (λ x y c d. rw (typed-bad x y c d, ne_eqb K 2 y, ne_eqb K 4 d))

-- the loop's turns: what is left to look at, from the newest frame back
module _ (t : List ℕ) (a k h : ℕ) where
  abbrev s : Rattle.pasts.specs.Pair.Start
  s = start_of t h a k

  pub after-back : (i : ℕ) → k < i → after t k (i - k) ≡ typed_at t (i - 1) ∷ after t k (i - 1 - k)
  unfolding after
  after-back i l =
      let n : i - k ≡ suc (i - 1 - k) = omega arith in
      let m : k + (i - 1 - k) ≡ i - 1 = omega arith in
      ap (after t k) n ∙ ap (λ (j : ℕ). typed_at t j ∷ after t k (i - 1 - k)) m

  pub back-good : (i : ℕ) {r : Bool} → k < i → Formed t (i - 1) → r ≡ refreshes t a k (i - 1) → r ≡ true
      → silent_in s (after t k (i - k)) ≡ 0
  unfolding silent_in pick
  back-good i l f e z = rw (after-back i l, good-typed t (i - 1) f a k h, sym e ∙ z)

  pub back-other : (i : ℕ) {r : Bool} → k < i → Formed t (i - 1) → r ≡ refreshes t a k (i - 1) → r ≡ false
      → silent_in s (after t k (i - k))
      ≡ pick (kind_at t (i - 1) == 3) (silent_in s (after t k (i - 1 - k)) + 1)
      (silent_in s (after t k (i - 1 - k)))
  unfolding silent_in pick
  back-other i l f e z =
      rw (after-back i l, good-typed t (i - 1) f a k h, sym e ∙ z)
      (tick-typed t (i - 1) f (silent_in s (after t k (i - 1 - k))))

  pub back_end : (i : ℕ) → i ≤ k → silent_in s (after t k (i - k)) ≡ 0
  unfolding silent_in after
  back_end i l = let z : i - k ≡ 0 = omega arith in ap (λ (j : ℕ). silent_in s (after t k j)) z

  pub back-tick : (i : ℕ) {r q : Bool} → k < i → Formed t (i - 1) → r ≡ refreshes t a k (i - 1) → r ≡ false
      → q ≡ (kind_at t (i - 1) == 3) → q ≡ true
      → silent_in s (after t k (i - k)) ≡ silent_in s (after t k (i - 1 - k)) + 1
  unfolding pick
  back-tick i l f e z d y = back-other i l f e z ∙ rw (sym d ∙ y)

  pub back-idle : (i : ℕ) {r q : Bool} → k < i → Formed t (i - 1) → r ≡ refreshes t a k (i - 1) → r ≡ false
      → q ≡ (kind_at t (i - 1) == 3) → q ≡ false
      → silent_in s (after t k (i - k)) ≡ silent_in s (after t k (i - 1 - k))
  unfolding pick
  back-idle i l f e z d y = back-other i l f e z ∙ rw (sym d ∙ y)

-- what the pair hears stands in the table
pub hears-sends : (t : List ℕ) (a k i : ℕ) {r : Bool} → Formed t i → r ≡ hears t a k i → r ≡ true → Sends t i
unfolding hears has_packet
hears-sends t a k i f e z = go (kind_at t i == 2) (kind_at t i == 4) _ refl refl (sym e ∙ z)
  where
    or_right : (b : Bool) → (b || true) ≡ true
    or_right true = refl
    or_right false = refl

    go : (x y m : Bool) → (kind_at t i == 2) ≡ x → (kind_at t i == 4) ≡ y → ((x || y) && m) ≡ true → Sends t i
    go true y m p q w = record { stands = f.stands; form = rw (f.packet (eqb-true (kind_at t i) 2 p)) }
    go false true m p q w =
        record {
          stands = f.stands;
          form = rw (f.scanned (eqb-true (kind_at t i) 4 q)) (or_right (is_packet (payload_at t i)));
        }
    go false false m p q w = absurd (false≢true w)

-- a monitor's parameters are more than two
pub adds-long : (t : List ℕ) (a k : ℕ) (l : List ℕ) → Start t a k → l ≡ drop 3 (payload_at t (a - 1)) → 2 < length l
unfolding type_in pick
adds-long t a k l s e =
    let m : List ℕ = drop 3 (payload_at t (a - 1)) in
    let h : type_in m < length m = s.adds.long in
    rw e (go (is_second m) h)
  where
    go : (b : Bool) → pick b second_type_in first_type_in < length (drop 3 (payload_at t (a - 1)))
        → 2 < length (drop 3 (payload_at t (a - 1)))
    go true h = omega arith
    go false h = omega arith
