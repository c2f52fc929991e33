-- Laws of the definitions in Reasons.
use Rattle.std.specs.Prelude.{◌≡◌, ℕ, ◌+◌, ◌-◌, ◌≤◌, Bool, true, false, not, ◌&&◌, List, [], ◌∷◌, ◌++◌, Option, Some, None}
use Rattle.std.proofs.Math.Path.{refl, sym, ap, subst}
use Rattle.std.proofs.Common.{◌∙◌, arith}
use Rattle.std.proofs.Math.Option.{some}
use Rattle.laws.specs.Tests.{pick}
use Rattle.laws.specs.Loops.{when}
use Rattle.model.specs.Types.{Packet}
use Rattle.model.specs.Frames.{packet_of}
use Rattle.model.specs.Monitors.{allows}
use Rattle.pasts.specs.Pair.{alike, matching_packets, last_reason}
use Rattle.twin.specs.Table.{after, payload_at}
use Rattle.twin.specs.Hears.{Formed, Start, hears, start_of}
use Rattle.twin.specs.Numbered.{Maybe, Sent, mon_at, numbered, packet_at}
use Rattle.twin.specs.NumberedLaws.{start-sent}
use Rattle.twin.specs.WindowsLaws.{after_none}
use Rattle.twin.specs.GatheredLaws.{heard-more, maybe-more, maybe_none, maybe_some, numbered_more, sent-number}
use Rattle.twin.specs.Reasons.{reasons}

module _ (t : List ℕ) (a k : ℕ) (r : Option ℕ) (i : ℕ) where
  pub reason-unheard : {b : Bool} → b ≡ hears t a k i → b ≡ false → r ≡ pick (reasons t a k r i) (Some (i + 1)) r
  unfolding reasons pick
  reason-unheard e z = sym (rw (sym e ∙ z))

  pub reason-barred : {b c : Bool} → b ≡ hears t a k i → b ≡ true → c ≡ allows (mon_at t a) (packet_at t (i + 1)).event
      → c ≡ false
      → r ≡ pick (reasons t a k r i) (Some (i + 1)) r
  unfolding reasons pick
  reason-barred e z f y = sym (rw (sym e ∙ z, sym f ∙ y))

  module _ {b c d : Bool} (e : b ≡ hears t a k i) (z : b ≡ true)
      (f : c ≡ allows (mon_at t a) (packet_at t (i + 1)).event) (y : c ≡ true)
      (g : d ≡ alike (packet_at t (i + 1)) (numbered t r)) where
    pub reason-again : d ≡ true → r ≡ pick (reasons t a k r i) (Some (i + 1)) r
    unfolding reasons pick
    reason-again x = sym (rw (sym e ∙ z, sym f ∙ y, sym g ∙ x))

    pub reason-new : d ≡ false → Some (i + 1) ≡ pick (reasons t a k r i) (Some (i + 1)) r
    unfolding reasons pick
    reason-new x = sym (rw (sym e ∙ z, sym f ∙ y, sym g ∙ x))

-- the reason among the frames up to i
pub record Reason (t : List ℕ) (a k i : ℕ) (r : Option ℕ) : Type 0 where
  pub number : Maybe t i r
  pub is : (h : ℕ) → numbered t r ≡ last_reason (start_of t h a k)
      (matching_packets (start_of t h a k) (after t k (i - k)))

pub first-number : (t : List ℕ) (n : ℕ) → numbered t (Some n) ≡ some (packet_at t n)
unfolding numbered
first-number t n = refl

first_by : (t : List ℕ) (a k : ℕ) (r : Option ℕ) → Start t a k → (b : Bool) → allows (mon_at t a) (packet_at t k).event ≡ b
    → r ≡ pick b (Some k) None → Reason t a k k r
unfolding pick last_reason matching_packets start_of numbered
first_by t a k r s true q z =
    record {
      number = subst (Maybe t k) (sym z) (maybe_some t k k (omega arith) (start-sent t a k s));
      is = λ h. rw (after_none t k, q) (ap (numbered t) z ∙ first-number t k);
    }
first_by t a k r s false q z =
    record {
      number = subst (Maybe t k) (sym z) (maybe_none t k);
      is = λ h. rw (after_none t k, q) (ap (numbered t) z);
    }

pub reason-first : (t : List ℕ) (a k : ℕ) (r : Option ℕ) → Start t a k
    → r ≡ pick (allows (mon_at t a) (packet_at t k).event) (Some k) None → Reason t a k k r
reason-first t a k r s e = first_by t a k r s (allows (mon_at t a) (packet_at t k).event) refl e

module _ (t : List ℕ) (a k : ℕ) (r o : Option ℕ) (i : ℕ) (l : k ≤ i) (f : Formed t i) where
  here : packet_at t (i + 1) ≡ packet_of (payload_at t i)
  here = let z : i + 1 - 1 ≡ i = omega arith in ap (λ (j : ℕ). packet_of (payload_at t j)) z

  step : (h : ℕ) (x : List Packet) (b c d : Bool) → allows (mon_at t a) (packet_of (payload_at t i)).event ≡ c
      → alike (packet_of (payload_at t i)) (numbered t r) ≡ d
      → numbered t r ≡ last_reason (start_of t h a k) x → o ≡ pick (b && (c && not d)) (Some (i + 1)) r
      → numbered t o ≡ last_reason (start_of t h a k) (when b (packet_of (payload_at t i) ∷ []) ++ x)
  unfolding pick when last_reason start_of
  step h x false c d p q g e = ap (numbered t) e ∙ g
  step h x true true true p q g e = ap (numbered t) e ∙ g ∙ sym (rw (p, ← g, q))
  step h x true true false p q g e = ap (numbered t) e ∙ numbered_more t i ∙ sym (rw (p, ← g, q))
  step h x true false d p q g e = ap (numbered t) e ∙ g ∙ sym (rw p)

  number_by_lem : (b : Bool) (m : Bool) → hears t a k i ≡ b → Maybe t i r → o ≡ pick (b && m) (Some (i + 1)) r
      → Maybe t (i + 1) o
  unfolding pick
  number_by_lem true true p g e =
      subst (Maybe t (i + 1)) (sym e) (maybe_some t (i + 1) (i + 1) (omega arith) (sent-number t a k i f p))
  number_by_lem true false p g e = subst (Maybe t (i + 1)) (sym e) (maybe-more t i r g)
  number_by_lem false b p g e = subst (Maybe t (i + 1)) (sym e) (maybe-more t i r g)

  pub reason-more : Reason t a k i r → o ≡ pick (reasons t a k r i) (Some (i + 1)) r → Reason t a k (i + 1) o
  unfolding reasons
  reason-more g e =
      let c : Bool = allows (mon_at t a) (packet_at t (i + 1)).event in
      let d : Bool = alike (packet_at t (i + 1)) (numbered t r) in
      record {
        number = number_by_lem (hears t a k i) (c && not d) refl g.number e;
        is = λ h. step h (matching_packets (start_of t h a k) (after t k (i - k))) (hears t a k i) c d
            (ap (λ (p : Packet). allows (mon_at t a) p.event) (sym here))
            (ap (λ (p : Packet). alike p (numbered t r)) (sym here)) (g.is h) e
            ∙ ap (last_reason (start_of t h a k)) (sym (heard-more t a k k i h l f));
      }

pub reason-end : (t : List ℕ) (a k n i : ℕ) (r : Option ℕ) → i ≤ n → n ≤ i → Reason t a k i r
    → Maybe t n r × ((h : ℕ)
    → numbered t r ≡ last_reason (start_of t h a k) (matching_packets (start_of t h a k) (after t k (n - k))))
reason-end t a k n i r l m v =
    let e : i ≡ n = omega arith in
    let g : Reason t a k n r = subst (λ (j : ℕ). Reason t a k j r) e v in
    (g.number, g.is)
