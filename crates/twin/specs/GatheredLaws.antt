-- Laws of the definitions in Gathered.
use Rattle.std.specs.Prelude.{◌≡◌, ℕ, ◌+◌, ◌-◌, ◌%◌, ◌≤◌, Bool, true, false, List, [], ◌∷◌, ◌++◌, length, refl, Option, Some, None}
use Rattle.std.proofs.Common.{sym, ◌∙◌, arith, add-one}
use Rattle.std.proofs.Math.Path.{ap, subst}
use Rattle.std.proofs.Math.Option.{some}
use Rattle.laws.specs.Tests.{pick}
use Rattle.laws.specs.Loops.{when}
use Rattle.model.specs.Frames.{packet_of}
use Rattle.model.specs.Level.{add_rssi}
use Rattle.model.specs.Levels.{extended}
use Rattle.model.proofs.LevelsLaws.{add-extended}
use Rattle.pasts.specs.Pair.{matching_packets, newest, sum_of, window}
use Rattle.twin.specs.Table.{Sends, after, payload_at}
use Rattle.twin.specs.Hears.{Formed, hears, start_of}
use Rattle.twin.specs.SilentLaws.{hears-sends}
use Rattle.twin.specs.LatestLaws.{heard-typed}
use Rattle.twin.specs.Numbered.{May, Maybe, Sent, Tells, numbered, packet_at}
use Rattle.twin.specs.WindowsLaws.{after_more, after_none}
use Rattle.twin.specs.Gathered.{Gathers}

pub gather_none : (t : List ℕ) (a k i packets sum : ℕ) (last : Option ℕ) {r : Bool} → r ≡ hears t a k i → r ≡ false
    → Gathers t a k i packets sum last packets sum last
unfolding pick
gather_none t a k i packets sum last e z =
    record { packets-is = sym (rw (sym e ∙ z)); sum_is = sym (rw (sym e ∙ z)); last-is = sym (rw (sym e ∙ z)) }

pub gather-one : (t : List ℕ) (a k i packets sum : ℕ) (last : Option ℕ) (u v y : ℕ) {r : Bool} → r ≡ hears t a k i → r ≡ true
    → v ≡ (packet_of (payload_at t i)).rssi → u ≡ extended v
    → y ≡ (sum + u) % 18446744073709551616 → Gathers t a k i packets sum last (packets + 1) y (Some (i + 1))
unfolding pick
gather-one t a k i packets sum last u v y e z ev eu ey =
    let o : ℕ = (packet_of (payload_at t i)).rssi in
    let w : y ≡ add_rssi sum o =
    ey ∙ ap (λ (j : ℕ). (sum + j) % 18446744073709551616) (eu ∙ ap extended ev) ∙ sym (add-extended sum o) in
    record { packets-is = sym (rw (sym e ∙ z)); sum_is = w ∙ sym (rw (sym e ∙ z)); last-is = sym (rw (sym e ∙ z)) }

-- what the frames from b to i tell
pub record Gathered (t : List ℕ) (a k b i packets sum : ℕ) (last : Option ℕ) : Type 0 where
  pub few : packets ≤ i
  pub packets-is : (h : ℕ) → packets ≡ length (matching_packets (start_of t h a k) (after t b (i - b)))
  pub sum_is : (h : ℕ) → sum ≡ sum_of (matching_packets (start_of t h a k) (after t b (i - b)))
  pub last-is : (h : ℕ) → numbered t last ≡ newest (matching_packets (start_of t h a k) (after t b (i - b)))
  pub number : Maybe t i last

pub maybe_none : (t : List ℕ) (n : ℕ) → Maybe t n None
maybe_none t n = record { most = λ r e. absurd (none-some r e); sent = tt }
  where
    none-some : (r : ℕ) → None ≡ Some r → ⊥
    none-some r e = cc

pub maybe_some : (t : List ℕ) (n r : ℕ) → r ≤ n → Sent t r → Maybe t n (Some r)
maybe_some t n r l s = record { most = λ q e. let z : r ≡ q = cc e in omega arith; sent = s }

pub gathered_none : (t : List ℕ) (a k b : ℕ) → Gathered t a k b b 0 0 None
unfolding matching_packets sum_of newest numbered
gathered_none t a k b =
    record {
      few = omega arith;
      packets-is = λ h. sym (rw (after_none t b));
      sum_is = λ h. sym (rw (after_none t b));
      last-is = λ h. sym (rw (after_none t b));
      number = maybe_none t b;
    }

pub heard-more : (t : List ℕ) (a k b i h : ℕ) → b ≤ i → Formed t i
    → matching_packets (start_of t h a k) (after t b (i + 1 - b)) ≡ when (hears t a k i) (packet_of (payload_at t i) ∷ [])
    ++ matching_packets (start_of t h a k) (after t b (i - b))
unfolding matching_packets
heard-more t a k b i h l f = rw (after_more t b i l, heard-typed t i f a k h)

pub sent-number : (t : List ℕ) (a k i : ℕ) → Formed t i → hears t a k i ≡ true → Sent t (i + 1)
sent-number t a k i f e = let z : i ≡ i + 1 - 1 =
    omega arith in record { number = omega arith; sends = subst (Sends t) z (hears-sends t a k i f refl e) }

pub maybe-more : (t : List ℕ) (i : ℕ) (o : Option ℕ) → Maybe t i o → Maybe t (i + 1) o
maybe-more t i o m = record { most = λ r e. let l : r ≤ i = m.most r e in omega arith; sent = m.sent }

pub numbered_more : (t : List ℕ) (i : ℕ) → numbered t (Some (i + 1)) ≡ some (packet_of (payload_at t i))
unfolding numbered
numbered_more t i = let z : i + 1 - 1 ≡ i = omega arith in ap (λ (j : ℕ). some (packet_of (payload_at t j))) z

module _ (t : List ℕ) (a k b i packets sum : ℕ) (last : Option ℕ) (packets' sum' : ℕ) (last' : Option ℕ) (l : b ≤ i)
    (f : Formed t i) where
  gathered-by : (c : Bool) → hears t a k i ≡ c → Gathered t a k b i packets sum last
      → packets' ≡ pick c (packets + 1) packets → sum' ≡ pick c (add_rssi sum (packet_of (payload_at t i)).rssi) sum
      → last' ≡ pick c (Some (i + 1)) last
      → Gathered t a k b (i + 1) packets' sum' last'
  unfolding pick when sum_of newest
  gathered-by true e g ep es el =
      let w : packets ≤ i = g.few in
      record {
        few = omega arith;
        packets-is = λ h. let y = g.packets-is h in rw (heard-more t a k b i h l f, e) (omega arith);
        sum_is = λ h. rw (heard-more t a k b i h l f, e) (es
            ∙ ap (λ (j : ℕ). add_rssi j (packet_of (payload_at t i)).rssi) (g.sum_is h));
        last-is = λ h. rw (heard-more t a k b i h l f, e) (ap (numbered t) el ∙ numbered_more t i);
        number = subst (Maybe t (i + 1)) (sym el) (maybe_some t (i + 1) (i + 1) (omega arith) (sent-number t a k i f e));
      }
  gathered-by false e g ep es el =
      let w : packets ≤ i = g.few in
      record {
        few = omega arith;
        packets-is = λ h. rw (heard-more t a k b i h l f, e) (ep ∙ g.packets-is h);
        sum_is = λ h. rw (heard-more t a k b i h l f, e) (es ∙ g.sum_is h);
        last-is = λ h. rw (heard-more t a k b i h l f, e) (ap (numbered t) el ∙ g.last-is h);
        number = subst (Maybe t (i + 1)) (sym el) (maybe-more t i last g.number);
      }

  pub gathered-more : Gathered t a k b i packets sum last → Gathers t a k i packets sum last packets' sum' last'
      → Gathered t a k b (i + 1) packets' sum' last'
  gathered-more g s = gathered-by (hears t a k i) refl g s.packets-is s.sum_is s.last-is

pub window-tells : (t : List ℕ) (a k b n i packets sum : ℕ) (last : Option ℕ) → i ≡ n
    → ((h : ℕ) → matching_packets (start_of t h a k) (after t b (n - b)) ≡ window (start_of t h a k) (after t k (n - k)))
    → Gathered t a k b i packets sum last
    → Tells t a k n packets sum last
window-tells t a k b n i packets sum last e w v =
    let g : Gathered t a k b n packets sum last = subst (λ (j : ℕ). Gathered t a k b j packets sum last) e v in
    record {
      packets-is = λ h. g.packets-is h ∙ ap length (w h);
      sum_is = λ h. g.sum_is h ∙ ap sum_of (w h);
      last-is = λ h. g.last-is h ∙ ap newest (w h);
      number = g.number;
    }
