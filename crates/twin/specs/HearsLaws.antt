-- Laws of the definitions in Hears.
use Rattle.std.specs.Prelude.{◌≡◌, ℕ, ◌+◌, ◌-◌, ◌≤◌, Bool, true, false, ◌||◌, ◌⊎◌, List, length, take, drop, ◌==◌, nat_le, slice_index, refl}
use Rattle.std.proofs.Math.Path.{sym}
use Rattle.std.proofs.Common.{ap, ◌∙◌, inl, inr, arith, leb-true, eqb-true, length-drop, drop-cons, take_all}
use Rattle.std.proofs.lemmas.Bool.{false≢true}
use Rattle.laws.specs.Tests.{sames}
use Rattle.laws.specs.TestsLaws.{and_left, and-not-left}
use Rattle.model.specs.Types.{device_of, device}
use Rattle.model.specs.Frames.{is_command, packet_of}
use Rattle.model.specs.Monitors.{matches, monitor_of}
use Rattle.marks.specs.Fields.{Framed}
use Rattle.twin.specs.Table.{Commands, kind_at, payload_at}
use Rattle.twin.specs.Hears.{Formed, Start, hears}

-- the parameters as the code takes them
pub command-long : (t : List ℕ) (i : ℕ) → Commands t i → 4 ≤ length (payload_at t i)
unfolding is_command
command-long t i c =
    let l : List ℕ = payload_at t i in
    leb-true 4 (length l) (and_left (nat_le 4 (length l)) (length l == 3 + slice_index l 2) c.form)

pub params-read : (t : List ℕ) (i : ℕ) (l : List ℕ) → l ≡ payload_at t i
    → take (length l - 3) (drop 3 l) ≡ drop 3 (payload_at t i)
params-read t i l e =
    let n : length (drop 3 l) ≡ length l - 3 = length-drop 3 l in
    take_all (length l - 3) (drop 3 l) (omega arith) ∙ ap (drop 3) e

-- a packet's device as the code compares it
pub device-read : (l : List ℕ) → 8 ≤ length l → take 7 (drop 1 l) ≡ device_of (packet_of l)
unfolding device_of device packet_of
device-read l h = ap (take 7) (drop-cons l 1 0 (omega arith))

framed-long : (l : List ℕ) → Framed l → 10 ≤ length l
framed-long l f = let n : 10 + slice_index l 8 ≤ length l = f.0 in omega arith

module _ (t : List ℕ) (a k i : ℕ) where
  pub hears-other : {r : Bool} → r ≡ (kind_at t i == 2 || kind_at t i == 4) → r ≡ false → false ≡ hears t a k i
  unfolding hears
  hears-other e z = sym (and-not-left _ _ (sym e ∙ z))

  sent : {r : Bool} → r ≡ (kind_at t i == 2 || kind_at t i == 4) → r ≡ true → (kind_at t i ≡ 2) ⊎ (kind_at t i ≡ 4)
  sent e z = go (kind_at t i == 2) (kind_at t i == 4) refl refl (sym e ∙ z)
    where
      go : (x y : Bool) → (kind_at t i == 2) ≡ x → (kind_at t i == 4) ≡ y → (x || y) ≡ true → (kind_at t i ≡ 2)
          ⊎ (kind_at t i ≡ 4)
      go true y p q w = inl (eqb-true (kind_at t i) 2 p)
      go false true p q w = inr (eqb-true (kind_at t i) 4 q)
      go false false p q w = absurd (false≢true w)

  pub heard-framed : {r : Bool} → Formed t i → r ≡ (kind_at t i == 2 || kind_at t i == 4) → r ≡ true
      → Framed (payload_at t i)
  heard-framed f e z = f.frames (sent e z)

  pub long-part : {r : Bool} (l : List ℕ) → Formed t i → r ≡ (kind_at t i == 2 || kind_at t i == 4) → r ≡ true
      → l ≡ payload_at t i → 10 ≤ length l
  long-part l f e z q = let n = framed-long (payload_at t i) (heard-framed f e z) in rw q n

  pub start-part : (l : List ℕ) → Start t a k → l ≡ payload_at t (k - 1) → 10 ≤ length l
  start-part l s q = rw q (framed-long (payload_at t (k - 1)) s.framed)

  module _ {r b : Bool} (f : Formed t i) (s : Start t a k) (p d : List ℕ)
      (e : r ≡ (kind_at t i == 2 || kind_at t i == 4)) (z : r ≡ true)
      (ep : p ≡ payload_at t i) (ed : d ≡ payload_at t (k - 1))
      (q : b ≡ sames (take 7 (drop 1 p)) (take 7 (drop 1 d))) where
    same-device : b ≡ sames (device_of (packet_of (payload_at t i))) (device_of (packet_of (payload_at t (k - 1))))
    same-device =
        let x : 10 ≤ length (payload_at t i) = framed-long (payload_at t i) (heard-framed f e z) in
        let y : 10 ≤ length (payload_at t (k - 1)) = framed-long (payload_at t (k - 1)) s.framed in
        q ∙ rw (ep, ed, device-read (payload_at t i) (omega arith), device-read (payload_at t (k - 1)) (omega arith))

    pub hears-stranger : b ≡ false → false ≡ hears t a k i
    unfolding hears
    hears-stranger n = sym (rw (sym e ∙ z, sym same-device ∙ n))

    pub hears-match : {m : Bool} {l : List ℕ} → b ≡ true → l ≡ drop 3 (payload_at t (a - 1))
        → m ≡ matches (monitor_of l) (packet_of p) → m ≡ hears t a k i
    unfolding hears
    hears-match n w g = g ∙ sym (rw (sym e ∙ z, sym same-device ∙ n, w, ep))
