-- A walk over whole events, as every answer has them (turns/WholesLaws), meets each of them once and in order, and ends
-- behind the last.
use Prim.Native.Nat.{ℕ, zero, suc, ◌+◌, ◌-◌, ◌≤◌, ◌<◌}
use Rattle.std.specs.Prelude.{◌≡◌, List, [], ◌∷◌, ◌++◌, take, drop, get_or, Bool, true}
use Rattle.std.proofs.Math.Path.{refl, ap}
use Rattle.std.proofs.Common.{sym, ◌∙◌, subst, append_assoc, append-nil, length-append, length-take-le, get_or-drop}
use native.Mathlib.Omega.{arith}
use borrow.Author.Tests.{ne_eqb}
use Rattle.std.proofs.Math.ListN.{length}
use Rattle.std.proofs.Math.Dec.{eqb}
use Rattle.std.proofs.Math.Seq.{take_at, drop_at}
use Rattle.laws.specs.Tests.{pick}
use Rattle.std.proofs.Math.Bool.{false}
use Rattle.turns.specs.Events.{events, events_from, first_event}
use Rattle.turns.specs.EventsLaws.{Whole, nothing, event, events-first}
use Rattle.walks.specs.Walk.{behind}
use Rattle.walks.specs.WalkLaws.{behind-none, behind-whole}

-- the events that a walk meets from an index on, with so many steps
unfoldable pub walked : ℕ → List ℕ → ℕ → List (List ℕ)
walked zero xs at = []
walked (suc k) xs at =
    pick (eqb (behind xs at) 0) [] (take (behind xs at - at) (drop at xs) ∷ walked k xs (behind xs at))

pub walked_none : (k : ℕ) (xs : List ℕ) (at : ℕ) → length xs < at + 2 → walked k xs at ≡ []
unfolding walked pick
walked_none zero xs at h = refl
walked_none (suc k) xs at h = rw (sym (behind-none xs at h))

-- octets behind others are read at their own places
behind-octets : (pre a : List ℕ) (i : ℕ) → get_or (pre ++ a) (length pre + i) 0 ≡ get_or a i 0
behind-octets pre a i =
    sym (get_or-drop (length pre) (pre ++ a) i 0) ∙ ap (λ (l : List ℕ). get_or l i 0) (drop_at pre a (length pre) refl)

module _ (pre : List ℕ) (c n : ℕ) (p r : List ℕ) (h : length p ≡ n) where
  abbrev all : List ℕ
  all = c ∷ n ∷ (p ++ r)

  lengths : length (pre ++ all) ≡ length pre + 2 + n + length r
  lengths = rw (length-append pre all, length-append p r, h) (omega arith)

  -- the index behind an event that stands whole behind other octets
  pub behind-event : behind (pre ++ all) (length pre) ≡ length pre + 2 + n
  behind-event =
      let e : n ≡ get_or (pre ++ all) (length pre + 1) 0 = sym (behind-octets pre all 1) in
      sym (behind-whole (pre ++ all) (length pre) n (omega (arith, lengths)) e (omega (arith, lengths)))

  first-is : first_event all ≡ suc (suc n)
  unfolding first_event
  first-is = ap (λ (j : ℕ). suc (suc j)) (ap length (take_at p r n h) ∙ h)

  -- so a walk meets that event and goes on behind it
  walked-event : (k : ℕ) → walked (suc k) (pre ++ all) (length pre) ≡ (c ∷ n ∷ p)
      ∷ walked k (pre ++ all) (length pre + 2 + n)
  unfolding walked pick
  walked-event k =
      let t : eqb (length pre + 2 + n) 0 ≡ false = ne_eqb (length pre + 2 + n) 0 (λ z. omega (arith, z)) in
      let d : length pre + 2 + n - length pre ≡ suc (suc n) = omega arith in
      rw (behind-event, t, d, drop_at pre all (length pre) refl, take_at p r n h)

  events-event : events all ≡ (c ∷ n ∷ p) ∷ events r
  events-event =
      let m : 0 < length all = omega arith in
      events-first all m ∙ rw (first-is, take_at p r n h, drop_at p r n h)

events-nothing : events [] ≡ []
unfolding events events_from
events-nothing = refl

-- a walk over whole events behind other octets
walked_from : {a : List ℕ} → Whole a → (pre : List ℕ) (k : ℕ) → length a ≤ k
    → walked k (pre ++ a) (length pre) ≡ events a
walked_from nothing pre k h =
    walked_none k (pre ++ []) (length pre) (rw (append-nil pre) (omega arith)) ∙ sym events-nothing
walked_from (event c n p r e w) pre zero h = absurd (omega arith)
walked_from (event c n p r e w) pre (suc k) h =
    let one : List ℕ = c ∷ n ∷ p in
    let m : length (pre ++ one) ≡ length pre + 2 + n = rw (length-append pre one, e) (omega arith) in
    let j : (pre ++ one) ++ r ≡ pre ++ (c ∷ n ∷ (p ++ r)) = append_assoc pre one r in
    let g : length r ≤ k = omega (arith, h, length-append p r) in
    walked-event pre c n p r e k
    ∙ ap (λ (l : List (List ℕ)). one ∷ l)
    (sym (ap (walked k (pre ++ (c ∷ n ∷ (p ++ r)))) m) ∙ sym (ap (λ (l : List ℕ). walked k l (length (pre ++ one))) j)
    ∙ walked_from w (pre ++ one) k g)
    ∙ sym (events-event pre c n p r e)

-- THE CLAIM: over whole events, from the first octet on, a walk meets the events in turn.
pub walked-events : {a : List ℕ} → Whole a → walked (length a) a 0 ≡ events a
walked-events {a} w = walked_from w [] (length a) (omega arith)
