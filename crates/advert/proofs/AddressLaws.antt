-- Laws of the definitions in Address.
use Rattle.std.specs.Prelude.{◌≡◌, ℕ, suc, ◌+◌, ◌-◌, ◌<◌, ◌≤◌, Bool, true, false, ◌&&◌, List, [], ◌∷◌, length, take, drop, ◌==◌, ◌≢◌, nat_le, slice_index, refl}
use Rattle.std.proofs.Math.Path.{sym, ap}
use Rattle.std.proofs.Common.{◌∙◌, arith, leb-true, eqb-true, drop-cons, take_all}
use Rattle.std.proofs.lemmas.Bool.{false≢true}
use Rattle.std.proofs.Math.ListN.{length-drop}
use Rattle.laws.specs.Tests.{sames}
use Rattle.laws.specs.TestsLaws.{sames-eq, sames-sym, and_left, and_right}
use Rattle.advert.specs.Pattern.{holds_at}
use Rattle.advert.proofs.PatternLaws.{holds-within}
use Rattle.advert.specs.Address.{address_form, address_meets}

pub address-none : (xs : List ℕ) → length xs ≡ 0 → false ≡ address_form xs
unfolding address_form
address-none [] h = refl
address-none (x ∷ xs) h = absurd (omega arith)

pub address-form : (xs : List ℕ) → 0 < length xs → address_form xs ≡ (nat_le (slice_index xs 0) 1 && length xs - 1 == 6)
unfolding address_form
address-form xs h =
    let d : length (drop 1 xs) ≡ length xs - 1 = length-drop 1 xs in
    ap address_form (drop-cons xs 0 0 h) ∙ rw d

-- a condition of another length is not the packet's address
pub address-other : (xs : List ℕ) (t : ℕ) (address : List ℕ) → (length xs ≢ length address + 1)
    → false ≡ address_meets xs t address
unfolding address_meets
address-other xs t address n = go (sames xs (t ∷ address)) refl
  where
    go : (b : Bool) → sames xs (t ∷ address) ≡ b → false ≡ b
    go false e = refl
    go true e =
        let m : length xs ≡ suc (length address) = ap length (sames-eq xs (t ∷ address) e) in
        absurd (n (omega arith))

module _ (xs : List ℕ) (t : ℕ) (address : List ℕ) (h : length xs ≡ length address + 1) where
  pub address-meets : address_meets xs t address ≡ (slice_index xs 0 == t && holds_at 1 address xs)
  unfolding address_meets sames
  address-meets =
      let d : length (drop 1 xs) ≤ length address = simp length-drop (omega arith) in
      let s : sames (drop 1 xs) address ≡ sames address (take (length address) (drop 1 xs)) =
      sames-sym (drop 1 xs) address ∙ ap (sames address) (sym (take_all (length address) (drop 1 xs) d)) in
      let w : holds_at 1 address xs ≡ sames address (take (length address) (drop 1 xs)) =
      holds-within xs address 1 (omega arith) in
      ap (λ (l : List ℕ). sames l (t ∷ address)) (drop-cons xs 0 0 (omega arith))
      ∙ ap (λ (b : Bool). (slice_index xs 0 == t) && b) (s ∙ sym w)

pub address-bounds : (xs : List ℕ) → address_form xs ≡ true → (length xs ≡ 7) × (slice_index xs 0 ≤ 1)
unfolding address_form
address-bounds [] e = absurd (false≢true e)
address-bounds (t ∷ address) e =
    let n : length address ≡ 6 = eqb-true (length address) 6 (and_right (nat_le t 1) (length address == 6) e) in
    (omega arith, leb-true t 1 (and_left (nat_le t 1) (length address == 6) e))
