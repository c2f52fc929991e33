-- Laws of the definitions in Options.
use Prim.Native.Nat.{ℕ, ◌+◌, ◌-◌, ◌*◌, ◌/◌, ◌%◌, ◌≤◌}
use Rattle.std.specs.Prelude.{◌≡◌, refl, Bool, true, false, ◌||◌, get_or}
use Rattle.std.proofs.Math.Path.{sym, ap, ap₂}
use Rattle.std.proofs.Common.{◌∙◌, div-one}
use mathlib.Core.List.{List}
use native.Mathlib.Omega.{arith}
use Rattle.std.proofs.Math.ListN.{take, drop}
use Rattle.std.proofs.Math.Seq.{drop-drop, take-take}
use borrow.Author.Tests.{eq-eqb, ne_eqb}
use Rattle.laws.specs.Tests.{sames}
use Rattle.laws.specs.TestsLaws.{pick_true, pick-false, and-not-left, and-not-right}
use Rattle.laws.specs.Rows.{row}
use Rattle.resolve.specs.Resolve.{resolves_by}
use Rattle.advert.specs.IrkLaws.{irk-public, irk-random}
use Rattle.model.specs.Types.{Packet, device, device_of}
use Rattle.model.specs.Frames.{packet_of}
use Rattle.model.specs.Monitors.{admits, has_bit, irk, missing, options, parameters, peer, peer_type}
use Rattle.model.specs.Image.{monitor_in}
use Rattle.blocks.specs.Added.{added_in}
use Rattle.blocks.specs.AddedLaws.{added-at, row-parameters}
use Rattle.marks.proofs.MonitorsLaws.{row_field, drop-take}
use Rattle.model.specs.Layout.{extra_at, extra_size, head_size, monitor_size, monitors_at}
use Rattle.marks.specs.Options.{peer_meets, key_meets}

-- the row of a handle
abbrev pub row_at : List ℕ → ℕ → List ℕ
row_at s h = row monitor_size h (drop monitors_at s)

pub bit-on : (w o : ℕ) → o / w % 2 ≡ 1 → has_bit w o ≡ true
unfolding has_bit
bit-on w o e = eq-eqb (o / w % 2) 1 e

pub bit-off : (w o : ℕ) → (o / w % 2 ≡ 1 → ⊥) → has_bit w o ≡ false
unfolding has_bit
bit-off w o n = ne_eqb (o / w % 2) 1 n

-- bit 0 of a number, by its remainder
pub odd-on : (o : ℕ) → o % 2 ≡ 1 → has_bit 1 o ≡ true
odd-on o e = bit-on 1 o (ap (λ (n : ℕ). n % 2) (div-one o) ∙ e)

pub odd-off : (o : ℕ) → (o % 2 ≡ 1 → ⊥) → has_bit 1 o ≡ false
odd-off o n = bit-off 1 o (λ e. n (sym (ap (λ (n : ℕ). n % 2) (div-one o)) ∙ e))

-- version 1 admits every device
missing-admits : (p : Packet) → true ≡ admits missing p
unfolding admits missing options has_bit
missing-admits p = refl

module _ (s : List ℕ) (h : ℕ) where
  abbrev at : ℕ → ℕ
  at j = monitors_at + monitor_size * h + (extra_at + j)

  -- the added octets where they stand in the block
  added-row : added_in (row_at s h) ≡ take extra_size (drop (at 0) s)
  unfolding row
  added-row =
      let x : List ℕ = drop (monitor_size * h) (drop monitors_at s) in
      let e : monitors_at + (monitor_size * h + extra_at) ≡ at 0 = omega arith in
      ap (λ (l : List ℕ). take extra_size l) (drop-take extra_at extra_size x)
      ∙ take-take extra_size extra_size (drop extra_at x) (omega arith)
      ∙ ap (λ (l : List ℕ). take extra_size l) (drop-drop extra_at (monitor_size * h) (drop monitors_at s)
      ∙ drop-drop (monitor_size * h + extra_at) head_size s ∙ ap (λ (i : ℕ). drop i s) e)

  -- a part of them
  added-part : (j n : ℕ) → j + n ≤ extra_size → take n (drop j (added_in (row_at s h))) ≡ take n (drop (at j) s)
  added-part j n b =
      let e : j + (extra_size - j) ≡ extra_size = omega arith in
      let z : at 0 + j ≡ at j = omega arith in
      ap (λ (l : List ℕ). take n (drop j l)) (added-row ∙ ap (λ (k : ℕ). take k (drop (at 0) s)) (sym e))
      ∙ ap (λ (l : List ℕ). take n l) (drop-take j (extra_size - j) (drop (at 0) s))
      ∙ take-take n (extra_size - j) (drop j (drop (at 0) s)) (omega arith)
      ∙ ap (λ (l : List ℕ). take n l) (drop-drop j (at 0) s ∙ ap (λ (i : ℕ). drop i s) z)

  options-at : options (added_in (row_at s h)) ≡ get_or s (at 0) 0
  unfolding options
  options-at = added-at (row_at s h) 0 (omega arith) ∙ row_field s h extra_at (omega arith)

  type_at : peer_type (added_in (row_at s h)) ≡ get_or s (at 8) 0
  unfolding peer_type
  type_at = added-at (row_at s h) 8 (omega arith) ∙ row_field s h (extra_at + 8) (omega arith)

  first : get_or s (at 0) 0 ≡ 0 → parameters (monitor_in (row_at s h)).1 ≡ missing
  first e = row-parameters (row_at s h)
      ∙ pick_true missing (added_in (row_at s h)) (eq-eqb _ 0 (row_field s h extra_at (omega arith) ∙ e))

  second : (get_or s (at 0) 0 ≡ 0 → ⊥) → parameters (monitor_in (row_at s h)).1 ≡ added_in (row_at s h)
  second n =
      row-parameters (row_at s h)
      ∙ pick-false missing (added_in (row_at s h)) (ne_eqb _ 0 (λ e. n (sym (row_field s h extra_at (omega arith)) ∙ e)))

  module _ (l : List ℕ) where
    -- the peer
    pub peer-off : (get_or s (at 0) 0 % 2 ≡ 1 → ⊥) → false ≡ peer_meets (added_in (row_at s h)) (packet_of l)
    unfolding peer_meets
    peer-off n = sym (and-not-left _ _ (ap (λ (o : ℕ). has_bit 1 o) options-at ∙ odd-off (get_or s (at 0) 0) n))

    pub peer-other : (get_or s (at 8) 0 ≡ get_or l 1 0 → ⊥) → false ≡ peer_meets (added_in (row_at s h)) (packet_of l)
    unfolding peer_meets peer device device_of packet_of sames
    peer-other n =
        sym (and-not-right (has_bit 1 (options (added_in (row_at s h)))) _
        (and-not-left _ _ (ne_eqb (peer_type (added_in (row_at s h))) (get_or l 1 0) (λ e. n (sym type_at ∙ e)))))

    pub peer-asked : {x y : List ℕ} {r : Bool} → get_or s (at 0) 0 % 2 ≡ 1 → get_or s (at 8) 0 ≡ get_or l 1 0
        → x ≡ take 6 (drop (at 2) s) → y ≡ take 6 (drop 2 l) → r ≡ sames x y
        → r ≡ peer_meets (added_in (row_at s h)) (packet_of l)
    unfolding peer_meets peer device device_of packet_of sames
    peer-asked {x} {y} {r} o t ex ey e =
        let a : List ℕ = added_in (row_at s h) in
        e ∙ ap₂ sames (ex ∙ sym (added-part 2 6 (omega arith))) ey
        ∙ sym (rw (
          ap (λ (o : ℕ). has_bit 1 o) options-at
              ∙ odd-on (get_or s (at 0) 0) o,
          eq-eqb (peer_type a) (get_or l 1 0) (type_at ∙ t),
        ))

    -- its key
    pub key-off : (get_or s (at 0) 0 / 2 % 2 ≡ 1 → ⊥) → false ≡ key_meets (added_in (row_at s h)) (packet_of l)
    unfolding key_meets
    key-off n = sym (and-not-left _ _ (ap (λ (o : ℕ). has_bit 2 o) options-at ∙ bit-off 2 (get_or s (at 0) 0) n))

    pub key-public : (get_or l 1 0 ≡ 1 → ⊥) → false ≡ key_meets (added_in (row_at s h)) (packet_of l)
    unfolding key_meets packet_of
    key-public n =
        sym (and-not-right (has_bit 2 (options (added_in (row_at s h)))) _
        (sym (irk-public (irk (added_in (row_at s h))) (get_or l 1 0) (take 6 (drop 2 l)) n)))

    pub key-asked : {x y : List ℕ} {r : Bool} → get_or s (at 0) 0 / 2 % 2 ≡ 1 → get_or l 1 0 ≡ 1
        → x ≡ take 16 (drop (at 9) s) → y ≡ take 6 (drop 2 l) → r ≡ resolves_by x y
        → r ≡ key_meets (added_in (row_at s h)) (packet_of l)
    unfolding key_meets irk packet_of
    key-asked {x} {y} {r} o t ex ey e =
        irk-random (irk (added_in (row_at s h))) (get_or l 1 0) (take 6 (drop 2 l)) t
        (e ∙ ap₂ resolves_by (ex ∙ sym (added-part 9 16 (omega arith))) ey)
        ∙ sym (rw (ap (λ (o : ℕ). has_bit 2 o) options-at ∙ bit-on 2 (get_or s (at 0) 0) o))

    -- the options
    pub admits-first : get_or s (at 0) 0 ≡ 0 → true ≡ admits (parameters (monitor_in (row_at s h)).1) (packet_of l)
    admits-first e = rw (first e) (missing-admits (packet_of l))

    pub admits-any : (get_or s (at 0) 0 ≡ 0 → ⊥) → get_or s (at 0) 0 / 32 % 2 ≡ 1
        → true ≡ admits (parameters (monitor_in (row_at s h)).1) (packet_of l)
    unfolding admits
    admits-any n e = rw (second n) (sym (rw (ap (λ (o : ℕ). has_bit 32 o) options-at ∙ bit-on 32 (get_or s (at 0) 0) e)))

    none_of : (get_or s (at 0) 0 ≡ 0 → ⊥) → (get_or s (at 0) 0 / 32 % 2 ≡ 1 → ⊥)
        → admits (parameters (monitor_in (row_at s h)).1) (packet_of l)
        ≡ (peer_meets (added_in (row_at s h)) (packet_of l) || key_meets (added_in (row_at s h)) (packet_of l))
    unfolding admits peer_meets key_meets
    none_of n e = rw (second n) (rw (ap (λ (o : ℕ). has_bit 32 o) options-at ∙ bit-off 32 (get_or s (at 0) 0) e))

    pub admits-peer : {a : Bool} → (get_or s (at 0) 0 ≡ 0 → ⊥) → (get_or s (at 0) 0 / 32 % 2 ≡ 1 → ⊥)
        → a ≡ peer_meets (added_in (row_at s h)) (packet_of l) → a ≡ true
        → true ≡ admits (parameters (monitor_in (row_at s h)).1) (packet_of l)
    admits-peer n e p t =
        sym (none_of n e ∙ ap (λ (b : Bool). b || key_meets (added_in (row_at s h)) (packet_of l)) (sym p ∙ t))

    pub admits-key : {a r : Bool} → (get_or s (at 0) 0 ≡ 0 → ⊥) → (get_or s (at 0) 0 / 32 % 2 ≡ 1 → ⊥)
        → a ≡ peer_meets (added_in (row_at s h)) (packet_of l) → a ≡ false
        → r ≡ key_meets (added_in (row_at s h)) (packet_of l)
        → r ≡ admits (parameters (monitor_in (row_at s h)).1) (packet_of l)
    admits-key n e p t q =
        q ∙ sym (none_of n e ∙ ap (λ (b : Bool). b || key_meets (added_in (row_at s h)) (packet_of l)) (sym p ∙ t))
