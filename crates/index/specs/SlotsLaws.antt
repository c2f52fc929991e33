-- Laws of the definitions in Slots.
use Rattle.std.specs.Prelude.{ℕ, zero, suc, ◌+◌, ◌-◌, ◌*◌, ◌≤◌, ◌<◌, ◌≡◌, refl, List, [], ◌∷◌, length, take, set, replicate}
use Rattle.std.proofs.Math.Path.{sym, ap}
use Rattle.std.proofs.Common.{◌∙◌, subst, add-zero, arith, eq-eqb, ne_eqb, length-take-le, get_or-take, get_or-set_same, get_or-set_other}
use Rattle.std.proofs.Math.ListN.{get_or}
use Rattle.laws.specs.Tests.{pick}
use Rattle.laws.specs.TestsLaws.{cases_eq}
use Rattle.laws.specs.Rows.{rows}
use Rattle.laws.specs.RowsLaws.{row_at, length-rows}
use Rattle.octets.specs.Little.{little}
use Rattle.octets.specs.LittleLaws.{little-row}
use Rattle.model.specs.Layout.{most_pairs}
use Rattle.wholes.specs.Layout.{entry_size}
use Rattle.index.specs.Table.{place_in}
use Rattle.index.specs.Seen.{marks, mark_of}
use Rattle.index.specs.SeenLaws.{mark-small}
use Rattle.index.specs.Slots.{mark_at, Slotted}

zeros-at : (n m : ℕ) → get_or (replicate {A = ℕ} n 0) m 0 ≡ 0
zeros-at zero m = refl
zeros-at (suc n) zero = refl
zeros-at (suc n) (suc m) = zeros-at n m

pub slotted-none : (t slots : List ℕ) (n : ℕ) → slots ≡ replicate n 0 → Slotted t 0 slots
slotted-none t slots n e =
    record {
      some = λ j h z. omega arith;
      first = λ j h. absurd (omega arith);
      most = λ m. let z : get_or slots m 0 ≡ 0 = ap (λ (l : List ℕ). get_or l m 0) e ∙ zeros-at n m in omega arith;
    }

-- the first row with a device's number, and none
place-first : (dev : ℕ) (rs : List (List ℕ)) (j : ℕ) → j < length rs → little 7 (get_or rs j []) 0 ≡ dev
    → ((i : ℕ) → i < j → little 7 (get_or rs i []) 0 ≡ dev → ⊥) → place_in dev rs ≡ j
unfolding place_in pick
place-first dev [] j h e n = absurd (omega arith)
place-first dev (r ∷ rs) zero h e n = rw (eq-eqb (little 7 r 0) dev e)
place-first dev (r ∷ rs) (suc j) h e n =
    rw (ne_eqb (little 7 r 0) dev (n 0 (omega arith)))
    (ap suc (place-first dev rs j (omega arith) e (λ i b. n (suc i) (omega arith))))

place_none : (dev : ℕ) (rs : List (List ℕ)) → ((i : ℕ) → i < length rs → little 7 (get_or rs i []) 0 ≡ dev → ⊥)
    → place_in dev rs ≡ length rs
unfolding place_in pick
place_none dev [] n = refl
place_none dev (r ∷ rs) n =
    rw (ne_eqb (little 7 r 0) dev (n 0 (omega arith))) (ap suc (place_none dev rs (λ i b. n (suc i) (omega arith))))

module _ (t slots : List ℕ) (k dev : ℕ) (b : k ≤ most_pairs) (w : Slotted t k slots) where
  abbrev rs : List (List ℕ)
  rs = take k (rows entry_size most_pairs t)

  many : length rs ≡ k
  many = length-take-le k (rows entry_size most_pairs t)
      (let n : length (rows entry_size most_pairs t) ≡ most_pairs = length-rows entry_size most_pairs t in omega arith)

  there : (j : ℕ) → j < k → little 7 (get_or rs j []) 0 ≡ little 7 t (entry_size * j)
  there j h =
      ap (λ (r : List ℕ). little 7 r 0)
      (get_or-take k (rows entry_size most_pairs t) j [] h ∙ row_at entry_size most_pairs j t (omega arith))
      ∙ little-row 7 entry_size j 0 t (omega arith) ∙ ap (little 7 t) (add-zero (entry_size * j))

  module _ (m v : ℕ) (p : m ≡ mark_of dev) (q : v ≡ get_or slots m 0) where
    pub slot_small : v ≤ k
    slot_small = let z = w.most m in omega arith

    -- an entry of the device has its mark
    marked : (j : ℕ) → little 7 t (entry_size * j) ≡ dev → get_or slots (mark_at t j) 0 ≡ v
    unfolding mark_at
    marked j e = ap (λ (x : ℕ). get_or slots (mark_of x) 0) e ∙ ap (λ (x : ℕ). get_or slots x 0) (sym p) ∙ sym q

    mark-is : (j : ℕ) → little 7 t (entry_size * j) ≡ dev → mark_at t j ≡ m
    unfolding mark_at
    mark-is j e = ap mark_of e ∙ sym p

    pub slot-none : v ≡ 0 → k ≡ place_in dev rs
    slot-none z =
        sym (place_none dev rs
        (λ i h e. let l : i < k = omega (arith, many) in w.some i l (marked i (sym (there i l) ∙ e) ∙ z)) ∙ many)

    pub slot-first : (v ≡ 0 → ⊥) → {j : ℕ} → j ≡ v - 1 → little 7 t (entry_size * j) ≡ dev → j ≡ place_in dev rs
    slot-first n {j} y e =
        let a = slot_small in
        let l : j < k = cases_eq v 0 (λ z. absurd (n z)) (λ z. omega arith) in
        sym (place-first dev rs j (omega (arith, many)) (there j l ∙ e)
        (λ i h f. let c : i < k = omega arith in
        let g : v ≤ i + 1 =
        subst (λ (x : ℕ). x ≤ i + 1) (marked i (sym (there i c) ∙ f)) (w.first i c) in omega arith))

    -- entry k is the device's
    module _ (e : little 7 t (entry_size * k) ≡ dev) where
      last : (j : ℕ) → j ≡ k → get_or slots (mark_at t j) 0 ≡ v
      last j c = marked j (ap (λ (x : ℕ). little 7 t (entry_size * x)) c ∙ e)

      pub slotted-old : (v ≡ 0 → ⊥) → Slotted t (k + 1) slots
      slotted-old n =
          record {
            some = λ j h z. cases_eq j k (λ c. n (sym (last j c) ∙ z)) (λ c. w.some j (omega arith) z);
            first = λ j h. cases_eq j k (λ c. let f = last j c in let g = slot_small in omega arith)
                (λ c. w.first j (omega arith));
            most = λ i. let g = w.most i in omega arith;
          }

      pub slotted-new : length slots ≡ marks → v ≡ 0 → {x : ℕ} → x ≡ k + 1 → Slotted t (k + 1) (set slots m x)
      slotted-new n z {x} y =
          record {
            some = λ j h u. cases_eq (mark_at t j) m (λ c. let f = here (mark_at t j) c in omega arith)
                (λ c. cases_eq j k (λ d. other j c d)
                (λ d. w.some j (omega arith) (sym (get_or-set_other slots m (mark_at t j) x 0 c) ∙ u)));
            first = λ j h. cases_eq (mark_at t j) m
                (λ c. cases_eq j k (λ d. let f = here (mark_at t j) c in omega arith)
                (λ d. absurd (w.some j (omega arith) (ap (λ (i : ℕ). get_or slots i 0) c ∙ sym q ∙ z))))
                (λ c. cases_eq j k (λ d. absurd (other j c d))
                (λ d. let f = get_or-set_other slots m (mark_at t j) x 0 c in let g = w.first j (omega arith) in omega
                arith));
            most = λ i. cases_eq i m (λ c. let f = here i c in omega arith)
                (λ c. let f = get_or-set_other slots m i x 0 c in let g = w.most i in omega arith);
          }
        where
          here : (i : ℕ) → i ≡ m → get_or (set slots m x) i 0 ≡ x
          here i c = ap (λ (l : ℕ). get_or (set slots m x) l 0) c
              ∙ get_or-set_same slots m x 0 (let s = mark-small dev in omega arith)

          other : (j : ℕ) → (mark_at t j ≡ m → ⊥) → j ≡ k → ⊥
          other j c d = c (mark-is j (ap (λ (i : ℕ). little 7 t (entry_size * i)) d ∙ e))
