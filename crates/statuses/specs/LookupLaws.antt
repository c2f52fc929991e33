-- Laws of the definitions in Lookup.
use Prim.Native.Nat.{ℕ, zero, suc, ◌+◌, ◌<◌}
use Rattle.std.specs.Prelude.{◌≡◌, true, List, [], ◌∷◌, eqb, drop, get_or, Some, None}
use Rattle.std.proofs.Common.{sym, ◌∙◌, arith, eq-eqb, ne_eqb}
use Rattle.laws.specs.Tests.{pick}
use Rattle.laws.specs.TestsLaws.{pick_true, pick-false}
use Rattle.statuses.specs.declared.Row.{Row}
use Rattle.model.specs.Commands.{table, params_in, answer_in}
use Rattle.statuses.specs.Lookup.{Lengths}

-- the rows
abbrev pub coded : List Row
coded =
    record { sub = 0; params = 1; answer = 11 }
    ∷ record { sub = 3; params = 6; answer = 3 }
    ∷ record { sub = 4; params = 2; answer = 2 }
    ∷ record { sub = 5; params = 2; answer = 2 }
    ∷ record { sub = 15; params = 31; answer = 3 } ∷ []

-- what is left at row i has the lengths
abbrev pub Left : ℕ → ℕ → Type 0
Left i sub = (params_in (drop i table) sub ≡ params_in table sub) × (answer_in (drop i table) sub ≡ answer_in table sub)

module _ (sub : ℕ) (d : Row) where
  hit : (p a : ℕ) (r : Row) → r.sub ≡ sub → pick (eqb r.sub sub) r.params p ≡ params_in table sub
      → pick (eqb r.sub sub) r.answer a ≡ answer_in table sub → Lengths sub (Some r)
  hit p a r e f g =
      let t : eqb r.sub sub ≡ true = eq-eqb r.sub sub e in
      record { params = sym (pick_true r.params p t) ∙ f; answer = sym (pick_true r.answer a t) ∙ g }

  pub lookup-hit : (i : ℕ) → i < 5 → Left i sub → (get_or coded i d).sub ≡ sub → Lengths sub (Some (get_or coded i d))
  unfolding table params_in answer_in
  lookup-hit zero h q e = hit _ _ (get_or coded 0 d) e q.0 q.1
  lookup-hit (suc zero) h q e = hit _ _ (get_or coded 1 d) e q.0 q.1
  lookup-hit (suc (suc zero)) h q e = hit _ _ (get_or coded 2 d) e q.0 q.1
  lookup-hit (suc (suc (suc zero))) h q e = hit _ _ (get_or coded 3 d) e q.0 q.1
  lookup-hit (suc (suc (suc (suc zero)))) h q e = hit _ _ (get_or coded 4 d) e q.0 q.1
  lookup-hit (suc (suc (suc (suc (suc i))))) h q e = absurd (omega arith)

  miss : (p r : ℕ) {n x : ℕ} → (r ≡ sub → ⊥) → pick (eqb r sub) p n ≡ x → n ≡ x
  miss p r {n} e q = sym (pick-false p n (ne_eqb r sub e)) ∙ q

  pub lookup-miss : (i : ℕ) → i < 5 → Left i sub → ((get_or coded i d).sub ≡ sub → ⊥) → Left (i + 1) sub
  unfolding table params_in answer_in
  lookup-miss zero h q e = (miss _ 0 e q.0, miss _ 0 e q.1)
  lookup-miss (suc zero) h q e = (miss _ 3 e q.0, miss _ 3 e q.1)
  lookup-miss (suc (suc zero)) h q e = (miss _ 4 e q.0, miss _ 4 e q.1)
  lookup-miss (suc (suc (suc zero))) h q e = (miss _ 5 e q.0, miss _ 5 e q.1)
  lookup-miss (suc (suc (suc (suc zero)))) h q e = (miss _ 15 e q.0, miss _ 15 e q.1)
  lookup-miss (suc (suc (suc (suc (suc i))))) h q e = absurd (omega arith)

pub lookup-end : (sub i : ℕ) → i ≡ 5 → Left i sub → Lengths sub None
unfolding table params_in answer_in
lookup-end sub i e q =
    let z : Left 5 sub = rw e at q in record { params = z.0; answer = z.1 }
