-- What a status of 0 says of the parameters: what the changes ask for. Document 01, Commands. Assumes nothing.
use Rattle.std.specs.Prelude.{ℕ, ◌+◌, ◌-◌, ◌≤◌, ◌<◌, ◌≡◌, Bool, List, eqb, drop}
use Rattle.std.proofs.Math.Path.{refl, ap}
use Rattle.std.proofs.Common.{sym, ◌∙◌, arith}
use Rattle.std.proofs.Math.Logic.{inl, inr}
use Rattle.std.proofs.Math.Bool.{true, false, not}
use Rattle.std.proofs.lemmas.Bool.{false≢true}
use Rattle.std.proofs.Math.Dec.{ltb}
use Rattle.std.proofs.Math.ListN.{length, length-drop}
use borrow.Author.Tests.{eqb-true, eq-eqb, ltb-true, ltb-false}
use Rattle.laws.specs.Tests.{pick}
use Rattle.laws.specs.TestsLaws.{both}
use Rattle.model.specs.Monitors.{fault_of, monitor_of, type_in, accepts, invalid, full, unknown}
use Rattle.model.proofs.AcceptedLaws.{Accepted, accepted, pick-none}
use Rattle.model.specs.Commands.{table, params_in, sub_of}
use Rattle.statuses.specs.Statuses.{adds_by, type_by, add_of, cancel_of}
use Rattle.statuses.specs.SecondLaws.{type-said, type-least, type-five, type-last}
use Rattle.commands.specs.Stored.{Enough}
use Rattle.commands.specs.Handles.{live_at}
use Rattle.model.specs.Layout.{most_monitors}

-- a status that is none: the test held, and what it then gives is none
pick-zero : (t : Bool) (a b : ℕ) → 0 < b → pick t a b ≡ 0 → (t ≡ true) × (a ≡ 0)
unfolding pick
pick-zero true a b h e = (refl, e)
pick-zero false a b h e = absurd (omega arith)

-- 03 and 0F: room, and parameters that fit the row
record Said (h : ℕ) (l : List ℕ) : Type 0 where
  enough : ltb (length l) (params_in table (sub_of l)) ≡ false
  fault : fault_of (monitor_of l) ≡ 0
  room : ltb h most_monitors ≡ true

module _ (h : ℕ) (l : List ℕ) {r : ℕ} (f : r ≡ add_of (ltb h most_monitors) l) (z : r ≡ 0) where
  said : Said h l
  unfolding add_of
  said =
      let b = pick-none (not (adds_by (sub_of l))) unknown _ (omega arith) (sym f ∙ z) in
      let a = pick-none (ltb (length l) (params_in table (sub_of l))) invalid _ (omega arith) b.1 in
      go a.0 a.1
    where
      go : ltb (length l) (params_in table (sub_of l)) ≡ false
          → pick (not (eqb (fault_of (monitor_of l)) 0)) (fault_of (monitor_of l)) (pick (ltb h most_monitors) 0 full) ≡ 0
          → Said h l
      go a b = elim (both (eqb (fault_of (monitor_of l)) 0)) [
        | inl t ↦ record {
          enough = a;
          fault = eqb-true (fault_of (monitor_of l)) 0 t;
          room =
              (pick-zero (ltb h most_monitors) 0 full (omega arith)
              (sym (Rattle.laws.specs.TestsLaws.pick-false _ _ (ap not t)) ∙ b)).0;
        }
        | inr t ↦ absurd (false≢true (sym t ∙ eq-eqb (fault_of (monitor_of l)) 0
            (sym (Rattle.laws.specs.TestsLaws.pick_true _ _ (ap not t)) ∙ b)))
      ]

  pub add-handle : h < most_monitors
  add-handle = ltb-true h most_monitors said.room

  pub add-enough : {sub at : ℕ} → sub ≡ sub_of l → adds_by sub ≡ true → at ≡ type_by sub → Enough at l
  unfolding accepts monitor_of
  add-enough {sub} {at} u t e =
      let a : Accepted (monitor_of l) = accepted (monitor_of l) (eq-eqb (fault_of (monitor_of l)) 0 said.fault) in
      let p : at ≡ type_in l = e ∙ type-said l u in
      let n : length (drop (type_in l + 1) l) ≡ length l - (type_in l + 1) = length-drop (type_in l + 1) l in
      let g : type_by sub + 1 ≡ params_in table (sub_of l) = type-least sub t ∙ ap (params_in table) u in
      let m : params_in table (sub_of l) ≤ length l = ltb-false (length l) (params_in table (sub_of l)) said.enough in
      record {
        place = p;
        least = omega (arith, type-five sub);
        last = omega (arith, type-last sub);
        type = omega arith;
        most = omega (arith, a.short);
      }

-- 04: a handle that is live
module _ (s l : List ℕ) (h : ℕ) {t : Bool} {r : ℕ} (v : t ≡ live_at s h) (f : r ≡ cancel_of t l) (z : r ≡ 0) where
  pub cancel-handle : h < most_monitors
  unfolding cancel_of live_at
  cancel-handle =
      let a = pick-zero (eqb (length l) (params_in table 4)) _ invalid (omega arith) (sym f ∙ z) in
      let b = pick-zero t 0 invalid (omega arith) a.1 in
      go (ltb h most_monitors) refl (sym v ∙ b.0)
    where
      go : (x : Bool) → ltb h most_monitors ≡ x → pick x (Rattle.commands.specs.Handles.busy_at s h) false ≡ true
          → h < most_monitors
      go true e q = ltb-true h most_monitors e
      go false e q = absurd (false≢true (sym (Rattle.laws.specs.TestsLaws.pick-false _ false refl) ∙ q))
