-- What each way through a status function owes. Document 01, Commands. Assumes nothing.
use Rattle.std.specs.Prelude.{ℕ, ◌+◌, ◌-◌, ◌≤◌, ◌<◌, ◌≡◌, Bool, true, false, List, ltb, eqb, length, take, drop, get_or}
use Rattle.std.proofs.Math.Path.{sym}
use Rattle.std.proofs.Common.{ap, ◌∙◌, arith, length-drop, take_all, eq-eqb, ne_eqb, lt-ltb, le-ltb, le-leb}
use Rattle.std.proofs.Math.Bool.{not}
use Rattle.std.proofs.Math.ListN.{get_or-eq_default}
use Rattle.std.proofs.lemmas.Bool.{lt-leb}
use Rattle.laws.specs.Tests.{pick}
use Rattle.laws.specs.TestsLaws.{pick_true, pick-false, cases-le}
use Rattle.octets.specs.Little.{little}
use Rattle.octets.specs.Numbers.{number_at}
use Rattle.advert.specs.Condition.{form_of, form_status}
use Rattle.model.specs.Monitors.{condition_fault, fault_of, monitor_of, invalid, full, disallowed, unknown}
use Rattle.model.specs.Commands.{table, params_in, sub_of, read_status}
use Rattle.statuses.specs.Statuses.{add_of, adds_by, cancel_of, enable_of}
use Rattle.model.specs.Layout.{most_condition}

-- an octet that was read is the list's element; 0 past the end
pub octet-at : (l : List ℕ) (i : ℕ) {v : ℕ} → v ≡ number_at 1 l i → v ≡ get_or l i 0
unfolding number_at little
octet-at l i {v} e =
    cases-le (i + 1) (length l) (λ (h : i + 1 ≤ length l). e ∙ pick_true _ 0 (le-leb (i + 1) (length l) h)
    ∙ omega arith)
    (λ (h : length l < i + 1).
    e ∙ pick-false _ 0 (lt-leb (i + 1) (length l) h) ∙ sym (get_or-eq_default l 0 {n = i} (omega arith)))

-- a condition's status, by that of its form
module _ (kind : ℕ) (condition : List ℕ) {n : ℕ} (e : n ≡ form_status (form_of kind condition)) where
  pub form-wrong : (n ≡ 0 → ⊥) → n ≡ condition_fault kind condition
  unfolding condition_fault
  form-wrong h = e ∙ sym (pick-false _ _ (ne_eqb (form_status (form_of kind condition)) 0 (λ q. h (e ∙ q))))

  formed : n ≡ 0 → condition_fault kind condition ≡ pick (ltb most_condition (length condition)) full 0
  unfolding condition_fault
  formed q = pick_true _ _ (eq-eqb (form_status (form_of kind condition)) 0 (sym e ∙ q))

  pub form-long : n ≡ 0 → most_condition < length condition → 7 ≡ condition_fault kind condition
  form-long q h = sym (formed q ∙ pick_true 7 0 (lt-ltb most_condition (length condition) h))

  pub form-good : n ≡ 0 → length condition ≤ most_condition → 0 ≡ condition_fault kind condition
  form-good q h = sym (formed q ∙ pick-false 7 0 (le-ltb most_condition (length condition) h))

-- 00
module _ (l : List ℕ) {n : ℕ} (e : n ≡ params_in table 0) where
  pub read-good : length l ≡ n → 0 ≡ read_status l
  unfolding read_status
  read-good h = sym (pick_true 0 invalid (eq-eqb (length l) (params_in table 0) (h ∙ e)))

  pub read-wrong : (length l ≡ n → ⊥) → 18 ≡ read_status l
  unfolding read_status
  read-wrong h = sym (pick-false 0 invalid (ne_eqb (length l) (params_in table 0) (λ q. h (q ∙ sym e))))

-- 03 and 0F
module _ (room : Bool) (l : List ℕ) {sub : ℕ} (g : sub ≡ number_at 1 l 0) where
  pub sub-said : sub ≡ sub_of l
  unfolding sub_of
  sub-said = octet-at l 0 g

  pub add-other : adds_by sub ≡ false → 1 ≡ add_of room l
  unfolding add_of
  add-other h = sym (pick_true unknown _ (ap not (ap adds_by (sym sub-said) ∙ h)))

  module _ (a : adds_by sub ≡ true) {n : ℕ} (e : n ≡ params_in table sub) where
    known : not (adds_by (sub_of l)) ≡ false
    known = ap not (ap adds_by (sym sub-said) ∙ a)

    least : n ≡ params_in table (sub_of l)
    least = e ∙ ap (params_in table) sub-said

    pub add-short : length l < n → 18 ≡ add_of room l
    unfolding add_of
    add-short h =
        sym (pick-false unknown _ known ∙ pick_true invalid _ (lt-ltb (length l) (params_in table (sub_of l)) (omega
        (arith, least))))

    module _ (h : n ≤ length l) {f : ℕ} (s : f ≡ fault_of (monitor_of l)) where
      enough : ltb (length l) (params_in table (sub_of l)) ≡ false
      enough = le-ltb (length l) (params_in table (sub_of l)) (omega (arith, least))

      pub add-fault : (f ≡ 0 → ⊥) → f ≡ add_of room l
      unfolding add_of
      add-fault q =
          s ∙ sym (pick-false unknown _ known ∙ pick-false invalid _ enough
          ∙ pick_true (fault_of (monitor_of l)) _ (ap not (ne_eqb (fault_of (monitor_of l)) 0 (λ z. q (s ∙ z)))))

      good : f ≡ 0 → not (eqb (fault_of (monitor_of l)) 0) ≡ false
      good q = ap not (eq-eqb (fault_of (monitor_of l)) 0 (sym s ∙ q))

      pub add-good : f ≡ 0 → room ≡ true → 0 ≡ add_of room l
      unfolding add_of
      add-good q r = sym (pick-false unknown _ known ∙ pick-false invalid _ enough
          ∙ pick-false (fault_of (monitor_of l)) _ (good q) ∙ pick_true 0 full r)

      pub add-full : f ≡ 0 → room ≡ false → 7 ≡ add_of room l
      unfolding add_of
      add-full q r = sym (pick-false unknown _ known ∙ pick-false invalid _ enough
          ∙ pick-false (fault_of (monitor_of l)) _ (good q) ∙ pick-false 0 full r)

-- 04
module _ (live : Bool) (l : List ℕ) {n : ℕ} (e : n ≡ params_in table 4) where
  pub cancel-good : length l ≡ n → live ≡ true → 0 ≡ cancel_of live l
  unfolding cancel_of
  cancel-good h q = sym (pick_true _ invalid (eq-eqb (length l) (params_in table 4) (h ∙ e)) ∙ pick_true 0 invalid q)

  pub cancel-dead : length l ≡ n → live ≡ false → 18 ≡ cancel_of live l
  unfolding cancel_of
  cancel-dead h q = sym (pick_true _ invalid (eq-eqb (length l) (params_in table 4) (h ∙ e)) ∙ pick-false 0 invalid q)

  pub cancel-wrong : (length l ≡ n → ⊥) → 18 ≡ cancel_of live l
  unfolding cancel_of
  cancel-wrong h = sym (pick-false _ invalid (ne_eqb (length l) (params_in table 4) (λ q. h (q ∙ sym e))))

-- 05
module _ (filter : ℕ) (l : List ℕ) {n : ℕ} (e : n ≡ params_in table 5) where
  pub enable-wrong : (length l ≡ n → ⊥) → 18 ≡ enable_of filter l
  unfolding enable_of
  enable-wrong h =
      sym (pick_true invalid _ (ap not (ne_eqb (length l) (params_in table 5) (λ q. h (q ∙ sym e)))))

  module _ (h : length l ≡ n) {on : ℕ} (g : on ≡ number_at 1 l 1) where
    right : not (eqb (length l) (params_in table 5)) ≡ false
    right = ap not (eq-eqb (length l) (params_in table 5) (h ∙ e))

    said : on ≡ get_or l 1 0
    said = octet-at l 1 g

    pub enable-above : 1 < on → 18 ≡ enable_of filter l
    unfolding enable_of
    enable-above q = sym (pick-false invalid _ right ∙ pick_true invalid _ (lt-ltb 1 (get_or l 1 0) (omega
        (arith, said))))

    pub enable-again : on ≤ 1 → on ≡ filter → 12 ≡ enable_of filter l
    unfolding enable_of
    enable-again q r =
        sym (pick-false invalid _ right ∙ pick-false invalid _ (le-ltb 1 (get_or l 1 0) (omega (arith, said)))
        ∙ pick_true disallowed 0 (eq-eqb (get_or l 1 0) filter (sym said ∙ r)))

    pub enable-good : on ≤ 1 → (on ≡ filter → ⊥) → 0 ≡ enable_of filter l
    unfolding enable_of
    enable-good q r =
        sym (pick-false invalid _ right ∙ pick-false invalid _ (le-ltb 1 (get_or l 1 0) (omega (arith, said)))
        ∙ pick-false disallowed 0 (ne_eqb (get_or l 1 0) filter (λ s. r (said ∙ s))))
