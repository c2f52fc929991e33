-- What the tables of version 2 allow, as the code tests it, and the monitor's status of either version. Document 02,
-- T-13. Assumes nothing.
use Prim.Native.Nat.{ℕ, ◌+◌, ◌-◌, ◌/◌, ◌%◌, ◌≤◌, ◌<◌}
use Rattle.std.specs.Prelude.{◌≡◌, Bool, false, ◌&&◌, ◌||◌, not, leb, drop, get_or}
use Rattle.std.proofs.Math.Path.{refl, sym, ap}
use Rattle.std.proofs.Common.{◌∙◌, arith, take_all}
use Rattle.std.proofs.Math.Bool.{true}
use mathlib.Core.List.{List}
use Rattle.std.proofs.Math.Option.{Option, none, some}
use Rattle.std.proofs.Math.Nat.{div-one}
use Rattle.std.proofs.Math.Dec.{eqb}
use Rattle.std.proofs.Math.ListN.{length, take, length-drop}
use Rattle.std.proofs.Math.Seq.{length-take-le}
use borrow.Author.Tests.{eq-eqb, ne_eqb, eqb-true}
use Rattle.laws.specs.Tests.{pick}
use Rattle.laws.specs.TestsLaws.{pick_true, pick-false, and-not-left, cases_eq}
use Rattle.laws.specs.Loops.{every}
use Rattle.parts.specs.Parts.{is_zero}
use Rattle.model.specs.Layout.{extra_size, irk_size, first_type_in, second_type_in}
use Rattle.model.specs.Monitors.{settings_good, condition_fault, fault_of, monitor_of, invalid, is_second, type_in, extra_of}
use Rattle.model.specs.Monitors.{allowed, parameters, parameters_of, missing, has_bit, options, filtering, peer_type, irk}
use Rattle.model.specs.Monitors.{no_option, no_key, two_devices, sifts_by, sampled_sifting}
use Rattle.model.specs.Commands.{table, params_in, sub_of}
use Rattle.statuses.specs.Statuses.{adds_by, permits, type_by}

module _ (a : List ℕ) (sampling kind : ℕ) where
  pub allowed-length : (length a ≡ extra_size → ⊥) → false ≡ (eqb (length a) extra_size && allowed a sampling kind)
  allowed-length h = sym (and-not-left _ (allowed a sampling kind) (ne_eqb (length a) extra_size h))

  -- the fields, read one by one
  pub allowed-fields : {keyless : Bool} → length a ≡ extra_size
      → keyless ≡ every is_zero (take (length a - 9) (drop 9 a))
      → (not (eqb (get_or a 0 0 % 64) 0) && not ((eqb (get_or a 0 0 / 2 % 2) 1 || eqb (get_or a 0 0 / 8 % 2) 1) && keyless)
      && not (not (eqb (get_or a 0 0 % 16) 0) && (eqb kind 3 || eqb kind 4))
      && not (eqb (get_or a 1 0 % 2) 1 && not (eqb sampling 0)) && leb (get_or a 8 0) 1)
      ≡ (eqb (length a) extra_size && allowed a sampling kind)
  unfolding allowed no_option no_key two_devices sampled_sifting sifts_by has_bit options filtering peer_type irk
  allowed-fields h e = rw (e, h, div-one (get_or a 1 0)) refl

-- version 1's values are allowed
pub missing-allowed : (sampling kind : ℕ) → allowed missing sampling kind ≡ true
unfolding allowed no_option no_key two_devices sampled_sifting sifts_by has_bit options filtering peer_type irk missing
missing-allowed sampling kind = refl

-- the place of the condition's type, and the least length of a monitor's command
pub type-said : (l : List ℕ) {sub : ℕ} → sub ≡ sub_of l → type_by sub ≡ type_in l
unfolding type_by type_in is_second sub_of
type-said l e = ap (λ (z : ℕ). pick (eqb z 0x0F) second_type_in first_type_in) e

-- each of the two has its own least length
first-least : type_by 0x03 + 1 ≡ params_in table 0x03
unfolding type_by table params_in pick
first-least = refl

second-least : type_by 0x0F + 1 ≡ params_in table 0x0F
unfolding type_by table params_in pick
second-least = refl

or_cases : {P : Type 0} (a b : Bool) → (a || b) ≡ true → (a ≡ true → P) → (b ≡ true → P) → P
or_cases true b e f g = f refl
or_cases false b e f g = g e

-- a monitor's command is 03 or 0F
pub adds-cases : {P : Type 0} (sub : ℕ) → adds_by sub ≡ true → (sub ≡ 0x03 → P) → (sub ≡ 0x0F → P) → P
unfolding adds_by
adds-cases sub e f g =
    or_cases (eqb sub 0x03) (eqb sub 0x0F) e (λ t. f (eqb-true sub 0x03 t)) (λ t. g (eqb-true sub 0x0F t))

least_at : (n : ℕ) → type_by n + 1 ≡ params_in table n → (sub : ℕ) → sub ≡ n → type_by sub + 1 ≡ params_in table sub
least_at n p sub q = ap (λ (z : ℕ). type_by z + 1) q ∙ p ∙ ap (params_in table) (sym q)

pub type-least : (sub : ℕ) → adds_by sub ≡ true → type_by sub + 1 ≡ params_in table sub
type-least sub e = adds-cases sub e (least_at 0x03 first-least sub) (least_at 0x0F second-least sub)

pub type-last : (sub : ℕ) → type_by sub ≤ second_type_in
unfolding type_by
type-last sub = cases_eq sub 0x0F (λ h. rw (pick_true second_type_in first_type_in (eq-eqb sub 0x0F h)) (omega arith))
    (λ h. rw (pick-false second_type_in first_type_in (ne_eqb sub 0x0F h)) (omega arith))

pub type-five : (sub : ℕ) → 5 ≤ type_by sub
unfolding type_by
type-five sub = cases_eq sub 0x0F (λ h. rw (pick_true second_type_in first_type_in (eq-eqb sub 0x0F h)) (omega arith))
    (λ h. rw (pick-false second_type_in first_type_in (ne_eqb sub 0x0F h)) (omega arith))

module _ (l : List ℕ) where
  pub permits-first : (get_or l 0 0 ≡ 0x0F → ⊥) → true ≡ permits l
  unfolding permits parameters parameters_of monitor_of extra_of is_second
  permits-first h =
      sym (ap (λ (x : Option (List ℕ)). allowed (parameters_of x) (get_or l 4 0) (get_or l (type_in l) 0))
      (pick-false (some (take extra_size (drop first_type_in l))) none (ne_eqb (get_or l 0 0) 0x0F h))
      ∙ missing-allowed (get_or l 4 0) (get_or l (type_in l) 0))

  module _ {at : ℕ} (q : at ≡ type_in l) (k : at < length l) where
    pub permits-second : {r : Bool} → get_or l 0 0 ≡ 0x0F
        → r ≡ (eqb (length (take (at - 5) (drop 5 l))) extra_size
        && allowed (take (at - 5) (drop 5 l)) (get_or l 4 0) (get_or l at 0))
        → r ≡ permits l
    unfolding permits parameters parameters_of monitor_of extra_of is_second type_in
    permits-second {r} h e =
        let t : eqb (get_or l 0 0) 0x0F ≡ true = eq-eqb (get_or l 0 0) 0x0F h in
        let p : at ≡ 30 = q ∙ pick_true second_type_in first_type_in t in
        let a : List ℕ = take extra_size (drop first_type_in l) in
        let d : length (drop first_type_in l) ≡ length l - first_type_in = length-drop first_type_in l in
        let n : length a ≡ extra_size = length-take-le extra_size (drop first_type_in l) (omega arith) in
        let f : r ≡ (eqb (length a) extra_size && allowed a (get_or l 4 0) (get_or l 30 0)) = rw p at e in
        f ∙ rw (
          n,
          pick_true {t = eqb (get_or l 0 0) 0x0F} (some a) none t,
          pick_true {A = ℕ}
              {t = eqb (get_or l 0 0) 0x0F} 30 5 t,
        ) refl

    -- the monitor's status
    pub fault-condition : {r : ℕ} {good may : Bool} → good ≡ settings_good (get_or l 1 0) (get_or l 2 0) (get_or l 3 0)
        → may ≡ permits l → (good && may) ≡ true
        → r ≡ condition_fault (get_or l at 0) (take (length l - (at + 1)) (drop (at + 1) l)) → r ≡ fault_of (monitor_of l)
    unfolding permits monitor_of fault_of
    fault-condition {r} {good} {may} e f h s =
        let n : length (drop (at + 1) l) ≡ length l - (at + 1) = length-drop (at + 1) l in
        let c : condition_fault (get_or l at 0) (drop (at + 1) l)
        ≡ condition_fault (get_or l (type_in l) 0) (drop (type_in l + 1) l) =
        ap (λ (z : ℕ). condition_fault (get_or l z 0) (drop (z + 1) l)) q in
        s ∙ ap (condition_fault (get_or l at 0)) (take_all (length l - (at + 1)) (drop (at + 1) l) (omega arith)) ∙ c
        ∙ sym (pick_true _ invalid (rw (sym e, sym f) h))

  pub fault-settings : {good may : Bool} → good ≡ settings_good (get_or l 1 0) (get_or l 2 0) (get_or l 3 0)
      → may ≡ permits l → (good && may) ≡ false → 18 ≡ fault_of (monitor_of l)
  unfolding permits monitor_of fault_of
  fault-settings e f h = sym (pick-false _ invalid (rw (sym e, sym f) h))
