-- What an accepted monitor keeps to: the tests of `fault_of`, taken apart. Document 01, Commands (03). Assumes nothing.
use Rattle.std.specs.Prelude.{ℕ, ◌+◌, ◌*◌, ◌≤◌, ◌<◌, ◌≡◌, refl, Bool, true, false, ◌&&◌, List, leb, ltb, eqb, length}
use Rattle.std.proofs.Common.{sym, ap, ◌∙◌, arith, leb-true, ltb-false, eqb-true, eq-eqb}
use Rattle.std.proofs.lemmas.Bool.{false≢true}
use Rattle.laws.specs.Tests.{pick}
use Rattle.laws.specs.TestsLaws.{and_left, and_right}
use Rattle.advert.specs.Condition.{well_formed, form_of, form_status}
use Rattle.advert.proofs.Laws.{status-zero, well-kind-most}
use Rattle.model.specs.Types.{Monitor, ticks_of}
use Rattle.model.specs.Level.{in_range}
use Rattle.model.specs.Monitors.{allowed, ordered, parameters, settings_good, condition_fault, fault_of, accepts, run_of, invalid, full}
use Rattle.model.specs.Layout.{most_condition}

-- a status that is none: the test held, and what it chose gives none
chosen_none : (t : Bool) (a b : ℕ) → 0 < b → pick t a b ≡ 0 → (t ≡ true) × (a ≡ 0)
unfolding pick
chosen_none true a b h e = (refl, e)
chosen_none false a b h e = absurd (omega arith)

-- a status that is none: the test did not hold, and what follows gives none
pub pick-none : (t : Bool) (a b : ℕ) → 0 < a → pick t a b ≡ 0 → (t ≡ false) × (b ≡ 0)
unfolding pick
pick-none true a b h e = absurd (omega arith)
pick-none false a b h e = (refl, e)

-- a condition without a fault: its form has none, and it is short enough
fault-none : (kind : ℕ) (condition : List ℕ) → condition_fault kind condition ≡ 0
    → (form_status (form_of kind condition) ≡ 0) × (length condition ≤ most_condition)
unfolding condition_fault pick
fault-none kind condition e =
    go (form_status (form_of kind condition)) (eqb (form_status (form_of kind condition)) 0) refl e
  where
    go : (n : ℕ) (t : Bool) → eqb n 0 ≡ t → pick t (pick (ltb most_condition (length condition)) full 0) n ≡ 0
        → (n ≡ 0) × (length condition ≤ most_condition)
    go n true z e = (
      eqb-true n 0 z,
      ltb-false most_condition (length condition)
          (pick-none (ltb most_condition (length condition)) full 0 (omega arith) e).0,
    )
    go n false z e = absurd (false≢true (sym z ∙ eq-eqb n 0 e))

pub record Accepted (m : Monitor) : Type 0 where
  pub settings : settings_good m.high m.low m.interval ≡ true
  pub permitted : allowed (parameters m) m.sampling m.condition_type ≡ true
  pub interval-least : 1 ≤ m.interval
  pub interval-most : m.interval ≤ 60
  pub formed : well_formed m.condition_type m.condition ≡ true
  pub kind-most : m.condition_type ≤ 4
  pub short : length m.condition ≤ most_condition

pub accepted : (m : Monitor) → accepts m ≡ true → Accepted m
unfolding accepts fault_of settings_good
accepted m e =
    let r : Bool = in_range m.high && in_range m.low && ordered m.high m.low in
    let g : Bool = settings_good m.high m.low m.interval in
    let p : Bool = allowed (parameters m) m.sampling m.condition_type in
    let a = chosen_none (g && p) (condition_fault m.condition_type m.condition) invalid (omega arith)
    (eqb-true (fault_of m) 0 e) in
    let c = fault-none m.condition_type m.condition a.1 in
    let s : g ≡ true = and_left g p a.0 in
    let i = and_left (r && leb 1 m.interval) (leb m.interval 60) s in
    let w = status-zero m.condition_type m.condition c.0 in
    record {
      settings = s;
      permitted = and_right g p a.0;
      interval-least = leb-true 1 m.interval (and_right r (leb 1 m.interval) i);
      interval-most = leb-true m.interval 60 (and_right (r && leb 1 m.interval) (leb m.interval 60) s);
      formed = w;
      kind-most = well-kind-most m.condition_type m.condition w;
      short = c.1;
    }

-- an accepted monitor's run has ticks, 10 to 600
pub accepts-run : (m : Monitor) → accepts m ≡ true → 0 < run_of m
unfolding run_of ticks_of
accepts-run m e = let a : Accepted m = accepted m e in omega arith

pub accepts-run-most : (m : Monitor) → accepts m ≡ true → run_of m ≤ 600
unfolding run_of ticks_of
accepts-run-most m e = let a : Accepted m = accepted m e in omega arith
