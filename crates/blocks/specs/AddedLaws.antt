-- Laws of the definitions in Added.
use Rattle.std.specs.Prelude.{ℕ, ◌+◌, ◌<◌, ◌≡◌, refl, Bool, true, false, List, eqb, drop, get_or}
use Rattle.std.proofs.Common.{sym, ap, ◌∙◌, arith, get_or-take, get_or-drop, eq-eqb, ne_eqb}
use Rattle.std.proofs.Math.Option.{none, some}
use Rattle.laws.specs.Tests.{pick}
use Rattle.laws.specs.TestsLaws.{pick_true, pick-false}
use Rattle.model.specs.Monitors.{missing, parameters_of, parameters, filtering}
use Rattle.model.specs.Image.{extra_in, monitor_from, monitor_in}
use Rattle.model.specs.Layout.{extra_at, extra_size}
use Rattle.blocks.specs.Added.{added_in, filtering_of}

pub added-at : (r : List ℕ) (j : ℕ) → j < extra_size → get_or (added_in r) j 0 ≡ get_or r (extra_at + j) 0
added-at r j h = get_or-take extra_size (drop extra_at r) j 0 h ∙ get_or-drop extra_at r j 0

-- the parameters that hold for the row's monitor
pub row-parameters : (r : List ℕ) → parameters (monitor_in r).1 ≡ pick (eqb (get_or r extra_at 0) 0) missing (added_in r)
unfolding parameters monitor_in monitor_from extra_in parameters_of pick
row-parameters r =
    ap (λ (o : ℕ). parameters_of (pick (eqb o 0) none (some (added_in r)))) (added-at r 0 (omega arith))
    ∙ go (eqb (get_or r extra_at 0) 0)
  where
    go : (t : Bool) → parameters_of (pick t none (some (added_in r))) ≡ pick t missing (added_in r)
    go true = refl
    go false = refl

pub row-filtering : (r : List ℕ)
    → filtering (parameters (monitor_in r).1) ≡ filtering_of (get_or r extra_at 0) (get_or r (extra_at + 1) 0)
unfolding filtering filtering_of missing pick
row-filtering r = ap (λ (a : List ℕ). get_or a 1 0) (row-parameters r) ∙ go (eqb (get_or r extra_at 0) 0)
  where
    go : (t : Bool) → get_or (pick t missing (added_in r)) 1 0 ≡ pick t 6 (get_or r (extra_at + 1) 0)
    go true = refl
    go false = added-at r 1 (omega arith)

pub filtering-first : (options bits : ℕ) → options ≡ 0 → 6 ≡ filtering_of options bits
unfolding filtering_of
filtering-first options bits e = sym (pick_true 6 bits (eq-eqb options 0 e))

pub filtering-second : (options bits : ℕ) → (options ≡ 0 → ⊥) → bits ≡ filtering_of options bits
unfolding filtering_of
filtering-second options bits n = sym (pick-false 6 bits (ne_eqb options 0 n))
