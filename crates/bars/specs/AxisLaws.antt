-- Laws of the definitions in Axis.
use Rattle.std.specs.Prelude.{ℕ, ◌+◌, ◌-◌, ◌*◌, ◌/◌, ◌%◌, ◌≤◌, ◌<◌, ◌≡◌}
use Rattle.std.proofs.Math.Path.{sym}
use Rattle.std.proofs.Common.{ap, ◌∙◌, div-lt_iff_lt-mul, mod-lt, arith, eq-eqb, ne_eqb, le-leb}
use Rattle.std.proofs.lemmas.Bool.{lt-leb}
use Rattle.laws.specs.TestsLaws.{pick_true, pick-false}
use Rattle.bars.specs.Axis.{across_of, wide_of, fit_of, step_of, first_of}

-- the branches
pub across-end : (tick span : ℕ) → span ≤ tick → (1000 ≡ across_of tick span) × (1000 ≤ 1000)
unfolding across_of
across-end tick span h = (sym (pick_true 1000 (tick * 1000 / span) (le-leb span tick h)), omega arith)

pub across-in : (tick span : ℕ) → tick < span → (tick * 1000 / span ≡ across_of tick span) × (tick * 1000 / span ≤ 1000)
unfolding across_of
across-in tick span h =
    let p : 0 < span = omega arith in
    let q : tick * 1000 / span < 1000 = (div-lt_iff_lt-mul {k = span} {x = tick * 1000} {y = 1000} p).1 (omega arith) in
    (sym (pick-false 1000 (tick * 1000 / span) (lt-leb span tick h)), omega (arith, q))

pub bar-so : (a b : ℕ) {from to w : ℕ} → from ≡ a → to ≡ b → w ≡ wide_of from to → (190 + from ≡ 190 + a)
    × (w ≡ wide_of a b)
bar-so a b {from} {to} p q e = (ap (λ (x : ℕ). 190 + x) p, e ∙ ap (λ (x : ℕ). wide_of x to) p ∙ ap (wide_of a) q)

module _ (span a b c other : ℕ) where
  pub fit-a : span / 12 ≤ a → a ≡ fit_of span a b c other
  unfolding fit_of
  fit-a h = sym (pick_true a _ (le-leb (span / 12) a h))

  pub fit-b : a < span / 12 → span / 12 ≤ b → b ≡ fit_of span a b c other
  unfolding fit_of
  fit-b g h = sym (pick-false a _ (lt-leb (span / 12) a g) ∙ pick_true b _ (le-leb (span / 12) b h))

  pub fit-c : a < span / 12 → b < span / 12 → span / 12 ≤ c → c ≡ fit_of span a b c other
  unfolding fit_of
  fit-c f g h = sym
      (pick-false a _ (lt-leb (span / 12) a f) ∙ pick-false b _ (lt-leb (span / 12) b g)
      ∙ pick_true c other (le-leb (span / 12) c h))

  pub fit-other : a < span / 12 → b < span / 12 → c < span / 12 → other ≡ fit_of span a b c other
  unfolding fit_of
  fit-other f g h =
      sym (pick-false a _ (lt-leb (span / 12) a f) ∙ pick-false b _ (lt-leb (span / 12) b g)
      ∙ pick-false c other (lt-leb (span / 12) c h))

pub step_so : (span : ℕ) {h o m r : ℕ} → h ≡ fit_of span 72000 216000 432000 ((span / 12 / 864000 + 1) * 864000)
    → o ≡ fit_of span 6000 18000 36000 h
    → m ≡ fit_of span 300 600 3000 o → r ≡ fit_of span 10 50 100 m → r ≡ step_of span
unfolding step_of
step_so span a b d e =
    e ∙ ap (fit_of span 10 50 100) (d ∙ ap (fit_of span 300 600 3000) (b ∙ ap (fit_of span 6000 18000 36000) a))

pub first-none : (from step : ℕ) → step ≡ 0 → 0 ≡ first_of from step
unfolding first_of
first-none from step z = sym (pick_true 0 _ (eq-eqb step 0 z))

pub first_some : (from step : ℕ) → (step ≡ 0 → ⊥) → (step - from % step) % step ≡ first_of from step
unfolding first_of
first_some from step k = sym (pick-false 0 _ (ne_eqb step 0 k))

pub rest_below : (from step : ℕ) → (step ≡ 0 → ⊥) → from % step ≤ step
rest_below from step k = let p : 0 < step = omega (arith, k) in let q = mod-lt from p in omega (arith, q)
