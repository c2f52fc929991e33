-- The form and the match of a condition by its type's number. Assumes nothing.
use Rattle.std.specs.Prelude.{◌≡◌, ℕ, ◌<◌, ◌≤◌, Bool, true, false, List, Result, Ok, Err, refl}
use Rattle.std.proofs.Common.{sym, ◌∙◌, ap, arith, le-leb, ne_eqb}
use Rattle.std.proofs.lemmas.Bool.{lt-leb}
use Rattle.laws.specs.Tests.{pick}
use Rattle.laws.specs.TestsLaws.{cases-le}
use Rattle.advert.specs.declared.FormError.{FormError}
use Rattle.advert.specs.declared.FormError.TheVariants.{Malformed, Unknown}
use Rattle.advert.specs.declared.Kind.{Kind}
use Rattle.advert.specs.declared.Kind.TheVariants.{Patterns, Uuid, Irk, Address}
use Rattle.advert.specs.Kinds.{code_of}
use Rattle.advert.specs.Condition.{well_formed, meets, form_of}

codes : (k : Kind) → (1 ≤ code_of k) × (code_of k ≤ 4)
codes Patterns = (omega arith, omega arith)
codes Uuid = (omega arith, omega arith)
codes Irk = (omega arith, omega arith)
codes Address = (omega arith, omega arith)

-- a number outside 1 to 4 is no type's
pub form-unknown : (kind : ℕ) (condition : List ℕ) → (1 ≤ kind → 4 < kind) → Err Unknown ≡ form_of kind condition
unfolding form_of pick
form-unknown kind condition h =
    cases-le 1 kind (λ l. rw (le-leb 1 kind l, lt-leb kind 4 (h l))) (λ l. rw (lt-leb 1 kind l))

pub meets-unknown : (kind : ℕ) (condition : List ℕ) (t : ℕ) (address adv scan : List ℕ) → (1 ≤ kind → 4 < kind)
    → false ≡ meets kind condition t address adv scan
unfolding meets pick
meets-unknown kind condition t address adv scan h =
    rw (
      ne_eqb kind 1 (λ z. omega (arith, h (omega arith))),
      ne_eqb kind 2 (λ z. omega (arith, h (omega arith))),
      ne_eqb kind 3 (λ z. omega (arith, h (omega arith))),
      ne_eqb kind 4 (λ z. omega (arith, h (omega arith))),
    )

-- the form of a condition whose type is known
pub form-known : (k : Kind) (kind : ℕ) (condition : List ℕ) (w : Bool) → code_of k ≡ kind
    → w ≡ well_formed (code_of k) condition → pick w (Ok tt) (Err Malformed) ≡ form_of kind condition
unfolding form_of pick
form-known k kind condition w e q =
    let b = codes k in
    rw (le-leb 1 kind (omega (arith, b, e)), le-leb kind 4 (omega (arith, b, e)))
    (ap (λ (z : Bool). pick z (Ok tt) (Err Malformed)) (q ∙ ap (λ (n : ℕ). well_formed n condition) e))
