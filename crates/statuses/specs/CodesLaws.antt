-- Laws of the definitions in Codes.
use Prim.Native.Nat.{ℕ}
use Rattle.std.specs.Prelude.{◌≡◌, true, false, Result, Ok, Err, is_err}
use Rattle.std.proofs.Math.Path.{refl}
use Rattle.std.proofs.Common.{sym, arith}
use Rattle.std.proofs.lemmas.Bool.{false≢true}
use Rattle.statuses.specs.declared.Status.{Status}
use Rattle.statuses.specs.declared.Status.TheVariants.{Unknown, Full, Disallowed, Invalid}
use Rattle.statuses.specs.Codes.{code, status_of}
use Rattle.advert.specs.declared.FormError.{FormError}
use Rattle.advert.specs.declared.FormError.TheVariants.{Malformed, Unknown as Strange}
use Rattle.advert.specs.Condition.{form_status}

-- no refusal has the octet of success
pub code-some : (e : Status) → code e ≡ 0 → ⊥
code-some Unknown q = omega arith
code-some Full q = omega arith
code-some Disallowed q = omega arith
code-some Invalid q = omega arith

-- a refusal, and a success, by the octet
pub err-some : (r : Result Unit Status) → is_err r ≡ true → status_of r ≡ 0 → ⊥
err-some (Ok u) e = absurd (false≢true e)
err-some (Err s) e = code-some s

pub ok-none : (r : Result Unit Status) → is_err r ≡ false → status_of r ≡ 0
ok-none (Ok u) e = refl
ok-none (Err s) e = absurd (false≢true (sym e))

-- a form that is refused is refused as invalid
pub form-invalid : (f : Result Unit FormError) → (form_status f ≡ 0 → ⊥) → 18 ≡ form_status f
unfolding form_status
form-invalid (Ok u) h = absurd (h refl)
form-invalid (Err Malformed) h = refl
form-invalid (Err Strange) h = refl
