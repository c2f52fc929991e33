-- The numbers of the types of conditions (document 01, Conditions; document 02, T-03). Assumes nothing.
use Rattle.std.specs.Prelude.{◌≡◌, ℕ, ◌<◌, ◌≤◌, Result, MatchResult}
use Rattle.advert.specs.declared.FormError.{FormError}
use Rattle.advert.specs.declared.FormError.TheVariants.{Unknown}
use Rattle.advert.specs.declared.Kind.{Kind}
use Rattle.advert.specs.declared.Kind.TheVariants.{Patterns, Uuid, Irk, Address}

abbrev pub code_of : Kind → ℕ
code_of Patterns = 1
code_of Uuid = 2
code_of Irk = 3
code_of Address = 4

-- the type with that number, or that there is none
abbrev pub Decodes : ℕ → Result Kind FormError → Type 0
Decodes code r = MatchResult r (λ kind. code_of kind ≡ code) (λ e. (e ≡ Unknown) × (1 ≤ code → 4 < code))
