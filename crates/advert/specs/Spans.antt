-- The lookup of AD structures in one text, by what the function hands back: a section's place, or none. A definition alone.
use Rattle.std.specs.Prelude.{ℕ, true, false, List, Option, Some, None}
use Rattle.advert.specs.declared.lookup.Span.{Span}
use Rattle.advert.specs.Sections.{Lookup}

abbrev pub Looked : (t u : ℕ) (xs : List ℕ) (at seen : ℕ) → Option Span → Type 0
Looked t u xs at seen None = Lookup t u xs at false seen 0 0
Looked t u xs at seen (Some s) = Lookup t u xs at true seen s.from s.to
