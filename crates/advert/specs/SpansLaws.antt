-- What a lookup has gone through lies within its text. Assumes nothing.
use Rattle.std.specs.Prelude.{ℕ, ◌≤◌, List, length, Option, Some, None}
use Rattle.advert.specs.declared.lookup.Span.{Span}
use Rattle.advert.specs.SectionsLaws.{seen-short}
use Rattle.advert.specs.Spans.{Looked}

pub looked-short : (t u : ℕ) (xs : List ℕ) (at seen : ℕ) (s : Option Span)
    → Looked t u xs at seen s → seen ≤ length xs
looked-short t u xs at seen None p = seen-short p
looked-short t u xs at seen (Some s) p = seen-short p
