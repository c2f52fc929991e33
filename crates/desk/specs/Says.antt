-- What is said of a device. Document 02, T-02: "how many monitors watch it and the lowest such handle, or that there
-- is none". Definitions, and the laws of putting the words together. Assumes nothing.
use Rattle.std.specs.Prelude.{ℕ, List, ◌++◌, eqb, Option, Some, None}
use Rattle.laws.specs.Tests.{pick}
use Rattle.decimals.specs.Decimals.{decimal}
use Rattle.model.specs.Quoted.{codes}
use Rattle.index.specs.declared.Watchers.{Watchers}

unfoldable pub word_of : ℕ → List ℕ
word_of n = pick (eqb n 1) (codes " monitor") (codes " monitors")

unfoldable pub by_text : ℕ → ℕ → List ℕ
by_text n h = (((codes "watched by " ++ decimal n) ++ word_of n) ++ (codes ", lowest handle " ++ decimal h)) ++ codes "\n"

unfoldable pub sentence_of : Option Watchers → List ℕ
sentence_of (Some x) = by_text x.count x.lowest
sentence_of None = codes "watched by no monitor\n"
