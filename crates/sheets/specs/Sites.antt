-- Which words of a command name sites (man/month.1): "[IMAGE JOURNAL ..] [--rows FILE ..]". Assumes nothing.
use Rattle.std.specs.Prelude.{ℕ, ◌-◌, ◌%◌, Bool, ◌&&◌, leb, ltb, eqb}
use Rattle.laws.specs.Tests.{pick}

-- of so many words those from the first on, with `--rows` in the place of the mark, which is their number where it is
-- not among them: pairs before the mark, and a file at least behind it; without a mark, one pair at least
unfoldable pub are_sites : ℕ → ℕ → ℕ → Bool
are_sites first mark words =
    leb first mark && (eqb ((mark - first) % 2) 0 && pick (ltb mark words) (ltb 1 (words - mark)) (ltb first words))
