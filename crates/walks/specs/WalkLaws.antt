-- Laws of the definitions in Walk.
use Rattle.std.specs.Prelude.{ℕ, ◌+◌, ◌≤◌, ◌<◌, ◌≡◌, List, length, get_or}
use Rattle.std.proofs.Common.{sym, le-leb}
use Rattle.std.proofs.lemmas.Bool.{lt-leb}
use Rattle.laws.specs.Tests.{pick}
use Rattle.walks.specs.Walk.{within, behind}

-- the three ends of the function
pub behind-none : (xs : List ℕ) (at : ℕ) → length xs < at + 2 → 0 ≡ behind xs at
unfolding behind pick
behind-none xs at h = rw (lt-leb (at + 2) (length xs) h)

pub behind-cut : (xs : List ℕ) (at n : ℕ) → at + 2 ≤ length xs → n ≡ get_or xs (at + 1) 0 → length xs < at + 2 + n
    → 0 ≡ behind xs at
unfolding behind within pick
behind-cut xs at n h e g = rw (le-leb (at + 2) (length xs) h, sym e, lt-leb (at + 2 + n) (length xs) g)

pub behind-whole : (xs : List ℕ) (at n : ℕ) → at + 2 ≤ length xs → n ≡ get_or xs (at + 1) 0 → at + 2 + n ≤ length xs
    → at + 2 + n ≡ behind xs at
unfolding behind within pick
behind-whole xs at n h e g = rw (le-leb (at + 2) (length xs) h, sym e, le-leb (at + 2 + n) (length xs) g)
